-- ---- inside: commands as they are built, and what is complained about a command line
use Rattle.std.specs.Prelude.{◌≡◌, ⊤, true, false, List, [], ◌∷◌, ◌++◌, Option, None, Some, Result, Ok, Err}
use Rattle.clap.specs.Words.{Row, Rule, Shape, Text, app_of}
use Rattle.clap.specs.declared.builder.command.Command.{Command}
use Rattle.clap.specs.declared.builder.command.Command.TheViews.{out-Command}
use Rattle.clap.specs.declared.error.kind.ErrorKind.{ErrorKind}
use Rattle.clap.specs.declared.error.kind.ErrorKind.TheVariants.{OutOfMemory}
use Rattle.sipd_arguments.specs.CommandLine.{IsCall, asks_text, misuse_in}
use Rattle.sipd_arguments.specs.declared.call.ProgramCall.{ProgramCall}
use Rattle.sipd_arguments.specs.declared.commands.Parsed.{Parsed}
use Rattle.sipd_arguments.specs.declared.commands.Parsed.TheVariants as parsed
use Rattle.sipd_exit.specs.declared.exit.Exit.{Exit}
use Rattle.sipd_exit.specs.declared.exit.Exit.TheVariants.{Usage, Memory}
use Rattle.sipd_arguments.specs.declared.matches.Uncalled.{Uncalled}
use Rattle.sipd_arguments.specs.declared.matches.Uncalled.TheVariants.{NoMemory, Misused}
use Rattle.sipd_arguments.specs.declared.misuse.Misuse.{Misuse}

-- a shape with one more option
abbrev pub more : Shape → Rule → Shape
more s r = record s { rules = s.rules ++ r ∷ [] }

-- a command without commands of its own
pub record IsCommand (shape : Shape) (c : Command) : Type 0 where
  pub app : app_of c ≡ record { top = shape; subs = [] }
  pub local : (out-Command c).has_globals ≡ false

-- how an error of a kind is answered: a text is printed that was asked for, or it is complained about
abbrev pub Answers : ErrorKind → Result Parsed Exit → Type 0
Answers kind (Ok (parsed.Text text)) = asks_text kind ≡ true
Answers kind (Ok (parsed.Call call)) = ⊥
Answers kind (Err (Usage text)) = (asks_text kind ≡ false) × (kind ≡ OutOfMemory → ⊥)
Answers kind (Err Memory) = ⊤
Answers kind (Err exit) = ⊥

-- why a line is no call, where its options are misused so or not at all
abbrev pub IsWhy : Option Misuse → Uncalled → Type 0
IsWhy misuse NoMemory = ⊤
IsWhy misuse (Misused why) = misuse ≡ Some why

-- what a command asks for with its options, all of which stand together
abbrev pub IsFitCall : Text → List Row → ProgramCall → Type 0
IsFitCall name rows call = IsCall name rows call × (misuse_in name rows ≡ None)

-- why it asks for nothing
abbrev pub IsUnfit : Text → List Row → Uncalled → Type 0
IsUnfit name rows why = IsWhy (misuse_in name rows) why
