-- How a command line ends.
use Rattle.std.proofs.Common.{◌≡◌, ◌∙◌, true, false, true≢false, List, [], Option, Some, None, Result, Ok, Err, inl, inr, sym, ap, subst}
use Rattle.std.specs.Prelude.{option_map, string_bytes}
use Rattle.clap.specs.Words.{App, HasKind, HasMatchesOf, Kinds, Row, Text, fault_of, is_simple, is_simple_and_free, kind_of, subcommand_of, subcommand_rows_of}
use Rattle.clap.specs.declared.error.Error.{Error}
use Rattle.clap.specs.declared.parser.matches.ArgMatches.{ArgMatches}
use Rattle.sipd_arguments.proofs.Building.{is_simple_and_free_program, is_simple_program}
use Rattle.sipd_arguments.specs.CommandLine.{EndsBy, EndsExactly, IsCallOf, asks_text, complaint_of, misuse_of, program}
use Rattle.sipd_arguments.specs.Commands.{Answers}
use Rattle.sipd_arguments.specs.declared.call.ProgramCall.{ProgramCall}
use Rattle.sipd_arguments.specs.declared.commands.Parsed.{Parsed}
use Rattle.sipd_arguments.specs.declared.commands.Parsed.TheVariants as parsed
use Rattle.sipd_exit.specs.declared.exit.Exit.{Exit}
use Rattle.sipd_exit.specs.declared.exit.Exit.TheVariants.{Usage, Memory}
use Rattle.sipd_arguments.specs.declared.misuse.Misuse.{Misuse}

-- an error of the parse
by_error : (kinds : Kinds) (named : Option (Text × List Row)) (e : Error) (result : Result Parsed Exit) → HasKind kinds e → Answers (kind_of e) result
    → EndsBy kinds named result
by_error kinds named e (Ok (parsed.Text text)) (inl memory) is = absurd (true≢false (sym is ∙ ap asks_text memory))
by_error kinds named e (Ok (parsed.Text text)) (inr among) is = record { kind = kind_of e; among = among; is_so = is }
by_error kinds named e (Ok (parsed.Call call)) has is = absurd is
by_error kinds named e (Err (Usage text)) (inl memory) is = absurd (is.1 memory)
by_error kinds named e (Err (Usage text)) (inr among) is = inl (record { kind = kind_of e; among = among; is_so = is.0 })
by_error kinds named e (Err Memory) has is = tt
by_error kinds named e (Err exit) has is = absurd is

module _ (app : App) (words : List Text) (is : app ≡ program) where
  free : is_simple_and_free app ≡ true
  free = ap is_simple_and_free is ∙ is_simple_and_free_program

  pub ends_refused : (e : Error) (result : Result Parsed Exit) → (is_simple_and_free app ≡ true → HasKind (fault_of app words) e) → Answers (kind_of e) result
      → EndsExactly words result
  ends_refused e result kinds answers =
      by_error (fault_of program words) (subcommand_of program words) e result (subst (λ (a : App). HasKind (fault_of a words) e) is (kinds free)) answers

  no_fault : (is_simple_and_free app ≡ true → fault_of app words ≡ []) → fault_of program words ≡ []
  no_fault kinds = sym (ap (λ (a : App). fault_of a words) is) ∙ kinds free

  found : (m : ArgMatches) → HasMatchesOf app words m → subcommand_rows_of m ≡ subcommand_of program words
  found m matches = (matches (ap is_simple is ∙ is_simple_program)).1 ∙ ap (λ (a : App). subcommand_of a words) is

  -- what was matched is a call
  pub ends_call : (m : ArgMatches) (call : ProgramCall) → (is_simple_and_free app ≡ true → fault_of app words ≡ []) → HasMatchesOf app words m
      → IsCallOf (subcommand_rows_of m) call × (misuse_of (subcommand_rows_of m) ≡ None) → EndsExactly words (Ok (parsed.Call call))
  ends_call m call kinds matches asked =
      let here = subst (λ (named : Option (Text × List Row)). IsCallOf named call × (misuse_of named ≡ None)) (found m matches) asked in
      (no_fault kinds, here.1, here.0)

  -- or it doesn't stand together
  pub ends_misused : (m : ArgMatches) (why : Misuse) (text : _) → (is_simple_and_free app ≡ true → fault_of app words ≡ []) → HasMatchesOf app words m
      → misuse_of (subcommand_rows_of m) ≡ Some why → string_bytes text ≡ complaint_of why → EndsExactly words (Err (Usage text))
  ends_misused m why text kinds matches misused said =
      let here : misuse_of (subcommand_of program words) ≡ Some why = sym (ap misuse_of (found m matches)) ∙ misused in
      inr (no_fault kinds, ap (option_map complaint_of) here ∙ ap (λ (t : Text). Some t) (sym said))
