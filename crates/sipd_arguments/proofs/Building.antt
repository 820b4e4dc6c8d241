-- What is built of commands and their options.
use Rattle.std.proofs.Common.{◌≡◌, true, false, ◌||◌, Option, None, Some, refl, ◌∙◌, ap, ap₂}
use Rattle.std.specs.Prelude.{IsSomeAnd}
use Rattle.clap.specs.Lexer.{usize_max}
use Rattle.clap.specs.declared.builder.action.ArgAction.TheVariants.{Append}
use Rattle.clap.specs.Words.{AddsArg, AddsSubcommand, App, Rule, Shape, Text, app_of, is_simple, is_simple_and_free, rule_of, new_app, with_rule, with_subcommand}
use Rattle.clap.specs.declared.builder.arg.Arg.{Arg}
use Rattle.clap.specs.declared.builder.range.ValueRange.{ValueRange}
use Rattle.clap.specs.declared.builder.command.Command.{Command}
use Rattle.clap.specs.declared.builder.command.Command.TheViews.{out-Command}
use Rattle.clap.proofs.OnLiterals.{clap_on_literals}
use Rattle.sipd_arguments.specs.CommandLine.{needed, program, several}
use Rattle.sipd_arguments.specs.Commands.{IsCommand, more}

pub needed_rule : (old new : Arg) (r : Rule) → new ≡ record old { required = true } → rule_of old ≡ r → rule_of new ≡ needed r
needed_rule old new r is rule = ap rule_of is ∙ ap needed rule

several_by : (old ranged new : Arg) (r : Rule) (values : Option ValueRange) → ranged ≡ record old { num_vals = values }
    → IsSomeAnd values (λ (v : ValueRange). v ≡ record { start_inclusive = 1; end_inclusive = usize_max }) → new ≡ record ranged { action = Some Append }
    → rule_of old ≡ r → rule_of new ≡ several r
several_by old ranged new r None ranges from acts rule = absurd from
several_by old ranged new r (Some v) ranges from acts rule =
    ap rule_of acts
    ∙ ap (λ (a : Arg). rule_of (record a { action = Some Append })) (ranges ∙ ap (λ (w : ValueRange). record old { num_vals = Some w }) from)
    ∙ ap several rule

-- with the range that is asked for, of as many as there are
pub several_rule : (old ranged new : Arg) (r : Rule) → ranged ≡ record old { num_vals = ranged.num_vals }
    → IsSomeAnd ranged.num_vals (λ (v : ValueRange). v ≡ record { start_inclusive = 1; end_inclusive = usize_max })
    → new ≡ record ranged { action = Some Append } → rule_of old ≡ r → rule_of new ≡ several r
several_rule old ranged new r ranges from acts rule = several_by old ranged new r ranged.num_vals ranges from acts rule

-- ---- commands

pub begun : (c : Command) (name : Text) → app_of c ≡ new_app name → (out-Command c).has_globals ≡ false → IsCommand (new_app name).top c
begun c name app local = record { app = app; local = local }

pub added : (s : Shape) (old new : Command) (a : Arg) (r : Rule) → IsCommand s old → AddsArg old a new → rule_of a ≡ r → a.global ≡ false → IsCommand (more s r) new
added s old new a r is adds rule local = record {
  app = adds.shape local ∙ ap₂ with_rule is.app rule;
  local = adds.globals ∙ ap₂ (λ x y. x || y) is.local local;
}

pub placed : (a : App) (s : Shape) (old sub new : Command) → app_of old ≡ a → IsCommand s sub → AddsSubcommand old sub new → app_of new ≡ with_subcommand a s
placed a s old sub new is alone adds = adds.shape alone.local ∙ ap₂ with_subcommand is (ap (λ (x : App). x.top) alone.app)

-- no option is tied to another, so that each line ends as clap's table says
pub is_simple_and_free_program : is_simple_and_free program ≡ true
unfolding clap_on_literals
is_simple_and_free_program = refl

pub is_simple_program : is_simple program ≡ true
unfolding clap_on_literals
is_simple_program = refl
