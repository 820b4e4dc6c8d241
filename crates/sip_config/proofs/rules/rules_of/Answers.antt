use Rattle.std.proofs.Common.{List, Result, Ok, ap, sym, ◌∙◌}
use Rattle.std.proofs.lemmas.Result.{err_from_is_err_and}
use Rattle.toml.specs.View.{items_view}
use Rattle.sip_policy.specs.declared.rule.Rule.{Rule}
use Rattle.sip_config_values.specs.declared.refusal.Refusal.{Refusal}
use Rattle.sip_config_values.specs.Refusals.{◌>>=◌}
use Rattle.sip_config.specs.Rules.{rules_of}
use Rattle.sip_config.proofs.Rows.{reads_err}
use Rattle.sip_config.proofs.Groups.{groups_end}
use Rattle.sip_config.proofs.rules.rules_of.Goals as goal

pub returns : goal.returns
returns c =
    groups_end c.args.version c.args.users.now c.args.hops.now (items_view c.args.items.now) c.in_ok-ids_of.field-0 c.in_ok-rules.rules c.as_slice.result.now
    c.in_ok-unknown.unknown
    c.in_ok-ids_of.ensures c.in_ok-rules.ensures c.as_slice.ensures c.in_ok-unknown.ensures.found
    ∙ ap (λ (r : Result (Unit {0}) Refusal). r >>= λ _. Ok c.in_ok-rules.rules) (sym c.in_ok-none_found.ensures)

pub returns-in_err-none_found : goal.returns-in_err-none_found
returns-in_err-none_found c =
    let p = err_from_is_err_and c.from_residual-in_err-none_found.result c.from_residual-in_err-none_found.ensures.1 in
    rw (p.1, p.2)
    (reads_err (λ (rules : List Rule). rules) c.in_err-none_found.field-0.0 (rules_of c.args.version c.args.users.now c.args.hops.now (items_view c.args.items.now))
    (groups_end c.args.version c.args.users.now c.args.hops.now (items_view c.args.items.now) c.in_ok-ids_of.field-0 c.in_ok-rules.rules c.as_slice.result.now
    c.in_ok-unknown.unknown
    c.in_ok-ids_of.ensures c.in_ok-rules.ensures c.as_slice.ensures c.in_ok-unknown.ensures.found
    ∙ ap (λ (r : Result (Unit {0}) Refusal). r >>= λ _. Ok c.in_ok-rules.rules) (sym c.in_err-none_found.ensures)))
