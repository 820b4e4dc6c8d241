use Rattle.std.proofs.Common.{◌≡◌, ℕ, [], Option, filter, option_to_list, nat_eq, refl, sym, ap, ◌∙◌}
use Rattle.std.specs.HashMap.{get}
use Rattle.std.specs.Option.{option_copied}
use Rattle.sip_location.specs.declared.aor_bindings.AorBindings.{AorBindings}
use Rattle.sip_location.specs.AorBindings.{is_filed_of}
use Rattle.sip_location.proofs.Finding.{under_code, in_crowd, none_there, other_there}
use Rattle.sip_location.proofs.binding_table.BindingTable.rows_at.Goals as goal
use Rattle.sip_location.proofs.binding_table.BindingTable.rows_at.Goals.{in-Some+else-is_same, in_default}

pub returns-then-is_same : goal.returns-then-is_same
returns-then-is_same c =
    let by_code : ℕ → Option AorBindings = λ code. get nat_eq c.self.inside.by_code code in
    rw (← c.self.view_is, c.as_slice.ensures)
    (under_code c.args.asked.now c.args.asked.now c.code_of.result by_code c.self.inside.crowd.items c.in-Some.filed.now c.self.invariant refl c.code_of.ensures
    (sym c.in-Some.ensures.value)
    (sym c.is_same.ensures ∙ c.if-is_same.true))

pub returns : goal.returns
returns c =
    let by_code : ℕ → Option AorBindings = λ code. get nat_eq c.self.inside.by_code code in
    let place = get nat_eq c.self.inside.by_code c.code_of.result in
    let none : filter (is_filed_of c.args.asked.now) (option_to_list place) ≡ [] = elim c.match-get.branch [
      | in-Some+else-is_same w ↦ other_there c.args.asked.now place w.in-Some.filed.now (sym w.in-Some.ensures.value) (sym w.is_same.ensures ∙ w.if-is_same.false)
      | in_default w ↦ none_there c.args.asked.now place (sym c.get.ensures.value ∙ ap option_copied w.in_default.is)
    ] in
    rw (← c.self.view_is)
    (in_crowd c.args.asked.now c.args.asked.now c.code_of.result by_code c.self.inside.crowd.items c.deref.result.now c.rows_among.result.now c.self.invariant
    refl c.code_of.ensures none c.deref.ensures.value c.rows_among.ensures)
