use Rattle.std.proofs.Common.{◌∙◌, sym, ℕ, Option, nat_eq}
use Rattle.std.specs.HashMap.{get}
use Rattle.sip_location.specs.declared.aor_bindings.AorBindings.{AorBindings}
use Rattle.sip_location.proofs.Finding.{joined, placed, still_filed, replaced}
use Rattle.sip_location.proofs.binding_table.BindingTable.file.Goals as goal

pub invariant_of-self : goal.invariant_of-self
invariant_of-self c =
    let by_code : ℕ → Option AorBindings = λ code. get nat_eq c.self.inside.by_code code in
    let crowd = c.self.inside.crowd.items in
    let is = joined by_code crowd c.leave.new.crowd.items c.join.new.crowd.items c.args.filed c.lent-aor.result c.code_of-code.result c.self.invariant c.lent-aor.ensures
    c.code_of-code.ensures
    (sym c.is_of_another-is_taken.ensures ∙ c.if-is_taken.true) c.leave.ensures.left c.join.ensures in
    still_filed by_code crowd c.args.filed by_code c.join.new.crowd.items c.self.invariant is

pub returns-then-is_taken : goal.returns-then-is_taken
returns-then-is_taken c =
    let by_code : ℕ → Option AorBindings = λ code. get nat_eq c.self.inside.by_code code in
    let crowd = c.self.inside.crowd.items in
    let is = joined by_code crowd c.leave.new.crowd.items c.join.new.crowd.items c.args.filed c.lent-aor.result c.code_of-code.result c.self.invariant c.lent-aor.ensures
    c.code_of-code.ensures
    (sym c.is_of_another-is_taken.ensures ∙ c.if-is_taken.true) c.leave.ensures.left c.join.ensures in
    rw (← c.self.view_is) (replaced by_code crowd c.args.filed by_code c.join.new.crowd.items c.self.invariant is)

pub invariant_of-self-else-is_taken : goal.invariant_of-self-else-is_taken
invariant_of-self-else-is_taken c =
    let by_code : ℕ → Option AorBindings = λ code. get nat_eq c.self.inside.by_code code in
    let new : ℕ → Option AorBindings = λ code. get nat_eq c.put.new.by_code code in
    let crowd = c.self.inside.crowd.items in
    let is = placed by_code new crowd c.leave.new.crowd.items c.args.filed c.lent-aor.result c.code_of-code.result c.self.invariant c.lent-aor.ensures
    c.code_of-code.ensures
    (sym c.is_of_another-is_taken.ensures ∙ c.if-is_taken.false) c.leave.ensures.left c.put.ensures in
    still_filed by_code crowd c.args.filed new c.leave.new.crowd.items c.self.invariant is

pub returns-else-is_taken : goal.returns-else-is_taken
returns-else-is_taken c =
    let by_code : ℕ → Option AorBindings = λ code. get nat_eq c.self.inside.by_code code in
    let new : ℕ → Option AorBindings = λ code. get nat_eq c.put.new.by_code code in
    let crowd = c.self.inside.crowd.items in
    let is = placed by_code new crowd c.leave.new.crowd.items c.args.filed c.lent-aor.result c.code_of-code.result c.self.invariant c.lent-aor.ensures
    c.code_of-code.ensures
    (sym c.is_of_another-is_taken.ensures ∙ c.if-is_taken.false) c.leave.ensures.left c.put.ensures in
    rw (← c.self.view_is) (replaced by_code crowd c.args.filed new c.leave.new.crowd.items c.self.invariant is)
