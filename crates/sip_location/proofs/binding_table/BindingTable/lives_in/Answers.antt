use Rattle.std.proofs.Common.{List, nat_eq, refl, subst}
use Rattle.std.specs.List.{AllByRecursion}
use Rattle.sip_location.specs.declared.aor_bindings.AorBindings.{AorBindings}
use Rattle.sip_location.specs.Alive.{LivesAlike}
use Rattle.sip_location.proofs.Alive.{lives_in}
use Rattle.sip_location.proofs.binding_table.BindingTable.lives_in.Goals as goal

pub returns : goal.returns
returns c = λ is. rw (← c.self.view_is)
    (lives_in c.self.inside.by_code.entries nat_eq c.self.inside.crowd.items c.args.other.now.rows c.args.now c.self.invariant
    (c.if-not-all_under_codes.ensures refl)
    (subst (λ (fs : List AorBindings). AllByRecursion (LivesAlike c.args.other.now.rows c.args.now) fs) c.as_slice.ensures.value (c.all_in_crowd.ensures is)))
