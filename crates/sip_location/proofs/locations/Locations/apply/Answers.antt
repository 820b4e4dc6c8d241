use Rattle.sip_location.specs.Locations.{Planned}
use Rattle.sip_location.specs.AorBindings.{bindings_of}
use Rattle.sip_location.proofs.Planning.{carried_out}
use Rattle.sip_location.proofs.locations.Locations.apply.Goals as goal

pub returns-clause-registered : goal.returns-clause-registered
returns-clause-registered c =
    let plan : Planned = record { aor = c.plan.inside.filed.aor; bindings = bindings_of c.plan.inside.filed.aor c.plan.inside.filed.rows } in
    rw (← c.plan.view_is, ← c.self.view_is) (λ r now is. carried_out c.self.inside.filing.rows c.file.new.self.rows plan r now c.file.ensures.own c.file.ensures.others
    is)
