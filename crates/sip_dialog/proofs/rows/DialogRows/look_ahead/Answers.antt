use Rattle.std.proofs.Common.{List, subst}
use Rattle.sip_dialog.specs.Rows.{AreKnownBefore}
use Rattle.sip_dialog.proofs.Alone.{Row}
use Rattle.sip_dialog.proofs.rows.DialogRows.look_ahead.Goals as goal

pub invariant_of-self : goal.invariant_of-self
invariant_of-self c = (
  c.self.invariant.0,
  c.self.invariant.1,
  subst (λ (l : List Row). AreKnownBefore c.first_end-until.result l) c.as_slice.ensures.value c.first_end-until.ensures,
)
