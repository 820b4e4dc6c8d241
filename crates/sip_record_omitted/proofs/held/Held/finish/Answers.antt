use Rattle.std.proofs.Common.{ap, true}
use Rattle.sip_record_omitted.specs.Holding.{Holding}
use Rattle.sip_record_omitted.proofs.Ahead.{ended_same}
use Rattle.sip_record_omitted.proofs.held.Held.finish.Goals as goal

pub returns-then-is_some-clause-same : goal.returns-then-is_some-clause-same
returns-then-is_some-clause-same c = ended_same _ _ c.requires (ap (λ (h : Holding). record h { inside = true }) c.self.view_is)
