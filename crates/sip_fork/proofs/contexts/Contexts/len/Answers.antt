use Rattle.std.proofs.Common.{◌≡◌, ◌<◌, false}
use Rattle.sip_transaction_table.specs.Key.{same_key}
use Rattle.sip_dialog_updates.specs.state.declared.open_request.OpenRequest.{OpenRequest}
use Rattle.sip_request.specs.declared.request.Request.{Request}
use Rattle.sip_fork.proofs.Mapped.{pairs-map}
use Rattle.sip_fork.proofs.contexts.Contexts.len.Goals as goal

pub returns-clause-rise : goal.returns-clause-rise
returns-clause-rise g c = rw (← c.self.view_is) (pairs-map (λ (r : Request). r.open_request) (λ (a b : OpenRequest). a.number < b.number) c.self.inside.table.rows
    c.len.ensures.rise)

pub returns-clause-apart : goal.returns-clause-apart
returns-clause-apart g c = rw (← c.self.view_is) (pairs-map (λ (r : Request). r.open_request) (λ (a b : OpenRequest). same_key a.key b.key ≡ false)
    c.self.inside.table.rows c.len.ensures.apart)
