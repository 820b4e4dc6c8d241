use Rattle.std.proofs.Common.{◌≡◌, ◌<◌, None, position, sym, ◌∙◌, subst}
use Rattle.std.specs.List.{All}
use Rattle.sip_dialog_updates.specs.state.State.{has_key}
use Rattle.sip_dialog_updates.specs.state.declared.open_request.OpenRequest.{OpenRequest}
use Rattle.sip_request.specs.declared.request.Request.{Request}
use Rattle.sip_fork.specs.Contexts.{Contexts}
use Rattle.sip_fork.proofs.Mapped.{position-map, all-map}
use Rattle.sip_fork.specs.Firing.{KeepsOrder}
use Rattle.sip_fork.proofs.Tying.{contexts}
use Rattle.sip_fork.proofs.contexts.Contexts.open.Goals as goal

pub open_row-requires-clause-last : goal.open_row-requires-clause-last
open_row-requires-clause-last g c =
    all-map (λ (r : Request). r.open_request) (λ (r : OpenRequest). r.number < c.args.opening.number) c.self.inside.table.rows
    (subst (λ (v : Contexts). All (λ (r : OpenRequest). r.number < c.args.opening.number) v.requests) (sym c.self.view_is) c.requires.last)

pub open_row-requires-clause-alone : goal.open_row-requires-clause-alone
open_row-requires-clause-alone g c =
    sym (position-map (λ (r : Request). r.open_request) (has_key c.args.opening.key) c.self.inside.table.rows)
    ∙ subst (λ (v : Contexts). position (has_key c.args.opening.key) v.requests ≡ None) (sym c.self.view_is) c.requires.alone

pub returns-clause-queue : goal.returns-clause-queue
returns-clause-queue g c =
    subst (λ (v : Contexts). KeepsOrder v.pending c.open_row.new.timers.pending (contexts c.open_row.new.table.rows)) c.self.view_is c.open_row.ensures.queue
