use Rattle.std.proofs.Common.{sym, ◌∙◌, ◌==◌}
use Rattle.sip_dialog_updates.specs.state.declared.open_request.OpenRequest.{OpenRequest}
use Rattle.sip_request.specs.declared.request.Request.{Request}
use Rattle.sip_fork.proofs.Mapped.{position-map, found-map}
use Rattle.sip_fork.proofs.contexts.Contexts.find_number.Goals as goal

pub returns-clause-place : goal.returns-clause-place
returns-clause-place g c = rw (← c.self.view_is) (c.find_number.ensures.place ∙ sym (position-map (λ (r : Request). r.open_request)
    (λ (r : OpenRequest). r.number == c.args.number) c.self.inside.table.rows))

pub returns-clause-request : goal.returns-clause-request
returns-clause-request g c = rw (← c.self.view_is) (found-map (λ (r : Request). r.open_request) (λ (r : OpenRequest). r.number == c.args.number) c.self.inside.table.rows
    c.find_number.result c.find_number.ensures.row)
