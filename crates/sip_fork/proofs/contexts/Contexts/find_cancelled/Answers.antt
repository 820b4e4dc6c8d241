use Rattle.std.proofs.Common.{sym, ◌∙◌}
use Rattle.model_steps.specs.verdict_model.Verdict.{is_cancelled_by}
use Rattle.sip_request.specs.declared.request.Request.{Request}
use Rattle.sip_fork.proofs.Mapped.{position-map, found-map}
use Rattle.sip_fork.proofs.contexts.Contexts.find_cancelled.Goals as goal

pub returns-clause-place : goal.returns-clause-place
returns-clause-place g c = rw (← c.self.view_is) (c.find_cancelled.ensures.place ∙ sym
    (position-map (λ (r : Request). r.open_request) (is_cancelled_by c.args.key.now) c.self.inside.table.rows))

pub returns-clause-request : goal.returns-clause-request
returns-clause-request g c = rw (← c.self.view_is) (found-map (λ (r : Request). r.open_request) (is_cancelled_by c.args.key.now) c.self.inside.table.rows
    c.find_cancelled.result c.find_cancelled.ensures.row)
