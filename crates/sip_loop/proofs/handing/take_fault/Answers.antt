use Rattle.sip_model.specs.steps_model.Step.{Given as ForEvent}
use Rattle.sip_event.specs.declared.event.Event.TheVariants.{Fault}
use Rattle.sip_run.specs.engine.StepError.{refusal_at}
use Rattle.sip_run.specs.Due.{standing_of}
use Rattle.sip_loop.proofs.Handed.{takes_fault}
use Rattle.sip_loop.proofs.WhatIsDue.{ok_not_refused}
use Rattle.sip_loop.proofs.handing.take_fault.Goals as goal

pub returns-clause-taken : goal.returns-clause-taken
returns-clause-taken g c =
    takes_fault c.fault_leaves_nothing_due.ensures c.args.engine.now.server (standing_of c.args.engine.now) (standing_of c.fault.new.self) c.moment-at.result
    c.is_reached.ensures.first c.is_reached.ensures.history c.args.ticket c.in_ok-out.out c.is_reached.ensures.chain c.requires
    c.moment-at.ensures.value c.moment-at.ensures.small (ok_not_refused (refusal_at c.moment-at.result) c.in_ok-out.out c.in_ok-out.ensures.refused)
    c.in_ok-out.ensures.step c.in_ok-out.ensures.queue
    (c.steps_stand_at_their_moments.ensures c.args.engine.now.server c.args.engine.now.state c.fault.new.self.state (ForEvent (Fault c.moment-at.result c.args.ticket))
    c.in_ok-out.out c.in_ok-out.ensures.step)
    (c.failed_sends_end.ensures.packets c.args.engine.now.server c.is_reached.ensures.first c.is_reached.ensures.history c.args.engine.now.state c.fault.new.self.state
    c.moment-at.result c.args.ticket c.in_ok-out.out c.is_reached.ensures.chain c.in_ok-out.ensures.step)
    (λ fault by. c.failed_sends_end.ensures.steps c.args.engine.now.server c.is_reached.ensures.first c.is_reached.ensures.history c.args.engine.now.state
    c.fault.new.self.state c.args.ticket c.in_ok-out.out by c.is_reached.ensures.chain fault)
