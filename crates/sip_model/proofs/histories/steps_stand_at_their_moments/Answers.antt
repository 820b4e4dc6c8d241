use Rattle.std.proofs.Common.{◌≡◌, ◌∙◌, sym}
use Rattle.sip_event.specs.declared.event.Event.TheVariants.{Datagram, Time, Fault}
use Rattle.sip_event.specs.declared.event.StepOut.{StepOut}
use Rattle.model_steps.specs.state.declared.server.Server.{Server}
use Rattle.model_steps.specs.state.declared.proxy_state.ProxyState.{ProxyState}
use Rattle.model_steps.specs.Step.{Act, Given, Passing, IsStep}
use Rattle.sip_model.proofs.Steps.{step_taken}
use Rattle.sip_model.proofs.histories.steps_stand_at_their_moments.Goals as goal

left_at : (server : Server) (old new : ProxyState) (act : Act) (out : StepOut) → IsStep server old act out new → new.moment ≡ out.at
left_at server old new (Given (Datagram at word from bytes)) out h = (step_taken server old (Given (Datagram at word from bytes)) out new h).is_at ∙ sym h.does.at_moment
left_at server old new (Given (Time at)) out h = (step_taken server old (Given (Time at)) out new h).is_at
left_at server old new (Given (Fault at ticket)) out h = (step_taken server old (Given (Fault at ticket)) out new h).is_at ∙ sym h.does.at_moment
left_at server old new (Passing at) out h = (step_taken server old (Passing at) out new h).is_at

pub returns : goal.returns
returns c = left_at
