-- The step of a datagram that says a message.
use Rattle.std.specs.Prelude.{◌≡◌, ℕ, List, Some}
use Rattle.sip_event.specs.declared.event.Event.TheVariants.{Datagram}
use Rattle.sip_event.specs.declared.event.StepOut.{StepOut}
use Rattle.sip_message_form.specs.declared.message.Message.{Message}
use Rattle.sip_uri.specs.declared.addr.Addr.{Addr}
use Rattle.sip_model.specs.steps_model.Step.{Given, IsStep, arrival_of}
use Rattle.sip_model.specs.state.declared.proxy_state.ProxyState.{ProxyState}
use Rattle.sip_model.specs.state.declared.server.Server.{Server}
use Rattle.sip_model.specs.verdict_model.Verdict.{Verdict, verdict_of}

-- A step is that of a datagram whose bytes say a message, and this is the verdict on it.
pub record Hears (server : Server) (old : ProxyState) (at word : ℕ) (from : Addr) (bytes : List ℕ) (m : Message) (verdict : Verdict)
    (out : StepOut) (new : ProxyState) : Type 0 where
  pub step : IsStep server old (Given (Datagram at word from bytes)) out new
  pub says : verdict_of server old (arrival_of old at word from) bytes ≡ Some (m, verdict)
