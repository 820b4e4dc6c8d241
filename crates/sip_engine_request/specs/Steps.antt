-- What the step of a new request does, and what it leaves where it is refused.
use Rattle.std.specs.Prelude.{◌≡◌, position, None, Result, OnOk, OnErr}
use Rattle.sip_event.specs.declared.event.StepOut.{StepOut}
use Rattle.sip_message_form.specs.declared.message.Message.{Message}
use Rattle.sip_transaction_table.specs.declared.key.TransactionKey.{TransactionKey}
use Rattle.sip_proxy.specs.Proxy.{Proxy, IsComing}
use Rattle.sip_proxy.specs.fork.Firing.{KeepsOrder}
use Rattle.sip_proxy.specs.steps_model.Effect.{counted, effect_of}
use Rattle.sip_proxy.specs.steps_model.Step.{Does}
use Rattle.sip_uas.specs.forwarding.Arrivals.{arrival_of}
use Rattle.sip_uas.specs.forwarding.declared.arrival.Arrival.{Arrival}
use Rattle.sip_dialog_updates.specs.state.State.{has_key}
use Rattle.sip_dialog_updates.specs.state.declared.proxy_state.ProxyState.{ProxyState}
use Rattle.sip_dialog_updates.specs.state.declared.server.Server.{Server}
use Rattle.sip_proxy.specs.verdict.verdict_model.Verdict as Definition

-- A step does what a verdict on the message of a datagram says.
abbrev pub Takes : Server → ProxyState → Arrival → Message → Definition.Verdict → StepOut → ProxyState → Type 0
Takes server old a m verdict out new = Does server old a.now (effect_of server (arrival_of a) m verdict (counted (arrival_of a) old)) out new

-- A step was taken, and what fires first keeps its order; or it was refused, and nothing changed. The secrets of the tables stay.
pub record IsWhole {X E : Type 0} (old new : Proxy) (result : Result X E) : Type 0 where
  pub unchanged : OnErr result (new.state ≡ old.state)
  pub timers : OnErr result (new.timers ≡ old.timers)
  pub queue : OnOk result (KeepsOrder old.timers new.timers new.state.requests)
  pub secrets : new.secrets ≡ old.secrets

-- A datagram comes, and no open request has the key of the one that it brings (RFC 3261 17.2.3).
pub record IsNew (state : ProxyState) (a : Arrival) (key : TransactionKey) : Type 0 where
  pub coming : IsComing state a
  pub alone : position (has_key key) state.requests ≡ None
