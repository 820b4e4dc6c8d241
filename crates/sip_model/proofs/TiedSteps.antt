-- What an event makes of states that are the same is one step.
use Rattle.std.proofs.Common.{◌≡◌, ◌∙◌, ℕ, ◌≤◌, refl, sym, ap, arith}
use Rattle.sip_event.specs.declared.event.Event.{Event}
use Rattle.sip_event.specs.declared.event.Event.TheVariants.{Datagram, Time, Fault}
use Rattle.sip_event.specs.declared.event.StepOut.{StepOut}
use Rattle.model_steps.specs.state.declared.server.Server.{Server}
use Rattle.model_steps.specs.state.declared.proxy_state.ProxyState.{ProxyState}
use Rattle.model_steps.specs.state.SameState.{SameState}
use Rattle.model_steps.specs.Effect.{Effect, datagram_effect, nothing}
use Rattle.model_steps.specs.Step.{Act, Given, IsStep, arrival_of, fault_effect, moment_of}
use Rattle.sip_model.proofs.Sent.{GoesOneWay}
use Rattle.sip_model.proofs.TiedAlike.{Sameness, one_effect}

-- an event's step isn't before the moment of its state
not_before : (server : Server) (old : ProxyState) (event : Event) (out : StepOut) (new : ProxyState) → IsStep server old (Given event) out new → old.moment ≤ out.at
not_before server old (Datagram at word from bytes) out new h = let is = h.does.at_moment in omega (arith, is)
not_before server old (Time at) out new h = let is = h.at_moment in omega (arith, is)
not_before server old (Fault at ticket) out new h = let is = h.does.at_moment in omega (arith, is)

module _ (laws : Sameness) (steps_same : (server : Server) (left right : ProxyState) (act : Act) (out : StepOut) (new : ProxyState) → SameState left right
    → left.moment ≤ out.at → IsStep server left act out new → IsStep server right act out new)
    (server : Server) where
  -- from one state
  from_one : (state : ProxyState) (event : Event) (out another : StepOut) (new newer : ProxyState) → GoesOneWay out.packets → IsStep server state (Given event) out new
      → IsStep server state (Given event) another newer
      → (out ≡ another) × SameState new newer
  from_one state (Datagram at word from bytes) out another new newer way h k =
      let effect : Effect = datagram_effect server state (arrival_of state at word from) bytes in
      one_effect laws server state (moment_of state at) (moment_of state at) effect effect out another new newer refl refl way h.does k.does
  from_one state (Time at) out another new newer way h k =
      let moments : out.at ≡ another.at = h.at_moment ∙ sym k.at_moment in
      one_effect laws server state out.at another.at (nothing (record state { moment = out.at })) (nothing (record state { moment = another.at })) out another new newer
      moments
      (ap (λ (m : ℕ). nothing (record state { moment = m })) moments) way h.quiet.does k.quiet.does
  from_one state (Fault at ticket) out another new newer way h k =
      let effect : Effect = fault_effect server (moment_of state at) ticket (record state { moment = moment_of state at }) in
      one_effect laws server state (moment_of state at) (moment_of state at) effect effect out another new newer refl refl way h.does k.does

  -- from two that are the same
  pub one_given : (left right : ProxyState) → SameState left right → (event : Event) (out another : StepOut) (new newer : ProxyState) → GoesOneWay out.packets
      → IsStep server left (Given event) out new → IsStep server right (Given event) another newer → (out ≡ another) × SameState new newer
  one_given left right same event out another new newer way h k =
      from_one left event out another new newer way h
      (steps_same server right left (Given event) another newer (laws.turned left right same) (not_before server right event another newer k) k)
