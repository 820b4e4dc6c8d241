-- The effect of a datagram that says a message, by the verdict on it.
use Rattle.std.proofs.Common.{◌≡◌, ◌∙◌, ℕ, Bool, false, cond, List, [], Option, ap, subst, bytes_eq, codes}
use Rattle.std.specs.Option.{option_map_or}
use Rattle.sip_event.specs.declared.event.StepOut.{StepOut}
use Rattle.sip_message_form.specs.declared.message.Message.{Message}
use Rattle.sip_uri.specs.declared.addr.Addr.{Addr}
use Rattle.sip_location.specs.Sameness.{SameBindings}
use Rattle.sip_model.specs.steps_model.Effect.{Effect, counted, datagram_effect, effect_of, nothing, method_of}
use Rattle.sip_model.specs.steps_model.Step.{arrival_of, originals, retransmissions}
use Rattle.sip_model.specs.context_model.Retransmission.{answers_again}
use Rattle.sip_model.specs.state.SameState.{SameState}
use Rattle.sip_model.specs.state.declared.open_request.OpenRequest.{OpenRequest}
use Rattle.sip_model.specs.state.declared.proxy_state.ProxyState.{ProxyState}
use Rattle.sip_model.specs.state.declared.server.Server.{Server}
use Rattle.sip_model.specs.verdict_model.Verdict as Verdict
use Rattle.model_laws.specs.Hearing.{Hears}

module _ (server : Server) (old new : ProxyState) (at word : ℕ) (from : Addr) (bytes : List ℕ) (m : Message) (v : Verdict.Verdict) (out : StepOut) where
  -- the effect of the verdict
  abbrev pub effect : Effect
  effect = effect_of server (arrival_of old at word from) m v (counted (arrival_of old at word from) old)

  effect_is : Hears server old at word from bytes m v out new → datagram_effect server old (arrival_of old at word from) bytes ≡ effect
  effect_is h =
      ap (λ (o : Option (Message × Verdict.Verdict)).
      option_map_or (λ (x : Message × Verdict.Verdict). effect_of server (arrival_of old at word from) x.0 x.1 (counted (arrival_of old at word from) old)) o
      (nothing (counted (arrival_of old at word from) old)))
      h.says

  pub sends : Hears server old at word from bytes m v out new → originals out.packets ≡ effect.originals
  sends h = h.step.does.sends ∙ ap (λ (e : Effect). e.originals) (effect_is h)

  pub repeats : Hears server old at word from bytes m v out new → retransmissions out.packets ≡ effect.again
  repeats h = h.step.does.repeats ∙ ap (λ (e : Effect). e.again) (effect_is h)

  pub records : Hears server old at word from bytes m v out new → out.records ≡ effect.records
  records h = h.step.does.records ∙ ap (λ (e : Effect). e.records) (effect_is h)

  pub binds : Hears server old at word from bytes m v out new → SameBindings new.moment new.bindings effect.state.bindings
  binds h = (subst (λ (e : Effect). SameState new e.state) (effect_is h) h.step.does.leaves).bindings

pub copied : (server : Server) (old new : ProxyState) (at word : ℕ) (from : Addr) (bytes : List ℕ) (m : Message) (out : StepOut) (r : OpenRequest)
    → Hears server old at word from bytes m (Verdict.Copy r) out new → bytes_eq (method_of m.start) (codes "ACK") ≡ false
    → retransmissions out.packets ≡ answers_again r r.answer
copied server old new at word from bytes m out r h is =
    repeats server old new at word from bytes m (Verdict.Copy r) out h ∙ ap (λ (t : Bool). cond t [] (answers_again r r.answer)) is
