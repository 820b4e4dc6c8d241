-- A request whose final answer went gets no other.
use Rattle.std.proofs.Common.{ℕ, List, ◌∷◌, refl, true≢false, sym}
use Rattle.sip_message_fields.specs.declared.field.Field.{Field}
use Rattle.sip_model.specs.state.declared.proxy_state.ProxyState.{ProxyState}
use Rattle.sip_model.specs.steps_model.Examples.{sample}
use Rattle.sip_model.specs.Run.{Link}
use Rattle.sip_model.specs.Access.{Access}
use Rattle.model_laws.specs.WrongAnswers.{answered_later, denied_register}
use Rattle.model_laws.proofs.Refused.{some_is_not_none, sends_nothing, nothing_comes, idle_without}

-- an answer that is made later
pub answered_later_refused : (status : ℕ) (extras : List Field) (known after : ProxyState) (earlier : List Link)
    → Access sample (answered_later status extras known after ∷ earlier) → ⊥
answered_later_refused status extras known after earlier access =
    let link : Link = answered_later status extras known after in
    some_is_not_none _ _
    (sends_nothing sample earlier link (
      idle_without sample link.before link.act (link ∷ earlier) 1500 (nothing_comes sample link.before link.act refl) refl denied_register
          (λ answering. absurd (true≢false (sym answering))) tt,
      tt,
    ) refl
    access)
