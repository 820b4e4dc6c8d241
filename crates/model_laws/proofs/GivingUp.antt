-- An INVITE and its 180 give nothing up.
use Rattle.std.proofs.Common.{◌≡◌, ℕ, Bool, false, ◌||◌, List, [], ◌∷◌, codes, refl, sym, ap, subst, ◌∙◌, true≢false, bytes_eq}
use Rattle.std.specs.List.{AllByRecursion}
use Rattle.sip_message_form.specs.declared.message.Message.{Message}
use Rattle.sip_message_form.specs.Text.{text_of}
use Rattle.sip_hops.specs.Examples.{local}
use Rattle.sip_edit.specs.OnwardExamples as Onward
use Rattle.sip_model.specs.state.Arrival.{Arrival}
use Rattle.sip_model.specs.state.State.{is_success, is_decline}
use Rattle.sip_model.specs.steps_model.Effect.{method_of}
use Rattle.sip_model.specs.steps_model.Examples.{sample, ringing_from}
use Rattle.sip_model.specs.Run.{Link}
use Rattle.sip_model.specs.Access.{IsSaidAt, WasGivenUp, ByCaller, ByAnswer}
use Rattle.model_laws.specs.WrongRequests.{invite_came, ringing_came}
use Rattle.model_laws.proofs.Refused.{holds_of}
use Rattle.model_laws.proofs.Said.{said_is, status_or}
use Rattle.model_laws.proofs.Messages.{invite_said, first_ringing_said}

-- a message is no CANCEL, no 2xx and no 6xx
abbrev GivesNothingUp : Message → Type 0
GivesNothingUp m = (bytes_eq (method_of m.start) (codes "CANCEL") ≡ false) × ((is_success (status_or m.start) || is_decline (status_or m.start)) ≡ false)

-- nor is any that a step is taken for
abbrev SaysNothingOfIt : Link → Type 0
SaysNothingOfIt link = (a : Arrival) (bytes : List ℕ) (m : Message) (short : Bool) → IsSaidAt link.before link.act a bytes m short → GivesNothingUp m

-- where that is so of each step, nothing was given up
not_given_up : (history : List Link) (number : ℕ) → AllByRecursion SaysNothingOfIt history → WasGivenUp sample history number → ⊥
not_given_up history number all (ByCaller was) =
    true≢false (sym was.is_cancel ∙ (holds_of SaysNothingOfIt history was.link all was.is_there was.a was.bytes was.m was.short was.is_said).0)
not_given_up history number all (ByAnswer status response came ends) =
    true≢false
    (sym ends ∙ ap (λ (s : ℕ). is_success s || is_decline s) (sym (ap status_or came.is_response))
    ∙ (holds_of SaysNothingOfIt history came.link all came.is_there came.a came.bytes response false came.is_said).1)

-- it is so of the INVITE, and of the 180
pub call_goes_on : WasGivenUp sample (ringing_came ∷ invite_came ∷ []) 4 → ⊥
call_goes_on =
    not_given_up (ringing_came ∷ invite_came ∷ []) 4 (
      (λ a bytes m short said.
          subst GivesNothingUp
          (sym (said_is sample ringing_came.before 63000 9 (local 5082) (text_of (ringing_from 1)) (ringing_from 1) first_ringing_said a bytes m short said))
          (refl, refl)),
      (
        (λ a bytes m short said.
            subst GivesNothingUp (sym (said_is sample invite_came.before 62000 9 (local 5070) (text_of Onward.invite) Onward.invite invite_said a bytes m short said))
            (refl, refl)),
        tt,
      ),
    )
