-- Copies that don't go.
use Rattle.std.proofs.Common.{◌≡◌, ◌⊎◌, inl, inr, ℕ, true, false, is_some, List, [], ◌∷◌, Contains, Some, get_or, refl, sym, ap, subst, ◌∙◌, true≢false}
use Rattle.std.specs.Fmt.{digits}
use Rattle.hex.specs.Hex.{encode_with}
use Rattle.sip_uri.specs.Reading.{rest_of, reading_of}
use Rattle.sip_header.specs.CoreFields.{core_in}
use Rattle.sip_digest.specs.NonceText.{nonce_text}
use Rattle.sip_event.specs.declared.packet.Packet.{Packet}
use Rattle.sip_model.specs.state.declared.branch.Branch.{Branch}
use Rattle.sip_model.specs.state.declared.open_request.OpenRequest.{OpenRequest}
use Rattle.sip_model.specs.state.declared.proxy_state.ProxyState.{ProxyState}
use Rattle.sip_model.specs.context_model.Retransmission.{IsResent, OfAnswer, OfRequest, answer_due, branch_due}
use Rattle.sip_model.specs.context_model.Calls.{first_branch, one_target}
use Rattle.sip_model.specs.context_model.Sending.{branch_packets}
use Rattle.sip_model.specs.steps_model.Examples.{sample}
use Rattle.sip_model.specs.steps_model.Step.{Act, retransmissions}
use Rattle.sip_model.specs.Run.{Link}
use Rattle.sip_model.specs.Access.{GoesAgain, Nothing, ByCopy, ByFinal, ByTime, Access}
use Rattle.model_laws.specs.WrongCopies.{early_copy, false_copy}
use Rattle.model_laws.proofs.Refused.{some_is_not_none, holds_of, is_datagram, not_said}
use Rattle.model_laws.proofs.Coming.{differ}

-- Of the one target of an INVITE goes again, at a moment, what was sent to it, if that is its moment.
abbrev pub GoesByTime : ℕ → List Packet → Type 0
GoesByTime at packets = (packets ≡ branch_packets sample true one_target first_branch) × (branch_due one_target first_branch ≡ Some at)

-- where that INVITE alone is open, and no datagram comes, nothing goes again but this
goes_by_time : (state : ProxyState) (act : Act) (at : ℕ) (packets : List Packet)
    → is_datagram act ≡ false → state.requests ≡ one_target ∷ [] → GoesAgain sample state act at packets
    → (packets ≡ []) ⊎ GoesByTime at packets
goes_by_time state act at _ quiet alone Nothing = inl refl
goes_by_time state act at _ quiet alone (ByCopy a bytes m short key r said no_ack key_is found) = absurd (not_said sample state act quiet a bytes m short said)
goes_by_time state act at _ quiet alone (ByFinal a bytes m status reason r b said is_response is_for) = absurd (not_said sample state act quiet a bytes m false said)
goes_by_time state act at packets quiet alone (ByTime r later _ there resent) =
    inr (by_resent r packets later (holds_of (λ (x : OpenRequest). x ≡ one_target) (one_target ∷ []) r (refl, tt)
    (subst (λ (rs : List OpenRequest). Contains rs r) alone there)) resent) where
      by_resent : (x : OpenRequest) (sent : List Packet) (next : OpenRequest) → x ≡ one_target → IsResent sample at x sent next → GoesByTime at sent
      by_resent x _ _ e (OfAnswer due) = absurd (true≢false (ap is_some (sym due ∙ ap answer_due e)))
      by_resent x _ _ e (OfRequest b there_too due) =
          let same : b ≡ first_branch = holds_of (λ (y : Branch). y ≡ first_branch) (first_branch ∷ []) b (refl, tt)
          (subst (λ (y : OpenRequest). Contains y.branches b) e there_too) in (
            ap (λ (y : OpenRequest). branch_packets sample true y b) e ∙ ap (λ (y : Branch). branch_packets sample true one_target y) same,
            sym (ap (λ (y : OpenRequest). branch_due y b) e ∙ ap (λ (y : Branch). branch_due one_target y) same) ∙ due,
          )

-- the first byte of the first packet
abbrev pub first_byte : List Packet → ℕ
first_byte [] = 0
first_byte (p ∷ ps) = get_or p.bytes 0 0

-- of the INVITE it is I
invites : first_byte (branch_packets sample true one_target first_branch) ≡ 73
unfolding digits encode_with rest_of reading_of core_in nonce_text
invites = refl

module _ (known after : ProxyState) (earlier : List Link) where
  abbrev early : Link
  early = early_copy known after

  -- the INVITE has another moment
  pub early_refused : Access sample (early ∷ earlier) → ⊥
  early_refused access = by_case (goes_by_time early.before early.act early.out.at (retransmissions early.out.packets) refl refl access.0.again) where
    by_case : (retransmissions early.out.packets ≡ []) ⊎ GoesByTime early.out.at (retransmissions early.out.packets) → ⊥
    by_case (inl none) = some_is_not_none _ _ none
    by_case (inr goes) = differ 62500 early.out.at refl refl goes.1

  abbrev other : Link
  other = false_copy known after

  -- it begins with another letter
  pub other_refused : Access sample (other ∷ earlier) → ⊥
  other_refused access = by_case (goes_by_time other.before other.act other.out.at (retransmissions other.out.packets) refl refl access.0.again) where
    by_case : (retransmissions other.out.packets ≡ []) ⊎ GoesByTime other.out.at (retransmissions other.out.packets) → ⊥
    by_case (inl none) = some_is_not_none _ _ none
    by_case (inr goes) = differ 66 73 refl refl (ap (λ (n : ℕ). Some n) (ap first_byte goes.0 ∙ invites))
