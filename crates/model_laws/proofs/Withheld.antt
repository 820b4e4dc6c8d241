-- What is owed and doesn't go.
use Rattle.std.proofs.Common.{◌≡◌, inl, inr, ℕ, ◌≤◌, true, false, is_some, List, [], ◌∷◌, Contains, Option, Some, None, codes, refl, sym, ap, subst, ◌∙◌, true≢false}
use Rattle.std.proofs.Common.{arith}
use Rattle.std.specs.Fmt.{digits}
use Rattle.std.specs.List.{AllByRecursion}
use Rattle.hex.specs.Hex.{encode_with}
use Rattle.sip_uri.specs.Reading.{rest_of, reading_of}
use Rattle.sip_header.specs.CoreFields.{core_in}
use Rattle.sip_digest.specs.NonceText.{nonce_text}
use Rattle.sip_message_fields.specs.declared.field_name.FieldName.TheVariants as Name
use Rattle.sip_message_fields.specs.Values.{first_value}
use Rattle.sip_message_form.specs.Text.{text_of}
use Rattle.sip_hops.specs.Examples.{local}
use Rattle.sip_best.specs.declared.final_answer.Final.{Final}
use Rattle.sip_best.specs.Best.{best_of}
use Rattle.sip_edit.specs.OwnRequests.{cancel_of}
use Rattle.sip_edit.specs.OwnVia.{without_top_via}
use Rattle.sip_event.specs.declared.packet.Packet.{Packet}
use Rattle.sip_model.specs.state.declared.branch.Branch.{Branch}
use Rattle.sip_model.specs.state.declared.open_request.OpenRequest.{OpenRequest}
use Rattle.sip_model.specs.state.declared.proxy_state.ProxyState.{ProxyState}
use Rattle.sip_model.specs.state.declared.resend.Resend.{Resend}
use Rattle.sip_model.specs.context_model.Branches.{final_of, is_same_branch, upward_of}
use Rattle.sip_model.specs.context_model.Calls.{first_branch, one_target, marked_branch, marked_target}
use Rattle.sip_model.specs.context_model.Retransmission.{answers_again}
use Rattle.sip_model.specs.context_model.Sending.{ack_packets, answer_to, branch_packets, request_of, to_branch}
use Rattle.sip_model.specs.steps_model.Examples.{sample, ringing_from, help_text}
use Rattle.sip_model.specs.verdict_model.Verdict.{Respond, Copy, responding}
use Rattle.sip_model.specs.Run.{Link}
use Rattle.sip_model.specs.Access.{Early, BySilence, OthersEnded, IsTakenFor, KeepsMoment, MustEnd, HasAnswer, HasWaited, OnceHeard, Owes, TheAck, ThePassedOn, TheBest}
use Rattle.sip_model.specs.Access.{TheCancel, TheCopy, TheNext, Access}
use Rattle.model_laws.specs.Links.{knowing_open}
use Rattle.model_laws.specs.WrongAnswers.{two_called, busy}
use Rattle.model_laws.specs.WrongRequests.{ending, bye_open}
use Rattle.model_laws.specs.WrongSilence.{ringing_untold, busy_unacknowledged, busy_untold, cancel_withheld, bye_answered, copy_unanswered, silence_untold}
use Rattle.model_laws.specs.WrongSilence.{copy_withheld, deadline_passed}
use Rattle.sip_model.proofs.Places.{in_from_contains, contains_from_in}
use Rattle.model_laws.proofs.Refused.{holds_of}
use Rattle.model_laws.proofs.Messages.{busy_said, busy_is_for, first_ringing_said, ending_said, ending_key}
use Rattle.model_laws.proofs.Coming.{differ}
use Rattle.model_laws.proofs.CallAnswers.{caller_is}
use Rattle.model_laws.proofs.Taken.{response_taken, copy_taken}

-- ---- lists

-- nothing is in an empty list
none_in : {X : Type 0} (x : X) → Contains [] x → ⊥
none_in x there = in_from_contains [] x there

-- what follows for each of a list holds of all of it
each_of : {X : Type 0} (P : X → Type 0) (xs : List X) → ((x : X) → Contains xs x → P x) → AllByRecursion P xs
each_of P [] follows = tt
each_of P (x ∷ xs) follows = (
  follows x (contains_from_in (x ∷ xs) x (inl refl)),
  each_of P xs
      (λ y there. follows y (contains_from_in (x ∷ xs) y (inr (in_from_contains xs y there)))),
)

-- one of one
one_in : {X : Type 0} (x : X) → Contains (x ∷ []) x
one_in x = contains_from_in (x ∷ []) x (inl refl)

-- a 180 is no 100
not_trying : ◌≡◌ {A = ℕ} 180 100 → ⊥
not_trying e = differ 180 100 refl refl (ap (λ (n : ℕ). Some n) e)

-- ---- which branch a response is for

ringing_is_for : responding sample (one_target ∷ []) (ringing_from 1).fields ≡ Some (one_target, first_branch)
unfolding digits encode_with rest_of reading_of core_in nonce_text
ringing_is_for = refl

marked_is_for : responding sample (marked_target ∷ []) (ringing_from 1).fields ≡ Some (marked_target, marked_branch)
unfolding digits encode_with rest_of reading_of core_in nonce_text
marked_is_for = refl

one_busy_is_for : responding sample (one_target ∷ []) busy.fields ≡ Some (one_target, first_branch)
unfolding digits encode_with rest_of reading_of core_in nonce_text
one_busy_is_for = refl

-- where the one target ends, no other is left
alone : OthersEnded one_target first_branch
alone = ((λ target other. absurd (true≢false other)), tt)

-- so its caller is owed an answer
owes_best : (link : Link) (last : Final) → is_some (best_of (last ∷ [])) ≡ true → Contains link.before.requests one_target
    → MustEnd sample link one_target first_branch last → ((p : Packet) → Owes sample link p → p.to.port ≡ 5070 → ⊥) → ⊥
owes_best link last some there ends refuses = by_best (best_of (last ∷ [])) refl where
  by_best : (o : Option Final) → best_of (last ∷ []) ≡ o → ⊥
  by_best None e = true≢false (sym some ∙ ap is_some e)
  by_best (Some best) e = refuses (answer_to false one_target (text_of (upward_of sample one_target best).message))
      (TheBest one_target first_branch last best there (one_in first_branch) refl refl ends alone refl e) caller_is

-- ---- responses

module _ (known after : ProxyState) (earlier : List Link) where
  pub ringing_refused : Access sample (ringing_untold known after ∷ earlier) → ⊥
  ringing_refused access =
      let link : Link = ringing_untold known after in
      let taken : IsTakenFor sample link (ringing_from 1) (Respond one_target first_branch 180) =
      response_taken sample link 63000 9 (local 5082) (text_of (ringing_from 1)) (ringing_from 1) refl first_ringing_said one_target first_branch 180 (codes "Ringing")
      refl ringing_is_for refl in
      let told : Packet = answer_to false one_target (text_of (without_top_via (ringing_from 1))) in
      none_in told (access.0.pays told (ThePassedOn one_target first_branch 180 (ringing_from 1) taken refl (Early refl not_trying refl refl)))

  pub unacknowledged_refused : Access sample (busy_unacknowledged known after ∷ earlier) → ⊥
  unacknowledged_refused access =
      let link : Link = busy_unacknowledged known after in
      let taken : IsTakenFor sample link busy (Respond two_called first_branch 486) =
      response_taken sample link 63500 9 (local 5082) (text_of busy) busy refl busy_said two_called first_branch 486 (codes "Busy Here") refl busy_is_for refl in
      (each_of (λ (p : Packet). ⊥) (ack_packets sample false two_called first_branch (first_value Name.To busy.fields))
      (λ p has. none_in p (access.0.pays p (TheAck two_called first_branch 486 busy p taken refl refl refl refl has)))).0

  pub busy_refused : Access sample (busy_untold known after ∷ earlier) → ⊥
  busy_refused access =
      let link : Link = busy_untold known after in
      let taken : IsTakenFor sample link busy (Respond one_target first_branch 486) =
      response_taken sample link 63500 9 (local 5082) (text_of busy) busy refl busy_said one_target first_branch 486 (codes "Busy Here") refl one_busy_is_for refl in
      owes_best link (final_of 486 busy) refl (one_in one_target) (HasAnswer 486 busy taken refl refl)
      (λ p owed to_caller. holds_of (λ (q : Packet). q.to.port ≡ 5070 → ⊥) link.out.packets p ((λ e. differ 5082 5070 refl refl (ap (λ (n : ℕ). Some n) e)), tt)
      (access.0.pays p owed) to_caller)

  -- ---- CANCELs

  pub withheld_refused : Access sample (cancel_withheld known after ∷ earlier) → ⊥
  withheld_refused access =
      let link : Link = cancel_withheld known after in
      let taken : IsTakenFor sample link (ringing_from 1) (Respond marked_target marked_branch 180) =
      response_taken sample link 63500 9 (local 5082) (text_of (ringing_from 1)) (ringing_from 1) refl first_ringing_said marked_target marked_branch 180
      (codes "Ringing") refl marked_is_for refl in
      differ 5082 5070 refl refl (ap (λ (n : ℕ). Some n) (each_of (λ (p : Packet). p.to.port ≡ 5070)
      (to_branch marked_target marked_branch 0 false (cancel_of (request_of sample marked_target marked_branch)))
      (λ p has. holds_of (λ (q : Packet). q.to.port ≡ 5070) link.out.packets p (caller_is, tt)
      (access.0.pays p (TheCancel marked_target marked_branch p (one_in marked_target) (one_in marked_branch) refl refl
      (OnceHeard 180 (ringing_from 1) taken refl refl refl) has)))).0)

  -- ---- copies

  pub unanswered_refused : Access sample (copy_unanswered known after ∷ earlier) → ⊥
  unanswered_refused access =
      let link : Link = copy_unanswered known after in
      let taken : IsTakenFor sample link ending (Copy bye_answered) =
      copy_taken sample link 70300 9 (local 5070) (text_of ending) ending refl ending_said (codes "BYE") help_text (codes "SIP/2.0") bye_open.key bye_answered refl refl
      ending_key refl in
      (each_of (λ (p : Packet). ⊥) (answers_again bye_answered bye_answered.answer) (λ p has.
      none_in p (access.0.pays p (TheCopy bye_answered ending p taken refl has)))).0

  -- ---- time

  pub passed_refused : Access sample (deadline_passed known after ∷ earlier) → ⊥
  passed_refused access = by_numbers access.0.none_passed.0 where
    by_numbers : 95000 ≤ 94000 → ⊥
    by_numbers e = absurd (omega (arith, e))

module _ (known : ProxyState) (earlier : List Link) where
  pub silence_refused : Access sample (silence_untold known ∷ earlier) → ⊥
  silence_refused access =
      let link : Link = silence_untold known in
      owes_best link (record { status = 408; message = None }) refl (one_in one_target)
      (HasWaited (record { status = 408; message = None }) (record { until = 94000; is_passing = refl; is_left = λ stays. none_in stays.request stays.is_open })
      (BySilence refl))
      (λ p owed to_caller. none_in p (access.0.pays p owed))

  pub copy_refused : Access sample (copy_withheld known ∷ earlier) → ⊥
  copy_refused access =
      let link : Link = copy_withheld known in
      (each_of (λ (p : Packet). ⊥) (branch_packets sample true one_target first_branch)
      (λ p has. none_in p (access.0.pays p (TheNext one_target first_branch 62500 p refl (one_in one_target) (one_in first_branch) only refl
      (differ 94000 62500 refl refl) moved has)))).0 where
        only : (x : Branch) → Contains one_target.branches x → is_same_branch x first_branch ≡ true → x ≡ first_branch
        only x there same = holds_of (λ (y : Branch). y ≡ first_branch) one_target.branches x (refl, tt) there

        later : Branch
        later = record first_branch { again = record { due = 63500; wait = 1000 } }

        moved : KeepsMoment (knowing_open known 5 62500 (record one_target { branches = later ∷ [] } ∷ [])) one_target first_branch → ⊥
        moved keeps =
            let request : keeps.stays.request ≡ record one_target { branches = later ∷ [] } =
            holds_of (λ (x : OpenRequest). x ≡ record one_target { branches = later ∷ [] }) (record one_target { branches = later ∷ [] } ∷ []) keeps.stays.request
            (refl, tt) keeps.stays.is_open in
            let branch : keeps.stays.branch ≡ later = holds_of (λ (x : Branch). x ≡ later) (later ∷ []) keeps.stays.branch (refl, tt)
            (subst (λ (x : OpenRequest). Contains x.branches keeps.stays.branch) request keeps.stays.is_there) in
            differ 63500 62500 refl refl (ap (λ (x : Branch). Some x.again.due) (sym branch) ∙ ap (λ (x : Resend). Some x.due) keeps.goes_then)
