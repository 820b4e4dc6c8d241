-- Requests, CANCELs and ACKs that don't go.
use Rattle.std.proofs.Common.{◌≡◌, ◌⊎◌, inl, inr, ℕ, false, List, [], ◌∷◌, Contains, Some, codes, refl, sym, ap, ◌∙◌, true≢false}
use Rattle.std.proofs.lemmas.List.Elements.{Contains-append_cases}
use Rattle.sip_message_form.specs.declared.message.Message.{Message}
use Rattle.sip_message_form.specs.Text.{text_of}
use Rattle.sip_hops.specs.Examples.{local}
use Rattle.sip_best.specs.declared.final_answer.Final.{Final}
use Rattle.sip_model.specs.state.declared.server.Server.{Server}
use Rattle.sip_model.specs.state.declared.branch.Branch.{Branch}
use Rattle.sip_model.specs.state.declared.branch.Phase.TheVariants.{Heard, Cancelled}
use Rattle.sip_model.specs.state.declared.open_request.OpenRequest.{OpenRequest}
use Rattle.sip_model.specs.state.declared.proxy_state.ProxyState.{ProxyState}
use Rattle.sip_model.specs.state.State.{is_success, is_final, is_provisional, phase_deadline}
use Rattle.sip_model.specs.context_model.Calls.{marked_at, first_ringing, one_rings, second_branch, cancelled_target}
use Rattle.sip_model.specs.steps_model.Examples.{sample, help_text}
use Rattle.sip_model.specs.Run.{Link}
use Rattle.sip_model.specs.Access.{ComesNow, EndsNow, IsHeardNow, IsCancelledNow, WasGivenUp, ByCaller, ByAnswer, Access}
use Rattle.model_laws.specs.WrongRequests.{ending, bye_open, copy_goes_on, unwanted_cancel, busy, busy_branch, one_busy, acknowledged_twice, cancel_refused}
use Rattle.model_laws.specs.WrongRequests.{cancel_there, acknowledged_cancel}
use Rattle.model_laws.proofs.Refused.{some_is_not_none, holds_of, is_datagram, not_said, nothing_comes, NothingComes, IsIdle, sends_nothing, not_ready, no_target}
use Rattle.model_laws.proofs.Refused.{idle_without}
use Rattle.model_laws.proofs.Said.{said_is, status_or, request_comes_for_none, response_comes_for, response_gets_nothing, open_gets_nothing}
use Rattle.model_laws.proofs.Messages.{ending_said, ending_key, ending_is_open, busy_said, busy_again_is_for, refused_said, refused_is_for}
use Rattle.model_laws.proofs.Coming.{differ, refusal_not_passed, EndsHow, ends_how, unheard_goes_on}

-- ---- a copy of a BYE

module _ (known after : ProxyState) (earlier : List Link) where
  abbrev copied : Link
  copied = copy_goes_on known after

  -- the BYE that is open waits for its answer
  waits : IsIdle sample (copied ∷ earlier) copied.before copied.act 70300 bye_open
  waits =
      idle_without sample copied.before copied.act (copied ∷ earlier) 70300 (request_comes_for_none sample copied.before 70300 9 (local 5070) (text_of ending) ending
      ending_said refl) refl bye_open
      (λ answering. (differ 102000 70300 refl refl, tt)) (λ cancelled. true≢false (sym cancelled.is_of_invite), tt)

  pub copied_refused : Access sample (copied ∷ earlier) → ⊥
  copied_refused access =
      some_is_not_none _ _
      (sends_nothing sample earlier copied (waits, tt)
      (open_gets_nothing sample copied.before 70300 9 (local 5070) (text_of ending) ending ending_said (codes "BYE") help_text (codes "SIP/2.0") bye_open.key bye_open
      refl refl ending_key ending_is_open) access)

-- ---- a CANCEL

-- what gave a request up before a step that is no datagram, did so before
pub given_up_before : (server : Server) (link : Link) (earlier : List Link) (number : ℕ)
    → is_datagram link.act ≡ false → WasGivenUp server (link ∷ earlier) number → WasGivenUp server earlier number
given_up_before server link earlier number quiet (ByCaller was) = by_case (Contains-append_cases (link ∷ []) earlier was.link was.is_there) where
  by_case : Contains (link ∷ []) was.link ⊎ Contains earlier was.link → WasGivenUp server earlier number
  by_case (inl now) =
      absurd
      (not_said server was.link.before was.link.act (ap (λ (x : Link). is_datagram x.act) (holds_of (λ (x : Link). x ≡ link) (link ∷ []) was.link (refl, tt) now) ∙ quiet)
      was.a was.bytes was.m was.short
      was.is_said)
  by_case (inr there) =
      ByCaller
      (record {
        link = was.link;
        a = was.a;
        bytes = was.bytes;
        m = was.m;
        short = was.short;
        key = was.key;
        request = was.request;
        is_there = there;
        is_said = was.is_said;
        is_cancel = was.is_cancel;
        key_is = was.key_is;
        names_it = was.names_it;
        is_number = was.is_number;
      })
given_up_before server link earlier number quiet (ByAnswer status response came ends) = by_case (Contains-append_cases (link ∷ []) earlier came.link came.is_there) where
  by_case : Contains (link ∷ []) came.link ⊎ Contains earlier came.link → WasGivenUp server earlier number
  by_case (inl now) =
      absurd
      (not_said server came.link.before came.link.act (ap (λ (x : Link). is_datagram x.act) (holds_of (λ (x : Link). x ≡ link) (link ∷ []) came.link (refl, tt) now)
      ∙ quiet) came.a came.bytes response
      false came.is_said)
  by_case (inr there) =
      ByAnswer status response
      (record {
        link = came.link;
        a = came.a;
        bytes = came.bytes;
        reason = came.reason;
        request = came.request;
        branch = came.branch;
        is_there = there;
        is_said = came.is_said;
        is_response = came.is_response;
        is_for = came.is_for;
        is_number = came.is_number;
        is_target = came.is_target;
      })
      ends

module _ (known after : ProxyState) (earlier : List Link) where
  abbrev unwanted : Link
  unwanted = unwanted_cancel known after

  -- the target isn't to be cancelled
  rings_on : (WasGivenUp sample earlier 4 → ⊥) → IsCancelledNow sample (unwanted ∷ earlier) unwanted.before unwanted.act unwanted.out.at one_rings first_ringing → ⊥
  rings_on nobody cancelled = by_case cancelled.was_given_up where
    by_case : WasGivenUp sample (unwanted ∷ earlier) 4 ⊎ (first_ringing.phase ≡ Heard unwanted.out.at) → ⊥
    by_case (inl given) = nobody (given_up_before sample unwanted earlier 4 refl given)
    by_case (inr due) = differ 248000 unwanted.out.at refl refl (ap phase_deadline due)

  pub unwanted_refused : (WasGivenUp sample earlier 4 → ⊥) → Access sample (unwanted ∷ earlier) → ⊥
  unwanted_refused nobody access =
      some_is_not_none _ _
      (sends_nothing sample earlier unwanted (
        idle_without sample unwanted.before unwanted.act (unwanted ∷ earlier) unwanted.out.at (nothing_comes sample unwanted.before unwanted.act refl) refl one_rings
            (λ answering. (differ 248000 unwanted.out.at refl refl, tt)) (rings_on nobody, tt),
        tt,
      ) refl access)

-- ---- ACKs

module _ (known after : ProxyState) (earlier : List Link) where
  abbrev again : Link
  again = acknowledged_twice known after

  -- the 486 comes for the target that was busy before
  busy_for : (r : OpenRequest) (b : Branch) (status : ℕ) (response : Message) → ComesNow sample again.before again.act r b status response
      → (b ≡ busy_branch) × (status ≡ 486)
  busy_for r b status response comes =
      response_comes_for sample again.before 63500 9 (local 5082) (text_of busy) busy busy_said r one_busy b busy_branch status response busy_again_is_for comes

  -- a branch that has no final response isn't that one
  is_another : (b : Branch) → b ≡ busy_branch → is_final b.phase ≡ false → ⊥
  is_another b e going = true≢false (sym (ap (λ (x : Branch). is_final x.phase) e) ∙ going)

  -- no branch ends
  no_end : (b : Branch) (last : Final) → Contains one_busy.branches b → is_final b.phase ≡ false → EndsNow sample again.before again.act 63500 one_busy b last → ⊥
  no_end b last there going ends = by_how (ends_how sample again.before again.act 63500 refl one_busy b last ends) where
    by_how : EndsHow sample again.before again.act 63500 one_busy b → ⊥
    by_how (inl x) = is_another b (busy_for one_busy b x.0 x.1 x.2).0 going
    by_how (inr due) =
        holds_of (λ (x : Branch). phase_deadline x.phase ≡ Some 63500 → ⊥) one_busy.branches b (differ 95000 63500 refl refl, (differ 94000 63500 refl refl, tt)) there
        due

  -- a 486 is no provisional response
  not_heard : (r : OpenRequest) (b : Branch) → IsHeardNow sample again.before again.act r b → ⊥
  not_heard r b now =
      true≢false
      (sym now.is_before_final
      ∙ ap is_provisional
      (ap status_or (sym now.is_response)
      ∙ ap (λ (n : Message). status_or n.start) (said_is sample again.before 63500 9 (local 5082) (text_of busy) busy busy_said now.a now.bytes now.response false
      now.is_said)))

  pub again_refused : Access sample (again ∷ earlier) → ⊥
  again_refused access =
      some_is_not_none _ _
      (sends_nothing sample earlier again (
        record {
          no_ack = λ b status response comes failure going. is_another b (busy_for one_busy b status response comes).0 going;
          no_answer = record {
            not_passed = λ b status response comes passed.
                refusal_not_passed one_busy b status (ap is_provisional (busy_for one_busy b status response comes).1)
                (ap is_success (busy_for one_busy b status response comes).1) passed;
            no_best = λ b last there going ends others answering. no_end b last there going ends;
          };
          no_cancel = (
            not_ready sample (again ∷ earlier) again.before again.act 63500 one_busy busy_branch refl refl,
            (unheard_goes_on sample again.before again.act 63500 (again ∷ earlier) one_busy second_branch refl (not_heard one_busy second_branch), tt),
          );
        },
        tt,
      )
      (response_gets_nothing sample again.before 63500 9 (local 5082) (text_of busy) busy busy_said refl) access)

module _ (known after : ProxyState) (earlier : List Link) where
  abbrev refused : Link
  refused = acknowledged_cancel known after

  -- the 481 comes for the CANCEL, and so for no target
  comes_for_none : NothingComes sample refused.before refused.act
  comes_for_none r b status response comes =
      true≢false
      (sym
      (ap (λ (x : Branch). x.is_cancel)
      (response_comes_for sample refused.before 63500 9 (local 5082) (text_of cancel_refused) cancel_refused refused_said r (cancelled_target 95000) b cancel_there status
      response refused_is_for comes).0)
      ∙ comes.is_target)

  pub cancel_refused_refused : Access sample (refused ∷ earlier) → ⊥
  cancel_refused_refused access =
      some_is_not_none _ _
      (sends_nothing sample earlier refused (
        idle_without sample refused.before refused.act (refused ∷ earlier) 63500 comes_for_none refl (cancelled_target 95000)
            (λ answering. (differ 95000 63500 refl refl, (differ 95000 63500 refl refl, tt))) (
              not_ready sample (refused ∷ earlier) refused.before refused.act 63500 (cancelled_target 95000) (marked_at 1 5082 (Cancelled 95000)) refl refl,
              (no_target sample (refused ∷ earlier) refused.before refused.act 63500 (cancelled_target 95000) cancel_there refl, tt),
            ),
        tt,
      )
      (response_gets_nothing sample refused.before 63500 9 (local 5082) (text_of cancel_refused) cancel_refused refused_said refl) access)
