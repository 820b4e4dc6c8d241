-- What each change of an open request sends is what a step may send for it: responses.
use Rattle.std.proofs.Common.{◌≡◌, ◌⊎◌, inl, inr, ℕ, ◌+◌, ◌==◌, Bool, true, false, not, ◌&&◌, ◌||◌, cond, List, [], ◌∷◌, ◌++◌, map, Contains, Option, Some, None, refl}
use Rattle.std.proofs.Common.{sym, ap, subst, ◌∙◌, true≢false, arith}
use Rattle.std.specs.List.{AllByRecursion}
use Rattle.std.proofs.lemmas.Bool.Decides.{nat_tests}
use Rattle.sip_message_fields.specs.declared.field_name.FieldName.TheVariants as Name
use Rattle.sip_message_fields.specs.Values.{first_value}
use Rattle.sip_message_form.specs.declared.message.Message.{Message}
use Rattle.sip_best.specs.declared.final_answer.Final.{Final}
use Rattle.sip_best.specs.Best.{best_of}
use Rattle.sip_event.specs.declared.packet.Packet.{Packet}
use Rattle.model_steps.specs.state.declared.server.Server.{Server}
use Rattle.model_steps.specs.state.declared.branch.Branch.{Branch}
use Rattle.model_steps.specs.state.declared.branch.Phase.{Phase}
use Rattle.model_steps.specs.state.declared.branch.Phase.TheVariants.{Unheard, Heard, Cancelled, Done, Ended}
use Rattle.model_steps.specs.state.declared.open_request.Side.TheVariants.{Closing}
use Rattle.model_steps.specs.state.declared.open_request.OpenRequest.{OpenRequest}
use Rattle.model_steps.specs.state.declared.open_request.Upward.{Upward}
use Rattle.model_steps.specs.state.declared.proxy_state.ProxyState.{ProxyState}
use Rattle.model_steps.specs.state.State.{is_invite, is_final, is_answering, is_success, is_failure, is_decline, is_provisional}
use Rattle.model_steps.specs.context_model.Branches.{all_final, best_upward, upward_list, after_upward, answered, is_cancellable, is_ready, is_unheard, is_same_branch}
use Rattle.model_steps.specs.context_model.Branches.{is_accepted, settled, relayed_from, relayed_provisional, relayed_success, further, turned, phased, with_phase}
use Rattle.model_steps.specs.context_model.Branches.{with_final, marked, marked_branch, heard, invite_heard, other_heard, linger, final_of, acks_of, told_to, with_answer}
use Rattle.model_steps.specs.context_model.Branches.{target_responded}
use Rattle.model_steps.specs.context_model.Sending.{ack_packets}
use Rattle.model_steps.specs.Effect.{change_packets, upward_packets}
use Rattle.model_steps.specs.Step.{Act}
use Rattle.sip_model.specs.Run.{Link}
use Rattle.sip_model.specs.Access.{CameFor, IsHeardNow, ComesNow, IsAckNow, NoAck, Acks, IsAnswerNow, Early, Accepting, TakesSuccess, ByResponse, OthersEnded}
use Rattle.sip_model.specs.Access.{IsMadeLater, IsCancelledNow, ByAnswer}
use Rattle.sip_model.proofs.Lists.{all_there}
use Rattle.sip_model.proofs.Places.{all_weaker}
use Rattle.sip_model.proofs.Settling.{all_append}
use Rattle.sip_model.proofs.Apart.{TargetsDiffer}
use Rattle.sip_model.proofs.MadeFinals.{IsMadeFinal}
use Rattle.sip_model.proofs.Later.{bare}
use Rattle.sip_model.proofs.Edits.{is_that_one, Edits, phased_edits, marked_edits, targets_final, were_final, others_were_final, waits_still, map_same, map_both}
use Rattle.sip_model.proofs.ForOpen.{cancellable_parts, IsKept, MaySend, IsRight, for_open, unedited, nothing_goes, one_goes, best_goes}

-- ---- statuses and phases

-- a 2xx isn't provisional
pub success_final : (status : ℕ) → is_success status ≡ true → is_provisional status ≡ false
success_final status e = grind (arith, nat_tests)

-- a provisional response leaves a phase as final as it was
heard_final : (invite : Bool) (now status : ℕ) (phase : Phase) → is_final (cond invite (invite_heard now status phase) (other_heard phase)) ≡ is_final phase
heard_final true now status (Unheard due) = by_test (status == 100) where
  by_test : (t : Bool) → is_final (cond t (Heard (due + 153000)) (Heard (now + 185000))) ≡ false
  by_test true = refl
  by_test false = refl
heard_final true now status (Heard due) = by_test (status == 100) where
  by_test : (t : Bool) → is_final (cond t (Heard due) (Heard (now + 185000))) ≡ false
  by_test true = refl
  by_test false = refl
heard_final true now status (Cancelled due) = refl
heard_final true now status (Done due first) = refl
heard_final true now status Ended = refl
heard_final false now status (Unheard due) = refl
heard_final false now status (Heard due) = refl
heard_final false now status (Cancelled due) = refl
heard_final false now status (Done due first) = refl
heard_final false now status Ended = refl

-- a branch that is ready after it was, or nothing had been heard of it
heard_ready : (invite : Bool) (now status : ℕ) (phase : Phase) → is_ready (cond invite (invite_heard now status phase) (other_heard phase)) ≡ true
    → (is_ready phase ≡ true) ⊎ (is_unheard phase ≡ true)
heard_ready invite now status (Unheard due) e = inr refl
heard_ready invite now status (Heard due) e = inl refl
heard_ready true now status (Cancelled due) e = absurd (cc)
heard_ready true now status (Done due first) e = absurd (cc)
heard_ready true now status Ended e = absurd (cc)
heard_ready false now status (Cancelled due) e = absurd (cc)
heard_ready false now status (Done due first) e = absurd (cc)
heard_ready false now status Ended e = absurd (cc)

-- a branch without a final response takes a 2xx
takes_success : (r : OpenRequest) (phase : Phase) → is_final phase ≡ false → TakesSuccess r phase
takes_success r (Unheard due) e = tt
takes_success r (Heard due) e = tt
takes_success r (Cancelled due) e = tt
takes_success r (Done due first) e = absurd (cc)
takes_success r Ended e = absurd (cc)

-- a final answer that goes up closes the side
closes : (now : ℕ) (u : Upward) (s : OpenRequest) → is_provisional u.status ≡ false → is_answering (answered now u s).side ≡ false
closes now u s final = by_tests (is_answering s.side) refl (is_provisional u.status) final where
  by_tests : (t : Bool) → is_answering s.side ≡ t → (p : Bool) → p ≡ false → is_answering (cond (t && not p) (Closing (now + 32000)) s.side) ≡ false
  by_tests true is true e = absurd (true≢false e)
  by_tests true is false e = refl
  by_tests false is p e = is

-- What is known of an open request before a step: it is open, its branches differ, it waits for one while it owes an answer, and what is kept of its branches and of
-- their answers.
pub record IsKnown (server : Server) (history : List Link) (state : ProxyState) (act : Act) (at : ℕ) (r : OpenRequest) : Type 0 where
  pub there : Contains state.requests r
  pub differ : TargetsDiffer r.branches
  pub waits : is_answering r.side ≡ true → all_final r ≡ false
  pub kept : AllByRecursion (IsKept server history state act at r) r.branches
  pub made : AllByRecursion IsMadeFinal r.finals
  pub best_is_made : (finals : List Final) (best : Final) → AllByRecursion IsMadeFinal finals → best_of finals ≡ Some best → best.message ≡ None → IsMadeLater best.status

module _ (server : Server) (history : List Link) (state : ProxyState) (act : Act) (at : ℕ) (r : OpenRequest) (known : IsKnown server history state act at r) where
  -- what may be sent for the request
  abbrev pub Sends : List Packet → Type 0
  Sends packets = MaySend server history state act at r packets

  -- one more final answer keeps the best one made here, if it is
  pub best_with : (last best : Final) → IsMadeFinal last → best_of (r.finals ++ last ∷ []) ≡ Some best → best.message ≡ None → IsMadeLater best.status
  best_with last best made is none = known.best_is_made (r.finals ++ last ∷ []) best (all_append IsMadeFinal r.finals (last ∷ []) known.made (made, tt)) is none

  -- ---- branches that stay

  -- each branch of an edit that leaves what is ready for a CANCEL
  pub each_right : (edit : Branch → Branch) → ((x : Branch) → IsKept server history state act at r x → IsRight server history state act at r edit x)
      → AllByRecursion (IsRight server history state act at r edit) r.branches
  each_right edit right = all_weaker (IsKept server history state act at r) (IsRight server history state act at r edit) r.branches right known.kept

  -- an edit of one branch, after which that isn't ready
  pub not_ready : (c : Branch) (phase : Phase) → is_ready phase ≡ false → (x : Branch) → IsKept server history state act at r x
      → IsRight server history state act at r (phased c phase) x
  not_ready c phase never x kept = by_same (is_same_branch x c) where
    by_same : (t : Bool) → is_cancellable (cond t (turned c phase x) x) ≡ true → IsCancelledNow server history state act at r x
    by_same true passes = absurd (true≢false (sym (cancellable_parts (turned c phase x) passes).2 ∙ never))
    by_same false passes = unedited server history state act at r x kept passes

  -- a request that still waits for a branch after an edit that makes none final
  pub still_waits : (edit : Branch → Branch) → ((x : Branch) → (edit x).is_cancel ≡ x.is_cancel)
      → ((x : Branch) → Contains r.branches x → x.is_cancel ≡ false → is_final (edit x).phase ≡ true → is_final x.phase ≡ true)
      → is_answering r.side ≡ true → targets_final (map edit r.branches) ≡ false
  still_waits edit keeps back owes =
      waits_still r.branches (map edit r.branches)
      (were_final edit r.branches keeps (all_weaker (Contains r.branches) (λ (x : Branch). x.is_cancel ≡ false → is_final (edit x).phase ≡ true → is_final x.phase ≡ true)
      r.branches back (all_there r.branches)))
      (known.waits owes)

  -- ---- nothing changes but a phase

  -- a branch whose phase changes, and nothing goes to the caller
  pub phase_sends : (c : Branch) (phase : Phase) → is_ready phase ≡ false → ((x : Branch) → Contains r.branches x → x.is_cancel ≡ false → is_same_branch x c ≡ true
      → is_final phase ≡ true → is_final x.phase ≡ true)
      → Sends (change_packets (settled server at [] None (with_phase c phase r)))
  phase_sends c phase never back =
      let edits : Edits c (phased c phase) = phased_edits c c phase (λ x. refl) in
      for_open server history state act at r known.there [] None (with_phase c phase r) (phased c phase)
      (record { is_same = refl; branches = refl; goes = edits.goes; keeps = edits.keeps }) NoAck
      (nothing_goes server history state act at r (with_phase c phase r) (still_waits (phased c phase) edits.keeps
      (λ x in_it target. by_same x in_it target (is_same_branch x c) refl)))
      (each_right (phased c phase) (not_ready c phase never)) where
        by_same : (x : Branch) → Contains r.branches x → x.is_cancel ≡ false → (t : Bool) → is_same_branch x c ≡ t → is_final (cond t (turned c phase x) x).phase ≡ true
            → is_final x.phase ≡ true
        by_same x in_it target true same final = back x in_it target same final
        by_same x in_it target false same final = final

  -- nothing at all
  pub rests : (s : OpenRequest) → bare s ≡ bare r → s.branches ≡ r.branches → (is_answering s.side ≡ true → is_answering r.side ≡ true)
      → Sends (change_packets (settled server at [] None s))
  rests s same branches owed =
      for_open server history state act at r known.there [] None s (λ (x : Branch). x)
      (record { is_same = same; branches = branches ∙ map_same r.branches; goes = λ x. refl; keeps = λ x. refl }) NoAck
      (nothing_goes server history state act at r s (λ owes. ap targets_final branches ∙ known.waits (owed owes)))
      (each_right (λ (x : Branch). x) (λ x kept passes. unedited server history state act at r x kept passes))

  -- ---- a response to a branch to a target

  module _ (b : Branch) (status : ℕ) (m : Message) (comes : ComesNow server state act r b status m) (in_it : Contains r.branches b) where
    -- a branch that is the same as this one is this one
    one : (x : Branch) → Contains r.branches x → is_same_branch x b ≡ true → x ≡ b
    one x here same = is_that_one r.branches x b known.differ here in_it comes.is_target same

    -- a provisional response
    early_sends : is_provisional status ≡ true → Sends (change_packets (settled server at [] (relayed_provisional r b status m)
        (with_phase b (heard r at status b.phase) r)))
    early_sends early =
        for_open server history state act at r known.there [] (relayed_provisional r b status m) s (phased b phase)
        (record { is_same = refl; branches = refl; goes = edits.goes; keeps = edits.keeps }) NoAck
        (by_tests (status == 100) refl (is_final b.phase) refl (is_answering r.side) refl)
        (each_right (phased b phase) (λ x kept. right x kept (is_same_branch x b) refl)) where
          phase : Phase
          phase = heard r at status b.phase

          s : OpenRequest
          s = with_phase b phase r

          edits : Edits b (phased b phase)
          edits = phased_edits b b phase (λ x. refl)

          back : (x : Branch) → Contains r.branches x → (t : Bool) → is_same_branch x b ≡ t → is_final (cond t (turned b phase x) x).phase ≡ true
              → is_final x.phase ≡ true
          back x here true same final = ap (λ (y : Branch). is_final y.phase) (one x here same) ∙ sym (heard_final (is_invite r) at status b.phase) ∙ final
          back x here false same final = final

          waits : is_answering r.side ≡ true → all_final s ≡ false
          waits owes = still_waits (phased b phase) edits.keeps (λ x here target. back x here (is_same_branch x b) refl) owes

          heard_now : IsHeardNow server state act r b
          heard_now = record {
            a = comes.a;
            bytes = comes.bytes;
            status = status;
            reason = comes.reason;
            response = m;
            is_said = comes.is_said;
            is_response = comes.is_response;
            is_before_final = early;
            is_for = comes.is_for;
          }

          this_right : IsKept server history state act at r b → b.wants_cancel ≡ true → is_ready phase ≡ true → IsCancelledNow server history state act at r b
          this_right kept wants ready = by_phase (heard_ready (is_invite r) at status b.phase ready) where
            by_phase : (is_ready b.phase ≡ true) ⊎ (is_unheard b.phase ≡ true) → IsCancelledNow server history state act at r b
            by_phase (inl was) =
                record {
                  is_target = comes.is_target;
                  is_of_invite = kept.of_invite wants;
                  was_heard = inl was;
                  was_given_up = inl (kept.given_up wants (either_goes (is_unheard b.phase) (is_ready b.phase) was));
                } where
                  either_goes : (t u : Bool) → u ≡ true → (t || u) ≡ true
                  either_goes true u e = refl
                  either_goes false u e = e
            by_phase (inr never) =
                record {
                  is_target = comes.is_target;
                  is_of_invite = kept.of_invite wants;
                  was_heard = inr (never, heard_now);
                  was_given_up = inl (kept.given_up wants (ap (λ (t : Bool). t || is_ready b.phase) never));
                }

          right : (x : Branch) → IsKept server history state act at r x → (t : Bool) → is_same_branch x b ≡ t → is_cancellable (cond t (turned b phase x) x) ≡ true
              → IsCancelledNow server history state act at r x
          right x kept true same passes =
              let parts = cancellable_parts (turned b phase x) passes in
              let is : x ≡ b = one x kept.in_it same in
              subst (λ (y : Branch). IsCancelledNow server history state act at r y) (sym is)
              (this_right (subst (IsKept server history state act at r) is kept) (subst (λ (y : Branch). y.wants_cancel ≡ true) is parts.1) parts.2)
          right x kept false same passes = unedited server history state act at r x kept passes

          by_tests : (n : Bool) → (status == 100) ≡ n → (f : Bool) → is_final b.phase ≡ f → (o : Bool) → is_answering r.side ≡ o
              → IsAnswerNow server state act at r (upward_packets r (upward_list (cond (not n && not f && o) (Some (relayed_from b status m)) None)
              ++ upward_list (best_upward server (after_upward at (cond (not n && not f && o) (Some (relayed_from b status m)) None) s))))
          by_tests true hundred f final o owes = nothing_goes server history state act at r s waits
          by_tests false hundred true final o owes = nothing_goes server history state act at r s waits
          by_tests false hundred false final false owes = nothing_goes server history state act at r s waits
          by_tests false hundred false final true owes =
              one_goes server history state act at r s b status m comes (Early early (λ e. grind (arith, nat_tests)) final owes) (λ owed. waits owes)

    -- a further final response
    again_sends : is_final b.phase ≡ true → Sends (change_packets (settled server at [] (further r b b.phase status m) r))
    again_sends final =
        for_open server history state act at r known.there [] (further r b b.phase status m) r (λ (x : Branch). x)
        (record { is_same = refl; branches = map_same r.branches; goes = λ x. refl; keeps = λ x. refl }) NoAck
        (by_phase b.phase refl) (each_right (λ (x : Branch). x) (λ x kept passes. unedited server history state act at r x kept passes)) where
          Goes : Option Upward → Type 0
          Goes relayed = IsAnswerNow server state act at r (upward_packets r (upward_list relayed ++ upward_list (best_upward server (after_upward at relayed r))))

          silent : Goes None
          silent = nothing_goes server history state act at r r known.waits

          accepting : TakesSuccess r b.phase → (x : Bool) → is_success status ≡ x → (y : Bool) → (is_answering r.side || is_accepted r) ≡ y
              → Goes (cond (x && y) (Some (relayed_from b status m)) None)
          accepting takes true success true owes =
              one_goes server history state act at r r b status m comes (Accepting success takes owes)
              (λ owed. absurd (true≢false (sym owed ∙ closes at (relayed_from b status m) r (success_final status success))))
          accepting takes true success false owes = silent
          accepting takes false success y owes = silent

          by_phase : (phase : Phase) → b.phase ≡ phase → Goes (further r b phase status m)
          by_phase (Unheard due) is = silent
          by_phase (Heard due) is = silent
          by_phase (Cancelled due) is = silent
          by_phase (Done due first) is = by_first (is_invite r) refl (is_success first) refl where
            by_first : (i : Bool) → is_invite r ≡ i → (f : Bool) → is_success first ≡ f → Goes (cond (i && f) (relayed_success r b status m) None)
            by_first true invite true well = accepting (subst (TakesSuccess r) (sym is) (invite, well)) (is_success status) refl (is_answering r.side || is_accepted r)
                refl
            by_first true invite false well = silent
            by_first false invite f well = silent
          by_phase Ended is = silent

    -- ---- the first final response

    module _ (came : CameFor server history r.number status m) (late : is_provisional status ≡ false) (first : is_final b.phase ≡ false) where
      abbrev told : Branch
      told = told_to r b status m

      abbrev phase : Phase
      phase = Done (at + linger r) status

      abbrev between : OpenRequest
      between = with_final (final_of status m) (with_phase told phase r)

      acknowledges : (i : Bool) → is_invite r ≡ i → (f : Bool) → is_failure status ≡ f
          → IsAckNow server state act r (cond (i && f) (ack_packets server false r b (first_value Name.To m.fields)) [])
      acknowledges true invite true failure = Acks b status m comes invite failure first
      acknowledges true invite false failure = NoAck
      acknowledges false invite f failure = NoAck

      module _ (t : Bool) (ended : t ≡ true → (is_invite r ≡ true) × ((is_success status || is_decline status) ≡ true)) where
        abbrev edit : Branch → Branch
        edit x = cond t (marked_branch (phased told phase x)) (phased told phase x)

        abbrev s : OpenRequest
        s = cond t (marked between) between

        told_same : (x : Branch) → is_same_branch x told ≡ is_same_branch x b
        told_same x = refl

        edits : Edits b edit
        edits = marked_edits b (phased told phase) t (phased_edits b told phase (λ x. told_same x))

        same : (u : Bool) → bare (cond u (marked between) between) ≡ bare r
        same true = refl
        same false = refl

        branches : (u : Bool) → (cond u (marked between) between).branches ≡ map (λ (x : Branch). cond u (marked_branch (phased told phase x)) (phased told phase x))
            r.branches
        branches true = map_both marked_branch (phased told phase) r.branches
        branches false = refl

        side : (u : Bool) → is_answering (cond u (marked between) between).side ≡ is_answering r.side
        side true = refl
        side false = refl

        finals : (u : Bool) → is_answering r.side ≡ true → (cond u (marked between) between).finals ≡ r.finals ++ final_of status m ∷ []
        finals true owes = ap (λ (v : Bool). cond v (r.finals ++ final_of status m ∷ []) r.finals) owes
        finals false owes = ap (λ (v : Bool). cond v (r.finals ++ final_of status m ∷ []) r.finals) owes

        never : (y : Branch) → is_ready y.phase ≡ false → (u : Bool) → is_cancellable (cond u y (record y { wants_cancel = true })) ≡ true → ⊥
        never y done true passes = true≢false (sym (cancellable_parts y passes).2 ∙ done)
        never y done false passes = true≢false (sym (cancellable_parts (record y { wants_cancel = true }) passes).2 ∙ done)

        right : (x : Branch) → IsKept server history state act at r x → (u : Bool) → u ≡ t → (v : Bool)
            → is_cancellable (cond u (marked_branch (cond v (turned told phase x) x)) (cond v (turned told phase x) x)) ≡ true
            → IsCancelledNow server history state act at r x
        right x kept true e true passes = absurd (never (turned told phase x) refl (x.is_cancel || true) passes)
        right x kept true e false passes = by_mark (x.is_cancel || is_final x.phase) passes where
          by_mark : (w : Bool) → is_cancellable (cond w x (record x { wants_cancel = true })) ≡ true → IsCancelledNow server history state act at r x
          by_mark true passes = unedited server history state act at r x kept passes
          by_mark false passes =
              let parts = cancellable_parts (record x { wants_cancel = true }) passes in
              let is = ended (sym e) in
              record { is_target = parts.0; is_of_invite = is.0; was_heard = inl parts.2; was_given_up = inl (ByAnswer status m came is.1) }
        right x kept false e true passes = absurd (true≢false (sym (cancellable_parts (turned told phase x) passes).2))
        right x kept false e false passes = unedited server history state act at r x kept passes

        others : all_final s ≡ true → OthersEnded r b
        others all = others_were_final b edit edits r.branches (ap targets_final (sym (branches t)) ∙ all)

        abbrev Goes : Option Upward → Type 0
        Goes relayed = IsAnswerNow server state act at r (upward_packets r (upward_list relayed ++ upward_list (best_upward server (after_upward at relayed s))))

        goes : (x : Bool) → is_success status ≡ x → (y : Bool) → (is_answering r.side || is_accepted r) ≡ y → Goes (cond (x && y) (Some (relayed_from b status m)) None)
        goes true success true owes =
            one_goes server history state act at r s b status m comes (Accepting success (takes_success r b.phase first) owes)
            (λ owed. absurd (true≢false (sym owed ∙ closes at (relayed_from b status m) s late)))
        goes true success false closed =
            nothing_goes server history state act at r s (λ owes. absurd (true≢false (sym (ap (λ (v : Bool). v || is_accepted r) (sym (side t) ∙ owes)) ∙ closed)))
        goes false success y owes =
            best_goes server history state act at r s b (final_of status m) (same t) in_it comes.is_target first (ByResponse status m comes late) (side t) (finals t)
            others
            (λ best is. best_with (final_of status m) best (λ none. absurd (cc)) is)

        whole : Sends (change_packets (settled server at (acks_of server r b status m) (relayed_success r b status m) s))
        whole =
            for_open server history state act at r known.there (acks_of server r b status m) (relayed_success r b status m) s edit
            (record { is_same = same t; branches = branches t; goes = edits.goes; keeps = edits.keeps }) (acknowledges (is_invite r) refl (is_failure status) refl)
            (goes (is_success status) refl (is_answering r.side || is_accepted r) refl) (each_right edit (λ x kept. right x kept t refl (is_same_branch x told)))

      -- it is what may be sent
      first_sends : Sends (change_packets (settled server at (acks_of server r b status m) (relayed_success r b status m) (with_answer r b at status m)))
      first_sends = by_end (is_invite r) refl (is_success status || is_decline status) refl where
        by_end : (i : Bool) → is_invite r ≡ i → (e : Bool) → (is_success status || is_decline status) ≡ e
            → Sends (change_packets (settled server at (acks_of server r b status m) (relayed_success r b status m) (cond (i && e) (marked between) between)))
        by_end true invite true end = whole true (λ same. (invite, end))
        by_end true invite false end = whole false (λ same. absurd (cc))
        by_end false invite e end = whole false (λ same. absurd (cc))

    -- any response to it
    pub target_sends : CameFor server history r.number status m → Sends (change_packets (target_responded server at r b status m))
    target_sends came = by_tests (is_provisional status) refl (is_final b.phase) refl where
      by_tests : (t : Bool) → is_provisional status ≡ t → (u : Bool) → is_final b.phase ≡ u
          → Sends (change_packets (cond t (settled server at [] (relayed_provisional r b status m) (with_phase b (heard r at status b.phase) r))
          (cond u (settled server at [] (further r b b.phase status m) r) (settled server at (acks_of server r b status m) (relayed_success r b status m)
          (with_answer r b at status m)))))
      by_tests true early u final = early_sends early
      by_tests false late true final = again_sends final
      by_tests false late false first = first_sends came late first
