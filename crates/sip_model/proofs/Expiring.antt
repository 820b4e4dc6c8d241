-- What each change of an open request sends is what a step may send for it: deadlines, faults, and the caller's CANCEL.
use Rattle.std.proofs.Common.{◌≡◌, inl, inr, ℕ, ◌+◌, ◌==◌, Bool, true, false, not, ◌&&◌, ◌||◌, cond, List, [], ◌∷◌, ◌++◌, map, Contains, Some, None, refl, sym, ap, ◌∙◌}
use Rattle.std.proofs.Common.{true≢false, arith, find}
use Rattle.std.proofs.lemmas.Bool.Decides.{nat_tests}
use Rattle.sip_message_form.specs.declared.message.Message.{Message}
use Rattle.sip_best.specs.declared.final_answer.Final.{Final}
use Rattle.sip_event.specs.declared.packet.Ticket.{Ticket}
use Rattle.sip_event.specs.declared.event.Event.TheVariants.{Fault}
use Rattle.model_steps.specs.state.declared.server.Server.{Server}
use Rattle.model_steps.specs.state.declared.branch.Branch.{Branch}
use Rattle.model_steps.specs.state.declared.branch.Phase.{Phase}
use Rattle.model_steps.specs.state.declared.branch.Phase.TheVariants.{Unheard, Heard, Cancelled, Done, Ended}
use Rattle.model_steps.specs.state.declared.open_request.Side.TheVariants.{Closed}
use Rattle.model_steps.specs.state.declared.open_request.OpenRequest.{OpenRequest}
use Rattle.model_steps.specs.state.declared.proxy_state.ProxyState.{ProxyState}
use Rattle.model_steps.specs.state.State.{is_invite, is_final, is_answering, is_provisional, phase_deadline}
use Rattle.model_steps.specs.context_model.Branches.{Change, is_cancellable, is_unheard, is_same_branch, settled, turned, phased, with_phase, given_up, marked}
use Rattle.model_steps.specs.context_model.Branches.{marked_branch, other_heard, cancel_responded, target_overdue, overdue, send_failed, cancelled}
use Rattle.model_steps.specs.Effect.{change_packets}
use Rattle.model_steps.specs.Step.{Act, Given, IsOverdue, OfSide, OfBranch, is_failed}
use Rattle.sip_model.specs.Run.{Link}
use Rattle.sip_model.specs.Access.{NoAck, EndsNow, BySilence, ByLaterSilence, ByCancel, ByFault, IsCancelledNow, ByCaller, WasCancelled}
use Rattle.sip_model.proofs.Places.{contains_from_in, found_in}
use Rattle.sip_model.proofs.Resending.{both_cancel}
use Rattle.sip_model.proofs.Later.{bare_branch}
use Rattle.sip_model.proofs.Edits.{is_that_one, Edits, phased_edits, others_were_final}
use Rattle.sip_model.proofs.ForOpen.{cancellable_parts, IsKept, for_open, unedited, nothing_goes, best_goes}
use Rattle.sip_model.proofs.MadeFinals.{IsMadeFinal}
use Rattle.sip_model.proofs.Sendings.{IsKnown, Sends, best_with, each_right, not_ready, still_waits, phase_sends, rests}

-- no CANCEL is the same branch as one to a target
other_kind : (x b : Branch) → b.is_cancel ≡ true → x.is_cancel ≡ false → is_same_branch x b ≡ true → ⊥
other_kind x b is_cancel target same = true≢false (sym (both_cancel x.is_cancel b.is_cancel (x.number == b.number) same ∙ is_cancel) ∙ target)

module _ (server : Server) (history : List Link) (state : ProxyState) (act : Act) (at : ℕ) (r : OpenRequest) (known : IsKnown server history state act at r) where
  -- ---- a response to a CANCEL

  -- a CANCEL in another phase
  cancel_in_phase : (b : Branch) (phase : Phase) → b.is_cancel ≡ true → Sends server history state act at r known
      (change_packets (settled server at [] None (with_phase b phase r)))
  cancel_in_phase b phase is_cancel =
      let edits : Edits b (phased b phase) = phased_edits b b phase (λ x. refl) in
      for_open server history state act at r known.there [] None (with_phase b phase r) (phased b phase)
      (record { is_same = refl; branches = refl; goes = edits.goes; keeps = edits.keeps }) NoAck
      (nothing_goes server history state act at r (with_phase b phase r) (still_waits server history state act at r known (phased b phase) edits.keeps
      (λ x in_it target. stays x target (is_same_branch x b) refl)))
      (each_right server history state act at r known (phased b phase) (λ x kept. right x kept (is_same_branch x b) refl)) where
        stays : (x : Branch) → x.is_cancel ≡ false → (t : Bool) → is_same_branch x b ≡ t → is_final (cond t (turned b phase x) x).phase ≡ true → is_final x.phase ≡ true
        stays x target true same final = absurd (other_kind x b is_cancel target same)
        stays x target false same final = final

        right : (x : Branch) → IsKept server history state act at r x → (t : Bool) → is_same_branch x b ≡ t → is_cancellable (cond t (turned b phase x) x) ≡ true
            → IsCancelledNow server history state act at r x
        right x kept true same passes = absurd (other_kind x b is_cancel (cancellable_parts (turned b phase x) passes).0 same)
        right x kept false same passes = unedited server history state act at r x kept passes

  -- a response to it
  pub cancel_sends : (b : Branch) (status : ℕ) (m : Message) → b.is_cancel ≡ true → Sends server history state act at r known
      (change_packets (cancel_responded server at r b status m))
  cancel_sends b status m is_cancel = by_tests (is_provisional status) (is_final b.phase) where
    by_tests : (t u : Bool) → Sends server history state act at r known (change_packets (cond t (settled server at [] None (with_phase b (other_heard b.phase) r))
        (cond u (settled server at [] None r) (settled server at [] None (with_phase b (Done (at + 5000) status) r)))))
    by_tests true u = cancel_in_phase b (other_heard b.phase) is_cancel
    by_tests false true = rests server history state act at r known r refl refl (λ owes. owes)
    by_tests false false = cancel_in_phase b (Done (at + 5000) status) is_cancel

  -- ---- a branch that ends

  -- a branch to a target ends without a response
  ends_sends : (b : Branch) (status : ℕ) → Contains r.branches b → b.is_cancel ≡ false → is_final b.phase ≡ false
      → EndsNow server state act at r b (record { status = status; message = None })
      → IsMadeFinal (record { status = status; message = None }) → Sends server history state act at r known
      (change_packets (settled server at [] None (given_up b status r)))
  ends_sends b status in_it target first ends made =
      let last : Final = record { status = status; message = None } in
      let edits : Edits b (phased b Ended) = phased_edits b b Ended (λ x. refl) in
      for_open server history state act at r known.there [] None (given_up b status r) (phased b Ended)
      (record { is_same = refl; branches = refl; goes = edits.goes; keeps = edits.keeps }) NoAck
      (best_goes server history state act at r (given_up b status r) b last refl in_it target first ends refl
      (λ owes. ap (λ (t : Bool). cond t (r.finals ++ last ∷ []) r.finals) owes)
      (others_were_final b (phased b Ended) edits r.branches) (λ best is. best_with server history state act at r known last best made is))
      (each_right server history state act at r known (phased b Ended) (not_ready server history state act at r known b Ended refl))

  -- Timer C of a branch of an INVITE that was heard
  timer_c_sends : (b : Branch) → Contains r.branches b → b.is_cancel ≡ false → is_invite r ≡ true → b.phase ≡ Heard at
      → Sends server history state act at r known (change_packets (settled server at [] None
      (record r { branches = map (λ (x : Branch). cond (is_same_branch x b) (record x { wants_cancel = true }) x) r.branches })))
  timer_c_sends b in_it target invite passes_now =
      for_open server history state act at r known.there [] None s edit (record {
        is_same = refl;
        branches = refl;
        goes = λ x. goes x (is_same_branch x b);
        keeps = λ x. keeps x (is_same_branch x b);
      }) NoAck
      (nothing_goes server history state act at r s (still_waits server history state act at r known edit (λ x. keeps x (is_same_branch x b))
      (λ x here target. stays x (is_same_branch x b))))
      (each_right server history state act at r known edit (λ x kept. right x kept (is_same_branch x b) refl)) where
        edit : Branch → Branch
        edit x = cond (is_same_branch x b) (record x { wants_cancel = true }) x

        s : OpenRequest
        s = record r { branches = map edit r.branches }

        goes : (x : Branch) (t : Bool) → bare_branch (cond t (record x { wants_cancel = true }) x) ≡ bare_branch x
        goes x true = refl
        goes x false = refl

        keeps : (x : Branch) (t : Bool) → (cond t (record x { wants_cancel = true }) x).is_cancel ≡ x.is_cancel
        keeps x true = refl
        keeps x false = refl

        stays : (x : Branch) (t : Bool) → is_final (cond t (record x { wants_cancel = true }) x).phase ≡ true → is_final x.phase ≡ true
        stays x true final = final
        stays x false final = final

        right : (x : Branch) → IsKept server history state act at r x → (t : Bool) → is_same_branch x b ≡ t
            → is_cancellable (cond t (record x { wants_cancel = true }) x) ≡ true → IsCancelledNow server history state act at r x
        right x kept true same passes =
            let parts = cancellable_parts (record x { wants_cancel = true }) passes in
            let is : x ≡ b = is_that_one r.branches x b known.differ kept.in_it in_it target same in
            record { is_target = parts.0; is_of_invite = invite; was_heard = inl parts.2; was_given_up = inr (ap (λ (y : Branch). y.phase) is ∙ passes_now) }
        right x kept false same passes = unedited server history state act at r x kept passes

  -- ---- deadlines

  -- the deadline of a branch to a target
  target_overdue_sends : (b : Branch) → Contains r.branches b → b.is_cancel ≡ false → (phase : Phase) → b.phase ≡ phase → phase_deadline phase ≡ Some at
      → Sends server history state act at r known (change_packets (settled server at [] None (target_overdue r b phase)))
  target_overdue_sends b in_it target (Unheard due) is passes =
      let now : due ≡ at = cc in
      ends_sends b 408 in_it target (ap is_final is) (BySilence (is ∙ ap Unheard now)) (λ none. inl refl)
  target_overdue_sends b in_it target (Heard due) is passes = by_invite (is_invite r) refl where
    now : due ≡ at
    now = cc

    by_invite : (t : Bool) → is_invite r ≡ t
        → Sends server history state act at r known (change_packets (settled server at [] None
        (cond t (record r { branches = map (λ (x : Branch). cond (is_same_branch x b) (record x { wants_cancel = true }) x) r.branches }) (given_up b 408 r))))
    by_invite true invite = timer_c_sends b in_it target invite (is ∙ ap Heard now)
    by_invite false invite = ends_sends b 408 in_it target (ap is_final is) (ByLaterSilence (is ∙ ap Heard now) invite) (λ none. inl refl)
  target_overdue_sends b in_it target (Cancelled due) is passes =
      let now : due ≡ at = cc in
      ends_sends b 487 in_it target (ap is_final is) (ByCancel (is ∙ ap Cancelled now)) (λ none. inr (inl refl))
  target_overdue_sends b in_it target (Done due status) is passes =
      phase_sends server history state act at r known b Ended refl (λ x here goes same final.
      ap (λ (y : Branch). is_final y.phase) (is_that_one r.branches x b known.differ here in_it target same) ∙ ap is_final is)
  target_overdue_sends b in_it target Ended is passes = rests server history state act at r known r refl refl (λ owes. owes)

  -- the deadline of a branch
  pub branch_overdue_sends : (b : Branch) → Contains r.branches b → phase_deadline b.phase ≡ Some at
      → Sends server history state act at r known (change_packets (overdue server at r b))
  branch_overdue_sends b in_it passes = by_cancel b.is_cancel refl where
    by_cancel : (t : Bool) → b.is_cancel ≡ t → Sends server history state act at r known
        (change_packets (settled server at [] None (cond t (with_phase b Ended r) (target_overdue r b b.phase))))
    by_cancel true is_cancel = cancel_in_phase b Ended is_cancel
    by_cancel false target = target_overdue_sends b in_it target b.phase refl passes

  -- any deadline
  pub overdue_sends : (change : Change) → IsOverdue server at r change → Sends server history state act at r known (change_packets change)
  overdue_sends _ (OfSide passes) = rests server history state act at r known (record r { side = Closed }) refl refl (λ owes. absurd (cc))
  overdue_sends _ (OfBranch b in_it passes) = branch_overdue_sends b in_it passes

  -- ---- a fault, and the caller's CANCEL

  -- a branch that could not be sent to
  pub fault_sends : (when : ℕ) (ticket : Ticket) (b : Branch) → act ≡ Given (Fault when ticket) → ticket.datagram ≡ r.number
      → find (is_failed ticket.branch) r.branches ≡ Some b
      → Sends server history state act at r known (change_packets (send_failed server at r b))
  fault_sends when ticket b is_act is_number found =
      let place = found_in (is_failed ticket.branch) r.branches b found in
      let parts = failed_parts place.1 in
      ends_sends b 503 (contains_from_in r.branches b place.0) parts.0 (unheard_open b.phase parts.1.1) (ByFault when ticket is_act is_number parts.1.0 parts.1.1)
      (λ none. inr (inr refl)) where
        failed_parts : is_failed ticket.branch b ≡ true → (b.is_cancel ≡ false) × ((ticket.branch ≡ b.number) × (is_unheard b.phase ≡ true))
        failed_parts h = by_tests b.is_cancel (b.number == ticket.branch) refl (is_unheard b.phase) h where
          by_tests : (t n : Bool) → (b.number == ticket.branch) ≡ n → (u : Bool) → (not t && n && u) ≡ true → (t ≡ false) × ((ticket.branch ≡ b.number) × (u ≡ true))
          by_tests true n is u e = absurd (cc)
          by_tests false false is u e = absurd (cc)
          by_tests false true is u e = (refl, (grind (arith, nat_tests), e))

        unheard_open : (phase : Phase) → is_unheard phase ≡ true → is_final phase ≡ false
        unheard_open (Unheard due) e = refl
        unheard_open (Heard due) e = absurd (cc)
        unheard_open (Cancelled due) e = absurd (cc)
        unheard_open (Done due first) e = absurd (cc)
        unheard_open Ended e = absurd (cc)

  -- the caller's CANCEL
  pub cancelled_sends : WasCancelled server history r.number → Sends server history state act at r known (change_packets (cancelled server at r))
  cancelled_sends was = by_tests (is_invite r) refl (is_answering r.side) where
    marks : is_invite r ≡ true → Sends server history state act at r known (change_packets (settled server at [] None (marked r)))
    marks invite =
        for_open server history state act at r known.there [] None (marked r) marked_branch
        (record { is_same = refl; branches = refl; goes = λ x. goes x (x.is_cancel || is_final x.phase); keeps = λ x. keeps x (x.is_cancel || is_final x.phase) })
        NoAck
        (nothing_goes server history state act at r (marked r) (still_waits server history state act at r known marked_branch
        (λ x. keeps x (x.is_cancel || is_final x.phase)) (λ x here target. stays x (x.is_cancel || is_final x.phase))))
        (each_right server history state act at r known marked_branch (λ x kept. right x kept (x.is_cancel || is_final x.phase))) where
          goes : (x : Branch) (t : Bool) → bare_branch (cond t x (record x { wants_cancel = true })) ≡ bare_branch x
          goes x true = refl
          goes x false = refl

          keeps : (x : Branch) (t : Bool) → (cond t x (record x { wants_cancel = true })).is_cancel ≡ x.is_cancel
          keeps x true = refl
          keeps x false = refl

          stays : (x : Branch) (t : Bool) → is_final (cond t x (record x { wants_cancel = true })).phase ≡ true → is_final x.phase ≡ true
          stays x true final = final
          stays x false final = final

          right : (x : Branch) → IsKept server history state act at r x → (t : Bool) → is_cancellable (cond t x (record x { wants_cancel = true })) ≡ true
              → IsCancelledNow server history state act at r x
          right x kept true passes = unedited server history state act at r x kept passes
          right x kept false passes =
              let parts = cancellable_parts (record x { wants_cancel = true }) passes in
              record { is_target = parts.0; is_of_invite = invite; was_heard = inl parts.2; was_given_up = inl (ByCaller was) }

    by_tests : (t : Bool) → is_invite r ≡ t → (u : Bool) → Sends server history state act at r known
        (change_packets (settled server at [] None (cond (t && u) (marked r) r)))
    by_tests true invite true = marks invite
    by_tests true invite false = rests server history state act at r known r refl refl (λ owes. owes)
    by_tests false invite u = rests server history state act at r known r refl refl (λ owes. owes)
