-- Whatever a step owes is among what it hands out.
use Rattle.std.proofs.Common.{◌≡◌, ◌⊎◌, inl, inr, ℕ, ◌≤◌, ◌==◌, Bool, true, false, not, ◌&&◌, cond, List, [], ◌∷◌, ◌++◌, find, codes, bytes_eq, Contains, Option, Some}
use Rattle.std.proofs.Common.{None, refl, sym, ap, subst, ◌∙◌, true≢false, arith, count_by}
use Rattle.std.proofs.lemmas.Bool.Decides.{nat_tests}
use Rattle.std.proofs.lemmas.List.Elements.{Contains-append_right}
use Rattle.std.specs.List.{AllByRecursion}
use Rattle.std.specs.Option.{option_map_or}
use Rattle.sip_message_form.specs.declared.message.Message.{Message}
use Rattle.sip_message_form.specs.Text.{text_of}
use Rattle.sip_best.specs.declared.final_answer.Final.{Final}
use Rattle.sip_best.specs.Best.{best_of}
use Rattle.sip_event.specs.declared.packet.Packet.{Packet}
use Rattle.sip_event.specs.declared.packet.Ticket.{Ticket}
use Rattle.sip_event.specs.declared.event.Event.TheVariants.{Fault}
use Rattle.model_steps.specs.state.declared.server.Server.{Server}
use Rattle.model_steps.specs.state.declared.branch.Branch.{Branch}
use Rattle.model_steps.specs.state.declared.branch.Phase.{Phase}
use Rattle.model_steps.specs.state.declared.branch.Phase.TheVariants.{Unheard, Heard, Cancelled, Done, Ended}
use Rattle.model_steps.specs.state.declared.open_request.OpenRequest.{OpenRequest}
use Rattle.model_steps.specs.state.State.{is_invite, is_answering, is_final, is_ended, phase_deadline, side_deadline}
use Rattle.model_steps.specs.state.Arrival.{Arrival}
use Rattle.model_steps.specs.context_model.Sending.{answer_to, answer_packet, made_answer, branch_packets}
use Rattle.model_steps.specs.context_model.Branches.{Change, upward_of, is_cancellable, is_closing, was_refused, is_ready, is_unheard, send_failed, responded, cancelled}
use Rattle.model_steps.specs.context_model.Branches.{overdue}
use Rattle.model_steps.specs.context_model.Retransmission.{IsResent, is_sent_again, is_cancelled_again, goes_again, answer_due, branch_due, answers_again, acked_again}
use Rattle.model_steps.specs.verdict_model.Verdict.{Verdict, Respond, Copy, Cancel}
use Rattle.model_steps.specs.Effect.{Effect, counted, nothing, change_packets, effect_of, method_of}
use Rattle.model_steps.specs.Step.{Act, Given, Passing, IsStep, IsDelivery, IsFault, originals, retransmissions, moment_of, arrival_of, IsOverdue, failed_branch}
use Rattle.model_steps.specs.Step.{failed_request, fault_effect}
use Rattle.sip_model.specs.Order.{ByDeadline, is_numbered}
use Rattle.sip_model.specs.Run.{Link}
use Rattle.sip_model.specs.Access.{EndsNow, ByResponse, BySilence, ByLaterSilence, ByCancel, ByFault, OthersEnded, IsTakenFor, StaysInPhase, KeepsMoment, KeepsAnswer}
use Rattle.sip_model.specs.Access.{IsOnly, LeavesPhase, MustEnd, HasAnswer, HasFailed, HasWaited, MustCancel, OnceHeard, WithCaller, WithAnother, AtTimerC, Owes, TheAck}
use Rattle.sip_model.specs.Access.{ThePassedOn, TheBest, TheCancel, TheCopy, TheAckAgain, TheNext, TheNextAnswer}
use Rattle.sip_model.proofs.Lists.{all_contains}
use Rattle.sip_model.proofs.Places.{IsIn, in_from_contains}
use Rattle.sip_model.proofs.Apart.{TargetsDiffer}
use Rattle.sip_model.proofs.Events.{change_event, resent_number}
use Rattle.sip_model.proofs.Settling.{event_number}
use Rattle.sip_model.proofs.Settled.{cancel_packets}
use Rattle.sip_model.proofs.SettledSends.{of_whole}
use Rattle.sip_model.proofs.ForOpen.{cancellable_parts}
use Rattle.sip_model.proofs.AllSent.{IsSteady}
use Rattle.sip_model.proofs.Found.{find_only, one_request, failed_found, other_stays}
use Rattle.sip_model.proofs.OwedChanges.{given_up_pays, heard_cancels, ack_goes, passed_goes, best_goes, another_cancels, caller_cancels}
use Rattle.sip_model.proofs.Edits.{is_that_one}
use Rattle.sip_model.proofs.OwedInTime.{all_stay, others_stay, resent_stays, due_going, Becomes, AsItWas, GoesOn, WithCancel, Overdue, becomes_by, answer_overdue}
use Rattle.sip_model.proofs.OwedInTime.{answer_resent, answer_stays, timer_c_pays, unheard_pays, heard_pays, cancelled_pays}

-- ---- a datagram

module _ (server : Server) (link : Link) (step : IsStep server link.before link.act link.out link.after) (m : Message) (v : Verdict)
    (taken : IsTakenFor server link m v) where
  -- the datagram
  abbrev pub arrival : Arrival
  arrival = arrival_of link.before taken.at taken.word taken.from

  delivery : IsDelivery server link.before taken.at taken.word taken.from taken.bytes link.out link.after
  delivery = subst (λ (act : Act). IsStep server link.before act link.out link.after) taken.is_act step

  -- the step's effect is the verdict's
  abbrev effect_in : Option (Message × Verdict) → Effect
  effect_in o = option_map_or (λ x. effect_of server arrival x.0 x.1 (counted arrival link.before)) o (nothing (counted arrival link.before))

  pub taken_sends : originals link.out.packets ≡ (effect_of server arrival m v (counted arrival link.before)).originals
  taken_sends = delivery.does.sends ∙ ap (λ (o : Option (Message × Verdict)). (effect_in o).originals) taken.is_verdict

  pub taken_repeats : retransmissions link.out.packets ≡ (effect_of server arrival m v (counted arrival link.before)).again
  taken_repeats = delivery.does.repeats ∙ ap (λ (o : Option (Message × Verdict)). (effect_in o).again) taken.is_verdict

-- what is sent for the first time is handed out, and so is what goes again
of_originals : (link : Link) (packets : List Packet) (p : Packet) → originals link.out.packets ≡ packets → Contains packets p → Contains link.out.packets p
of_originals link packets p same has = of_whole (λ (x : Packet). not x.again) link.out.packets p (subst (λ (ps : List Packet). Contains ps p) (sym same) has)

of_again : (link : Link) (packets : List Packet) (p : Packet) → retransmissions link.out.packets ≡ packets → Contains packets p → Contains link.out.packets p
of_again link packets p same has = of_whole (λ (x : Packet). x.again) link.out.packets p (subst (λ (ps : List Packet). Contains ps p) (sym same) has)

module _ (server : Server) (link : Link) (step : IsStep server link.before link.act link.out link.after) where
  -- a response
  response_pays : (r : OpenRequest) (b : Branch) (status : ℕ) (m : Message) (taken : IsTakenFor server link m (Respond r b status)) (p : Packet)
      → Contains (change_packets (responded server (arrival server link step m (Respond r b status) taken).now r b status m)) p → Contains link.out.packets p
  response_pays r b status m taken p has =
      of_originals link (change_packets (responded server (arrival server link step m (Respond r b status) taken).now r b status m)) p
      (taken_sends server link step m (Respond r b status) taken) has

  -- the caller's CANCEL
  caller_pays : (r : OpenRequest) (m : Message) (taken : IsTakenFor server link m (Cancel (Some r))) (p : Packet)
      → Contains (change_packets (cancelled server (arrival server link step m (Cancel (Some r)) taken).now r)) p → Contains link.out.packets p
  caller_pays r m taken p has =
      let a : Arrival = arrival server link step m (Cancel (Some r)) taken in
      let own : List Packet = answer_packet false a.number m a.from (text_of (made_answer server a.number m a.from 200 [])) ∷ [] in
      of_originals link (own ++ change_packets (cancelled server a.now r)) p (taken_sends server link step m (Cancel (Some r)) taken)
      (Contains-append_right own (change_packets (cancelled server a.now r)) p has)

  -- a copy, which is no ACK
  copy_pays : (r : OpenRequest) (m : Message) (taken : IsTakenFor server link m (Copy r)) → bytes_eq (method_of m.start) (codes "ACK") ≡ false → (p : Packet)
      → Contains (answers_again r r.answer) p → Contains link.out.packets p
  copy_pays r m taken no_ack p has =
      of_again link (cond (bytes_eq (method_of m.start) (codes "ACK")) [] (answers_again r r.answer)) p (taken_repeats server link step m (Copy r) taken)
      (by_test (bytes_eq (method_of m.start) (codes "ACK")) no_ack) where
        by_test : (t : Bool) → t ≡ false → Contains (cond t [] (answers_again r r.answer)) p
        by_test false e = has
        by_test true e = absurd (cc)

-- ---- a failed send

module _ (server : Server) (link : Link) (step : IsStep server link.before link.act link.out link.after) (when : ℕ) (ticket : Ticket)
    (is_act : link.act ≡ Given (Fault when ticket))
    (apart : (n : ℕ) → count_by (is_numbered n) link.before.requests ≤ 1) where
  abbrev now : ℕ
  now = moment_of link.before when

  fault : IsFault server link.before when ticket link.out link.after
  fault = subst (λ (act : Act). IsStep server link.before act link.out link.after) is_act step

  -- the branch of its ticket ends
  fault_pays : (r : OpenRequest) (b : Branch) → Contains link.before.requests r → Contains r.branches b → b.is_cancel ≡ false → TargetsDiffer r.branches
      → ticket.datagram ≡ r.number → ticket.branch ≡ b.number
      → is_unheard b.phase ≡ true → (p : Packet) → Contains (change_packets (send_failed server now r b)) p → Contains link.out.packets p
  fault_pays r b there inside target differ number branch unheard p has =
      of_originals link (fault_effect server now ticket (record link.before { moment = now })).originals p fault.does.sends
      (subst (λ (o : Option OpenRequest). Contains (failed_request server now ticket (record link.before { moment = now }) o).originals p) (sym found)
      (subst (λ (o : Option Branch). Contains (failed_branch server now (record link.before { moment = now }) r o).originals p)
      (sym (failed_found r.branches b ticket.branch differ (in_from_contains r.branches b inside) target branch unheard)) has)) where
        found : find (λ (x : OpenRequest). x.number == ticket.datagram) link.before.requests ≡ Some r
        found = find_only (is_numbered ticket.datagram) link.before.requests r (in_from_contains link.before.requests r there)
            (same r.number ticket.datagram (sym number)) (apart ticket.datagram) where
              same : (m n : ℕ) → m ≡ n → (m == n) ≡ true
              same m n e = grind (arith, nat_tests)

-- ---- time passes

module _ (server : Server) (link : Link) (step : IsStep server link.before link.act link.out link.after) (apart : (n : ℕ)
    → count_by (is_numbered n) link.before.requests ≤ 1) (until : ℕ) (is_act : link.act ≡ Passing until) where
  -- the step
  passing : IsStep server link.before (Passing until) link.out link.after
  passing = subst (λ (act : Act). IsStep server link.before act link.out link.after) is_act step

  -- what is so of a request, whether another one was replaced or it was
  either : (P : Type 0) (r new q : OpenRequest) → Contains link.before.requests r → Contains link.before.requests q → new.number ≡ q.number
      → ((r.number == new.number) ≡ false → P) → (r ≡ q → P) → P
  either P r new q there at number other this = by_number (r.number == new.number) refl where
    by_number : (t : Bool) → (r.number == new.number) ≡ t → P
    by_number true is =
        let equal : r.number ≡ new.number = grind (arith, nat_tests) in
        this (one_request link.before.requests r q (apart q.number) (in_from_contains link.before.requests r there) (in_from_contains link.before.requests q at)
        (equal ∙ number))
    by_number false is = other is

  -- a deadline leaves the number of its request
  overdue_number : (q : OpenRequest) (change : Change) → IsOverdue server link.out.at q change → change.request.number ≡ q.number
  overdue_number q change passes = event_number server link.out.at q change (change_event server link.out.at q change (ByDeadline change passes))

  -- what becomes of a branch then
  becomes : (r : OpenRequest) (b : Branch) → Contains link.before.requests r → Contains r.branches b → IsOnly r b → is_ended b.phase ≡ false
      → Becomes server link.out.at link.after r b (originals link.out.packets) (retransmissions link.out.packets)
  becomes r b there inside only going = by_kind passing where
    by_again : (packets : List Packet) → retransmissions link.out.packets ≡ packets → StaysInPhase link.after r b
        × (KeepsMoment link.after r b ⊎ (packets ≡ branch_packets server true r b)) →
        Becomes server link.out.at link.after r b (originals link.out.packets) (retransmissions link.out.packets)
    by_again packets sends (stays, inl keeps) = AsItWas keeps
    by_again packets sends (stays, inr same) = GoesOn stays (sends ∙ same)

    by_kind : IsStep server link.before (Passing until) link.out link.after → Becomes server link.out.at link.after r b (originals link.out.packets)
        (retransmissions link.out.packets)
    by_kind (inl quiet) = AsItWas (all_stay link.after link.before.requests quiet.does.leaves.requests r b there inside)
    by_kind (inr (inl due)) =
        either (Becomes server link.out.at link.after r b (originals link.out.packets) (retransmissions link.out.packets)) r due.change.request due.request there
        due.is_open (overdue_number due.request due.change due.passes)
        (λ other. AsItWas (others_stay link.after link.before.requests due.change.request due.does.leaves.requests r b there inside other))
        (λ same. subst (λ (ps : List Packet). Becomes server link.out.at link.after r b ps (retransmissions link.out.packets)) (sym due.does.sends)
        (becomes_by server link.out.at link.after link.before.requests r b there inside only going (retransmissions link.out.packets) due.change
        (subst (λ (q : OpenRequest). IsOverdue server link.out.at q due.change) (sym same) due.passes) due.does.leaves.requests))
    by_kind (inr (inr goes)) =
        either (Becomes server link.out.at link.after r b (originals link.out.packets) (retransmissions link.out.packets)) r goes.next goes.request there goes.is_open
        (resent_number server link.out.at goes.request goes.packets goes.next goes.goes)
        (λ other. AsItWas (others_stay link.after link.before.requests goes.next goes.does.leaves.requests r b there inside other))
        (λ same. by_again goes.packets goes.does.repeats
        (resent_stays server link.out.at link.after link.before.requests r goes.next goes.packets
        (subst (λ (q : OpenRequest). IsResent server link.out.at q goes.packets goes.next) (sym same) goes.goes) goes.does.leaves.requests b there inside only going))

  -- a branch that leaves its phase, and isn't sent its CANCEL, has its own deadline
  own_deadline : (r : OpenRequest) (b : Branch) → Contains link.before.requests r → Contains r.branches b → IsOnly r b → (StaysInPhase link.after r b → ⊥)
      → phase_deadline b.phase ≡ Some link.out.at → (is_cancellable b ≡ true → ⊥)
      → (p : Packet) → Contains (change_packets (overdue server link.out.at r b)) p → Contains link.out.packets p
  own_deadline r b there inside only left due never p has = by_case (becomes r b there inside only (due_going b.phase link.out.at due)) where
    by_case : Becomes server link.out.at link.after r b (originals link.out.packets) (retransmissions link.out.packets) → Contains link.out.packets p
    by_case (AsItWas keeps) = absurd (left keeps.stays)
    by_case (GoesOn stays sends) = absurd (left stays)
    by_case (WithCancel ready sends) = absurd (never ready)
    by_case (Overdue is same) = of_originals link (change_packets (overdue server link.out.at r b)) p same has

  -- Timer C
  timer_pays : (r : OpenRequest) (b : Branch) → Contains link.before.requests r → Contains r.branches b → b.is_cancel ≡ false → IsOnly r b → is_invite r ≡ true
      → (StaysInPhase link.after r b → ⊥) → b.phase ≡ Heard link.out.at
      → (p : Packet) → Contains (cancel_packets server r b) p → Contains link.out.packets p
  timer_pays r b there inside target only invite left is p has = by_case (becomes r b there inside only (ap is_ended is)) where
    by_case : Becomes server link.out.at link.after r b (originals link.out.packets) (retransmissions link.out.packets) → Contains link.out.packets p
    by_case (AsItWas keeps) = absurd (left keeps.stays)
    by_case (GoesOn stays sends) = absurd (left stays)
    by_case (WithCancel ready sends) = of_originals link (originals link.out.packets) p refl (sends p has)
    by_case (Overdue due same) = of_originals link (change_packets (overdue server link.out.at r b)) p same
        (timer_c_pays server link.out.at r b inside target link.out.at is invite p has)

  -- what a branch sends, again
  next_pays : (r : OpenRequest) (b : Branch) → Contains link.before.requests r → Contains r.branches b → IsOnly r b → is_ended b.phase ≡ false
      → (is_cancellable b ≡ true → ⊥) → (phase_deadline b.phase ≡ Some link.out.at → ⊥)
      → (KeepsMoment link.after r b → ⊥) → (p : Packet) → Contains (branch_packets server true r b) p → Contains link.out.packets p
  next_pays r b there inside only going waits not_due left p has = by_case (becomes r b there inside only going) where
    by_case : Becomes server link.out.at link.after r b (originals link.out.packets) (retransmissions link.out.packets) → Contains link.out.packets p
    by_case (AsItWas keeps) = absurd (left keeps)
    by_case (GoesOn stays sends) = of_again link (branch_packets server true r b) p sends has
    by_case (WithCancel ready sends) = absurd (waits ready)
    by_case (Overdue due same) = absurd (not_due due)

  -- the last answer, again
  answer_pays : (r : OpenRequest) → Contains link.before.requests r → is_closing r.side ≡ true → (side_deadline r.side ≡ Some link.out.at → ⊥)
      → (KeepsAnswer link.after r → ⊥) → (p : Packet) → Contains (answers_again r r.answer) p
      → Contains link.out.packets p
  answer_pays r there closing not_due left p has = by_kind passing where
    by_again : (packets : List Packet) → retransmissions link.out.packets ≡ packets → KeepsAnswer link.after r ⊎ (packets ≡ answers_again r r.answer)
        → Contains link.out.packets p
    by_again packets sends (inl keeps) = absurd (left keeps)
    by_again packets sends (inr same) = of_again link (answers_again r r.answer) p (sends ∙ same) has

    by_kind : IsStep server link.before (Passing until) link.out link.after → Contains link.out.packets p
    by_kind (inl quiet) = absurd (left (answer_stays link.after r (in_from_contains link.after.requests r
        (subst (λ (rs : List OpenRequest). Contains rs r) (sym quiet.does.leaves.requests) there))))
    by_kind (inr (inl due)) =
        either (Contains link.out.packets p) r due.change.request due.request there due.is_open (overdue_number due.request due.change due.passes)
        (λ other. absurd (left (answer_stays link.after r (subst (IsIn r) (sym due.does.leaves.requests)
        (other_stays due.change.request link.before.requests r (in_from_contains link.before.requests r there) other)))))
        (λ same. absurd (left (answer_overdue server link.out.at r closing link.after link.before.requests there due.change
        (subst (λ (q : OpenRequest). IsOverdue server link.out.at q due.change) (sym same) due.passes) not_due due.does.leaves.requests)))
    by_kind (inr (inr goes)) =
        either (Contains link.out.packets p) r goes.next goes.request there goes.is_open (resent_number server link.out.at goes.request goes.packets goes.next goes.goes)
        (λ other. absurd (left (answer_stays link.after r (subst (IsIn r) (sym goes.does.leaves.requests)
        (other_stays goes.next link.before.requests r (in_from_contains link.before.requests r there) other)))))
        (λ same. by_again goes.packets goes.does.repeats
        (answer_resent server link.out.at r closing link.after link.before.requests there goes.packets goes.next
        (subst (λ (q : OpenRequest). IsResent server link.out.at q goes.packets goes.next) (sym same) goes.goes) goes.does.leaves.requests))

-- ---- all of it

module _ (server : Server) (history : List Link) (link : Link) (step : IsStep server link.before link.act link.out link.after) (apart : (n : ℕ)
    → count_by (is_numbered n) link.before.requests ≤ 1)
    (steady : AllByRecursion (IsSteady server history) link.before.requests) where
  -- what is known of an open request
  steady_of : (r : OpenRequest) → Contains link.before.requests r → IsSteady server history r
  steady_of r there = all_contains (IsSteady server history) link.before.requests r steady there

  -- a branch to a target has its name alone
  only_target : (r : OpenRequest) (b : Branch) → Contains link.before.requests r → Contains r.branches b → b.is_cancel ≡ false → IsOnly r b
  only_target r b there inside target x here same = is_that_one r.branches x b (steady_of r there).differ here inside target same

  -- one that is to be sent its CANCEL is an INVITE's
  wanted_invite : (r : OpenRequest) (b : Branch) → Contains link.before.requests r → Contains r.branches b → is_cancellable b ≡ true → is_invite r ≡ true
  wanted_invite r b there inside ready = all_contains (λ (x : Branch). x.wants_cancel ≡ true → is_invite r ≡ true) r.branches b (steady_of r there).of_invite inside
      (cancellable_parts b ready).1

  -- the best answer, as time passes
  waited_pays : (r : OpenRequest) (b : Branch) (last best : Final) → Contains link.before.requests r → Contains r.branches b → b.is_cancel ≡ false → LeavesPhase link r b
      → EndsNow server link.before link.act link.out.at r b last
      → OthersEnded r b → is_answering r.side ≡ true → best_of (r.finals ++ last ∷ []) ≡ Some best
      → Contains link.out.packets (answer_to false r (text_of (upward_of server r best).message))
  waited_pays r b _ best there inside target leaves (ByResponse status response comes late) others answering found =
      absurd (given (comes.is_said.is_act) leaves.is_passing) where
        given : {event : _} → link.act ≡ Given event → link.act ≡ Passing leaves.until → ⊥
        given e f = absurd (cc)
  waited_pays r b _ best there inside target leaves (BySilence is) others answering found =
      own_deadline server link step apart leaves.until leaves.is_passing r b there inside (only_target r b there inside target) leaves.is_left (ap phase_deadline is)
      (λ ready. true≢false (sym (cancellable_parts b ready).2 ∙ ap is_ready is)) (answer_to false r (text_of (upward_of server r best).message))
      (unheard_pays server link.out.at r b inside target is best others answering found)
  waited_pays r b _ best there inside target leaves (ByLaterSilence is other) others answering found =
      own_deadline server link step apart leaves.until leaves.is_passing r b there inside (only_target r b there inside target) leaves.is_left (ap phase_deadline is)
      (λ ready. true≢false (sym (wanted_invite r b there inside ready) ∙ other))
      (answer_to false r (text_of (upward_of server r best).message)) (heard_pays server link.out.at r b inside target is other best others answering found)
  waited_pays r b _ best there inside target leaves (ByCancel is) others answering found =
      own_deadline server link step apart leaves.until leaves.is_passing r b there inside (only_target r b there inside target) leaves.is_left (ap phase_deadline is)
      (λ ready. true≢false (sym (cancellable_parts b ready).2 ∙ ap is_ready is)) (answer_to false r (text_of (upward_of server r best).message))
      (cancelled_pays server link.out.at r b inside target is best others answering found)
  waited_pays r b _ best there inside target leaves (ByFault when ticket is_act number branch unheard) others answering found =
      absurd (given is_act leaves.is_passing) where
        given : link.act ≡ Given (Fault when ticket) → link.act ≡ Passing leaves.until → ⊥
        given e f = absurd (cc)

  -- the best answer
  ends_pays : (r : OpenRequest) (b : Branch) (last best : Final) → Contains link.before.requests r → Contains r.branches b → b.is_cancel ≡ false
      → is_final b.phase ≡ false → MustEnd server link r b last
      → OthersEnded r b → is_answering r.side ≡ true → best_of (r.finals ++ last ∷ []) ≡ Some best
      → Contains link.out.packets (answer_to false r (text_of (upward_of server r best).message))
  ends_pays r b _ best there inside target first (HasAnswer status response taken late no_success) others answering found =
      response_pays server link step r b status response taken (answer_to false r (text_of (upward_of server r best).message))
      (best_goes server (arrival server link step response (Respond r b status) taken).now r b status response target late no_success first best others answering found)
  ends_pays r b _ best there inside target first (HasFailed when ticket is_act number branch unheard) others answering found =
      fault_pays server link step when ticket is_act apart r b there inside target (steady_of r there).differ number branch unheard
      (answer_to false r (text_of (upward_of server r best).message))
      (given_up_pays server (moment_of link.before when) r b 503 best others answering found)
  ends_pays r b last best there inside target first (HasWaited _ leaves ends) others answering found =
      waited_pays r b last best there inside target leaves ends others answering found

  -- a CANCEL
  cancel_pays : (r : OpenRequest) (b : Branch) → Contains link.before.requests r → Contains r.branches b → b.is_cancel ≡ false → is_invite r ≡ true
      → MustCancel server link r b → (p : Packet) → Contains (cancel_packets server r b) p
      → Contains link.out.packets p
  cancel_pays r b there inside target invite (OnceHeard status response taken early wants unheard) p has =
      response_pays server link step r b status response taken p (heard_cancels server (arrival server link step response (Respond r b status) taken).now r b status
      response target early inside wants unheard p has)
  cancel_pays r b there inside target invite (WithCaller m taken answering ready) p has =
      caller_pays server link step r m taken p (caller_cancels server (arrival server link step m (Cancel (Some r)) taken).now r b inside target invite answering ready p
      has)
  cancel_pays r b there inside target invite (WithAnother x status response taken kind first ends other ready) p has =
      response_pays server link step r x status response taken p (another_cancels server (arrival server link step response (Respond r x status) taken).now r x status
      response kind first invite ends b inside target other ready p has)
  cancel_pays r b there inside target invite (AtTimerC leaves is) p has = timer_pays server link step apart leaves.until leaves.is_passing r b there inside target
      (only_target r b there inside target) invite leaves.is_left is p has

  -- what goes again by itself: a branch that does hasn't ended, and isn't one that is sent its CANCEL
  going_again : (r : OpenRequest) (b : Branch) → branch_due r b ≡ Some link.out.at → goes_again r b ≡ true
  going_again r b due = by_test (goes_again r b) due where
    by_test : (t : Bool) → cond t (Some b.again.due) None ≡ Some link.out.at → t ≡ true
    by_test true e = refl
    by_test false e = absurd (cc)

  not_ended : (cancel invite : Bool) (phase : Phase) → cond cancel (is_cancelled_again phase) (is_sent_again invite phase) ≡ true → is_ended phase ≡ false
  not_ended cancel invite (Unheard due) e = refl
  not_ended cancel invite (Heard due) e = refl
  not_ended cancel invite (Cancelled due) e = refl
  not_ended cancel invite (Done due status) e = refl
  not_ended true invite Ended e = absurd (cc)
  not_ended false invite Ended e = absurd (cc)

  not_ready : (cancel invite : Bool) (phase : Phase) → cancel ≡ false → invite ≡ true → is_ready phase ≡ true
      → cond cancel (is_cancelled_again phase) (is_sent_again invite phase) ≡ true → ⊥
  not_ready false true (Heard due) e f g h = absurd (cc)
  not_ready false true (Unheard due) e f g h = absurd (cc)
  not_ready false true (Cancelled due) e f g h = absurd (cc)
  not_ready false true (Done due status) e f g h = absurd (cc)
  not_ready false true Ended e f g h = absurd (cc)
  not_ready true invite phase e f g h = absurd (cc)
  not_ready false false phase e f g h = absurd (cc)

  next_is_sent : (r : OpenRequest) (b : Branch) (until : ℕ) (p : Packet) → link.act ≡ Passing until → Contains link.before.requests r → Contains r.branches b → IsOnly r b
      → branch_due r b ≡ Some link.out.at
      → (phase_deadline b.phase ≡ Some link.out.at → ⊥) → (KeepsMoment link.after r b → ⊥) → Contains (branch_packets server true r b) p → Contains link.out.packets p
  next_is_sent r b until p is_act there inside only due not_due left has =
      let goes = going_again r b due in
      next_pays server link step apart until is_act r b there inside only (not_ended b.is_cancel (is_invite r) b.phase goes)
      (λ ready. let parts = cancellable_parts b ready in not_ready b.is_cancel (is_invite r) b.phase parts.0 (wanted_invite r b there inside ready) parts.2 goes) not_due
      left p has

  insisting : (r : OpenRequest) → answer_due r ≡ Some link.out.at → is_closing r.side ≡ true
  insisting r due = by_tests (is_invite r) (is_closing r.side) (was_refused r.answer) due where
    by_tests : (x y z : Bool) → cond (x && y && z) (Some r.again.due) None ≡ Some link.out.at → y ≡ true
    by_tests x true z e = refl
    by_tests true false z e = absurd (cc)
    by_tests false false z e = absurd (cc)

  -- whatever it owes
  pub owed_pays : (p : Packet) → Owes server link p → Contains link.out.packets p
  owed_pays _ (TheAck r b status response p taken target invite failure first has) =
      response_pays server link step r b status response taken p (ack_goes server (arrival server link step response (Respond r b status) taken).now r b status response
      target invite failure first p has)
  owed_pays _ (ThePassedOn r b status response taken target passes) =
      response_pays server link step r b status response taken _ (passed_goes server (arrival server link step response (Respond r b status) taken).now r b status
      response target passes)
  owed_pays _ (TheBest r b last best there inside target first ends others answering found) =
      ends_pays r b last best there inside target first ends others answering found
  owed_pays _ (TheCancel r b p there inside target invite must has) = cancel_pays r b there inside target invite must p has
  owed_pays _ (TheCopy r m p taken no_ack has) = copy_pays server link step r m taken no_ack p has
  owed_pays _ (TheAckAgain r b status response p taken has) = of_again link (acked_again server r b status) p
      (taken_repeats server link step response (Respond r b status) taken) has
  owed_pays _ (TheNext r b until p is_act there inside only due not_due left has) = next_is_sent r b until p is_act there inside only due not_due left has
  owed_pays _ (TheNextAnswer r until p is_act there due not_due left has) = answer_pays server link step apart until is_act r there (insisting r due) not_due left p has
