-- Each step keeps that every dialog which is known was told.
use Rattle.std.proofs.Common.{◌≡◌, ◌∙◌, inl, inr, ℕ, ◌==◌, Bool, true, false, not, ◌&&◌, cond, List, [], ◌∷◌, ◌++◌, flat_map, find, Option, Some, None, is_some, refl}
use Rattle.std.proofs.Common.{sym, ap, subst, arith}
use Rattle.std.specs.Option.{option_map_or, unwrap_or}
use Rattle.std.specs.List.{AllByRecursion}
use Rattle.std.proofs.lemmas.Bool.Decides.{nat_tests}
use Rattle.sip_message_form.specs.declared.message.Start.TheVariants.{Status}
use Rattle.sip_message_form.specs.declared.message.Message.{Message}
use Rattle.sip_message_form.specs.Text.{text_of}
use Rattle.sip_message.specs.Reading.{reading_of}
use Rattle.sip_uri.specs.declared.addr.Addr.{Addr}
use Rattle.sip_transaction_table.specs.declared.key.TransactionKey.{TransactionKey}
use Rattle.sip_transaction_table.specs.Key.{key_of}
use Rattle.sip_edit.specs.Onward.{with_record_route}
use Rattle.sip_best.specs.declared.final_answer.Final.{Final}
use Rattle.sip_targets.specs.declared.targets.Targets.{Targets}
use Rattle.sip_targets.specs.Targets.{target_list}
use Rattle.sip_dialog.specs.declared.dialog.DialogId.{DialogId}
use Rattle.sip_dialog.specs.declared.dialog.Dialog.{Dialog}
use Rattle.sip_event.specs.declared.packet.Ticket.{Ticket}
use Rattle.sip_event.specs.declared.event.StepOut.{StepOut}
use Rattle.sip_event.specs.declared.event.Event.TheVariants.{Datagram, Time, Fault}
use Rattle.sip_model.specs.state.declared.server.Server.{Server}
use Rattle.sip_model.specs.state.declared.branch.Branch.{Branch}
use Rattle.sip_model.specs.state.declared.resend.Resend.{Resend}
use Rattle.sip_model.specs.state.declared.open_request.Side.{Side}
use Rattle.sip_model.specs.state.declared.open_request.OpenRequest.{OpenRequest}
use Rattle.sip_model.specs.state.declared.open_request.Upward.{Upward}
use Rattle.sip_model.specs.state.declared.proxy_state.ProxyState.{ProxyState}
use Rattle.sip_model.specs.state.State.{is_invite}
use Rattle.sip_model.specs.state.Dialogs.{dialog_of, after_request}
use Rattle.sip_model.specs.state.Arrival.{Arrival}
use Rattle.sip_model.specs.context_model.Branches.{Change, relayed_from, responded, send_failed, cancelled, answered}
use Rattle.sip_model.specs.context_model.Sending.{onward_as, request_of, branch_packets}
use Rattle.sip_model.specs.context_model.Opening.{arriving, forking, branches_from, dialog_branch, trying, tried, opening}
use Rattle.sip_model.specs.verdict_model.Verdict.{Verdict, Drop, Respond, Copy, AckOn, Cancel, Answer, InDialog, Challenge, Deny, Send, Register, responding}
use Rattle.sip_model.specs.verdict_model.Verdict.{message_verdict, message_in, verdict_in, verdict_of}
use Rattle.sip_model.specs.steps_model.Effect.{change_packets, upward_packets, opening_packets, ack_packet, dialogs_after, nothing, counted, replied, effect_of}
use Rattle.sip_model.specs.steps_model.Step.{Act, Given, Passing, IsStep, IsOverdue, originals, moment_of, arrival_of, is_failed, failed_branch, failed_request}
use Rattle.sip_model.specs.Access.{IsSaidAt, CameFor}
use Rattle.sip_model.specs.Run.{Link}
use Rattle.sip_model.specs.Histories.{forking_dialogs, verdict_dialogs, branch_dialogs, fault_dialogs, step_dialogs}
use Rattle.model_laws.specs.Requests.{IsBrought, WentToCaller, HasCome}
use Rattle.model_laws.specs.Dialogs.{WasSentOn}
use Rattle.sip_model.proofs.Places.{IsIn, in_from_contains, found_in, all_in}
use Rattle.model_laws.proofs.Lists.{all_left, all_right}
use Rattle.model_laws.proofs.Changes.{KeepNumbers, Tells, settled_kept, responded_kept, overdue_kept, failed_kept, cancelled_kept}
use Rattle.model_laws.proofs.Requests.{WasSent, upward_went}
use Rattle.model_laws.proofs.Facts.{IsForBranch, IsKeyed, Facts, message_facts}
use Rattle.model_laws.proofs.Failures.{KeepsFailures, Refusing, IsHonest, responded_honest, overdue_honest, failed_honest, cancelled_honest, opening_honest}
use Rattle.model_laws.proofs.Failures.{unsent_fail}
use Rattle.model_laws.proofs.Telling.{IsTakenIn}
use Rattle.model_laws.proofs.Edits.{IsClosed}
use Rattle.model_laws.proofs.Answers.{Came, came_of, MayBegin, IsUp, change_told, request_told}
use Rattle.sip_model.proofs.Lists.{all_every}

-- a refusal begins no dialog
refuses : (server : Server) (history : List Link) (link : Link) (number : ℕ) (u : Upward) → Refusing u → MayBegin server history link number u
refuses server history link number u is = λ below above. absurd (grind (arith, nat_tests))

-- what two lists of facts say of each element
all_both : {X : Type 0} (P Q R : X → Type 0) → ((x : X) → P x → Q x → R x) → (xs : List X) → AllByRecursion P xs → AllByRecursion Q xs → AllByRecursion R xs
all_both P Q R both [] h k = tt
all_both P Q R both (x ∷ xs) h k = (both x h.0 k.0, all_both P Q R both xs h.1 k.1)

-- a request that has a key has that of its message
keyed_key : (a : Arrival) (m : Message) → IsKeyed m → key_of m ≡ Some (arriving a m).key
keyed_key a m h =
    let same : (arriving a m).key ≡ h.key = ap (λ (o : Option TransactionKey). unwrap_or o (record { branch = []; host = []; port = 0; method = [] })) h.is_key in
    h.is_key ∙ ap Some (sym same)

module _ (server : Server) (history : List Link) where
  -- how a request came stays
  came_kept : (r : OpenRequest) (side : Side) (again : Resend) (finals : List Final) (branches : List Branch) → KeepNumbers r.branches branches → Came server history r
      → Came server history (record r { side = side; again = again; finals = finals; branches = branches })
  came_kept r side again finals branches numbers h = record {
    a = h.a;
    is_brought = h.is_brought;
    is_no_ack = h.is_no_ack;
    is_key = h.is_key;
    is_number = h.is_number;
    is_source = h.is_source;
    is_arrival = h.is_arrival;
  }

  -- also where an answer goes to the caller
  came_told : (now : ℕ) (u : Upward) (r : OpenRequest) → Came server history r → Came server history (answered now u r)
  came_told now u r h = record {
    a = h.a;
    is_brought = h.is_brought;
    is_no_ack = h.is_no_ack;
    is_key = h.is_key;
    is_number = h.is_number;
    is_source = h.is_source;
    is_arrival = h.is_arrival;
  }

  -- or several
  came_tried : (now : ℕ) (us : List Upward) (r : OpenRequest) → Came server history r → Came server history (tried now us r)
  came_tried now [] r h = h
  came_tried now (u ∷ us) r h = came_tried now us (answered now u r) (came_told now u r h)

  -- any answers of a change
  all_came : (now : ℕ) (us : List Upward) → AllByRecursion (Tells (Came server history) came_kept now) us
  all_came now us = all_every (Tells (Came server history) came_kept now) (came_told now) us

  -- a number stays, too
  number_kept : (number : ℕ) (r : OpenRequest) (side : Side) (again : Resend) (finals : List Final) (branches : List Branch) → KeepNumbers r.branches branches
      → r.number ≡ number
      → r.number ≡ number
  number_kept number r side again finals branches numbers h = h

  -- whatever goes to the caller
  all_numbered : (number now : ℕ) (us : List Upward) → AllByRecursion (Tells (λ (r : OpenRequest). r.number ≡ number) (number_kept number) now) us
  all_numbered number now us = all_every (Tells (λ (r : OpenRequest). r.number ≡ number) (number_kept number) now) (λ u r h. h) us

  -- a request with new branches came
  forking_came : (a : Arrival) (m : Message) (branches : List Branch) → IsBrought history a m → IsKeyed m → Came server history (forking a m branches)
  forking_came a m branches brought keyed = record {
    a = a;
    is_brought = brought;
    is_no_ack = keyed.is_no_ack;
    is_key = keyed_key a m keyed;
    is_number = refl;
    is_source = refl;
    is_arrival = refl;
  }

  -- one of a dialog has no Record-Route of this server
  plain_within : (r : OpenRequest) (b : Branch) (id : DialogId) → dialog_of r.request.message ≡ Some id
      → request_of server r b ≡ onward_as server r.number r.request.message r.request.source b.uri b.number
  plain_within r b id e = by_test (is_invite r) (dialog_of r.request.message) e where
    plain : Message
    plain = onward_as server r.number r.request.message r.request.source b.uri b.number

    by_test : (t : Bool) (o : Option DialogId) → o ≡ Some id → cond (t && not (is_some o)) (with_record_route server.config.own plain) plain ≡ plain
    by_test t None f = absurd (cc)
    by_test true (Some x) f = refl
    by_test false (Some x) f = refl

  -- one of a dialog was sent on
  within_sent : (a : Arrival) (m : Message) (address : Addr) (id : DialogId) → dialog_of m ≡ Some id
      → AllByRecursion (WasSent history) (opening_packets server a.now (forking a m (dialog_branch server a.now m address ∷ []))) → WasSentOn server history a m
  within_sent a m address id e packets =
      let r : OpenRequest = forking a m (dialog_branch server a.now m address ∷ []) in
      let b : Branch = dialog_branch server a.now m address in
      let own : AllByRecursion (WasSent history) (branch_packets server false r b ++ []) =
      all_right (WasSent history) (upward_packets r (trying server r) ++ change_packets (opening server a.now r)) (branch_packets server false r b ++ []) packets
      in
      record {
        packet = record { to = address; bytes = text_of (request_of server r b); ticket = record { datagram = a.number; branch = 1 }; again = false };
        is_there = own.0;
        is_text = ap text_of (plain_within r b id e);
        is_of_datagram = refl;
      }

-- the state before a step, and what it is taken for, in the history that ends with it
pub record IsHere (server : Server) (history : List Link) (link : Link) (old : ProxyState) (act : Act) : Type 0 where
  pub said : (a : Arrival) (bytes : List ℕ) (m : Message) (short : Bool) → IsSaidAt old act a bytes m short → IsBrought history a m
  pub said_now : (a : Arrival) (bytes : List ℕ) (m : Message) (short : Bool) (is : IsSaidAt old act a bytes m short) → (said a bytes m short is).link ≡ link
  pub came : (a : Arrival) (bytes : List ℕ) (m : Message) (status : ℕ) (reason : List ℕ) (r : OpenRequest) (b : Branch) → IsSaidAt old act a bytes m false
      → m.start ≡ Status status reason
      → responding server old.requests m.fields ≡ Some (r, b) → b.is_cancel ≡ false → (x : CameFor server history r.number status m) × (x.branch ≡ b) × (x.link ≡ link)
  pub requests : AllByRecursion (HasCome history) old.requests
  pub failures : AllByRecursion KeepsFailures old.requests

module _ (server : Server) (history : List Link) (link : Link) (T : Dialog → Type 0) (closed : IsClosed server history link T)
    (taken : IsTakenIn server history link) where
  -- a change of a request of a number that came, once its packets were sent
  honest_told : (now number : ℕ) (change : Change) (dialogs : List Dialog) → Came server history change.request → change.request.number ≡ number
      → IsHonest (MayBegin server history link number) change
      → AllByRecursion (WasSent (link ∷ [])) (change_packets change) → AllByRecursion T dialogs → AllByRecursion T (dialogs_after server now change dialogs)
  honest_told now number change dialogs came same honest packets h =
      change_told server history link T closed taken now change dialogs came
      (all_both (λ (u : Upward). WentToCaller (link ∷ []) change.request.number change.request.request.message change.request.request.source (text_of u.message))
      (MayBegin server history link number) (IsUp server history link change.request)
      (λ u went may. record { went = went; may_begin = subst (λ (n : ℕ). MayBegin server history link n u) (sym same) may }) change.upward
      (upward_went (link ∷ []) change change.request.number change.request.request.message change.request.request.source
      (record { is_number = refl; is_request = refl; is_source = refl }) packets) honest.upward) h

  -- ---- a request that is sent to its branches

  -- what it makes of the dialogs
  opening_told : (now : ℕ) (r : OpenRequest) (dialogs : List Dialog) → Came server history r → KeepsFailures r
      → AllByRecursion (WasSent (link ∷ [])) (opening_packets server now r)
      → AllByRecursion T dialogs
      → AllByRecursion T (forking_dialogs server now r dialogs)
  opening_told now r dialogs came fails packets h =
      let change : Change = opening server now r in
      let first : OpenRequest = tried now (trying server r) r in
      let answers : AllByRecursion (WasSent (link ∷ [])) (upward_packets r (trying server r) ++ change_packets change) =
      all_left (WasSent (link ∷ [])) (upward_packets r (trying server r) ++ change_packets change) (flat_map (branch_packets server false r) r.branches) packets
      in
      honest_told now r.number change dialogs
      (settled_kept (Came server history) (came_kept server history) server now [] None first (came_tried server history now (trying server r) r came)
      (all_came server history now change.upward))
      (settled_kept (λ (x : OpenRequest). x.number ≡ r.number) (number_kept server history r.number) server now [] None first (tried_number (trying server r) r)
      (all_numbered server history r.number now change.upward))
      (opening_honest (MayBegin server history link r.number) (refuses server history link r.number) server now r fails)
      (all_right (WasSent (link ∷ [])) (upward_packets r (trying server r)) (change_packets change) answers) h where
        tried_number : (us : List Upward) (x : OpenRequest) → (tried now us x).number ≡ x.number
        tried_number [] x = refl
        tried_number (u ∷ us) x = tried_number us (answered now u x)

  -- ---- a step

  module _ (old : ProxyState) (act : Act) (here : IsHere server history link old act) where
    -- an open request came
    came_in : (r : OpenRequest) → IsIn r old.requests → Came server history r
    came_in r there = came_of server history r (all_in (HasCome history) old.requests r here.requests there)

    -- and keeps failures alone
    fails_in : (r : OpenRequest) → IsIn r old.requests → KeepsFailures r
    fails_in r there = all_in KeepsFailures old.requests r here.failures there

    -- a response
    response_told : (a : Arrival) (bytes : List ℕ) (m : Message) (short : Bool) (r : OpenRequest) (b : Branch) (status : ℕ) (dialogs : List Dialog)
        → IsSaidAt old act a bytes m short
        → IsForBranch server old m short r b status → AllByRecursion (WasSent (link ∷ [])) (change_packets (responded server a.now r b status m))
        → AllByRecursion T dialogs
        → AllByRecursion T (dialogs_after server a.now (responded server a.now r b status m) dialogs)
    response_told a bytes m short r b status dialogs said is packets h =
        let whole : IsSaidAt old act a bytes m false = subst (λ (t : Bool). IsSaidAt old act a bytes m t) is.is_whole said in
        let change : Change = responded server a.now r b status m in
        honest_told a.now r.number change dialogs
        (responded_kept (Came server history) (came_kept server history) server a.now r b status m (came_in r is.is_open) (all_came server history a.now change.upward))
        (responded_kept (λ (x : OpenRequest). x.number ≡ r.number) (number_kept server history r.number) server a.now r b status m refl
        (all_numbered server history r.number a.now change.upward))
        (responded_honest (MayBegin server history link r.number) (refuses server history link r.number) server a.now r b status m (relayed whole)
        (fails_in r is.is_open)) packets h where
          relayed : IsSaidAt old act a bytes m false → b.is_cancel ≡ false → MayBegin server history link r.number (relayed_from b status m)
          relayed whole target = λ below above.
              let x = here.came a bytes m status is.reason r b whole is.is_response is.is_for target in
              record { response = m; came = x.0; is_now = x.2; is_message = refl; is_target = ap (λ (y : Branch). y.address) (sym x.1) }

    -- a CANCEL of the caller's
    cancel_told : (now : ℕ) (r : OpenRequest) (dialogs : List Dialog) → IsIn r old.requests
        → AllByRecursion (WasSent (link ∷ [])) (change_packets (cancelled server now r))
        → AllByRecursion T dialogs
        → AllByRecursion T (dialogs_after server now (cancelled server now r) dialogs)
    cancel_told now r dialogs there packets h =
        let change : Change = cancelled server now r in
        honest_told now r.number change dialogs (cancelled_kept (Came server history) (came_kept server history) server now r (came_in r there)
        (all_came server history now change.upward))
        (cancelled_kept (λ (x : OpenRequest). x.number ≡ r.number) (number_kept server history r.number) server now r refl
        (all_numbered server history r.number now change.upward))
        (cancelled_honest (MayBegin server history link r.number) (refuses server history link r.number) server now r (fails_in r there)) packets h

    -- a send that failed
    failed_told : (now : ℕ) (r : OpenRequest) (b : Branch) (dialogs : List Dialog) → IsIn r old.requests
        → AllByRecursion (WasSent (link ∷ [])) (change_packets (send_failed server now r b)) → AllByRecursion T dialogs
        → AllByRecursion T (dialogs_after server now (send_failed server now r b) dialogs)
    failed_told now r b dialogs there packets h =
        let change : Change = send_failed server now r b in
        honest_told now r.number change dialogs (failed_kept (Came server history) (came_kept server history) server now r b (came_in r there)
        (all_came server history now change.upward))
        (failed_kept (λ (x : OpenRequest). x.number ≡ r.number) (number_kept server history r.number) server now r b refl
        (all_numbered server history r.number now change.upward))
        (failed_honest (MayBegin server history link r.number) (refuses server history link r.number) server now r b (fails_in r there)) packets h

    -- a deadline
    overdue_told : (due : ℕ) (r : OpenRequest) (change : Change) (dialogs : List Dialog) → IsOverdue server due r change → IsIn r old.requests
        → AllByRecursion (WasSent (link ∷ [])) (change_packets change)
        → AllByRecursion T dialogs → AllByRecursion T (dialogs_after server due change dialogs)
    overdue_told due r change dialogs is there packets h =
        honest_told due r.number change dialogs (overdue_kept (Came server history) (came_kept server history) server due r change is (came_in r there)
        (all_came server history due change.upward))
        (overdue_kept (λ (x : OpenRequest). x.number ≡ r.number) (number_kept server history r.number) server due r change is refl
        (all_numbered server history r.number due change.upward))
        (overdue_honest (MayBegin server history link r.number) (refuses server history link r.number) server due r change is (fails_in r there)) packets h

    -- a verdict on a message
    verdict_told : (a : Arrival) (bytes : List ℕ) (m : Message) (short : Bool) (v : Verdict) (dialogs : List Dialog) → IsSaidAt old act a bytes m short
        → Facts server old a m short v
        → AllByRecursion (WasSent (link ∷ [])) (effect_of server a m v (counted a old)).originals → AllByRecursion T dialogs
        → AllByRecursion T (verdict_dialogs server a m v dialogs)
    verdict_told a bytes m short (Respond r b status) dialogs said is sent h = response_told a bytes m short r b status dialogs said is sent h
    verdict_told a bytes m short (AckOn address id) dialogs said is sent h =
        request_told server history link T closed taken a m id dialogs (here.said a bytes m short said) (here.said_now a bytes m short said) is
        (record { packet = ack_packet server a m address; is_there = sent.0; is_text = refl; is_of_datagram = refl }) h
    verdict_told a bytes m short (Cancel None) dialogs said is sent h = h
    verdict_told a bytes m short (Cancel (Some r)) dialogs said is sent h =
        cancel_told a.now r dialogs is.is_open (all_right (WasSent (link ∷ [])) (replied server a m 200 [] [] (counted a old)).originals
        (change_packets (cancelled server a.now r)) sent) h
    verdict_told a bytes m short (InDialog address id) dialogs said is sent h =
        let r : OpenRequest = forking a m (dialog_branch server a.now m address ∷ []) in
        opening_told a.now r (after_request server a.now id m dialogs) (forking_came server history a m (dialog_branch server a.now m address ∷ [])
        (here.said a bytes m short said) is.0)
        (unsent_fail (MayBegin server history link r.number) (refuses server history link r.number) (dialog_branch server a.now m address ∷ [])) sent
        (request_told server history link T closed taken a m id dialogs (here.said a bytes m short said) (here.said_now a bytes m short said) is.1
        (within_sent server (link ∷ []) a m address id is.1 sent) h)
    verdict_told a bytes m short (Send q id Targets.NotFound) dialogs said is sent h = h
    verdict_told a bytes m short (Send q id Targets.Unavailable) dialogs said is sent h = h
    verdict_told a bytes m short (Send q id (Targets.Bindings targets)) dialogs said is sent h =
        let branches : List Branch = branches_from a.now 1 (target_list (Targets.Bindings targets)) in
        opening_told a.now (forking a m branches) dialogs (forking_came server history a m branches (here.said a bytes m short said) is)
        (unsent_fail (MayBegin server history link a.number) (refuses server history link a.number) branches) sent h
    verdict_told a bytes m short (Send q id (Targets.Hop uri address)) dialogs said is sent h =
        let branches : List Branch = branches_from a.now 1 (target_list (Targets.Hop uri address)) in
        opening_told a.now (forking a m branches) dialogs (forking_came server history a m branches (here.said a bytes m short said) is)
        (unsent_fail (MayBegin server history link a.number) (refuses server history link a.number) branches) sent h
    verdict_told a bytes m short Drop dialogs said is sent h = h
    verdict_told a bytes m short (Copy r) dialogs said is sent h = h
    verdict_told a bytes m short (Answer status extras) dialogs said is sent h = h
    verdict_told a bytes m short (Challenge q) dialogs said is sent h = h
    verdict_told a bytes m short (Deny q id) dialogs said is sent h = h
    verdict_told a bytes m short (Register q id outcome) dialogs said is sent h = h

    -- a datagram
    datagram_told : (a : Arrival) (bytes : List ℕ) (dialogs : List Dialog)
        → ((m : Message) (short : Bool) → message_in (reading_of bytes) ≡ Some (m, short) → IsSaidAt old act a bytes m short)
        → AllByRecursion (WasSent (link ∷ [])) (option_map_or (λ x. effect_of server a x.0 x.1 (counted a old)) (verdict_of server old a bytes)
        (nothing (counted a old))).originals
        → AllByRecursion T dialogs
        → AllByRecursion T (option_map_or (λ x. verdict_dialogs server a x.0 x.1 dialogs) (verdict_of server old a bytes) dialogs)
    datagram_told a bytes dialogs said sent h = by_message (message_in (reading_of bytes)) refl sent where
      by_message : (o : Option (Message × Bool)) → message_in (reading_of bytes) ≡ o
          → AllByRecursion (WasSent (link ∷ [])) (option_map_or (λ x. effect_of server a x.0 x.1 (counted a old)) (verdict_in server old a o)
          (nothing (counted a old))).originals
          → AllByRecursion T (option_map_or (λ x. verdict_dialogs server a x.0 x.1 dialogs) (verdict_in server old a o) dialogs)
      by_message None is packets = h
      by_message (Some x) is packets = verdict_told a bytes x.0 x.1 (message_verdict server old a x.0 x.1) dialogs (said x.0 x.1 is) (message_facts server old a x.0 x.1)
          packets h

    -- a send of a packet failed
    fault_told : (now : ℕ) (ticket : Ticket) (o : Option OpenRequest) (dialogs : List Dialog) → ((r : OpenRequest) → o ≡ Some r → IsIn r old.requests)
        → AllByRecursion (WasSent (link ∷ [])) (failed_request server now ticket (record old { moment = now }) o).originals → AllByRecursion T dialogs
        → AllByRecursion T (fault_dialogs server now ticket o dialogs)
    fault_told now ticket None dialogs there sent h = h
    fault_told now ticket (Some r) dialogs there sent h = by_branch (find (is_failed ticket.branch) r.branches) sent where
      by_branch : (o : Option Branch) → AllByRecursion (WasSent (link ∷ [])) (failed_branch server now (record old { moment = now }) r o).originals
          → AllByRecursion T (branch_dialogs server now r o dialogs)
      by_branch None packets = h
      by_branch (Some b) packets = failed_told now r b dialogs (there r refl) packets h

  -- any step
  pub step_told : (old : ProxyState) (act : Act) (out : StepOut) (new : ProxyState) (step : IsStep server old act out new) (dialogs : List Dialog)
      → IsHere server history link old act
      → AllByRecursion (WasSent (link ∷ [])) (originals out.packets) → AllByRecursion T dialogs → AllByRecursion T (step_dialogs server old act out new step dialogs)
  step_told old (Given (Datagram at word from bytes)) out new step dialogs here sent h =
      let a : Arrival = arrival_of old at word from in
      datagram_told old (Given (Datagram at word from bytes)) here a bytes dialogs (λ m short says.
      record { at = at; word = word; from = from; is_act = refl; is_arrival = refl; says = says })
      (subst (AllByRecursion (WasSent (link ∷ []))) step.does.sends sent) h
  step_told old (Given (Time at)) out new step dialogs here sent h = h
  step_told old (Given (Fault at ticket)) out new step dialogs here sent h =
      fault_told old (Given (Fault at ticket)) here (moment_of old at) ticket (find (λ (r : OpenRequest). r.number == ticket.datagram) old.requests) dialogs
      (λ r e. (found_in (λ (x : OpenRequest). x.number == ticket.datagram) old.requests r e).0) (subst (AllByRecursion (WasSent (link ∷ []))) step.does.sends sent) h
  step_told old (Passing at) out new (inl quiet) dialogs here sent h = h
  step_told old (Passing at) out new (inr (inl passed)) dialogs here sent h =
      overdue_told old (Passing at) here out.at passed.request passed.change dialogs passed.passes (in_from_contains old.requests passed.request passed.is_open)
      (subst (AllByRecursion (WasSent (link ∷ []))) passed.does.sends sent) h
  step_told old (Passing at) out new (inr (inr goes)) dialogs here sent h = h
