-- How many dialogs may begin by what goes to the caller.
use Rattle.std.proofs.Common.{◌≡◌, ◌∙◌, ℕ, zero, suc, ◌+◌, ◌<◌, ◌≤◌, ◌==◌, Bool, true, false, not, ◌&&◌, cond, List, [], ◌∷◌, map, length, slice_index_or, Contains}
use Rattle.std.proofs.Common.{is_some, Option, Some, None, refl, sym, ap, subst, arith}
use Rattle.std.specs.Prelude.{◌||◌, count_by, filter, nat_le, option_map}
use Rattle.std.specs.List.{AllByRecursion, list_all}
use Rattle.std.proofs.lemmas.Bool.Decides.{nat_tests}
use Rattle.sip_message_form.specs.declared.message.Message.{Message}
use Rattle.sip_event.specs.declared.packet.Packet.{Packet}
use Rattle.sip_best.specs.declared.final_answer.Final.{Final}
use Rattle.sip_best.specs.Best.{is_unbeaten, picked, chosen_of, challenging, is_challenge_status, going_up, best_of}
use Rattle.sip_dialog_updates.specs.state.Arrival.{Arrival}
use Rattle.sip_dialog_updates.specs.state.declared.server.Server.{Server}
use Rattle.sip_dialog_updates.specs.state.declared.branch.Phase.{Phase}
use Rattle.sip_dialog_updates.specs.state.declared.branch.Phase.TheVariants.{Unheard, Heard, Cancelled, Done, Ended}
use Rattle.sip_dialog_updates.specs.state.declared.branch.Branch.{Branch}
use Rattle.sip_dialog_updates.specs.state.declared.open_request.Side.{Side}
use Rattle.sip_dialog_updates.specs.state.declared.open_request.Side.TheVariants.{Answering, Closing, Acknowledged, Closed}
use Rattle.sip_dialog_updates.specs.state.declared.open_request.OpenRequest.{OpenRequest}
use Rattle.sip_dialog_updates.specs.state.declared.open_request.Upward.{Upward}
use Rattle.sip_dialog_updates.specs.state.State.{is_invite, is_answering, is_final, is_provisional, is_success}
use Rattle.sip_forwarding.specs.context_model.Branches.{Change, settled, answered, upward_list, upward_of, best_upward, all_final, turned, phased, with_phase}
use Rattle.sip_forwarding.specs.context_model.Branches.{invite_heard, other_heard, heard, relayed_from, relayed_provisional, relayed_success, is_accepted, further}
use Rattle.sip_forwarding.specs.context_model.Branches.{with_answer, acks_of, responded, target_responded, cancel_responded, branch_overdue, given_up, marked}
use Rattle.sip_forwarding.specs.context_model.Sending.{made_answer}
use Rattle.sip_forwarding.specs.context_model.Opening.{unsent, forking, trying, tried, opening, is_tried}
use Rattle.sip_dialog_updates.specs.Telling.{is_early_or_success}
use Rattle.sip_context.specs.declared.input.Input.{Input}
use Rattle.sip_context.specs.declared.input.Input.TheVariants.{Response, BranchDeadline, SideDeadline, SendFault, Cancel, Ack, BranchAgain, AnswerAgain}
use Rattle.sip_context.specs.Inputs.{outcome_of}
use Rattle.sip_forwarding.specs.Forwarding.{IsInputTo}

-- how many of what goes to the caller may make a dialog known
abbrev pub beginners : List Upward → ℕ
beginners upward = count_by is_early_or_success upward

-- ---- at an opening

-- answers of branches that could not be sent to
abbrev pub AreUnsent : List Final → Type 0
AreUnsent finals = AllByRecursion (λ (f : Final). f.status ≡ 503) finals

unsent_are : (bs : List Branch) → AreUnsent (unsent bs)
unsent_are [] = tt
unsent_are (b ∷ bs) = by_test (not (is_some b.address)) (unsent_are bs) where
  by_test : (t : Bool) → AreUnsent (unsent bs) → AreUnsent (map (λ (b : Branch). record { status = 503; message = None })
      (cond t (b ∷ filter (λ (b : Branch). not (is_some b.address)) bs) (filter (λ (b : Branch). not (is_some b.address)) bs)))
  by_test true rest = (refl, rest)
  by_test false rest = rest

-- one that is picked among them is one
abbrev pub IsUnsentPick : Option (Final × List Final) → Type 0
IsUnsentPick None = Unit {0}
IsUnsentPick (Some x) = x.0.status ≡ 503

picked_unsent : (test : Final → Bool) (fs : List Final) → AreUnsent fs → IsUnsentPick (picked test fs)
picked_unsent test [] all = tt
picked_unsent test (f ∷ fs) all = by_test (test f) (picked test fs) (picked_unsent test fs all.1) where
  by_test : (t : Bool) (o : Option (Final × List Final)) → IsUnsentPick o → IsUnsentPick (cond t (Some (f, fs)) (option_map (λ x. (x.0, f ∷ x.1)) o))
  by_test true o is = all.0
  by_test false None is = tt
  by_test false (Some x) is = is

-- what it goes up as begins no dialog
goes_up : (others : List Final) (f : Final) → f.status ≡ 503 → (going_up others f).status ≡ 500
goes_up others f is = ap (λ (t : Bool). (cond t (record { status = 500; message = None }) (cond (is_challenge_status f.status) (challenging others f) f)).status)
    (ap (λ (n : ℕ). n == 503) is)

begins_none : (server : Server) (r : OpenRequest) (o : Option (Final × List Final)) → IsUnsentPick o
    → beginners (upward_list (option_map (upward_of server r) (option_map (λ x. going_up x.1 x.0) o))) ≡ 0
begins_none server r None is = refl
begins_none server r (Some x) is = ap (λ (n : ℕ). 0 + cond {A = ℕ} (not (nat_le n 100) && nat_le n 299) 1 0) (goes_up x.1 x.0 is)

best_begins_none : (server : Server) (r : OpenRequest) → AreUnsent r.finals → beginners (upward_list (best_upward server r)) ≡ 0
best_begins_none server r all = by_test (is_answering r.side && all_final r) where
  by_test : (t : Bool) → beginners (upward_list (cond t (option_map (upward_of server r) (best_of r.finals)) None)) ≡ 0
  by_test true = begins_none server r (chosen_of r.finals) (picked_unsent (is_unbeaten r.finals) r.finals all)
  by_test false = refl

-- a 100 keeps the answers
tried_unsent : (server : Server) (now : ℕ) (r : OpenRequest) → AreUnsent r.finals → AreUnsent (tried now (trying server r) r).finals
tried_unsent server now r all = by_test (is_tried r) where
  up : Upward
  up = record { status = 100; message = made_answer server r.number r.request.message r.request.source 100 []; target = None }

  by_test : (t : Bool) → AreUnsent (tried now (cond t (up ∷ []) []) r).finals
  by_test true = all
  by_test false = all

-- so no dialog begins when a request is sent on
pub opening_begins_none : (server : Server) (now : ℕ) (a : Arrival) (m : Message) (branches : List Branch)
    → beginners (opening server now (forking a m branches)).upward ≡ 0
opening_begins_none server now a m branches =
    best_begins_none server (tried now (trying server (forking a m branches)) (forking a m branches))
    (tried_unsent server now (forking a m branches) (unsent_are branches))

-- ---- at an input

one_begins : (u : Upward) → beginners (u ∷ []) ≤ 1
one_begins u = by_test (is_early_or_success u) where
  by_test : (t : Bool) → 0 + cond {A = ℕ} t 1 0 ≤ 1
  by_test true = omega arith
  by_test false = omega arith

best_begins_one : (o : Option Upward) → beginners (upward_list o) ≤ 1
best_begins_one None = omega arith
best_begins_one (Some u) = one_begins u

-- nothing goes to the caller but a best answer
settled_few : (server : Server) (now : ℕ) (acks : List Packet) (r : OpenRequest) → beginners (settled server now acks None r).upward ≤ 1
settled_few server now acks r = best_begins_one (best_upward server r)

-- an answer goes to the caller, and no best one behind it
relayed_few : (server : Server) (now : ℕ) (acks : List Packet) (u : Upward) (r : OpenRequest) → best_upward server (answered now u r) ≡ None
    → beginners (settled server now acks (Some u) r).upward ≤ 1
relayed_few server now acks u r none = subst (λ (o : Option Upward). beginners (u ∷ upward_list o) ≤ 1) (sym none) (one_begins u)

and_false : (a b : Bool) → b ≡ false → (a && b) ≡ false
and_false true b is = is
and_false false b is = refl

middle_true : (a b c : Bool) → (a && b && c) ≡ true → b ≡ true
middle_true true true c is = refl
middle_true true false c is = absurd (cc)
middle_true false b c is = absurd (cc)

first_true : (a b : Bool) → (a && b) ≡ true → a ≡ true
first_true true b is = refl
first_true false b is = absurd (cc)

not_true : (a : Bool) → not a ≡ true → a ≡ false
not_true true is = absurd (cc)
not_true false is = refl

none_if_closed : (server : Server) (r : OpenRequest) → is_answering r.side ≡ false → best_upward server r ≡ None
none_if_closed server r is = ap (λ (t : Bool). cond (t && all_final r) (option_map (upward_of server r) (best_of r.finals)) None) is

none_if_open : (server : Server) (r : OpenRequest) → all_final r ≡ false → best_upward server r ≡ None
none_if_open server r is = ap (λ (t : Bool). cond t (option_map (upward_of server r) (best_of r.finals)) None) (and_false (is_answering r.side) (all_final r) is)

-- a final answer closes the answering side
closed_by_final : (now : ℕ) (u : Upward) (r : OpenRequest) → is_provisional u.status ≡ false → is_answering (answered now u r).side ≡ false
closed_by_final now u r late = by_side r.side (is_provisional u.status) late where
  by_side : (s : Side) (p : Bool) → p ≡ false → is_answering (cond (is_answering s && not p) (Closing (now + 32000)) s) ≡ false
  by_side Answering true is = absurd (cc)
  by_side Answering false is = refl
  by_side (Closing due) p is = refl
  by_side (Acknowledged due) p is = refl
  by_side Closed p is = refl

success_is_final : (status : ℕ) → is_success status ≡ true → is_provisional status ≡ false
success_is_final status is = grind (arith, nat_tests)

success_few : (server : Server) (now : ℕ) (acks : List Packet) (r : OpenRequest) (b : Branch) (status : ℕ) (m : Message) (after : OpenRequest)
    → beginners (settled server now acks (relayed_success r b status m) after).upward ≤ 1
success_few server now acks r b status m after = by_test (is_success status && (is_answering r.side || is_accepted r)) refl where
  by_test : (t : Bool) → (is_success status && (is_answering r.side || is_accepted r)) ≡ t
      → beginners (settled server now acks (cond t (Some (relayed_from b status m)) None) after).upward ≤ 1
  by_test true is =
      relayed_few server now acks (relayed_from b status m) after
      (none_if_closed server (answered now (relayed_from b status m) after) (closed_by_final now (relayed_from b status m) after
      (success_is_final status (first_true (is_success status) (is_answering r.side || is_accepted r) is))))
  by_test false is = settled_few server now acks after

further_few : (server : Server) (now : ℕ) (acks : List Packet) (r : OpenRequest) (b : Branch) (phase : Phase) (status : ℕ) (m : Message)
    → beginners (settled server now acks (further r b phase status m) r).upward ≤ 1
further_few server now acks r b (Unheard due) status m = settled_few server now acks r
further_few server now acks r b (Heard due) status m = settled_few server now acks r
further_few server now acks r b (Cancelled due) status m = settled_few server now acks r
further_few server now acks r b (Done due first) status m = by_test (is_invite r && is_success first) where
  by_test : (t : Bool) → beginners (settled server now acks (cond t (relayed_success r b status m) None) r).upward ≤ 1
  by_test true = success_few server now acks r b status m r
  by_test false = settled_few server now acks r
further_few server now acks r b Ended status m = settled_few server now acks r

-- ---- a provisional response: its branch has no final answer, so that not all have

heard_open : (invite : Bool) (now status : ℕ) (phase : Phase) → is_final phase ≡ false
    → is_final (cond invite (invite_heard now status phase) (other_heard phase)) ≡ false
heard_open true now status (Unheard due) is = by_test (status == 100) where
  by_test : (t : Bool) → is_final (cond t (Heard (due + 153000)) (Heard (now + 185000))) ≡ false
  by_test true = refl
  by_test false = refl
heard_open true now status (Heard due) is = by_test (status == 100) where
  by_test : (t : Bool) → is_final (cond t (Heard due) (Heard (now + 185000))) ≡ false
  by_test true = refl
  by_test false = refl
heard_open true now status (Cancelled due) is = refl
heard_open true now status (Done due first) is = absurd (cc)
heard_open true now status Ended is = absurd (cc)
heard_open false now status (Unheard due) is = refl
heard_open false now status (Heard due) is = refl
heard_open false now status (Cancelled due) is = refl
heard_open false now status (Done due first) is = absurd (cc)
heard_open false now status Ended is = absurd (cc)

same_self : (n : ℕ) (c : Bool) → (n == n && cond c c (not c)) ≡ true
same_self n true = grind (arith, nat_tests)
same_self n false = grind (arith, nat_tests)

-- whether all branches to targets have a final answer
abbrev pub finals_in : List Branch → Bool
finals_in bs = list_all (λ (b : Branch). is_final b.phase) (filter (λ (b : Branch). not b.is_cancel) bs)

open_in_front : (b : Branch) (phase : Phase) (rest : List Branch) → b.is_cancel ≡ false → is_final phase ≡ false → finals_in (phased b phase b ∷ rest) ≡ false
open_in_front b phase rest target undone =
    ap (λ (t : Bool). finals_in (cond t (turned b phase b) b ∷ rest)) (same_self b.number b.is_cancel)
    ∙ ap (λ (c : Bool). list_all (λ (b : Branch). is_final b.phase) (cond (not c) (turned b phase b ∷ filter (λ (b : Branch). not b.is_cancel) rest)
    (filter (λ (b : Branch). not b.is_cancel) rest))) target
    ∙ ap (λ (t : Bool). t && finals_in rest) undone

open_behind : (x : Branch) (rest : List Branch) → finals_in rest ≡ false → finals_in (x ∷ rest) ≡ false
open_behind x rest is = by_test (not x.is_cancel) where
  by_test : (t : Bool) → list_all (λ (b : Branch). is_final b.phase) (cond t (x ∷ filter (λ (b : Branch). not b.is_cancel) rest)
      (filter (λ (b : Branch). not b.is_cancel) rest)) ≡ false
  by_test true = and_false (is_final x.phase) (finals_in rest) is
  by_test false = is

still_open : (xs : List Branch) (k : ℕ) (b : Branch) (phase : Phase) → k < length xs → slice_index_or xs k b ≡ b → b.is_cancel ≡ false → is_final phase ≡ false
    → finals_in (map (phased b phase) xs) ≡ false
still_open [] k b phase lt is target undone = absurd (omega arith)
still_open (x ∷ xs) zero b phase lt is target undone =
    ap (λ (v : Branch). finals_in (phased b phase v ∷ map (phased b phase) xs)) is ∙ open_in_front b phase (map (phased b phase) xs) target undone
still_open (x ∷ xs) (suc k) b phase lt is target undone = open_behind (phased b phase x) (map (phased b phase) xs)
    (still_open xs k b phase (omega arith) is target undone)

provisional_few : (server : Server) (now : ℕ) (acks : List Packet) (r : OpenRequest) (b : Branch) (status : ℕ) (m : Message) → Contains r.branches b → b.is_cancel ≡ false
    → beginners (settled server now acks (relayed_provisional r b status m) (with_phase b (heard r now status b.phase) r)).upward ≤ 1
provisional_few server now acks r b status m there target = by_test (not (status == 100) && not (is_final b.phase) && is_answering r.side) refl where
  after : OpenRequest
  after = with_phase b (heard r now status b.phase) r

  by_test : (t : Bool) → (not (status == 100) && not (is_final b.phase) && is_answering r.side) ≡ t
      → beginners (settled server now acks (cond t (Some (relayed_from b status m)) None) after).upward ≤ 1
  by_test true is =
      relayed_few server now acks (relayed_from b status m) after
      (none_if_open server (answered now (relayed_from b status m) after)
      (still_open r.branches there.0 b (heard r now status b.phase) there.1 there.2 target
      (heard_open (is_invite r) now status b.phase (not_true (is_final b.phase) (middle_true (not (status == 100)) (not (is_final b.phase)) (is_answering r.side) is)))))
  by_test false is = settled_few server now acks after

-- ---- any input

either_few : (t : Bool) (c d : Change) → beginners c.upward ≤ 1 → beginners d.upward ≤ 1 → beginners (cond t c d).upward ≤ 1
either_few true c d a b = a
either_few false c d a b = b

cancel_few : (server : Server) (now : ℕ) (r : OpenRequest) (b : Branch) (status : ℕ) (m : Message) → beginners (cancel_responded server now r b status m).upward ≤ 1
cancel_few server now r b status m =
    either_few (is_provisional status) _ _ (settled_few server now [] (with_phase b (other_heard b.phase) r))
    (either_few (is_final b.phase) _ _ (settled_few server now [] r) (settled_few server now [] (with_phase b (Done (now + 5000) status) r)))

target_few : (server : Server) (now : ℕ) (r : OpenRequest) (b : Branch) (status : ℕ) (m : Message) → Contains r.branches b → b.is_cancel ≡ false
    → beginners (target_responded server now r b status m).upward ≤ 1
target_few server now r b status m there target =
    either_few (is_provisional status) _ _ (provisional_few server now [] r b status m there target)
    (either_few (is_final b.phase) _ _ (further_few server now [] r b b.phase status m)
    (success_few server now (acks_of server r b status m) r b status m (with_answer r b now status m)))

responded_few : (server : Server) (now : ℕ) (r : OpenRequest) (b : Branch) (status : ℕ) (m : Message) → Contains r.branches b
    → beginners (responded server now r b status m).upward ≤ 1
responded_few server now r b status m there = by_test b.is_cancel refl where
  by_test : (t : Bool) → b.is_cancel ≡ t → beginners (cond t (cancel_responded server now r b status m) (target_responded server now r b status m)).upward ≤ 1
  by_test true is = cancel_few server now r b status m
  by_test false is = target_few server now r b status m there is

-- an input to a request lets at most one dialog begin
pub input_begins_one : (server : Server) (now : ℕ) (r : OpenRequest) (input : Input) → IsInputTo r input → beginners (outcome_of server now r input).upward ≤ 1
input_begins_one server now r (Response branch status response) there = responded_few server now r branch.now status response.now there
input_begins_one server now r (BranchDeadline branch) there = settled_few server now [] (branch_overdue r branch.now)
input_begins_one server now r SideDeadline there = settled_few server now [] (record r { side = Closed })
input_begins_one server now r (SendFault branch) there = settled_few server now [] (given_up branch.now 503 r)
input_begins_one server now r Cancel there = settled_few server now [] (cond (is_invite r && is_answering r.side) (marked r) r)
input_begins_one server now r Ack there = omega arith
input_begins_one server now r (BranchAgain branch) there = omega arith
input_begins_one server now r AnswerAgain there = omega arith
