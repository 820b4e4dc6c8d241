-- One answer at most goes to the caller with each input of an open request.
use Rattle.std.proofs.Common.{◌≡◌, ℕ, ◌+◌, ◌≤◌, ◌==◌, Bool, true, false, cond, not, List, [], ◌∷◌, ◌++◌, length, map, filter, Option, Some, None, IfSome, Contains, refl}
use Rattle.std.proofs.Common.{ap, subst, arith, option_map}
use Rattle.std.specs.Prelude.{◌&&◌, ◌||◌}
use Rattle.std.specs.List.{AllByRecursion, list_all}
use Rattle.std.proofs.lemmas.Bool.Decides.{nat_tests}
use Rattle.std.proofs.lemmas.List.Elements.{All-from_recursion, All-contains}
use Rattle.sip_best.specs.Best.{best_of}
use Rattle.sip_event.specs.declared.packet.Packet.{Packet}
use Rattle.sip_message_form.specs.declared.message.Message.{Message}
use Rattle.sip_dialog_updates.specs.state.declared.branch.Branch.{Branch}
use Rattle.sip_dialog_updates.specs.state.declared.branch.Phase.{Phase}
use Rattle.sip_dialog_updates.specs.state.declared.branch.Phase.TheVariants.{Unheard, Heard, Cancelled, Done, Ended}
use Rattle.sip_dialog_updates.specs.state.declared.open_request.OpenRequest.{OpenRequest}
use Rattle.sip_dialog_updates.specs.state.declared.open_request.Side.TheVariants.{Closing, Closed}
use Rattle.sip_dialog_updates.specs.state.declared.open_request.Upward.{Upward}
use Rattle.sip_dialog_updates.specs.state.declared.server.Server.{Server}
use Rattle.sip_dialog_updates.specs.state.State.{is_invite, is_final, is_answering, is_success, is_provisional}
use Rattle.model_steps.specs.context_model.Branches.{Change, is_same_branch, turned, phased, with_phase, marked, given_up, all_final, answered, best_upward, upward_of}
use Rattle.model_steps.specs.context_model.Branches.{upward_list, settled, invite_heard, other_heard, heard, relayed_from, relayed_provisional, is_accepted}
use Rattle.model_steps.specs.context_model.Branches.{relayed_success, with_answer, acks_of, further, target_responded, cancel_responded, responded, branch_overdue}
use Rattle.model_steps.specs.context_model.Opening.{opening, tried, trying}
use Rattle.sip_context.specs.declared.input.Input.{Input}
use Rattle.sip_context.specs.declared.input.Input.TheVariants.{Response, BranchDeadline, SideDeadline, SendFault, Cancel, Ack, BranchAgain, AnswerAgain}
use Rattle.sip_context.specs.Inputs.{outcome_of}
use Rattle.sip_fork.specs.Keeping.{IsOf}

-- one answer at most goes up with a change
abbrev Once : Change → Type 0
Once change = length change.upward ≤ 1

-- ---- what follows every event

short : (o : Option Upward) → length (upward_list o) ≤ 1
short None = omega arith
short (Some u) = omega arith

-- nothing goes up but the best answer
alone : (server : Server) (now : ℕ) (acks : List Packet) (r : OpenRequest) → Once (settled server now acks None r)
alone server now acks r = short (best_upward server r)

-- an answer goes up, and no best one behind it
before_none : (server : Server) (now : ℕ) (acks : List Packet) (u : Upward) (r : OpenRequest) → best_upward server (answered now u r) ≡ None
    → Once (settled server now acks (Some u) r)
before_none server now acks u r none = by_best (best_upward server (answered now u r)) none where
  by_best : (o : Option Upward) → o ≡ None → length ((u ∷ []) ++ upward_list o) ≤ 1
  by_best None e = omega arith
  by_best (Some v) e = absurd (cc)

-- no best one goes up behind a final answer
silent : (server : Server) (r : OpenRequest) → is_answering r.side ≡ false → best_upward server r ≡ None
silent server r is = by_test (is_answering r.side) is where
  by_test : (t : Bool) → t ≡ false → cond (t && all_final r) (option_map (upward_of server r) (best_of r.finals)) None ≡ None
  by_test true e = absurd (cc)
  by_test false e = refl

-- nor while a branch has none
unfinished : (server : Server) (r : OpenRequest) → all_final r ≡ false → best_upward server r ≡ None
unfinished server r is = by_tests (is_answering r.side) (all_final r) is where
  by_tests : (t u : Bool) → u ≡ false → cond (t && u) (option_map (upward_of server r) (best_of r.finals)) None ≡ None
  by_tests true true e = absurd (cc)
  by_tests true false e = refl
  by_tests false u e = refl

-- a final answer begins to close the answering side, or that was closed before
closes : (now : ℕ) (u : Upward) (r : OpenRequest) → is_provisional u.status ≡ false → is_answering (answered now u r).side ≡ false
closes now u r late = by_tests (is_answering r.side) (is_provisional u.status) refl late where
  by_tests : (t v : Bool) → is_answering r.side ≡ t → v ≡ false → is_answering (cond (t && not v) (Closing (now + 32000)) r.side) ≡ false
  by_tests true true is e = absurd (cc)
  by_tests true false is e = refl
  by_tests false v is e = is

-- an answer that is final, if there is one
abbrev IsLate : Option Upward → Type 0
IsLate o = IfSome o (λ (u : Upward). is_provisional u.status ≡ false)

final_once : (server : Server) (now : ℕ) (acks : List Packet) (o : Option Upward) (r : OpenRequest) → IsLate o → Once (settled server now acks o r)
final_once server now acks None r late = alone server now acks r
final_once server now acks (Some u) r late = before_none server now acks u r (silent server (answered now u r) (closes now u r late))

-- ---- a branch without a final answer

-- where all branches to targets are final after a change of each, each is one of a CANCEL or final after it
each_final : (f : Branch → Branch) (bs : List Branch) → list_all (λ (b : Branch). is_final b.phase) (filter (λ (b : Branch). not b.is_cancel) (map f bs)) ≡ true
    → AllByRecursion (λ (x : Branch). ((f x).is_cancel || is_final (f x).phase) ≡ true) bs
each_final f [] all = tt
each_final f (b ∷ bs) all = by_tests (f b).is_cancel (is_final (f b).phase) refl all (λ e. each_final f bs e) where
  others : List Branch
  others = filter (λ (x : Branch). not x.is_cancel) (map f bs)

  by_tests : (t u : Bool) → is_final (f b).phase ≡ u → list_all (λ (x : Branch). is_final x.phase) (cond (not t) (f b ∷ others) others) ≡ true
      → (list_all (λ (x : Branch). is_final x.phase) others ≡ true → AllByRecursion (λ (x : Branch). ((f x).is_cancel || is_final (f x).phase) ≡ true) bs)
      → ((t || u) ≡ true) × AllByRecursion (λ (x : Branch). ((f x).is_cancel || is_final (f x).phase) ≡ true) bs
  by_tests true u is e rest = (refl, rest e)
  by_tests false true is e rest = (refl, rest (behind (is_final (f b).phase) (list_all (λ (x : Branch). is_final x.phase) others) e)) where
    behind : (v w : Bool) → (v && w) ≡ true → w ≡ true
    behind true w e = e
    behind false w e = absurd (cc)
  by_tests false false is e rest = absurd (fails (is_final (f b).phase) is e) where
    fails : (v : Bool) → v ≡ false → (v && list_all (λ (x : Branch). is_final x.phase) others) ≡ true → ⊥
    fails true is e = cc
    fails false is e = cc

-- a branch is itself
itself : (b : Branch) → is_same_branch b b ≡ true
itself b = by_tests (b.number == b.number) b.is_cancel (grind (arith, nat_tests)) where
  by_tests : (t u : Bool) → t ≡ true → (t && cond u u (not u)) ≡ true
  by_tests true true e = refl
  by_tests true false e = refl
  by_tests false u e = absurd (cc)

-- while a branch to a target isn't final, not all are
waits : (r : OpenRequest) (b : Branch) (phase : Phase) → Contains r.branches b → b.is_cancel ≡ false → is_final phase ≡ false → all_final (with_phase b phase r) ≡ false
waits r b phase there target still = by_test (all_final (with_phase b phase r)) refl where
  mine : phased b phase b ≡ turned b phase b
  mine = ap (λ (t : Bool). cond t (turned b phase b) b) (itself b)

  open_still : (c t : Bool) → c ≡ false → t ≡ false → (c || t) ≡ true → ⊥
  open_still true t e f both = cc
  open_still false true e f both = cc
  open_still false false e f both = cc

  by_test : (t : Bool) → all_final (with_phase b phase r) ≡ t → t ≡ false
  by_test true all =
      let P : Branch → Type 0 = λ (x : Branch). ((phased b phase x).is_cancel || is_final (phased b phase x).phase) ≡ true in
      let passed : P b = All-contains P r.branches b (All-from_recursion P r.branches (each_final (phased b phase) r.branches all)) there in
      let told : (b.is_cancel || is_final phase) ≡ true = subst (λ (x : Branch). (x.is_cancel || is_final x.phase) ≡ true) mine passed in
      absurd (open_still b.is_cancel (is_final phase) target still told)
  by_test false all = refl

-- ---- a response

invite_waits : (now status : ℕ) (phase : Phase) → is_final phase ≡ false → is_final (invite_heard now status phase) ≡ false
invite_waits now status (Unheard due) is = by_test (status == 100) where
  by_test : (t : Bool) → is_final (cond t (Heard (due + 153000)) (Heard (now + 185000))) ≡ false
  by_test true = refl
  by_test false = refl
invite_waits now status (Heard due) is = by_test (status == 100) where
  by_test : (t : Bool) → is_final (cond t (Heard due) (Heard (now + 185000))) ≡ false
  by_test true = refl
  by_test false = refl
invite_waits now status (Cancelled due) is = refl
invite_waits now status (Done due first) is = is
invite_waits now status Ended is = is

other_waits : (phase : Phase) → is_final phase ≡ false → is_final (other_heard phase) ≡ false
other_waits (Unheard due) is = refl
other_waits (Heard due) is = refl
other_waits (Cancelled due) is = refl
other_waits (Done due status) is = is
other_waits Ended is = is

-- a branch that heard a provisional response still waits
heard_waits : (r : OpenRequest) (now status : ℕ) (phase : Phase) → is_final phase ≡ false → is_final (heard r now status phase) ≡ false
heard_waits r now status phase is = by_kind (is_invite r) where
  by_kind : (t : Bool) → is_final (cond t (invite_heard now status phase) (other_heard phase)) ≡ false
  by_kind true = invite_waits now status phase is
  by_kind false = other_waits phase is

provisional_once : (server : Server) (now : ℕ) (r : OpenRequest) (b : Branch) (status : ℕ) (m : Message) → Contains r.branches b → b.is_cancel ≡ false
    → Once (settled server now [] (relayed_provisional r b status m) (with_phase b (heard r now status b.phase) r))
provisional_once server now r b status m there target = by_tests (status == 100) (is_final b.phase) (is_answering r.side) refl where
  told : OpenRequest
  told = with_phase b (heard r now status b.phase) r

  by_tests : (t u v : Bool) → is_final b.phase ≡ u → Once (settled server now [] (cond (not t && not u && v) (Some (relayed_from b status m)) None) told)
  by_tests true u v is = alone server now [] told
  by_tests false true v is = alone server now [] told
  by_tests false false true is =
      let u : Upward = relayed_from b status m in
      before_none server now [] u told (unfinished server (answered now u told) (waits r b (heard r now status b.phase) there target
      (heard_waits r now status b.phase is)))
  by_tests false false false is = alone server now [] told

-- a 2xx that goes up is final
success_late : (r : OpenRequest) (b : Branch) (status : ℕ) (m : Message) → is_provisional status ≡ false → IsLate (relayed_success r b status m)
success_late r b status m late = by_test (is_success status && (is_answering r.side || is_accepted r)) where
  by_test : (t : Bool) → IsLate (cond t (Some (relayed_from b status m)) None)
  by_test true = late
  by_test false = tt

further_late : (r : OpenRequest) (b : Branch) (phase : Phase) (status : ℕ) (m : Message) → is_provisional status ≡ false → IsLate (further r b phase status m)
further_late r b (Unheard due) status m late = tt
further_late r b (Heard due) status m late = tt
further_late r b (Cancelled due) status m late = tt
further_late r b (Done due first) status m late = by_test (is_invite r && is_success first) where
  by_test : (t : Bool) → IsLate (cond t (relayed_success r b status m) None)
  by_test true = success_late r b status m late
  by_test false = tt
further_late r b Ended status m late = tt

target_once : (server : Server) (now : ℕ) (r : OpenRequest) (b : Branch) (status : ℕ) (m : Message) → Contains r.branches b → b.is_cancel ≡ false
    → Once (target_responded server now r b status m)
target_once server now r b status m there target = by_tests (is_provisional status) (is_final b.phase) refl where
  by_tests : (t u : Bool) → is_provisional status ≡ t
      → Once (cond t (settled server now [] (relayed_provisional r b status m) (with_phase b (heard r now status b.phase) r))
      (cond u (settled server now [] (further r b b.phase status m) r) (settled server now (acks_of server r b status m) (relayed_success r b status m)
      (with_answer r b now status m))))
  by_tests true u is = provisional_once server now r b status m there target
  by_tests false true is = final_once server now [] (further r b b.phase status m) r (further_late r b b.phase status m is)
  by_tests false false is = final_once server now (acks_of server r b status m) (relayed_success r b status m) (with_answer r b now status m)
      (success_late r b status m is)

cancel_once : (server : Server) (now : ℕ) (r : OpenRequest) (b : Branch) (status : ℕ) (m : Message) → Once (cancel_responded server now r b status m)
cancel_once server now r b status m = by_tests (is_provisional status) (is_final b.phase) where
  by_tests : (t u : Bool)
      → Once (cond t (settled server now [] None (with_phase b (other_heard b.phase) r))
      (cond u (settled server now [] None r) (settled server now [] None (with_phase b (Done (now + 5000) status) r))))
  by_tests true u = alone server now [] (with_phase b (other_heard b.phase) r)
  by_tests false true = alone server now [] r
  by_tests false false = alone server now [] (with_phase b (Done (now + 5000) status) r)

responded_once : (server : Server) (now : ℕ) (r : OpenRequest) (b : Branch) (status : ℕ) (m : Message) → Contains r.branches b → Once (responded server now r b status m)
responded_once server now r b status m there = by_kind b.is_cancel refl where
  by_kind : (c : Bool) → b.is_cancel ≡ c → Once (cond c (cancel_responded server now r b status m) (target_responded server now r b status m))
  by_kind true is = cancel_once server now r b status m
  by_kind false is = target_once server now r b status m there is

-- ---- inputs, and openings

pub input_once : (server : Server) (now : ℕ) (r : OpenRequest) (input : Input) → IsOf r now input → length (outcome_of server now r input).upward ≤ 1
input_once server now r (Response branch status response) of = responded_once server now r branch.now status response.now of
input_once server now r (BranchDeadline branch) of = alone server now [] (branch_overdue r branch.now)
input_once server now r SideDeadline of = alone server now [] (record r { side = Closed })
input_once server now r (SendFault branch) of = alone server now [] (given_up branch.now 503 r)
input_once server now r Cancel of = alone server now [] (cond (is_invite r && is_answering r.side) (marked r) r)
input_once server now r Ack of = omega arith
input_once server now r (BranchAgain branch) of = omega arith
input_once server now r AnswerAgain of = omega arith

pub opening_once : (server : Server) (now : ℕ) (r : OpenRequest) → length (opening server now r).upward ≤ 1
opening_once server now r = alone server now [] (tried now (trying server r) r)
