-- What the changes of an open request have in common: an event makes a request in between of it, which then settles.
use Rattle.std.proofs.Common.{◌≡◌, ◌⊎◌, inl, inr, ℕ, ◌+◌, ◌≤◌, Bool, true, false, not, ◌&&◌, ◌||◌, cond, ◌==◌, List, [], ◌∷◌, ◌++◌, map, Option, Some, None, refl, sym}
use Rattle.std.proofs.Common.{ap, ◌∙◌, arith, subst}
use Rattle.std.specs.List.{AllByRecursion, list_any}
use Rattle.sip_message_form.specs.declared.message.Message.{Message}
use Rattle.sip_best.specs.declared.final_answer.Final.{Final}
use Rattle.sip_event.specs.declared.packet.Packet.{Packet}
use Rattle.model_steps.specs.state.declared.resend.Resend.{Resend}
use Rattle.model_steps.specs.state.declared.server.Server.{Server}
use Rattle.model_steps.specs.state.declared.branch.Phase.{Phase}
use Rattle.model_steps.specs.state.declared.open_request.Side.{Side}
use Rattle.model_steps.specs.state.declared.branch.Branch.{Branch}
use Rattle.model_steps.specs.state.declared.open_request.OpenRequest.{OpenRequest}
use Rattle.model_steps.specs.state.declared.branch.Phase.TheVariants.{Unheard, Heard, Cancelled, Done, Ended}
use Rattle.model_steps.specs.state.declared.open_request.Side.TheVariants.{Answering, Closing, Acknowledged, Closed}
use Rattle.model_steps.specs.state.State.{is_invite, is_final, is_answering, phase_deadline, side_deadline, is_success, is_decline, is_provisional}
use Rattle.model_steps.specs.state.declared.open_request.Upward.{Upward}
use Rattle.model_steps.specs.context_model.Retransmission.{IsResent, OfAnswer, OfRequest, branch_next}
use Rattle.model_steps.specs.context_model.Branches.{Change, is_same_branch, with_phase, with_final, marked, given_up, settled, invite_heard, other_heard, heard}
use Rattle.model_steps.specs.context_model.Branches.{relayed_from, relayed_provisional, relayed_success, is_accepted, further, with_answer, acks_of, final_of, linger}
use Rattle.model_steps.specs.context_model.Branches.{target_responded, cancel_responded, responded, target_overdue, side_overdue, turned, told_to}
use Rattle.model_steps.specs.Step.{IsOverdue, OfSide, OfBranch}
use Rattle.sip_model.specs.Order.{IsChangeOf, ByResponse, ByDeadline, ByFault, ByCancel}
use Rattle.sip_model.proofs.Places.{IsIn, all_in, in_from_contains, contains_from_in}
use Rattle.sip_model.proofs.Resending.{DueFrom, both_cancel, goes, IsBranchAgain, IsAgain, branch_again, phase_again, final_only, other_only, heard_only, marked_again}
use Rattle.sip_model.proofs.Resending.{wanting_again, final_again, closed_again}

-- ---- what an event keeps

-- a list that isn't empty
abbrev pub IsSome : {X : Type 0} → List X → Type 0
IsSome [] = ⊥
IsSome (x ∷ xs) = Unit {0}

-- no deadline of a request stands before a moment
pub record IsDue (floor : ℕ) (r : OpenRequest) : Type 0 where
  pub side_due : DueFrom floor (side_deadline r.side)
  pub branches_due : AllByRecursion (λ (b : Branch). DueFrom floor (phase_deadline b.phase)) r.branches

-- where a branch to a target has a final answer, the request has one
abbrev pub IsSeen : List Final → Branch → Type 0
IsSeen finals b = b.is_cancel ≡ false → is_final b.phase ≡ true → IsSome finals

-- a final answer has no provisional status
abbrev pub IsFinalStatus : Final → Type 0
IsFinalStatus f = is_provisional f.status ≡ false

-- whether a branch goes to a target
abbrev pub is_target : Branch → Bool
is_target b = not b.is_cancel

-- While a request owes an answer none of its branches' final answers is missing, and it has a branch to a target; once it had its answer none is kept. Each that is kept
-- is final.
pub record IsCounted (r : OpenRequest) : Type 0 where
  pub seen : is_answering r.side ≡ true → AllByRecursion (IsSeen r.finals) r.branches
  pub none_kept : is_answering r.side ≡ false → r.finals ≡ []
  pub final : AllByRecursion IsFinalStatus r.finals
  pub has_target : is_answering r.side ≡ true → list_any is_target r.branches ≡ true

-- an answer that goes up at once: a provisional one while none was final, or a 2xx, the first or a further one of an INVITE
abbrev pub IsRelayed : OpenRequest → Option Upward → Type 0
IsRelayed r None = Unit {0}
IsRelayed r (Some u) = ((is_provisional u.status ≡ true) × (is_answering r.side ≡ true))
    ⊎ ((is_success u.status ≡ true) × ((is_answering r.side || is_accepted r) ≡ true))

-- a side that an event leaves as it is, or closes once its deadline has passed
abbrev pub IsSideAfter : Side → Side → Type 0
IsSideAfter old new = (new ≡ old) ⊎ ((is_answering old ≡ false) × (new ≡ Closed))

-- A change is a request in between that settles: it has the name and the last answer of the request; what went up at once may; it arms nothing before the moment,
-- and brings nothing forward that goes again; and its final answers are all there.
pub record IsEvent (server : Server) (now : ℕ) (r : OpenRequest) (change : Change) : Type 0 where
  pub acks : List Packet
  pub relayed : Option Upward
  pub between : OpenRequest
  pub is_change : change ≡ settled server now acks relayed between
  pub key_is : between.key ≡ r.key
  pub number_is : between.number ≡ r.number
  pub answer_is : between.answer ≡ r.answer
  pub side_is : IsSideAfter r.side between.side
  pub relayed_is : IsRelayed r relayed
  pub due : (floor : ℕ) → floor ≤ now + 1 → IsDue floor r → IsDue floor between
  pub again : (floor : ℕ) → IsAgain floor r → IsAgain floor between
  pub counted : IsCounted r → IsCounted between

-- ---- lists of branches

-- what is kept for each branch is kept for all
pub all_map : (P Q : Branch → Type 0) (f : Branch → Branch) (xs : List Branch) → ((x : Branch) → P x → Q (f x)) → AllByRecursion P xs → AllByRecursion Q (map f xs)
all_map P Q f [] each all = tt
all_map P Q f (x ∷ xs) each all = (each x all.0, all_map P Q f xs each all.1)

-- branches to targets stay such
pub any_map : (f : Branch → Branch) (xs : List Branch) → ((x : Branch) → (f x).is_cancel ≡ x.is_cancel) → list_any is_target (map f xs) ≡ list_any is_target xs
any_map f [] same = refl
any_map f (x ∷ xs) same = let here = same x in let rest = any_map f xs same in cc

-- ---- a branch in another phase

-- a branch in another phase
abbrev in_phase : Branch → Phase → Branch → Branch
in_phase b phase x = cond (is_same_branch x b) (turned b phase x) x

-- it goes where it went
same_cancel : (b x : Branch) (phase : Phase) (t : Bool) → (cond t (turned b phase x) x).is_cancel ≡ x.is_cancel
same_cancel b x phase true = refl
same_cancel b x phase false = refl

-- its deadline is the phase's
due_in_phase : (floor : ℕ) (b : Branch) (phase : Phase) (x : Branch) (t : Bool) → DueFrom floor (phase_deadline phase) → DueFrom floor (phase_deadline x.phase)
    → DueFrom floor (phase_deadline (cond t (turned b phase x) x).phase)
due_in_phase floor b phase x true later before = later
due_in_phase floor b phase x false later before = before

-- deadlines of a request with a branch in another phase
phase_due : (floor : ℕ) (b : Branch) (phase : Phase) (r : OpenRequest) → DueFrom floor (phase_deadline phase) → IsDue floor r → IsDue floor (with_phase b phase r)
phase_due floor b phase r later h = record {
  side_due = h.side_due;
  branches_due = all_map (λ x. DueFrom floor (phase_deadline x.phase)) (λ x. DueFrom floor (phase_deadline x.phase)) (in_phase b phase) r.branches
      (λ x before. due_in_phase floor b phase x (is_same_branch x b) later before) h.branches_due;
}

-- the final answer of the branch is there
seen_in_phase : (finals : List Final) (b : Branch) (phase : Phase) (x : Branch) (t : Bool) → is_same_branch x b ≡ t
    → (b.is_cancel ≡ false → is_final phase ≡ true → IsSome finals) → IsSeen finals x
    → IsSeen finals (cond t (turned b phase x) x)
seen_in_phase finals b phase x true same later before = λ target final. later (sym (both_cancel x.is_cancel b.is_cancel (x.number == b.number) same) ∙ target) final
seen_in_phase finals b phase x false same later before = before

-- and so are those of the request
phase_counted : (b : Branch) (phase : Phase) (r : OpenRequest) → (is_answering r.side ≡ true → b.is_cancel ≡ false → is_final phase ≡ true → IsSome r.finals)
    → IsCounted r → IsCounted (with_phase b phase r)
phase_counted b phase r later h = record {
  seen = λ owes. all_map (IsSeen r.finals) (IsSeen r.finals) (in_phase b phase) r.branches
      (λ x before. seen_in_phase r.finals b phase x (is_same_branch x b) refl (later owes) before) (h.seen owes);
  none_kept = h.none_kept;
  final = h.final;
  has_target = λ answering. any_map (in_phase b phase) r.branches (λ x. same_cancel b x phase (is_same_branch x b)) ∙ h.has_target answering;
}

-- ---- one more final answer

-- a list with one more element isn't empty
some_behind : {X : Type 0} (xs : List X) (x : X) → IsSome (xs ++ x ∷ [])
some_behind [] x = tt
some_behind (y ∷ ys) x = tt

-- one more final answer
final_behind : (fs : List Final) (f : Final) → IsFinalStatus f → AllByRecursion IsFinalStatus fs → AllByRecursion IsFinalStatus (fs ++ f ∷ [])
final_behind [] f h all = (h, tt)
final_behind (g ∷ gs) f h all = (all.0, final_behind gs f h all.1)

-- of two lists, whichever
pub final_either : (t : Bool) (fs gs : List Final) → AllByRecursion IsFinalStatus fs → AllByRecursion IsFinalStatus gs → AllByRecursion IsFinalStatus (cond t fs gs)
final_either true fs gs first second = first
final_either false fs gs first second = second

-- where a request has a final answer, each branch may
all_seen : (finals : List Final) (xs : List Branch) → IsSome finals → AllByRecursion (IsSeen finals) xs
all_seen finals [] some = tt
all_seen finals (x ∷ xs) some = (λ target final. some, all_seen finals xs some)

-- a final answer of a branch, in whichever phase the branch is after it
final_counted : (f : Final) (b : Branch) (phase : Phase) (r : OpenRequest) → IsFinalStatus f → IsCounted r → IsCounted (with_final f (with_phase b phase r))
final_counted f b phase r status h = record {
  seen = λ owes. all_seen (cond (is_answering r.side) (r.finals ++ f ∷ []) r.finals) (map (in_phase b phase) r.branches)
      (subst (λ (t : Bool). IsSome (cond t (r.finals ++ f ∷ []) r.finals)) (sym owes) (some_behind r.finals f));
  none_kept = λ had. subst (λ (t : Bool). cond t (r.finals ++ f ∷ []) r.finals ≡ []) (sym had) (h.none_kept had);
  final = final_either (is_answering r.side) (r.finals ++ f ∷ []) r.finals (final_behind r.finals f status h.final) h.final;
  has_target = λ answering. any_map (in_phase b phase) r.branches (λ x. same_cancel b x phase (is_same_branch x b)) ∙ h.has_target answering;
}

-- ---- branches that are to be cancelled

-- a branch that is to be cancelled, if a test passes
abbrev wanted : Bool → Branch → Branch
wanted t x = cond t (record x { wants_cancel = true }) x

-- it goes where it went
wanted_cancel : (t : Bool) (x : Branch) → (wanted t x).is_cancel ≡ x.is_cancel
wanted_cancel true x = refl
wanted_cancel false x = refl

-- its deadline stays
wanted_due : (floor : ℕ) (t : Bool) (x : Branch) → DueFrom floor (phase_deadline x.phase) → DueFrom floor (phase_deadline (wanted t x).phase)
wanted_due floor true x h = h
wanted_due floor false x h = h

-- so does its final answer
wanted_seen : (finals : List Final) (t : Bool) (x : Branch) → IsSeen finals x → IsSeen finals (wanted t x)
wanted_seen finals true x h = h
wanted_seen finals false x h = h

-- the same where the test keeps a branch as it is: its deadline
marked_due_at : (floor : ℕ) (t : Bool) (x : Branch) → DueFrom floor (phase_deadline x.phase)
    → DueFrom floor (phase_deadline (cond t x (record x { wants_cancel = true })).phase)
marked_due_at floor true x h = h
marked_due_at floor false x h = h

-- its final answer
marked_seen_at : (finals : List Final) (t : Bool) (x : Branch) → IsSeen finals x → IsSeen finals (cond t x (record x { wants_cancel = true }))
marked_seen_at finals true x h = h
marked_seen_at finals false x h = h

-- and where it goes
marked_cancel : (t : Bool) (x : Branch) → (cond t x (record x { wants_cancel = true })).is_cancel ≡ x.is_cancel
marked_cancel true x = refl
marked_cancel false x = refl

-- deadlines stay where branches are to be cancelled
marked_due : (floor : ℕ) (r : OpenRequest) → IsDue floor r → IsDue floor (marked r)
marked_due floor r h = record {
  side_due = h.side_due;
  branches_due = all_map (λ x. DueFrom floor (phase_deadline x.phase)) (λ x. DueFrom floor (phase_deadline x.phase))
      (λ (x : Branch). cond (x.is_cancel || is_final x.phase) x (record x { wants_cancel = true })) r.branches
      (λ x before. marked_due_at floor (x.is_cancel || is_final x.phase) x before) h.branches_due;
}

-- and so do final answers
marked_counted : (r : OpenRequest) → IsCounted r → IsCounted (marked r)
marked_counted r h = record {
  seen = λ owes. all_map (IsSeen r.finals) (IsSeen r.finals) (λ (x : Branch). cond (x.is_cancel || is_final x.phase) x (record x { wants_cancel = true })) r.branches
      (λ x before. marked_seen_at r.finals (x.is_cancel || is_final x.phase) x before) (h.seen owes);
  none_kept = h.none_kept;
  final = h.final;
  has_target = λ answering. any_map (λ (x : Branch). cond (x.is_cancel || is_final x.phase) x (record x { wants_cancel = true })) r.branches
      (λ x. marked_cancel (x.is_cancel || is_final x.phase) x) ∙ h.has_target answering;
}

-- a branch that is to be cancelled
abbrev pub wanting : Branch → OpenRequest → OpenRequest
wanting b r = record r { branches = map (λ (x : Branch). cond (is_same_branch x b) (record x { wants_cancel = true }) x) r.branches }

-- deadlines stay where one branch is to be cancelled
wanting_due : (floor : ℕ) (b : Branch) (r : OpenRequest) → IsDue floor r → IsDue floor (wanting b r)
wanting_due floor b r h = record {
  side_due = h.side_due;
  branches_due = all_map (λ x. DueFrom floor (phase_deadline x.phase)) (λ x. DueFrom floor (phase_deadline x.phase)) (λ (x : Branch). wanted (is_same_branch x b) x)
      r.branches
      (λ x before. wanted_due floor (is_same_branch x b) x before) h.branches_due;
}

-- and so do final answers
wanting_counted : (b : Branch) (r : OpenRequest) → IsCounted r → IsCounted (wanting b r)
wanting_counted b r h = record {
  seen = λ owes. all_map (IsSeen r.finals) (IsSeen r.finals) (λ (x : Branch). wanted (is_same_branch x b) x) r.branches
      (λ x before. wanted_seen r.finals (is_same_branch x b) x before) (h.seen owes);
  none_kept = h.none_kept;
  final = h.final;
  has_target = λ answering. any_map (λ (x : Branch). wanted (is_same_branch x b) x) r.branches (λ x. wanted_cancel (is_same_branch x b) x) ∙ h.has_target answering;
}

-- ---- phases

-- a response to a request that is no INVITE leaves the deadline
other_heard_due : (floor : ℕ) (phase : Phase) → DueFrom floor (phase_deadline phase) → DueFrom floor (phase_deadline (other_heard phase))
other_heard_due floor (Unheard due) h = h
other_heard_due floor (Heard due) h = h
other_heard_due floor (Cancelled due) h = h
other_heard_due floor (Done due f) h = h
other_heard_due floor Ended h = h

-- a provisional one is no final answer
other_heard_final : (phase : Phase) → is_final (other_heard phase) ≡ is_final phase
other_heard_final (Unheard due) = refl
other_heard_final (Heard due) = refl
other_heard_final (Cancelled due) = refl
other_heard_final (Done due f) = refl
other_heard_final Ended = refl

-- the deadline of a branch that was heard, by the status
heard_either : (floor now due : ℕ) (t : Bool) → floor ≤ now + 1 → floor ≤ due → DueFrom floor (phase_deadline (cond t (Heard due) (Heard (now + 185000))))
heard_either floor now due true low h = h
heard_either floor now due false low h = omega arith

-- it is later than the one before
heard_later : (floor due : ℕ) → floor ≤ due → floor ≤ due + 153000
heard_later floor due h = omega arith

-- the deadline after a provisional response to an INVITE
invite_heard_due : (floor now status : ℕ) (phase : Phase) → floor ≤ now + 1 → DueFrom floor (phase_deadline phase)
    → DueFrom floor (phase_deadline (invite_heard now status phase))
invite_heard_due floor now status (Unheard due) low h = heard_either floor now (due + 153000) (status == 100) low (heard_later floor due h)
invite_heard_due floor now status (Heard due) low h = heard_either floor now due (status == 100) low h
invite_heard_due floor now status (Cancelled due) low h = h
invite_heard_due floor now status (Done due f) low h = h
invite_heard_due floor now status Ended low h = h

-- a branch that was heard has no final answer
heard_either_open : (now due : ℕ) (t : Bool) → is_final (cond t (Heard due) (Heard (now + 185000))) ≡ false
heard_either_open now due true = refl
heard_either_open now due false = refl

-- a provisional response to an INVITE is no final answer
invite_heard_final : (now status : ℕ) (phase : Phase) → is_final (invite_heard now status phase) ≡ is_final phase
invite_heard_final now status (Unheard due) = heard_either_open now (due + 153000) (status == 100)
invite_heard_final now status (Heard due) = heard_either_open now due (status == 100)
invite_heard_final now status (Cancelled due) = refl
invite_heard_final now status (Done due f) = refl
invite_heard_final now status Ended = refl

-- the deadline after a provisional response, by the method
heard_due_by : (floor now status : ℕ) (t : Bool) (phase : Phase) → floor ≤ now + 1 → DueFrom floor (phase_deadline phase)
    → DueFrom floor (phase_deadline (cond t (invite_heard now status phase) (other_heard phase)))
heard_due_by floor now status true phase low h = invite_heard_due floor now status phase low h
heard_due_by floor now status false phase low h = other_heard_due floor phase h

-- which is no final answer either way
heard_final_by : (now status : ℕ) (t : Bool) (phase : Phase) → is_final (cond t (invite_heard now status phase) (other_heard phase)) ≡ is_final phase
heard_final_by now status true phase = invite_heard_final now status phase
heard_final_by now status false phase = other_heard_final phase

-- ---- what goes up at once

-- a provisional response that goes up may
provisional_relayed : (r : OpenRequest) (u : Upward) (x y : Bool) → is_provisional u.status ≡ true → IsRelayed r (cond (x && y && is_answering r.side) (Some u) None)
provisional_relayed r u false y e = tt
provisional_relayed r u true false e = tt
provisional_relayed r u true true e = by_side (is_answering r.side) refl where
  by_side : (t : Bool) → is_answering r.side ≡ t → IsRelayed r (cond t (Some u) None)
  by_side true is = inl (e, is)
  by_side false is = tt

-- a 2xx that goes up may
success_relayed : (r : OpenRequest) (u : Upward) → IsRelayed r (cond (is_success u.status && (is_answering r.side || is_accepted r)) (Some u) None)
success_relayed r u = by_tests (is_success u.status) (is_answering r.side || is_accepted r) refl refl where
  by_tests : (x y : Bool) → is_success u.status ≡ x → (is_answering r.side || is_accepted r) ≡ y → IsRelayed r (cond (x && y) (Some u) None)
  by_tests true true e is = inr (e, is)
  by_tests true false e is = tt
  by_tests false y e is = tt

-- a further 2xx that goes up may
further_relayed : (r : OpenRequest) (b : Branch) (phase : Phase) (status : ℕ) (m : Message) → IsRelayed r (further r b phase status m)
further_relayed r b (Done due first) status m = by_test (is_invite r && is_success first) where
  by_test : (t : Bool) → IsRelayed r (cond t (relayed_success r b status m) None)
  by_test true = success_relayed r (relayed_from b status m)
  by_test false = tt
further_relayed r b (Unheard due) status m = tt
further_relayed r b (Heard due) status m = tt
further_relayed r b (Cancelled due) status m = tt
further_relayed r b Ended status m = tt

-- ---- a response

-- one of two changes, by a test
either_event : (server : Server) (now : ℕ) (r : OpenRequest) (t : Bool) (first second : Change) → (t ≡ true → IsEvent server now r first)
    → (t ≡ false → IsEvent server now r second) → IsEvent server now r (cond t first second)
either_event server now r true first second so not_so = so refl
either_event server now r false first second so not_so = not_so refl

-- the deadline of a branch that is there
branch_due : (floor : ℕ) (r : OpenRequest) (b : Branch) → IsIn b r.branches → IsDue floor r → DueFrom floor (phase_deadline b.phase)
branch_due floor r b there h = all_in (λ x. DueFrom floor (phase_deadline x.phase)) r.branches b h.branches_due there

-- the final answer of a branch that is there
branch_seen : (r : OpenRequest) (b : Branch) → IsIn b r.branches → IsCounted r → is_answering r.side ≡ true → IsSeen r.finals b
branch_seen r b there h owes = all_in (IsSeen r.finals) r.branches b (h.seen owes) there

-- a branch in a phase in which it goes again only if it did
phase_keeps : (floor : ℕ) (r : OpenRequest) (b : Branch) (phase : Phase) → IsIn b r.branches
    → (goes b.is_cancel (is_invite r) phase ≡ true → goes b.is_cancel (is_invite r) b.phase ≡ true) → IsAgain floor r
    → IsAgain floor (with_phase b phase r)
phase_keeps floor r b phase there only h = phase_again floor b phase r only (branch_again floor r b (contains_from_in r.branches b there) h) h

-- the same where it was told what its ACK is made with, and is done
done_keeps : (floor : ℕ) (r : OpenRequest) (b : Branch) (status due : ℕ) (m : Message) → IsIn b r.branches → IsAgain floor r
    → IsAgain floor (with_final (final_of status m) (with_phase (told_to r b status m) (Done due status) r))
done_keeps floor r b status due m there h =
    let this : IsBranchAgain floor (is_invite r) b = branch_again floor r b (contains_from_in r.branches b there) h in
    final_again floor (final_of status m) (with_phase (told_to r b status m) (Done due status) r)
    (phase_again floor (told_to r b status m) (Done due status) r (final_only b.is_cancel (is_invite r) (Done due status) (goes b.is_cancel (is_invite r) b.phase) refl)
    (record { due_from = this.due_from; waits = this.waits }) h)

-- a branch in another phase, which is final only if the branch was
phase_event : (server : Server) (now : ℕ) (r : OpenRequest) (b : Branch) (phase : Phase) (relayed : Option Upward) → IsIn b r.branches → IsRelayed r relayed
    → ((floor : ℕ) → floor ≤ now + 1 → DueFrom floor (phase_deadline b.phase) → DueFrom floor (phase_deadline phase))
    → (b.is_cancel ≡ false → is_final phase ≡ true → is_final b.phase ≡ true)
    → (goes b.is_cancel (is_invite r) phase ≡ true → goes b.is_cancel (is_invite r) b.phase ≡ true)
    → IsEvent server now r (settled server now [] relayed (with_phase b phase r))
phase_event server now r b phase relayed there is_relayed later final only = record {
  acks = [];
  relayed = relayed;
  between = with_phase b phase r;
  is_change = refl;
  key_is = refl;
  number_is = refl;
  answer_is = refl;
  side_is = inl refl;
  relayed_is = is_relayed;
  due = λ floor low h. phase_due floor b phase r (later floor low (branch_due floor r b there h)) h;
  again = λ floor h. phase_keeps floor r b phase there only h;
  counted = λ h. phase_counted b phase r (λ owes target is. branch_seen r b there h owes target (final target is)) h;
}

-- nothing of the request changes
same_event : (server : Server) (now : ℕ) (r : OpenRequest) (relayed : Option Upward) → IsRelayed r relayed → IsEvent server now r (settled server now [] relayed r)
same_event server now r relayed is_relayed = record {
  acks = [];
  relayed = relayed;
  between = r;
  is_change = refl;
  key_is = refl;
  number_is = refl;
  answer_is = refl;
  side_is = inl refl;
  relayed_is = is_relayed;
  due = λ floor low h. h;
  again = λ floor h. h;
  counted = λ h. h;
}

-- a provisional response makes no branch final
heard_final_is : (r : OpenRequest) (now status : ℕ) (phase : Phase) → is_final (heard r now status phase) ≡ is_final phase
heard_final_is r now status phase = heard_final_by now status (is_invite r) phase

-- a branch with a final answer stays beyond the moment
lingers : (floor now : ℕ) (t : Bool) → floor ≤ now + 1 → floor ≤ now + cond t 32000 5000
lingers floor now true low = omega arith
lingers floor now false low = omega arith

-- the first final answer of a branch, after which the others are to be cancelled or not
answer_event : (server : Server) (now : ℕ) (r : OpenRequest) (b : Branch) (status : ℕ) (m : Message) (acks : List Packet) (relayed : Option Upward) (t : Bool)
    → is_provisional status ≡ false → IsRelayed r relayed → IsIn b r.branches
    → IsEvent server now r (settled server now acks relayed
    (cond t (marked (with_final (final_of status m) (with_phase (told_to r b status m) (Done (now + linger r) status) r)))
    (with_final (final_of status m) (with_phase (told_to r b status m) (Done (now + linger r) status) r))))
answer_event server now r b status m acks relayed true e is_relayed is_there = record {
  acks = acks;
  relayed = relayed;
  between = marked (with_final (final_of status m) (with_phase (told_to r b status m) (Done (now + linger r) status) r));
  is_change = refl;
  key_is = refl;
  number_is = refl;
  answer_is = refl;
  side_is = inl refl;
  relayed_is = is_relayed;
  due = λ floor low h. let there = phase_due floor (told_to r b status m) (Done (now + linger r) status) r (lingers floor now (is_invite r) low) h in
      marked_due floor (with_final (final_of status m) (with_phase (told_to r b status m) (Done (now + linger r) status) r))
      (record { side_due = there.side_due; branches_due = there.branches_due });
  again = λ floor h. marked_again floor (with_final (final_of status m) (with_phase (told_to r b status m) (Done (now + linger r) status) r))
      (done_keeps floor r b status (now + linger r) m is_there h);
  counted = λ h. marked_counted (with_final (final_of status m) (with_phase (told_to r b status m) (Done (now + linger r) status) r))
      (final_counted (final_of status m) (told_to r b status m) (Done (now + linger r) status) r e h);
}
answer_event server now r b status m acks relayed false e is_relayed is_there = record {
  acks = acks;
  relayed = relayed;
  between = with_final (final_of status m) (with_phase (told_to r b status m) (Done (now + linger r) status) r);
  is_change = refl;
  key_is = refl;
  number_is = refl;
  answer_is = refl;
  side_is = inl refl;
  relayed_is = is_relayed;
  due = λ floor low h. let there = phase_due floor (told_to r b status m) (Done (now + linger r) status) r (lingers floor now (is_invite r) low) h in
      record { side_due = there.side_due; branches_due = there.branches_due };
  again = λ floor h. done_keeps floor r b status (now + linger r) m is_there h;
  counted = λ h. final_counted (final_of status m) (told_to r b status m) (Done (now + linger r) status) r e h;
}

-- a response to the request of a branch
target_response : (server : Server) (now : ℕ) (r : OpenRequest) (b : Branch) (status : ℕ) (m : Message) → IsIn b r.branches
    → IsEvent server now r (target_responded server now r b status m)
target_response server now r b status m there =
    either_event server now r (is_provisional status) (settled server now [] (relayed_provisional r b status m) (with_phase b (heard r now status b.phase) r))
    (cond (is_final b.phase) (settled server now [] (further r b b.phase status m) r)
    (settled server now (acks_of server r b status m) (relayed_success r b status m) (with_answer r b now status m)))
    (λ provisional. phase_event server now r b (heard r now status b.phase) (relayed_provisional r b status m) there
    (provisional_relayed r (relayed_from b status m) (not (status == 100)) (not (is_final b.phase)) provisional)
    (λ floor low h. heard_due_by floor now status (is_invite r) b.phase low h)
    (λ target is. sym (heard_final_is r now status b.phase) ∙ is) (heard_only b.is_cancel (is_invite r) now status b.phase))
    (λ final. either_event server now r (is_final b.phase) (settled server now [] (further r b b.phase status m) r)
    (settled server now (acks_of server r b status m) (relayed_success r b status m) (with_answer r b now status m))
    (λ again. same_event server now r (further r b b.phase status m) (further_relayed r b b.phase status m))
    (λ first. answer_event server now r b status m (acks_of server r b status m) (relayed_success r b status m) (is_invite r && (is_success status || is_decline status))
    final (success_relayed r (relayed_from b status m)) there))

-- a response to a CANCEL
cancel_response : (server : Server) (now : ℕ) (r : OpenRequest) (b : Branch) (status : ℕ) (m : Message) → b.is_cancel ≡ true → IsIn b r.branches
    → IsEvent server now r (cancel_responded server now r b status m)
cancel_response server now r b status m is_cancel there =
    either_event server now r (is_provisional status) (settled server now [] None (with_phase b (other_heard b.phase) r))
    (cond (is_final b.phase) (settled server now [] None r) (settled server now [] None (with_phase b (Done (now + 5000) status) r)))
    (λ provisional. phase_event server now r b (other_heard b.phase) None there tt (λ floor low h. other_heard_due floor b.phase h)
    (λ target is. sym (other_heard_final b.phase) ∙ is) (other_only b.is_cancel (is_invite r) b.phase))
    (λ final. either_event server now r (is_final b.phase) (settled server now [] None r) (settled server now [] None (with_phase b (Done (now + 5000) status) r))
    (λ again. same_event server now r None tt)
    (λ first. phase_event server now r b (Done (now + 5000) status) None there tt (λ floor low h. let due : floor ≤ now + 5000 = omega arith in due)
    (λ target is. absurd (cc))
    (final_only b.is_cancel (is_invite r) (Done (now + 5000) status) (goes b.is_cancel (is_invite r) b.phase) refl)))

-- a response
response_event : (server : Server) (now : ℕ) (r : OpenRequest) (b : Branch) (status : ℕ) (m : Message) → IsIn b r.branches
    → IsEvent server now r (responded server now r b status m)
response_event server now r b status m there =
    either_event server now r b.is_cancel (cancel_responded server now r b status m) (target_responded server now r b status m)
    (λ is_cancel. cancel_response server now r b status m is_cancel there) (λ target. target_response server now r b status m there)

-- ---- a deadline, a fault, and the caller's CANCEL

-- a branch is given up with a status
given_up_event : (server : Server) (now : ℕ) (r : OpenRequest) (b : Branch) (status : ℕ) → is_provisional status ≡ false → IsIn b r.branches
    → IsEvent server now r (settled server now [] None (given_up b status r))
given_up_event server now r b status e is_there = record {
  acks = [];
  relayed = None;
  between = given_up b status r;
  is_change = refl;
  key_is = refl;
  number_is = refl;
  answer_is = refl;
  side_is = inl refl;
  relayed_is = tt;
  due = λ floor low h. let there = phase_due floor b Ended r tt h in record { side_due = there.side_due; branches_due = there.branches_due };
  again = λ floor h. final_again floor (record { status = status; message = None }) (with_phase b Ended r)
      (phase_keeps floor r b Ended is_there (final_only b.is_cancel (is_invite r) Ended (goes b.is_cancel (is_invite r) b.phase) refl) h);
  counted = λ h. final_counted (record { status = status; message = None }) b Ended r e h;
}

-- a branch is to be cancelled
wanting_event : (server : Server) (now : ℕ) (r : OpenRequest) (b : Branch) → IsEvent server now r (settled server now [] None (wanting b r))
wanting_event server now r b = record {
  acks = [];
  relayed = None;
  between = wanting b r;
  is_change = refl;
  key_is = refl;
  number_is = refl;
  answer_is = refl;
  side_is = inl refl;
  relayed_is = tt;
  due = λ floor low h. wanting_due floor b r h;
  again = λ floor h. wanting_again floor b r h;
  counted = λ h. wanting_counted b r h;
}

-- a branch ends that is a CANCEL or has its final answer
ended_event : (server : Server) (now : ℕ) (r : OpenRequest) (b : Branch) → IsIn b r.branches → (b.is_cancel ≡ false → is_final b.phase ≡ true)
    → IsEvent server now r (settled server now [] None (with_phase b Ended r))
ended_event server now r b there final = phase_event server now r b Ended None there tt (λ floor low h. tt) (λ target is. final target)
    (final_only b.is_cancel (is_invite r) Ended (goes b.is_cancel (is_invite r) b.phase) refl)

-- the deadline of a branch that was heard, by the method
heard_overdue : (server : Server) (now : ℕ) (r : OpenRequest) (b : Branch) (t : Bool) → IsIn b r.branches
    → IsEvent server now r (settled server now [] None (cond t (wanting b r) (given_up b 408 r)))
heard_overdue server now r b true there = wanting_event server now r b
heard_overdue server now r b false there = given_up_event server now r b 408 refl there

-- the deadline of a branch to a target
target_overdue_event : (server : Server) (now : ℕ) (r : OpenRequest) (b : Branch) (phase : Phase) → b.phase ≡ phase → IsIn b r.branches
    → IsEvent server now r (settled server now [] None (target_overdue r b phase))
target_overdue_event server now r b (Unheard due) is there = given_up_event server now r b 408 refl there
target_overdue_event server now r b (Heard due) is there = heard_overdue server now r b (is_invite r) there
target_overdue_event server now r b (Cancelled due) is there = given_up_event server now r b 487 refl there
target_overdue_event server now r b (Done due f) is there = ended_event server now r b there (λ target. ap is_final is)
target_overdue_event server now r b Ended is there = same_event server now r None tt

-- the deadline of a branch
overdue_by : (server : Server) (now : ℕ) (r : OpenRequest) (b : Branch) (t : Bool) → b.is_cancel ≡ t → IsIn b r.branches
    → IsEvent server now r (settled server now [] None (cond t (with_phase b Ended r) (target_overdue r b b.phase)))
overdue_by server now r b true is there = ended_event server now r b there (λ target. absurd (cc))
overdue_by server now r b false is there = target_overdue_event server now r b b.phase refl there

-- a side with a deadline owes no answer
not_answering : (side : Side) (due : ℕ) → side_deadline side ≡ Some due → is_answering side ≡ false
not_answering Answering due e = absurd (cc)
not_answering (Closing at) due e = refl
not_answering (Acknowledged at) due e = refl
not_answering Closed due e = refl

-- the side closes
closed_event : (server : Server) (now : ℕ) (r : OpenRequest) → is_answering r.side ≡ false → IsEvent server now r (side_overdue server now r)
closed_event server now r closes = record {
  acks = [];
  relayed = None;
  between = record r { side = Closed };
  is_change = refl;
  key_is = refl;
  number_is = refl;
  answer_is = refl;
  side_is = inr (closes, refl);
  relayed_is = tt;
  due = λ floor low h. record { side_due = tt; branches_due = h.branches_due };
  again = λ floor h. closed_again floor r h;
  counted = λ h. record { seen = λ owes. absurd (cc); none_kept = λ had. h.none_kept closes; final = h.final; has_target = λ answering. absurd (cc) };
}

-- a deadline
overdue_event : (server : Server) (now : ℕ) (r : OpenRequest) (change : Change) → IsOverdue server now r change → IsEvent server now r change
overdue_event server now r change (OfSide e) = closed_event server now r (not_answering r.side now e)
overdue_event server now r change (OfBranch b there e) = overdue_by server now r b b.is_cancel refl (in_from_contains r.branches b there)

-- the caller's CANCEL
cancelled_event : (server : Server) (now : ℕ) (r : OpenRequest) (t : Bool) → IsEvent server now r (settled server now [] None (cond t (marked r) r))
cancelled_event server now r true = record {
  acks = [];
  relayed = None;
  between = marked r;
  is_change = refl;
  key_is = refl;
  number_is = refl;
  answer_is = refl;
  side_is = inl refl;
  relayed_is = tt;
  due = λ floor low h. marked_due floor r h;
  again = λ floor h. marked_again floor r h;
  counted = λ h. marked_counted r h;
}
cancelled_event server now r false = same_event server now r None tt

-- other moments of going again at its branches
again_due_at : (floor : ℕ) (x : Branch) (t : Bool) (again : Resend) → DueFrom floor (phase_deadline x.phase)
    → DueFrom floor (phase_deadline (cond t (record x { again = again }) x).phase)
again_due_at floor x true again h = h
again_due_at floor x false again h = h

again_seen_at : (finals : List Final) (x : Branch) (t : Bool) (again : Resend) → IsSeen finals x → IsSeen finals (cond t (record x { again = again }) x)
again_seen_at finals x true again h = h
again_seen_at finals x false again h = h

again_cancel : (x : Branch) (t : Bool) (again : Resend) → (cond t (record x { again = again }) x).is_cancel ≡ x.is_cancel
again_cancel x true again = refl
again_cancel x false again = refl

-- something of it goes again: what is due stays so
pub resent_due : (server : Server) (floor now : ℕ) (r : OpenRequest) (packets : List Packet) (next : OpenRequest) → IsResent server now r packets next → IsDue floor r
    → IsDue floor next
resent_due server floor now r _ _ (OfAnswer is) h = record { side_due = h.side_due; branches_due = h.branches_due }
resent_due server floor now r _ _ (OfRequest b there is) h = record {
  side_due = h.side_due;
  branches_due = all_map (λ x. DueFrom floor (phase_deadline x.phase)) (λ x. DueFrom floor (phase_deadline x.phase))
      (λ (x : Branch). cond (is_same_branch x b) (record x { again = branch_next r b }) x) r.branches
      (λ x. again_due_at floor x (is_same_branch x b) (branch_next r b)) h.branches_due;
}

-- so do its final answers
pub resent_counted : (server : Server) (now : ℕ) (r : OpenRequest) (packets : List Packet) (next : OpenRequest) → IsResent server now r packets next → IsCounted r
    → IsCounted next
resent_counted server now r _ _ (OfAnswer is) h = record { seen = h.seen; none_kept = h.none_kept; final = h.final; has_target = h.has_target }
resent_counted server now r _ _ (OfRequest b there is) h =
    let edit : Branch → Branch = λ x. cond (is_same_branch x b) (record x { again = branch_next r b }) x in
    record {
      seen = λ owes. all_map (IsSeen r.finals) (IsSeen r.finals) edit r.branches (λ x. again_seen_at r.finals x (is_same_branch x b) (branch_next r b)) (h.seen owes);
      none_kept = h.none_kept;
      final = h.final;
      has_target = λ answering. any_map edit r.branches (λ x. again_cancel x (is_same_branch x b) (branch_next r b)) ∙ h.has_target answering;
    }

-- and its name, its side and its last answer
pub resent_key : (server : Server) (now : ℕ) (r : OpenRequest) (packets : List Packet) (next : OpenRequest) → IsResent server now r packets next → next.key ≡ r.key
resent_key server now r _ _ (OfAnswer is) = refl
resent_key server now r _ _ (OfRequest b there is) = refl

pub resent_number : (server : Server) (now : ℕ) (r : OpenRequest) (packets : List Packet) (next : OpenRequest) → IsResent server now r packets next
    → next.number ≡ r.number
resent_number server now r _ _ (OfAnswer is) = refl
resent_number server now r _ _ (OfRequest b there is) = refl

-- each change of an open request is an event of it
pub change_event : (server : Server) (now : ℕ) (r : OpenRequest) (change : Change) → IsChangeOf server now r change → IsEvent server now r change
change_event server now r change (ByResponse b status m there) = response_event server now r b status m (in_from_contains r.branches b there)
change_event server now r change (ByDeadline same passes) = overdue_event server now r same passes
change_event server now r change (ByFault b number there fails) = given_up_event server now r b 503 refl (in_from_contains r.branches b there)
change_event server now r change ByCancel = cancelled_event server now r (is_invite r && is_answering r.side)
