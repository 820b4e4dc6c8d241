-- When what was sent of an open request goes again: not before a moment, and after a wait.
use Rattle.std.proofs.Common.{◌≡◌, ℕ, ◌+◌, ◌*◌, ◌≤◌, Bool, true, false, not, ◌&&◌, ◌||◌, cond, ◌==◌, min, List, map, Contains, Option, Some, None, refl, sym, subst}
use Rattle.std.proofs.Common.{arith}
use Rattle.std.proofs.Math.Nat.{le-min}
use Rattle.std.specs.List.{AllByRecursion}
use Rattle.sip_event.specs.declared.packet.Packet.{Packet}
use Rattle.sip_best.specs.declared.final_answer.Final.{Final}
use Rattle.model_steps.specs.state.declared.server.Server.{Server}
use Rattle.model_steps.specs.state.declared.resend.Resend.{Resend}
use Rattle.model_steps.specs.state.declared.branch.Phase.{Phase}
use Rattle.model_steps.specs.state.declared.branch.Branch.{Branch}
use Rattle.model_steps.specs.state.declared.open_request.OpenRequest.{OpenRequest}
use Rattle.model_steps.specs.state.declared.open_request.Upward.{Upward}
use Rattle.model_steps.specs.state.declared.branch.Phase.TheVariants.{Unheard, Heard, Cancelled, Done, Ended}
use Rattle.model_steps.specs.state.declared.open_request.Side.{Side}
use Rattle.model_steps.specs.state.declared.open_request.Side.TheVariants.{Answering, Closing, Acknowledged, Closed}
use Rattle.model_steps.specs.state.State.{is_invite, is_final}
use Rattle.model_steps.specs.context_model.Branches.{is_same_branch, turned, with_phase, with_final, marked, answered, after_upward, best_upward, cancel_branch}
use Rattle.model_steps.specs.context_model.Branches.{with_cancels, settled, invite_heard, other_heard, is_closing, was_refused, is_unheard, acknowledged}
use Rattle.model_steps.specs.context_model.Branches.{acknowledged_side}
use Rattle.model_steps.specs.context_model.Retransmission.{is_sent_again, is_cancelled_again, resend_after, branch_next, insists, answer_due, IsResent, OfAnswer}
use Rattle.model_steps.specs.context_model.Retransmission.{OfRequest}
use Rattle.sip_model.proofs.Cancels.{all_with_cancels}
use Rattle.sip_model.proofs.Lists.{all_map, all_weaker, all_contains}

-- ---- moments

-- a moment that isn't before another
abbrev pub DueFrom : ℕ → Option ℕ → Type 0
DueFrom floor None = Unit {0}
DueFrom floor (Some due) = floor ≤ due

-- one that counts if a test passes
pub due_if : (floor due : ℕ) (t : Bool) → floor ≤ due → DueFrom floor (cond t (Some due) None)
due_if floor due true h = h
due_if floor due false h = tt

-- one that counts only if another did
due_only : (floor due : ℕ) (t u : Bool) → (t ≡ true → u ≡ true) → DueFrom floor (cond u (Some due) None) → DueFrom floor (cond t (Some due) None)
due_only floor due true true only h = h
due_only floor due true false only h = let e : false ≡ true = only refl in absurd (cc)
due_only floor due false u only h = tt

-- one that counts is the moment
pub due_is : (due now : ℕ) (t : Bool) → cond t (Some due) None ≡ Some now → due ≡ now
due_is due now true e = cc
due_is due now false e = absurd (cc)

-- ---- what goes again

-- whether what a branch sends goes again, by whether it is a CANCEL and whether its request is an INVITE
abbrev pub goes : Bool → Bool → Phase → Bool
goes cancel invite phase = cond cancel (is_cancelled_again phase) (is_sent_again invite phase)

-- the moment at which it does
abbrev pub again_at : Bool → Branch → Option ℕ
again_at invite b = cond (goes b.is_cancel invite b.phase) (Some b.again.due) None

-- what a branch sends doesn't go again before a moment, and has a wait
pub record IsBranchAgain (floor : ℕ) (invite : Bool) (b : Branch) : Type 0 where
  pub due_from : DueFrom floor (again_at invite b)
  pub waits : 1 ≤ b.again.wait

-- nothing of a request goes again before a moment, and each has a wait
pub record IsAgain (floor : ℕ) (r : OpenRequest) : Type 0 where
  pub answer_from : DueFrom floor (answer_due r)
  pub answer_waits : 1 ≤ r.again.wait
  pub branches_again : AllByRecursion (IsBranchAgain floor (is_invite r)) r.branches

-- a branch of it
pub branch_again : (floor : ℕ) (r : OpenRequest) (b : Branch) → Contains r.branches b → IsAgain floor r → IsBranchAgain floor (is_invite r) b
branch_again floor r b there h = all_contains (IsBranchAgain floor (is_invite r)) r.branches b h.branches_again there

-- what each branch keeps all keep
each_again : (floor : ℕ) (invite : Bool) (edit : Branch → Branch) (xs : List Branch) → ((x : Branch) → IsBranchAgain floor invite x → IsBranchAgain floor invite (edit x))
    → AllByRecursion (IsBranchAgain floor invite) xs
    → AllByRecursion (IsBranchAgain floor invite) (map edit xs)
each_again floor invite edit xs keeps h =
    all_map (IsBranchAgain floor invite) edit xs (all_weaker (IsBranchAgain floor invite) (λ x. IsBranchAgain floor invite (edit x)) keeps xs h)

-- ---- a branch in another phase

-- two branches that are one are both CANCELs or neither is
pub both_cancel : (x b : Bool) (t : Bool) → (t && cond x b (not b)) ≡ true → x ≡ b
both_cancel true true t e = refl
both_cancel true false true e = absurd (cc)
both_cancel true false false e = absurd (cc)
both_cancel false true true e = absurd (cc)
both_cancel false true false e = absurd (cc)
both_cancel false false t e = refl

-- a branch in a phase in which it goes again only if it did
phased_again : (floor : ℕ) (invite : Bool) (b : Branch) (phase : Phase) (x : Branch) (t : Bool) → is_same_branch x b ≡ t
    → (goes b.is_cancel invite phase ≡ true → goes b.is_cancel invite b.phase ≡ true)
    → IsBranchAgain floor invite b → IsBranchAgain floor invite x → IsBranchAgain floor invite (cond t (turned b phase x) x)
phased_again floor invite b phase x true same only this h = record {
  due_from = subst (λ (c : Bool). DueFrom floor (cond (goes c invite phase) (Some b.again.due) None))
      (sym (both_cancel x.is_cancel b.is_cancel (x.number == b.number) same))
      (due_only floor b.again.due (goes b.is_cancel invite phase) (goes b.is_cancel invite b.phase) only this.due_from);
  waits = this.waits;
}
phased_again floor invite b phase x false same only this h = h

-- so does the request
pub phase_again : (floor : ℕ) (b : Branch) (phase : Phase) (r : OpenRequest) → (goes b.is_cancel (is_invite r) phase ≡ true
    → goes b.is_cancel (is_invite r) b.phase ≡ true) → IsBranchAgain floor (is_invite r) b
    → IsAgain floor r → IsAgain floor (with_phase b phase r)
phase_again floor b phase r only this h = record {
  answer_from = h.answer_from;
  answer_waits = h.answer_waits;
  branches_again = each_again floor (is_invite r) (λ x. cond (is_same_branch x b) (turned b phase x) x) r.branches
      (λ x before. phased_again floor (is_invite r) b phase x (is_same_branch x b) refl only this before) h.branches_again;
}

-- nothing goes again with a final answer
pub final_only : (cancel invite : Bool) (phase : Phase) (u : Bool) → is_final phase ≡ true → goes cancel invite phase ≡ true → u ≡ true
final_only cancel invite (Unheard due) u e h = absurd (cc)
final_only cancel invite (Heard due) u e h = absurd (cc)
final_only cancel invite (Cancelled due) u e h = absurd (cc)
final_only true invite (Done due status) u e h = absurd (cc)
final_only false invite (Done due status) u e h = absurd (cc)
final_only true invite Ended u e h = absurd (cc)
final_only false invite Ended u e h = absurd (cc)

-- after a provisional response nothing goes again that didn't before
pub other_only : (cancel invite : Bool) (phase : Phase) → goes cancel invite (other_heard phase) ≡ true → goes cancel invite phase ≡ true
other_only true invite (Unheard due) h = refl
other_only false invite (Unheard due) h = refl
other_only cancel invite (Heard due) h = h
other_only cancel invite (Cancelled due) h = h
other_only cancel invite (Done due status) h = h
other_only cancel invite Ended h = h

-- nor of an INVITE
heard_either : (cancel : Bool) (now due : ℕ) (t : Bool) → goes cancel true (cond t (Heard due) (Heard (now + 185000))) ≡ true → goes cancel true (Heard due) ≡ true
heard_either true now due t h = refl
heard_either false now due true h = h
heard_either false now due false h = h

invite_only : (cancel : Bool) (now status : ℕ) (phase : Phase) → goes cancel true (invite_heard now status phase) ≡ true → goes cancel true phase ≡ true
invite_only true now status (Unheard due) h = refl
invite_only false now status (Unheard due) h = refl
invite_only cancel now status (Heard due) h = heard_either cancel now due (status == 100) h
invite_only cancel now status (Cancelled due) h = h
invite_only cancel now status (Done due first) h = h
invite_only cancel now status Ended h = h

-- of either
pub heard_only : (cancel invite : Bool) (now status : ℕ) (phase : Phase) → goes cancel invite (cond invite (invite_heard now status phase) (other_heard phase)) ≡ true
    → goes cancel invite phase ≡ true
heard_only cancel true now status phase h = invite_only cancel now status phase h
heard_only cancel false now status phase h = other_only cancel false phase h

-- ---- branches that are to be cancelled

-- a branch that is to be cancelled goes again as before
wanted_again : (floor : ℕ) (invite : Bool) (x : Branch) → IsBranchAgain floor invite x → IsBranchAgain floor invite (record x { wants_cancel = true })
wanted_again floor invite x h = record { due_from = h.due_from; waits = h.waits }

-- whichever of two branches does
either_again : (floor : ℕ) (invite : Bool) (x y : Branch) (t : Bool) → IsBranchAgain floor invite x → IsBranchAgain floor invite y
    → IsBranchAgain floor invite (cond t x y)
either_again floor invite x y true a b = a
either_again floor invite x y false a b = b

-- all that are to be cancelled
pub marked_again : (floor : ℕ) (r : OpenRequest) → IsAgain floor r → IsAgain floor (marked r)
marked_again floor r h = record {
  answer_from = h.answer_from;
  answer_waits = h.answer_waits;
  branches_again = each_again floor (is_invite r) (λ (x : Branch). cond (x.is_cancel || is_final x.phase) x (record x { wants_cancel = true })) r.branches
      (λ x before. either_again floor (is_invite r) x (record x { wants_cancel = true }) (x.is_cancel || is_final x.phase) before
      (wanted_again floor (is_invite r) x before)) h.branches_again;
}

-- or one
pub wanting_again : (floor : ℕ) (b : Branch) (r : OpenRequest) → IsAgain floor r → IsAgain floor
    (record r { branches = map (λ (x : Branch). cond (is_same_branch x b) (record x { wants_cancel = true }) x) r.branches })
wanting_again floor b r h = record {
  answer_from = h.answer_from;
  answer_waits = h.answer_waits;
  branches_again = each_again floor (is_invite r) (λ (x : Branch). cond (is_same_branch x b) (record x { wants_cancel = true }) x) r.branches
      (λ x before. either_again floor (is_invite r) (record x { wants_cancel = true }) x (is_same_branch x b) (wanted_again floor (is_invite r) x before) before)
      h.branches_again;
}

-- ---- one more final answer, and the side's end

-- a final answer of a branch stops nothing else
pub final_again : (floor : ℕ) (f : Final) (r : OpenRequest) → IsAgain floor r → IsAgain floor (with_final f r)
final_again floor f r h = record { answer_from = h.answer_from; answer_waits = h.answer_waits; branches_again = h.branches_again }

-- the answer of a side that has ended doesn't go again
pub closed_again : (floor : ℕ) (r : OpenRequest) → IsAgain floor r → IsAgain floor (record r { side = Closed })
closed_again floor r h = record { answer_from = by_test (is_invite r); answer_waits = h.answer_waits; branches_again = h.branches_again } where
  by_test : (t : Bool) → DueFrom floor (cond (t && false && was_refused r.answer) (Some r.again.due) None)
  by_test true = tt
  by_test false = tt

-- ---- settling

-- an answer that goes up goes again later
pub upward_again : (floor now : ℕ) (o : Option Upward) (r : OpenRequest) → floor ≤ now + 1 → IsAgain floor r → IsAgain floor (after_upward now o r)
upward_again floor now None r low h = h
upward_again floor now (Some u) r low h =
    let later : floor ≤ now + 500 = omega arith in
    let some : 1 ≤ 500 = omega arith in
    record { answer_from = due_if floor (now + 500) (insists (answered now u r)) later; answer_waits = some; branches_again = h.branches_again }

-- the request of a branch that is sent a CANCEL doesn't go again
silent : (floor due : ℕ) (c : Bool) → DueFrom floor (cond (cond c false false) (Some due) None)
silent floor due true = tt
silent floor due false = tt

-- a CANCEL goes again later
cancel_again : (floor now : ℕ) (invite : Bool) → floor ≤ now + 1 → (x : Branch) → IsBranchAgain floor invite (cancel_branch now x)
cancel_again floor now invite low x =
    let later : floor ≤ now + 500 = omega arith in
    let some : 1 ≤ 500 = omega arith in
    record { due_from = later; waits = some }

-- so do all of a request
with_cancels_again : (floor now : ℕ) (r : OpenRequest) → floor ≤ now + 1 → IsAgain floor r → IsAgain floor (with_cancels now r)
with_cancels_again floor now r low h = record {
  answer_from = h.answer_from;
  answer_waits = h.answer_waits;
  branches_again = all_with_cancels (IsBranchAgain floor (is_invite r)) (IsBranchAgain floor (is_invite r)) now r.branches (λ x before. before)
      (λ x before. record { due_from = silent floor x.again.due x.is_cancel; waits = before.waits }) (λ x before. cancel_again floor now (is_invite r) low x)
      h.branches_again;
}

-- settling brings nothing forward
pub settled_again : (server : Server) (floor now : ℕ) (acks : List Packet) (relayed : Option Upward) (r : OpenRequest) → floor ≤ now + 1 → IsAgain floor r
    → IsAgain floor (settled server now acks relayed r).request
settled_again server floor now acks relayed r low h =
    let told : OpenRequest = after_upward now relayed r in
    let best : Option Upward = best_upward server told in
    with_cancels_again floor now (after_upward now best told) low (upward_again floor now best told low (upward_again floor now relayed r low h))

-- nor does an ACK
pub acknowledged_again : (floor now : ℕ) (r : OpenRequest) → IsAgain floor r → IsAgain floor (acknowledged now r)
acknowledged_again floor now r h = by_test (is_invite r && was_refused r.answer) where
  only : (t u : Bool) → (t && is_closing (acknowledged_side now r.side) && u) ≡ true → (t && is_closing r.side && u) ≡ true
  only t u e = by_side r.side e where
    by_side : (side : Side) → (t && is_closing (acknowledged_side now side) && u) ≡ true → (t && is_closing side && u) ≡ true
    by_side Answering e = e
    by_side (Closing due) e = none t e where
      none : (v : Bool) → (v && false && u) ≡ true → (v && true && u) ≡ true
      none true e = absurd (cc)
      none false e = absurd (cc)
    by_side (Acknowledged due) e = e
    by_side Closed e = e

  by_test : (t : Bool) → IsAgain floor (cond t (record r { side = acknowledged_side now r.side }) r)
  by_test true = record {
    answer_from = due_only floor r.again.due (insists (record r { side = acknowledged_side now r.side })) (insists r) (only (is_invite r) (was_refused r.answer))
        h.answer_from;
    answer_waits = h.answer_waits;
    branches_again = h.branches_again;
  }
  by_test false = h

-- ---- what went again

-- the next moment is later, and has a wait
pub after_again : (floor most : ℕ) (x : Resend) → 1 ≤ most → floor ≤ x.due + 1 → 1 ≤ x.wait → (floor ≤ (resend_after most x).due) × (1 ≤ (resend_after most x).wait)
after_again floor most x some low waits =
    let twice : 1 ≤ 2 * x.wait = omega arith in
    let wait : 1 ≤ min (2 * x.wait) most = le-min twice some in
    (omega (arith, low, wait), wait)

-- that of a branch
pub next_again : (floor : ℕ) (r : OpenRequest) (b : Branch) → floor ≤ b.again.due + 1 → 1 ≤ b.again.wait → (floor ≤ (branch_next r b).due) × (1 ≤ (branch_next r b).wait)
next_again floor r b low waits = by_tests (is_invite r && not b.is_cancel) (is_unheard b.phase) where
  by_tests : (t u : Bool)
      → (floor ≤ (cond t (resend_after 32000 b.again) (cond u (resend_after 4000 b.again) (record { due = b.again.due + 4000; wait = 4000 }))).due)
      × (1 ≤ (cond t (resend_after 32000 b.again) (cond u (resend_after 4000 b.again) (record { due = b.again.due + 4000; wait = 4000 }))).wait)
  by_tests true u = after_again floor 32000 b.again (omega arith) low waits
  by_tests false true = after_again floor 4000 b.again (omega arith) low waits
  by_tests false false = (omega (arith, low), omega arith)

-- a branch that goes next then
resent_at : (floor : ℕ) (invite : Bool) (next : Resend) (x : Branch) (t : Bool) → floor ≤ next.due → 1 ≤ next.wait → IsBranchAgain floor invite x
    → IsBranchAgain floor invite (cond t (record x { again = next }) x)
resent_at floor invite next x true later some h = record { due_from = due_if floor next.due (goes x.is_cancel invite x.phase) later; waits = some }
resent_at floor invite next x false later some h = h

-- what went again at a moment goes again later
pub resent_again : (server : Server) (floor now : ℕ) (r : OpenRequest) (packets : List Packet) (next : OpenRequest) → IsResent server now r packets next → floor ≤ now + 1
    → IsAgain floor r → IsAgain floor next
resent_again server floor now r _ _ (OfAnswer is) low h =
    let due : r.again.due ≡ now = due_is r.again.due now (insists r) is in
    let later = after_again floor 4000 r.again (omega arith) (omega (arith, due, low)) h.answer_waits in
    record { answer_from = due_if floor (resend_after 4000 r.again).due (insists r) later.0; answer_waits = later.1; branches_again = h.branches_again }
resent_again server floor now r _ _ (OfRequest b there is) low h =
    let due : b.again.due ≡ now = due_is b.again.due now (goes b.is_cancel (is_invite r) b.phase) is in
    let this : IsBranchAgain floor (is_invite r) b = branch_again floor r b there h in
    let later = next_again floor r b (omega (arith, due, low)) this.waits in
    record {
      answer_from = h.answer_from;
      answer_waits = h.answer_waits;
      branches_again = each_again floor (is_invite r) (λ (x : Branch). cond (is_same_branch x b) (record x { again = branch_next r b }) x) r.branches
          (λ x before. resent_at floor (is_invite r) (branch_next r b) x (is_same_branch x b) later.0 later.1 before) h.branches_again;
    }
