-- What goes again by time leaves one less, and a request as it is opened leaves no more than ten.
use Rattle.std.proofs.Common.{◌≡◌, inl, inr, ℕ, ◌+◌, ◌<◌, ◌≤◌, Bool, true, false, ◌&&◌, cond, List, [], ◌∷◌, ◌++◌, Option, Some, None, refl, sym, ap, subst, ◌∙◌, arith}
use Rattle.std.proofs.Common.{bytes_eq, codes}
use Rattle.std.specs.Option.{option_to_list}
use Rattle.std.specs.List.{AllByRecursion, filter_map}
use Rattle.sip_message_form.specs.declared.message.Message.{Message}
use Rattle.sip_event.specs.declared.packet.Packet.{Packet}
use Rattle.model_steps.specs.state.declared.server.Server.{Server}
use Rattle.model_steps.specs.state.declared.branch.Branch.{Branch}
use Rattle.model_steps.specs.state.declared.open_request.LastAnswer.{LastAnswer}
use Rattle.model_steps.specs.state.declared.open_request.Side.{Side}
use Rattle.model_steps.specs.state.declared.open_request.Side.TheVariants.{Answering, Closing, Acknowledged, Closed}
use Rattle.model_steps.specs.state.declared.open_request.OpenRequest.{OpenRequest}
use Rattle.model_steps.specs.state.Arrival.{Arrival}
use Rattle.model_steps.specs.state.State.{first_resend, is_invite, side_deadline, phase_deadline, deadlines_of, deadlines}
use Rattle.model_steps.specs.context_model.Sending.{made_answer, branch_packets}
use Rattle.model_steps.specs.context_model.Branches.{is_same_branch, is_closing, was_refused}
use Rattle.model_steps.specs.context_model.Opening.{request_key, closing, forking, is_tried, trying, tried, opening}
use Rattle.model_steps.specs.context_model.Retransmission.{resend_after, answers_again, answer_next, answer_due, branch_next, resent_branch, with_resend, IsResent}
use Rattle.model_steps.specs.context_model.Retransmission.{OfAnswer, OfRequest}
use Rattle.model_steps.specs.Effect.{replaced}
use Rattle.model_steps.specs.Step.{NoneBefore}
use Rattle.sip_model.specs.Parts.{AreBegun, made_text, IsOpening, Answered, Sent}
use Rattle.model_transactions.specs.Copies.{IsTimely, copies_by, answer_copies_left}
use Rattle.sip_model.proofs.FinalsLists.{number_below, below_apart}
use Rattle.sip_model.proofs.FinalsCounts.{finals_in}
use Rattle.sip_model.proofs.FinalsSpent.{TimerLaws, copies_left, AreTargets, IsTimed, IsNoMore, upward_no_more, map_targets, settled_no_more}
use Rattle.sip_model.proofs.FinalsCopies.{answer_few, answer_beside, branch_none, IsSpent, spent_no_more, AreSpent, spent_on, replaced_spent}
use Rattle.sip_model.proofs.Places.{IsIn, all_in, in_from_contains}
use Rattle.sip_model.proofs.Deadlines.{parts_of_append}

-- ---- deadlines

-- the deadlines of an open request
own_deadlines : (P : ℕ → Type 0) (rs : List OpenRequest) (r : OpenRequest) → AllByRecursion P (deadlines rs) → IsIn r rs → AllByRecursion P (deadlines_of r)
own_deadlines P [] r all there = absurd there
own_deadlines P (x ∷ xs) r all (inl same) = subst (λ (y : OpenRequest). AllByRecursion P (deadlines_of y)) same (parts_of_append P (deadlines_of x) (deadlines xs) all).0
own_deadlines P (x ∷ xs) r all (inr later) = own_deadlines P xs r (parts_of_append P (deadlines_of x) (deadlines xs) all).1 later

-- no side that closes is past its deadline
closes_later : (now until : ℕ) (requests : List OpenRequest) (r : OpenRequest) → NoneBefore now requests → IsIn r requests → r.side ≡ Closing until → now ≤ until
closes_later now until requests r none there closing =
    let own : AllByRecursion (λ (due : ℕ). now ≤ due) (deadlines_of r) = own_deadlines (λ (due : ℕ). now ≤ due) requests r none there in
    (subst (λ (side : Side). AllByRecursion (λ (due : ℕ). now ≤ due) (option_to_list (side_deadline side)
    ++ filter_map (λ (b : Branch). phase_deadline b.phase) r.branches))
    closing own).0

-- ---- what goes again by time

-- the last answer goes again: it is one of 300 to 699 to an INVITE, which isn't acknowledged
record Insists (now : ℕ) (r : OpenRequest) : Type 0 where
  until : ℕ
  answer : LastAnswer
  is_invite_too : is_invite r ≡ true
  closes : r.side ≡ Closing until
  answers : r.answer ≡ Some answer
  refuses : was_refused (Some answer) ≡ true
  is_due : r.again.due ≡ now

-- where it does
insisting : (now : ℕ) (r : OpenRequest) → answer_due r ≡ Some now → Insists now r
insisting now r e = by_tests (is_invite r) r.side r.answer refl refl refl e where
  due_is : (x y : ℕ) → Some x ≡ Some y → x ≡ y
  due_is x y same = cc

  refused : (a : LastAnswer) (until : ℕ) (t : Bool) → is_invite r ≡ true → r.side ≡ Closing until → r.answer ≡ Some a → was_refused (Some a) ≡ t
      → cond t (Some r.again.due) None ≡ Some now → Insists now r
  refused a until true invite side answer refuses due =
      record { until = until; answer = a; is_invite_too = invite; closes = side; answers = answer; refuses = refuses; is_due = due_is r.again.due now due }
  refused a until false invite side answer refuses due = absurd (cc)

  by_tests : (t : Bool) (side : Side) (answer : Option LastAnswer) → is_invite r ≡ t → r.side ≡ side → r.answer ≡ answer
      → cond (t && is_closing side && was_refused answer) (Some r.again.due) None ≡ Some now → Insists now r
  by_tests true (Closing until) (Some a) invite is answer due = refused a until (was_refused (Some a)) invite is answer refl due
  by_tests true (Closing until) None invite is answer due = absurd (cc)
  by_tests true Answering answer invite is at due = absurd (cc)
  by_tests true (Acknowledged until) answer invite is at due = absurd (cc)
  by_tests true Closed answer invite is at due = absurd (cc)
  by_tests false side answer invite is at due = absurd (cc)

-- one less may go then
one_less_left : TimerLaws → (now : ℕ) (r : OpenRequest) (h : Insists now r) → IsTimed r → now ≤ h.until
    → copies_left (record r { again = answer_next r }) + 1 ≡ copies_left r
one_less_left laws now r h timed early =
    let due = h.is_due in
    let timely : IsTimely h.until r.again = timed.timely h.until h.closes (ap was_refused h.answers ∙ h.refuses) in
    subst (λ (side : Side). answer_copies_left side r.answer (answer_next r) + 1 ≡ answer_copies_left side r.answer r.again) (sym h.closes)
    (subst (λ (o : Option LastAnswer). answer_copies_left (Closing h.until) o (answer_next r) + 1 ≡ answer_copies_left (Closing h.until) o r.again) (sym h.answers)
    (laws.one_less h.until h.answer r.again h.refuses timely (omega arith)))

-- what that leaves
answer_spent : TimerLaws → (Invite : ℕ → Type 0) (now : ℕ) (r : OpenRequest) (requests : List OpenRequest) (next : ℕ) (went came came_then : ℕ → ℕ)
    → answer_due r ≡ Some now
    → NoneBefore now requests → IsIn r requests
    → ((n : ℕ) → came n ≤ came_then n) → AreSpent Invite requests next went came
    → AreSpent Invite (replaced (record r { again = answer_next r }) requests) next (λ n. finals_in n (answers_again r r.answer) + went n) came_then
answer_spent laws Invite now r requests next went came came_then due none there more h =
    let is : Insists now r = insisting now r due in
    let spent : IsSpent Invite went came r = all_in (IsSpent Invite went came) requests r h.fit there in
    let below : r.number < next = number_below next requests r h.numbered there in
    let less = one_less_left laws now r is spent.timed (closes_later now is.until requests r none there is.closes) in
    replaced_spent Invite requests next went came (λ n. finals_in n (answers_again r r.answer) + went n) came_then (record r { again = answer_next r })
    (λ n apart. omega (arith, answer_beside n r r.answer apart, more n))
    (λ n high. omega (arith, answer_beside n r r.answer (below_apart r.number n (omega arith)), h.none_later n high))
    (record {
      to_invite = λ invite.
          let before = spent.to_invite invite in
          let left = before.1 in
          (before.0, omega (arith, answer_few r.number r r.answer, left, less, more r.number));
      to_other = λ other. let invite = is.is_invite_too in absurd (cc);
      timed = record {
        timely = λ until closing refused. laws.again_timely until 4000 r.again (omega arith)
            (spent.timed.timely until closing refused);
        targets = spent.timed.targets;
      };
    }) h

-- a branch goes again
branch_no_more : (r : OpenRequest) (b : Branch) → IsTimed r → IsNoMore r (with_resend b r)
branch_no_more r b h = record {
  number_is = refl;
  key_is = refl;
  fewer = omega arith;
  timed = record { timely = h.timely; targets = map_targets (resent_branch b (branch_next r b)) r.branches (λ x. keeps x (is_same_branch x b)) h.targets };
} where
  keeps : (x : Branch) (t : Bool) → (cond t (record x { again = branch_next r b }) x).number ≡ x.number
  keeps x true = refl
  keeps x false = refl

-- either
pub resent_spent : TimerLaws
    → (Invite : ℕ → Type 0) (server : Server) (now : ℕ) (r later : OpenRequest) (again : List Packet) (requests : List OpenRequest) (next : ℕ) (went came came_then : ℕ
    → ℕ)
    → IsResent server now r again later
    → NoneBefore now requests → IsIn r requests → ((n : ℕ) → came n ≤ came_then n) → AreSpent Invite requests next went came
    → AreSpent Invite (replaced later requests) next (λ n. finals_in n again + went n) came_then
resent_spent laws Invite server now r _ _ requests next went came came_then
    (OfAnswer due) none there more h = answer_spent laws Invite now r requests next went came came_then due none there more h
resent_spent laws Invite server now r _ _ requests next went came came_then (OfRequest b at due) none there more h =
    let spent : IsSpent Invite went came r = all_in (IsSpent Invite went came) requests r h.fit there in
    let number : 1 ≤ b.number = all_in (λ (x : Branch). 1 ≤ x.number) r.branches b spent.timed.targets (in_from_contains r.branches b at) in
    let on : AreSpent Invite requests next (λ n. finals_in n (branch_packets server true r b) + went n) came_then = spent_on Invite requests next next went came
    (λ n. finals_in n (branch_packets server true r b) + went n) came_then (omega arith)
    (λ n. omega (arith, branch_none server n r b number, more n)) (λ n high. omega (arith, branch_none server n r b number, h.none_later n high)) h in
    let fits = all_in (IsSpent Invite (λ n. finals_in n (branch_packets server true r b) + went n) came_then) requests r on.fit there in
    replaced_spent Invite requests next (λ n. finals_in n (branch_packets server true r b) + went n) came_then
    (λ n. finals_in n (branch_packets server true r b) + went n) came_then (with_resend b r) (λ n apart. omega arith) on.none_later
    (spent_no_more Invite (λ n. finals_in n (branch_packets server true r b) + went n) came_then r (with_resend b r) (branch_no_more r b spent.timed) fits) on

-- ---- a request as it is opened

-- the branches that are first sent have numbers
begun_targets : (now k : ℕ) (bs : List Branch) → AreBegun now k bs → 1 ≤ k → AreTargets bs
begun_targets now k [] begun some = tt
begun_targets now k (b ∷ bs) begun some = let number : b.number ≡ k = begun.0.is_numbered in (omega arith, begun_targets now (k + 1) bs begun.1 (omega arith))

-- an answer at once may go ten times more
closing_spent : TimerLaws → (Invite : ℕ → Type 0) (went came : ℕ → ℕ) (a : Arrival) (m : Message) (status : ℕ) (text : List ℕ)
    → (bytes_eq (request_key m).method (codes "INVITE") ≡ true → Invite a.number) → went a.number ≡ 0
    → IsSpent Invite went came (closing a m status text)
closing_spent laws Invite went came a m status text invites none = record {
  to_invite = λ invite. (invites invite, let few = by_test (was_refused (Some answer)) refl in omega (arith, few, none));
  to_other = λ other. omega (arith, none);
  timed = record {
    timely = λ until closes refused. subst (λ (moment : ℕ). IsTimely moment (first_resend a.now)) (closes_then until closes)
        (laws.first_timely a.now);
    targets = tt;
  };
} where
  answer : LastAnswer
  answer = record { status = status; text = text }

  closes_then : (until : ℕ) → Closing (a.now + 32000) ≡ Closing until → a.now + 32000 ≡ until
  closes_then until e = cc

  by_test : (t : Bool) → was_refused (Some answer) ≡ t → answer_copies_left (Closing (a.now + 32000)) (Some answer) (first_resend a.now) ≤ 10
  by_test true e = let all = laws.begins a.now answer e in omega (arith, all)
  by_test false e = let nothing : answer_copies_left (Closing (a.now + 32000)) (Some answer) (first_resend a.now) ≡ 0 = ap
      (λ (t : Bool). cond t (copies_by (resend_after 4000) (a.now + 32000) (first_resend a.now)) 0) e in omega (arith, nothing)

-- so may the answer of a request that is sent on
sent_spent : TimerLaws → (Invite : ℕ → Type 0) (went came : ℕ → ℕ) (server : Server) (a : Arrival) (m : Message) (bs : List Branch) → AreBegun a.now 1 bs
    → (bytes_eq (request_key m).method (codes "INVITE") ≡ true → Invite a.number)
    → went a.number ≡ 0 → IsSpent Invite went came (opening server a.now (forking a m bs)).request × ((opening server a.now (forking a m bs)).request.number ≡ a.number)
sent_spent laws Invite went came server a m bs begun invites none = (
  spent_no_more Invite went came fork (opening server a.now fork).request all spent,
  all.number_is,
) where
  fork : OpenRequest
  fork = forking a m bs

  never : (until : ℕ) → Answering ≡ Closing until → ⊥
  never until e = cc

  timed : IsTimed fork
  timed = record { timely = λ until closes refused. absurd (never until closes); targets = begun_targets a.now 1 bs begun (omega arith) }

  itself : IsNoMore fork fork
  itself = record { number_is = refl; key_is = refl; fewer = omega arith; timed = timed }

  spent : IsSpent Invite went came fork
  spent = record { to_invite = λ invite. (invites invite, omega (arith, none)); to_other = λ other. omega (arith, none); timed = timed }

  after_hundred : (t : Bool)
      → IsNoMore fork (tried a.now (cond t (record {
        status = 100;
        message = made_answer server fork.number fork.request.message fork.request.source 100 [];
        target = None;
      } ∷ []) [])
      fork)
  after_hundred true = upward_no_more laws a.now
      (Some (record { status = 100; message = made_answer server fork.number fork.request.message fork.request.source 100 []; target = None })) fork fork (inl refl)
      itself
  after_hundred false = itself

  all : IsNoMore fork (opening server a.now fork).request
  all = settled_no_more laws server a.now [] None fork (tried a.now (trying server fork) fork) tt (after_hundred (is_tried fork))

-- either
pub opening_spent : TimerLaws → (Invite : ℕ → Type 0) (went came : ℕ → ℕ) (server : Server) (a : Arrival) (m : Message) (r : OpenRequest) (firsts : List Packet)
    → IsOpening server a m r firsts
    → (bytes_eq (request_key m).method (codes "INVITE") ≡ true → Invite a.number) → went a.number ≡ 0 → IsSpent Invite went came r × (r.number ≡ a.number)
opening_spent laws Invite went came server a m _ _ (Answered status extras final) invites none =
    (closing_spent laws Invite went came a m status (made_text server a m status extras) invites none, refl)
opening_spent laws Invite went came server a m _ _ (Sent first others begun) invites none =
    sent_spent laws Invite went came server a m (first ∷ others) begun invites none
