-- How many copies may still be sent.
use Rattle.std.proofs.Common.{◌≡◌, ℕ, zero, suc, ◌+◌, ◌*◌, ◌<◌, ◌≤◌, Bool, true, false, cond, [], Option, Some, refl, sym, ap, ap₂, ◌∙◌, subst, arith, leb, add_assoc}
use Rattle.std.specs.Prelude.{min, count_by, ◌&&◌, not}
use Rattle.std.proofs.lemmas.Bool.Decides.{nat_tests}
use Rattle.sip_message_form.specs.Text.{text_of}
use Rattle.sip_context_branches.specs.state.State.{first_resend, is_invite, is_answering, is_final, is_success, is_failure, is_provisional}
use Rattle.sip_context_branches.specs.state.declared.branch.Phase.{Phase}
use Rattle.sip_context_branches.specs.state.declared.branch.Phase.TheVariants.{Unheard, Heard, Cancelled, Done, Ended}
use Rattle.sip_context_branches.specs.state.declared.open_request.LastAnswer.{LastAnswer}
use Rattle.sip_context_branches.specs.state.declared.open_request.OpenRequest.{OpenRequest}
use Rattle.sip_context_branches.specs.state.declared.open_request.Side.{Side}
use Rattle.sip_context_branches.specs.state.declared.open_request.Side.TheVariants.{Answering, Closing, Acknowledged, Closed}
use Rattle.sip_context_branches.specs.state.declared.open_request.Upward.{Upward}
use Rattle.sip_context_branches.specs.state.declared.resend.Resend.{Resend}
use Rattle.sip_context_branches.specs.context_model.Branches.{answered, acknowledged, acknowledged_side, other_heard, is_unheard, is_accepted, is_closing, has_success}
use Rattle.sip_context_branches.specs.context_model.Branches.{was_refused}
use Rattle.sip_context_branches.specs.context_model.Retransmission.{resend_after}
use Rattle.model_transactions.specs.OtherClient.{steady}
use Rattle.model_transactions.specs.Copies.{IsTimely, moments, copies_by, invite_copies_left, other_copies_left, answer_copies_left}
use Rattle.model_transactions.proofs.Counted.{count-cons}
use Rattle.model_transactions.proofs.Statuses.{success_short}

-- ---- one more moment

-- the moment after so many
later : (Resend → Resend) → ℕ → Resend → ℕ
later next zero again = again.due
later next (suc count) again = later next count (next again)

-- how many of so many moments lie by a deadline
abbrev count_of : (Resend → Resend) → ℕ → ℕ → Resend → ℕ
count_of next count until again = count_by (λ (moment : ℕ). leb moment until) (moments next count again)

none_of : (next : Resend → Resend) (until : ℕ) (again : Resend) → count_of next zero until again ≡ 0
unfolding moments
none_of next until again = refl

first_of : (next : Resend → Resend) (count until : ℕ) (again : Resend) → count_of next (suc count) until again
    ≡ cond (leb again.due until) 1 0 + count_of next count until (next again)
unfolding moments
first_of next count until again = count-cons (λ (moment : ℕ). leb moment until) again.due (moments next count (next again))

last_of : (next : Resend → Resend) (count until : ℕ) (again : Resend) → count_of next (suc count) until again
    ≡ count_of next count until again + cond (leb (later next count again) until) 1 0
unfolding later
last_of next zero until again = omega (arith, first_of next zero until again, none_of next until again, none_of next until (next again))
last_of next (suc count) until again = omega (arith, first_of next (suc count) until again, first_of next count until again, last_of next count until (next again))

test_true : (a b : ℕ) → a ≤ b → leb a b ≡ true
test_true a b h = grind (arith, nat_tests)

test_false : (a b : ℕ) → b < a → leb a b ≡ false
test_false a b h = grind (arith, nat_tests)

joined : (s t : Bool) (x y z : ℕ) → s ≡ true → t ≡ false → x ≡ cond s 1 0 + y → z ≡ y + cond t 1 0 → z + 1 ≡ x
joined true false x y z s t a b = omega arith
joined true true x y z s t a b = absurd (cc)
joined false t x y z s e a b = absurd (cc)

-- a copy that goes in time is one less
one_less : (next : Resend → Resend) (count until : ℕ) (again : Resend) → again.due ≤ until → until < later next count (next again)
    → count_of next (suc count) until (next again) + 1 ≡ count_of next (suc count) until again
one_less next count until again early late =
    joined (leb again.due until) (leb (later next count (next again)) until) (count_of next (suc count) until again) (count_of next count until (next again))
    (count_of next (suc count) until (next again))
    (test_true again.due until early) (test_false (later next count (next again)) until late) (first_of next count until again) (last_of next count until (next again))

-- ---- late enough

grows : (most count : ℕ) (again : Resend) → 4000 ≤ most → 2000 ≤ again.wait → again.due + 4000 * count ≤ later (resend_after most) count again
unfolding later
grows most zero again high long = omega arith
grows most (suc count) again high long = let rest = grows most count (resend_after most again) high (omega arith) in omega arith

late_after : (most count until : ℕ) (again : Resend) → 4000 ≤ most → 9 ≤ count → IsTimely until again
    → until < later (resend_after most) (suc count) (resend_after most again)
unfolding later
late_after most count until again high many timely =
    let near = timely.near in
    let long = timely.long in
    let first : 1000 ≤ (resend_after most again).wait = omega arith in
    let second : 2000 ≤ (resend_after most (resend_after most again)).wait = omega arith in
    let rest : (resend_after most (resend_after most again)).due + 4000 * count ≤ later (resend_after most) count (resend_after most (resend_after most again)) =
    grows most count (resend_after most (resend_after most again)) high second in
    omega arith

steps : (count : ℕ) (again : Resend) → again.due + 4000 * count ≤ later steady count again
unfolding later
steps zero again = omega arith
steps (suc count) again = let rest = steps count (steady again) in omega arith

late_steady : (until : ℕ) (again : Resend) → IsTimely until again → until < later steady 10 (steady again)
late_steady until again timely = let near = timely.near in let rest : again.due + 4000 + 4000 * 10 ≤ later steady 10 (steady again) = steps 10 (steady again) in
    omega arith

pub less_after : (most until : ℕ) (again : Resend) → 4000 ≤ most → IsTimely until again → again.due ≤ until
    → copies_by (resend_after most) until (resend_after most again) + 1 ≡ copies_by (resend_after most) until again
less_after most until again high timely early = one_less (resend_after most) 10 until again early (late_after most 9 until again high (omega arith) timely)

pub less_steady : (until : ℕ) (again : Resend) → IsTimely until again → again.due ≤ until → copies_by steady until (steady again) + 1 ≡ copies_by steady until again
less_steady until again timely early = one_less steady 10 until again early (late_steady until again timely)

-- ---- once heard, no more

sooner : (a b until : ℕ) → b ≤ a → cond {A = ℕ} (leb a until) 1 0 ≤ cond (leb b until) 1 0
sooner a b until h = by_test (leb a until) (leb b until) refl refl where
  by_test : (s t : Bool) → leb a until ≡ s → leb b until ≡ t → cond {A = ℕ} s 1 0 ≤ cond t 1 0
  by_test true true e f = omega arith
  by_test false t e f = omega arith
  by_test true false e f = let early : a ≤ until = grind (arith, nat_tests) in let late : until < b = grind (arith, nat_tests) in omega arith

fewer : (count until : ℕ) (a b : Resend) → b.due ≤ a.due → count_of steady count until a ≤ count_of (resend_after 4000) count until b
fewer zero until a b h = omega (arith, none_of steady until a, none_of (resend_after 4000) until b)
fewer (suc count) until a b h =
    let rest = fewer count until (steady a) (resend_after 4000 b) (omega arith) in
    omega (arith, first_of steady count until a, first_of (resend_after 4000) count until b, sooner a.due b.due until h)

pub heard_fewer : (phase : Phase) (again : Resend) → other_copies_left (other_heard phase) again ≤ other_copies_left phase again
heard_fewer (Unheard until) again = fewer 11 until again again (omega arith)
heard_fewer (Heard until) again = omega arith
heard_fewer (Cancelled until) again = omega arith
heard_fewer (Done until status) again = omega arith
heard_fewer Ended again = omega arith

-- ---- the first values

-- the same at an earlier moment
same_test : (now a b : ℕ) → leb (now + a) (now + b) ≡ leb a b
same_test now a b = by_test (leb a b) refl where
  by_test : (t : Bool) → leb a b ≡ t → leb (now + a) (now + b) ≡ t
  by_test true e = let le : a ≤ b = grind (arith, nat_tests) in test_true (now + a) (now + b) (omega arith)
  by_test false e = let lt : b < a = grind (arith, nat_tests) in test_false (now + a) (now + b) (omega arith)

earlier : (most count now until due wait : ℕ) → count_of (resend_after most) count (now + until) (record { due = now + due; wait = wait })
    ≡ count_of (resend_after most) count until (record { due = due; wait = wait })
earlier most zero now until due wait = none_of (resend_after most) (now + until) (record { due = now + due; wait = wait })
    ∙ sym (none_of (resend_after most) until (record { due = due; wait = wait }))
earlier most (suc count) now until due wait =
    let next : ℕ = min (2 * wait) most in
    let rest = earlier most count now until (due + next) next in
    let e : now + due + next ≡ now + (due + next) = add_assoc now due next in
    let moved = subst (λ (m : ℕ). count_of (resend_after most) count (now + until) (record { due = m; wait = next })
    ≡ count_of (resend_after most) count until (record { due = due + next; wait = next })) (sym e) rest in
    first_of (resend_after most) count (now + until) (record { due = now + due; wait = wait })
    ∙ ap₂ (λ (x y : ℕ). x + y) (ap (λ (b : Bool). cond {A = ℕ} b 1 0) (same_test now due until)) moved
    ∙ sym (first_of (resend_after most) count until (record { due = due; wait = wait }))

six : count_of (resend_after 32000) 11 32000 (record { due = 500; wait = 500 }) ≡ 6
unfolding moments
six = refl

ten : count_of (resend_after 4000) 11 32000 (record { due = 500; wait = 500 }) ≡ 10
unfolding moments
ten = refl

pub begins_invite : (now : ℕ) → copies_by (resend_after 32000) (now + 32000) (first_resend now) ≡ 6
begins_invite now = earlier 32000 11 now 32000 500 500 ∙ six

pub begins_other : (now : ℕ) → copies_by (resend_after 4000) (now + 32000) (first_resend now) ≡ 10
begins_other now = earlier 4000 11 now 32000 500 500 ∙ ten

-- ---- the answering side

-- after the first answers
first_side : (now status : ℕ) (a : LastAnswer) (side : Side) (before : Option LastAnswer) (again : Resend) → is_answering side ≡ true
    → answer_copies_left (cond (is_answering side && not (is_provisional status)) (Closing (now + 32000)) side) (Some a) (first_resend now) ≤ answer_copies_left side
    before again
first_side now status a Answering before again still = by_tests (is_provisional status) where
  by_kind : (t : Bool) → cond {A = ℕ} t (copies_by (resend_after 4000) (now + 32000) (first_resend now)) 0 ≤ 10
  by_kind true = omega (arith, begins_other now)
  by_kind false = omega arith

  by_tests : (p : Bool) → answer_copies_left (cond (true && not p) (Closing (now + 32000)) Answering) (Some a) (first_resend now) ≤ 10
  by_tests true = omega arith
  by_tests false = by_kind (is_failure a.status)
first_side now status a (Closing until) before again still = absurd (cc)
first_side now status a (Acknowledged until) before again still = absurd (cc)
first_side now status a Closed before again still = absurd (cc)

pub answer_begins : (now : ℕ) (r : OpenRequest) (u : Upward) → is_answering r.side ≡ true
    → answer_copies_left (answered now u r).side (answered now u r).answer (answered now u r).again ≤ answer_copies_left r.side r.answer r.again
answer_begins now r u still = first_side now u.status (record { status = u.status; text = cond (is_invite r && is_success u.status) [] (text_of u.message) }) r.side
    r.answer r.again still

further_side : (now : ℕ) (side : Side) (a : LastAnswer) (again : Resend) (p : Bool) (n : ℕ) → is_closing side ≡ true → is_failure a.status ≡ false
    → answer_copies_left (cond (is_answering side && p) (Closing (now + 32000)) side) (Some a) again ≤ n
further_side now (Closing until) a again p n closing short = rw short (omega arith)
further_side now Answering a again p n closing short = absurd (cc)
further_side now (Acknowledged until) a again p n closing short = absurd (cc)
further_side now Closed a again p n closing short = absurd (cc)

middle_of : (x y z : Bool) → (x && y && z) ≡ true → y ≡ true
middle_of true true z is = refl
middle_of true false z is = cc
middle_of false y z is = cc

pub answer_goes_on : (now : ℕ) (r : OpenRequest) (u : Upward) → is_accepted r ≡ true → is_success u.status ≡ true
    → answer_copies_left (answered now u r).side (answered now u r).answer (answered now u r).again ≤ answer_copies_left r.side r.answer r.again
answer_goes_on now r u took ok =
    further_side now r.side (record { status = u.status; text = cond (is_invite r && is_success u.status) [] (text_of u.message) }) (first_resend now)
    (not (is_provisional u.status)) (answer_copies_left r.side r.answer r.again)
    (middle_of (is_invite r) (is_closing r.side) (has_success r.answer) took) (success_short u.status ok)

-- after an ACK
acked_side : (now : ℕ) (side : Side) (answer : Option LastAnswer) (again : Resend) → answer_copies_left (acknowledged_side now side) answer again ≤ answer_copies_left
    side answer again
acked_side now Answering answer again = omega arith
acked_side now (Closing until) answer again = omega arith
acked_side now (Acknowledged until) answer again = omega arith
acked_side now Closed answer again = omega arith

pub answer_acked : (now : ℕ) (r : OpenRequest) → answer_copies_left (acknowledged now r).side (acknowledged now r).answer (acknowledged now r).again ≤ answer_copies_left
    r.side r.answer r.again
answer_acked now r = by_test (is_invite r && was_refused r.answer) where
  by_test : (t : Bool) → answer_copies_left (cond t (record r { side = acknowledged_side now r.side }) r).side
      (cond t (record r { side = acknowledged_side now r.side }) r).answer (cond t (record r { side = acknowledged_side now r.side }) r).again ≤ answer_copies_left r.side
      r.answer r.again
  by_test true = acked_side now r.side r.answer r.again
  by_test false = omega arith

-- ---- nothing more

pub invite_silent : (phase : Phase) (again : Resend) → is_unheard phase ≡ false → invite_copies_left phase again ≡ 0
invite_silent (Unheard until) again heard = absurd (cc)
invite_silent (Heard until) again heard = refl
invite_silent (Cancelled until) again heard = refl
invite_silent (Done until status) again heard = refl
invite_silent Ended again heard = refl

pub other_silent : (phase : Phase) (again : Resend) → is_final phase ≡ true → other_copies_left phase again ≡ 0
other_silent (Unheard until) again done = absurd (cc)
other_silent (Heard until) again done = absurd (cc)
other_silent (Cancelled until) again done = absurd (cc)
other_silent (Done until status) again done = refl
other_silent Ended again done = refl
