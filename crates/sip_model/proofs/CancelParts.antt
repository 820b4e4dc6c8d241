-- The parts of a step: what each leaves of the copies of CANCELs that may still be sent, and what it sends of them.
use Rattle.std.proofs.Common.{◌≡◌, inl, inr, ℕ, ◌+◌, ◌*◌, ◌≤◌, Bool, true, false, not, ◌&&◌, ◌==◌, cond, List, [], ◌∷◌, ◌++◌, map, Some, refl, sym, ap, subst, ◌∙◌, arith}
use Rattle.std.proofs.Common.{sum_by, count_by}
use Rattle.std.specs.List.{AllByRecursion}
use Rattle.std.proofs.lemmas.List.Sums.{sum_by-cons, sum_by_push}
use Rattle.sip_event.specs.declared.packet.Packet.{Packet}
use Rattle.sip_event.specs.declared.event.Event.TheVariants.{Datagram, Time, Fault}
use Rattle.model_steps.specs.state.declared.server.Server.{Server}
use Rattle.model_steps.specs.state.declared.resend.Resend.{Resend}
use Rattle.model_steps.specs.state.declared.branch.Phase.{Phase}
use Rattle.model_steps.specs.state.declared.branch.Phase.TheVariants.{Unheard, Heard, Cancelled, Done, Ended}
use Rattle.model_steps.specs.state.declared.branch.Branch.{Branch}
use Rattle.model_steps.specs.state.declared.open_request.OpenRequest.{OpenRequest}
use Rattle.model_steps.specs.state.declared.proxy_state.ProxyState.{ProxyState}
use Rattle.model_steps.specs.state.State.{is_invite, has_key, has_left, phase_deadline}
use Rattle.model_steps.specs.context_model.Sending.{branch_packets}
use Rattle.model_steps.specs.context_model.Branches.{Change, is_same_branch, is_unheard, acknowledged, acknowledged_side, was_refused}
use Rattle.model_steps.specs.context_model.Opening.{opening}
use Rattle.model_steps.specs.context_model.Retransmission.{IsResent, OfAnswer, OfRequest, answers_again, answer_next, branch_due, branch_next, is_cancelled_again}
use Rattle.model_steps.specs.context_model.Retransmission.{is_sent_again, resent_branch, with_resend, resend_after}
use Rattle.model_steps.specs.Effect.{replaced, change_packets}
use Rattle.model_steps.specs.Step.{Act, Given, Passing, NoneBefore}
use Rattle.sip_model.specs.Order.{is_numbered, AreNumbered}
use Rattle.sip_model.specs.Parts.{IsChangeAt, ByResponse, ByDeadline, ByFault, ByCancel, IsPart, Stays, Passes, Copies, TurnsAway, Opens, Changes, Resends, Acknowledges}
use Rattle.sip_model.specs.Parts.{AreParts, One, Two, next_after}
use Rattle.model_transactions.specs.OtherClient.{steady}
use Rattle.model_transactions.specs.Copies.{other_copies_left}
use Rattle.sip_model.proofs.FinalsKept.{IsKept}
use Rattle.sip_model.proofs.FinalsLists.{numbered_replaced, numbered_push, numbered_later}
use Rattle.sip_model.proofs.SendingLists.{all_joined, count_joined}
use Rattle.sip_model.proofs.SendingBranches.{is_target, mapped_count}
use Rattle.sip_model.proofs.SendingTimes.{AreCopyLaws, IsNearEnd, next_time}
use Rattle.sip_model.proofs.SendingRequests.{all_replaced}
use Rattle.sip_model.proofs.SendingOpenings.{opening_number}
use Rattle.sip_model.proofs.SendingSteps.{said_next, branch_not_passed}
use Rattle.sip_model.proofs.SendingCopies.{due_is}
use Rattle.sip_model.proofs.CancelBranches.{Asks, copies_of, copies_left, is_place, IsSteady, SendsNoMore, sends_the_same, mapped_left, mapped_places, mapped_each}
use Rattle.sip_model.proofs.CancelBranches.{mapped_one_less, alone}
use Rattle.sip_model.proofs.CancelTexts.{IsTest, IsNoCancel, answers_none, acked_none, target_none, asks, cancel_copy}
use Rattle.sip_model.proofs.CancelChanges.{IsFine, change_leaves}
use Rattle.sip_model.proofs.CancelOpenings.{IsOpenedWell, opening_well}
use Rattle.sip_model.proofs.Places.{IsIn, all_in, count_cons, counts_in, found_in, in_from_contains, one_at, same_number}

-- ---- all open requests

-- no step takes a number back
next_low : (state : ProxyState) (act : Act) → state.next ≤ next_after state act
next_low state (Given (Datagram at word from bytes)) = omega arith
next_low state (Given (Time at)) = omega arith
next_low state (Given (Fault at ticket)) = omega arith
next_low state (Passing at) = omega arith

-- what holds of the open requests before the next datagram
pub record Stands (next : ℕ) (requests : List OpenRequest) : Type 0 where
  pub numbered : AreNumbered next requests
  pub fine : AllByRecursion IsFine requests

-- a sum over all, once a request replaced the one of its number
replaced_sum : (f : OpenRequest → ℕ) (new r : OpenRequest) (rs : List OpenRequest) → count_by (is_numbered new.number) rs ≤ 1 → new.number ≡ r.number → IsIn r rs
    → sum_by f (replaced new rs) + f r ≤ sum_by f rs + f new
replaced_sum f new r [] few same there = absurd there
replaced_sum f new r (x ∷ xs) few same there = by_test (x.number == new.number) (has_left new) refl there (λ less later. replaced_sum f new r xs less same later) where
  own : r.number == new.number ≡ true
  own = same_number r.number new.number (sym same)

  none_more : (x.number == new.number) ≡ true → IsIn r xs → ⊥
  none_more is later = omega (
    arith,
    few,
    count_cons (is_numbered new.number) x xs,
    one_at (is_numbered new.number x) is,
    counts_in (is_numbered new.number) xs r later own,
  )

  by_test : (t gone : Bool) → (x.number == new.number) ≡ t → IsIn r (x ∷ xs) → (count_by (is_numbered new.number) xs ≤ 1 → IsIn r xs
      → sum_by f (replaced new xs) + f r ≤ sum_by f xs + f new)
      → sum_by f (cond t (cond gone xs (new ∷ xs)) (x ∷ replaced new xs)) + f r ≤ sum_by f (x ∷ xs) + f new
  by_test true gone is (inr later) rest = absurd (none_more is later)
  by_test true true is (inl here) rest = omega (arith, sum_by-cons f x xs, ap f here)
  by_test true false is (inl here) rest = omega (arith, sum_by-cons f x xs, sum_by-cons f new xs, ap f here)
  by_test false gone is (inl here) rest = let never = sym is ∙ ap (λ (y : OpenRequest). y.number == new.number) here ∙ own in absurd (cc)
  by_test false gone is (inr later) rest =
      omega (arith, sum_by-cons f x xs, sum_by-cons f x (replaced new xs), rest (omega (arith, few, count_cons (is_numbered new.number) x xs)) later)

-- ---- what goes again

-- when a CANCEL goes next
cancel_next : (r : OpenRequest) (b : Branch) → b.is_cancel ≡ true → branch_next r b ≡ next_time false b.phase b.again
cancel_next r b cancel = by_tests (is_invite r) (is_unheard b.phase) where
  by_tests : (invite unheard : Bool)
      → cond (invite && not b.is_cancel) (resend_after 32000 b.again) (cond unheard (resend_after 4000 b.again) (record { due = b.again.due + 4000; wait = 4000 }))
      ≡ cond unheard (resend_after 4000 b.again) (steady b.again)
  by_tests true true = rw cancel refl
  by_tests true false = rw cancel refl
  by_tests false true = refl
  by_tests false false = refl

-- each copy by its deadline leaves one less
leaves_one_less : AreCopyLaws → (phase : Phase) (again : Resend) → is_cancelled_again phase ≡ true → ((until : ℕ) → phase_deadline phase ≡ Some until → again.due ≤ until)
    → IsNearEnd phase again
    → (other_copies_left phase (next_time false phase again) + 1 ≡ other_copies_left phase again) × IsNearEnd phase (next_time false phase again)
leaves_one_less laws (Unheard until) again goes early near = (
  laws.less_unheard until again near (early until refl),
  laws.timely_again until 4000 again (omega arith) near,
)
leaves_one_less laws (Heard until) again goes early near = (laws.less_heard until again near (early until refl), laws.timely_heard until again near)
leaves_one_less laws (Cancelled until) again goes early near = absurd (cc)
leaves_one_less laws (Done until status) again goes early near = absurd (cc)
leaves_one_less laws Ended again goes early near = absurd (cc)

-- a branch is the same as itself
same_itself : (b : Branch) → is_same_branch b b ≡ true
same_itself b = by_tests (b.number == b.number) b.is_cancel (same_number b.number b.number refl) where
  by_tests : (s t : Bool) → s ≡ true → (s && cond t t (not t)) ≡ true
  by_tests true true is = refl
  by_tests true false is = refl
  by_tests false t is = absurd (cc)

-- a CANCEL that goes again: each branch sends no more copies, and it sends one less
record IsOneLess (r : OpenRequest) (b : Branch) (next : Resend) : Type 0 where
  none_more_often : (x : Branch) → IsIn x r.branches → SendsNoMore x (resent_branch b next x)
  less : (g : Asks) → copies_of g (resent_branch b next b) + cond {A = ℕ} (g b.number b.uri b.address) 1 0 ≤ copies_of g b

cancel_one_less : (r : OpenRequest) (b : Branch) (next : Resend) → IsFine r → IsIn b r.branches → b.is_cancel ≡ true
    → other_copies_left b.phase next + 1 ≡ other_copies_left b.phase b.again → IsNearEnd b.phase next → IsOneLess r b next
cancel_one_less r b next fine there cancel one near = record {
  none_more_often = λ x here. by_test x here (is_same_branch x b) refl;
  less = λ g. at_itself g (is_same_branch b b) (same_itself b);
} where
  own : SendsNoMore b (record b { again = next })
  own = record { kind = refl; number_is = refl; goes = λ g. refl; fewer = λ is. omega (arith, one); near = λ is h. near; early = λ is h. h }

  by_test : (x : Branch) → IsIn x r.branches → (t : Bool) → is_same_branch x b ≡ t → SendsNoMore x (cond t (record x { again = next }) x)
  by_test x here true same = subst (λ (y : Branch). SendsNoMore y (record y { again = next })) (sym (alone r.branches b fine.apart fine.places there x here same)) own
  by_test x here false same = sends_the_same x

  counted : (s t : Bool) (m n : ℕ) → s ≡ true → m + 1 ≡ n → cond {A = ℕ} (s && t) m 0 + cond {A = ℕ} t 1 0 ≤ cond {A = ℕ} (s && t) n 0
  counted true true m n is e = omega (arith, e)
  counted true false m n is e = omega arith
  counted false t m n is e = absurd (cc)

  at_itself : (g : Asks) (t : Bool) → t ≡ true → copies_of g (cond t (record b { again = next }) b) + cond {A = ℕ} (g b.number b.uri b.address) 1 0 ≤ copies_of g b
  at_itself g true is = counted b.is_cancel (g b.number b.uri b.address) (other_copies_left b.phase next) (other_copies_left b.phase b.again) cancel one
  at_itself g false is = absurd (cc)

-- a branch to a target that goes again
target_no_more : (r : OpenRequest) (b : Branch) (next : Resend) → IsFine r → IsIn b r.branches → b.is_cancel ≡ false → (x : Branch) → IsIn x r.branches
    → SendsNoMore x (resent_branch b next x)
target_no_more r b next fine there target x here = by_test (is_same_branch x b) refl where
  own : SendsNoMore b (record b { again = next })
  own = record { kind = refl; number_is = refl; goes = λ g. refl; fewer = λ is. absurd (cc); near = λ is h. absurd (cc); early = λ is h. h }

  by_test : (t : Bool) → is_same_branch x b ≡ t → SendsNoMore x (cond t (record x { again = next }) x)
  by_test true same = subst (λ (y : Branch). SendsNoMore y (record y { again = next })) (sym (alone r.branches b fine.apart fine.places there x here same)) own
  by_test false same = sends_the_same x

-- What goes again leaves no more copies than before, together with itself.
pub record IsResentWell (test : Packet → Bool) (server : Server) (r later : OpenRequest) (again : List Packet) : Type 0 where
  pub number_is : later.number ≡ r.number
  pub fewer : copies_left (asks test server later) later.branches + count_by test again ≤ copies_left (asks test server r) r.branches
  pub fine : IsFine later

-- a request that is acknowledged, or whose answer goes again
pub same_fine : (r later : OpenRequest) → later.branches ≡ r.branches → later.answer ≡ r.answer → later.finals ≡ r.finals → IsFine r → IsFine later
same_fine r later branches answer finals fine = record {
  apart = λ n. subst (λ (bs : List Branch). count_by (is_target n) bs ≤ 1) (sym branches) (fine.apart n);
  places = λ n. subst (λ (bs : List Branch). count_by (is_place n) bs ≤ 1) (sym branches) (fine.places n);
  each = subst (AllByRecursion IsSteady) (sym branches) fine.each;
  answer = subst IsNoCancel (sym answer) fine.answer;
  keeps = subst (AllByRecursion IsKept) (sym finals) fine.keeps;
}

-- one of which a branch goes again
branch_fine : (r : OpenRequest) (b : Branch) (next : Resend) → ((x : Branch) → IsIn x r.branches → SendsNoMore x (resent_branch b next x)) → IsFine r
    → IsFine (record r { branches = map (resent_branch b next) r.branches })
branch_fine r b next none_more_often fine = record {
  apart = λ n. let own = fine.apart n in let same = mapped_count (resent_branch b next) n r.branches (λ x. kept x (is_same_branch x b))
      (λ x. numbered x (is_same_branch x b)) in omega (arith, own, same);
  places = λ n. let own = fine.places n in let less = mapped_places n (resent_branch b next) r.branches none_more_often in omega (arith, own, less);
  each = mapped_each (resent_branch b next) r.branches none_more_often fine.each;
  answer = fine.answer;
  keeps = fine.keeps;
} where
  kept : (x : Branch) (t : Bool) → (cond t (record x { again = next }) x).is_cancel ≡ x.is_cancel
  kept x true = refl
  kept x false = refl

  numbered : (x : Branch) (t : Bool) → (cond t (record x { again = next }) x).number ≡ x.number
  numbered x true = refl
  numbered x false = refl

module _ (laws : AreCopyLaws) (test : Packet → Bool) (is_test : IsTest test) (server : Server) where
  -- ---- something goes again

  -- a CANCEL
  cancel_well : (now : ℕ) (requests : List OpenRequest) (r : OpenRequest) (b : Branch) → NoneBefore now requests → IsIn r requests → IsFine r → IsIn b r.branches
      → b.is_cancel ≡ true → branch_due r b ≡ Some now
      → IsResentWell test server r (with_resend b r) (branch_packets server true r b)
  cancel_well now requests r b none there fine inside cancel due =
      let is_due = due_is r b now due in
      let goes : is_cancelled_again b.phase ≡ true = sym (ap (λ (t : Bool). cond t (is_cancelled_again b.phase) (is_sent_again (is_invite r) b.phase)) cancel) ∙ is_due.0
      in
      let one = leaves_one_less laws b.phase b.again goes (λ until is. let before = branch_not_passed now requests r b until none there inside is in
      omega (arith, before, is_due.1)) ((all_in IsSteady r.branches b fine.each inside).1 cancel) in
      let next = cancel_next r b cancel in
      let one_less : IsOneLess r b (branch_next r b) =
      cancel_one_less r b (branch_next r b) fine inside cancel (subst (λ (again : Resend). other_copies_left b.phase again + 1 ≡ other_copies_left b.phase b.again)
      (sym next) one.0)
      (subst (λ (again : Resend). IsNearEnd b.phase again) (sym next) one.1) in
      record {
        number_is = refl;
        fewer = omega (
          arith,
          mapped_one_less (asks test server r) (resent_branch b (branch_next r b)) b (cond {A = ℕ} (asks test server r b.number b.uri b.address) 1 0) r.branches
              one_less.none_more_often inside (one_less.less (asks test server r)),
          cancel_copy test is_test server r b cancel,
        );
        fine = branch_fine r b (branch_next r b) one_less.none_more_often fine;
      }

  -- a request to a target
  target_well : (r : OpenRequest) (b : Branch) → IsFine r → IsIn b r.branches → b.is_cancel ≡ false
      → IsResentWell test server r (with_resend b r) (branch_packets server true r b)
  target_well r b fine inside target =
      let none_more_often : (x : Branch) → IsIn x r.branches → SendsNoMore x (resent_branch b (branch_next r b) x) =
      target_no_more r b (branch_next r b) fine inside target in
      record {
        number_is = refl;
        fewer = omega (
          arith,
          mapped_left (asks test server r) (resent_branch b (branch_next r b)) r.branches none_more_often,
          target_none test is_test server r b target (all_in IsSteady r.branches b fine.each inside).0,
        );
        fine = branch_fine r b (branch_next r b) none_more_often fine;
      }

  -- anything
  resent_well : (now : ℕ) (requests : List OpenRequest) (r later : OpenRequest) (again : List Packet) → NoneBefore now requests → IsIn r requests → IsFine r
      → IsResent server now r again later → IsResentWell test server r later again
  resent_well now requests r _ _ none there fine (OfAnswer due) =
      record {
        number_is = refl;
        fewer = omega (arith, answers_none test is_test r r.answer fine.answer);
        fine = same_fine r (record r { again = answer_next r }) refl refl refl fine;
      }
  resent_well now requests r _ _ none there fine (OfRequest b inside due) = by_kind b.is_cancel refl where
    by_kind : (t : Bool) → b.is_cancel ≡ t → IsResentWell test server r (with_resend b r) (branch_packets server true r b)
    by_kind true is = cancel_well now requests r b none there fine (in_from_contains r.branches b inside) is due
    by_kind false is = target_well r b fine (in_from_contains r.branches b inside) is

  -- an ACK
  acknowledged_well : (now : ℕ) (r : OpenRequest) → IsFine r → IsResentWell test server r (acknowledged now r) []
  acknowledged_well now r fine = by_test (is_invite r && was_refused r.answer) where
    by_test : (t : Bool) → IsResentWell test server r (cond t (record r { side = acknowledged_side now r.side }) r) []
    by_test true = record { number_is = refl; fewer = omega arith; fine = same_fine r (record r { side = acknowledged_side now r.side }) refl refl refl fine }
    by_test false = record { number_is = refl; fewer = omega arith; fine = fine }

  -- what goes again with a change
  change_none : (state : ProxyState) (act : Act) (now : ℕ) (r : OpenRequest) (change : Change) (again : List Packet) → IsChangeAt server state act now r change again
      → count_by test again ≡ 0
  change_none state act now r _ _ (ByResponse a bytes m status reason b said start for there) = acked_none test is_test server r b status
  change_none state act now r change _ (ByDeadline _ passes) = refl
  change_none state act now r _ _ (ByFault at ticket b is number found) = refl
  change_none state act now r _ _ (ByCancel a bytes m short key said is key_is found) = refl

  -- ---- all open requests

  -- how many copies their CANCELs may still send
  abbrev pub total : List OpenRequest → ℕ
  total requests = sum_by (λ (r : OpenRequest). copies_left (asks test server r) r.branches) requests

  -- What a part leaves: all stands, and no more copies are left than before, with those that were sent, and ten more for each first sending.
  pub record IsWell (next : ℕ) (requests after : List OpenRequest) (firsts again : List Packet) : Type 0 where
    pub stands : Stands next after
    pub fewer : total after + count_by test again ≤ total requests + 10 * count_by test firsts

  -- the number of the next datagram rises
  later_stands : (state : ProxyState) (act : Act) (requests : List OpenRequest) → Stands state.next requests → Stands (next_after state act) requests
  later_stands state act requests h = record { numbered = numbered_later state.next (next_after state act) requests (next_low state act) h.numbered; fine = h.fine }

  -- a request replaces the one of its number
  replaced_well : (next : ℕ) (requests : List OpenRequest) (firsts again : List Packet) (r new : OpenRequest) → IsIn r requests → new.number ≡ r.number → IsFine new
      → copies_left (asks test server new) new.branches + count_by test again ≤ copies_left (asks test server r) r.branches + 10 * count_by test firsts
      → Stands next requests → IsWell next requests (replaced new requests) firsts again
  replaced_well next requests firsts again r new there same fine fewer h = record {
    stands = record { numbered = numbered_replaced next new requests h.numbered; fine = all_replaced IsFine new requests h.fine fine };
    fewer = let sum = replaced_sum (λ (x : OpenRequest). copies_left (asks test server x) x.branches) new r requests (h.numbered.differ new.number) same there in
        omega (arith, sum, fewer);
  }

  -- a change of an open request
  change_well : (state : ProxyState) (act : Act) (now next : ℕ) (requests : List OpenRequest) (r : OpenRequest) (change : Change) (again : List Packet) → IsIn r requests
      → IsChangeAt server state act now r change again
      → Stands next requests → IsWell next requests (replaced change.request requests) (change_packets change) again
  change_well state act now next requests r change again there is h =
      let own = change_leaves laws test server state act now r change again is (all_in IsFine requests r h.fine there) in
      let fewer = own.0.fewer in
      replaced_well next requests (change_packets change) again r change.request there own.0.number_is own.1
      (omega (arith, fewer, change_none state act now r change again is)) h

  -- a part of a step
  pub part_well : (state : ProxyState) (act : Act) (now : ℕ) (requests after : List OpenRequest) (firsts again : List Packet) → NoneBefore now requests
      → IsPart server state act now requests after firsts again → Stands state.next requests
      → IsWell (next_after state act) requests after firsts again
  part_well state act now requests after firsts again none part h = by_part part where
    moved : Stands (next_after state act) requests
    moved = later_stands state act requests h

    told : (rs : List OpenRequest) (xs ys : List Packet) → after ≡ rs → firsts ≡ xs → again ≡ ys → IsWell (next_after state act) requests rs xs ys
        → IsWell (next_after state act) requests after firsts again
    told rs xs ys e p q well =
        subst (λ (os : List OpenRequest). IsWell (next_after state act) requests os firsts again) (sym e)
        (subst (λ (ps : List Packet). IsWell (next_after state act) requests rs ps again) (sym p)
        (subst (λ (ps : List Packet). IsWell (next_after state act) requests rs xs ps) (sym q) well))

    by_part : IsPart server state act now requests after firsts again → IsWell (next_after state act) requests after firsts again
    by_part (Stays e p q) = told requests [] [] e p q (record { stands = moved; fewer = omega arith })
    by_part (Passes a m address within ack e p q) = told requests firsts [] e refl q (record { stands = moved; fewer = omega arith })
    by_part (Copies a bytes m short key r said no_ack key_is found e p q) =
        let fine : IsFine r = all_in IsFine requests r h.fine (found_in (has_key key) requests r found).0 in
        told requests [] (answers_again r r.answer) e p q (record { stands = moved; fewer = omega (arith, answers_none test is_test r r.answer fine.answer) })
    by_part (TurnsAway a bytes m short r said key_is no_ack opening full e q) = told requests firsts [] e refl q (record { stands = moved; fewer = omega arith })
    by_part (Opens a bytes m short r said key_is no_ack at opening room new e q) =
        let next = said_next state act a bytes m short said in
        let opened : IsOpenedWell test server r firsts = opening_well laws test server a m r firsts opening in
        let fewer = opened.fewer in
        told (requests ++ r ∷ []) firsts [] e refl q (record {
          stands = record {
            numbered = subst (λ (n : ℕ). AreNumbered n (requests ++ r ∷ [])) (sym next.0)
                (numbered_push state.next r requests (opening_number server a m r firsts opening ∙ next.1) h.numbered);
            fine = all_joined IsFine requests (r ∷ []) h.fine (opened.fine, tt);
          };
          fewer = omega (arith, fewer, sum_by_push (λ (x : OpenRequest). copies_left (asks test server x) x.branches) requests r);
        })
    by_part (Changes r change there is e p) =
        told (replaced change.request requests) (change_packets change) again e p refl
        (change_well state act now (next_after state act) requests r change again (in_from_contains requests r there) is moved)
    by_part (Resends r later there goes e p) =
        let place : IsIn r requests = in_from_contains requests r there in
        let well : IsResentWell test server r later again = resent_well now requests r later again none place (all_in IsFine requests r h.fine place) goes in
        let fewer = well.fewer in
        told (replaced later requests) [] again e p refl (replaced_well (next_after state act) requests [] again r later place well.number_is well.fine
        (omega (arith, fewer)) moved)
    by_part (Acknowledges r there e p q) =
        let place : IsIn r requests = in_from_contains requests r there in
        let well : IsResentWell test server r (acknowledged now r) [] = acknowledged_well now r (all_in IsFine requests r h.fine place) in
        let fewer = well.fewer in
        told (replaced (acknowledged now r) requests) [] [] e p q (replaced_well (next_after state act) requests [] [] r (acknowledged now r) place well.number_is
        well.fine (omega (arith, fewer)) moved)

  -- What the parts of a step leave.
  pub parts_well : (state : ProxyState) (act : Act) (now : ℕ) (requests after : List OpenRequest) (firsts again : List Packet) → NoneBefore now requests
      → AreParts server state act now requests after firsts again
      → Stands state.next requests → IsWell (next_after state act) requests after firsts again
  parts_well state act now requests after firsts again none (One part) h = part_well state act now requests after firsts again none part h
  parts_well state act now requests after firsts again none (Two middle earlier r change part was_there there is e p q) h =
      let front : IsWell (next_after state act) requests middle earlier [] = part_well state act now requests middle earlier [] none part h in
      let back : IsWell (next_after state act) middle (replaced change.request middle) (change_packets change) [] =
      change_well state act now (next_after state act) middle r change [] (in_from_contains middle r there) is front.stands in
      let first = front.fewer in
      let second = back.fewer in
      subst (λ (os : List OpenRequest). IsWell (next_after state act) requests os firsts again) (sym e)
      (subst (λ (ps : List Packet). IsWell (next_after state act) requests (replaced change.request middle) ps again) (sym p)
      (subst (λ (ps : List Packet). IsWell (next_after state act) requests (replaced change.request middle) (earlier ++ change_packets change) ps) (sym q)
      (record { stands = back.stands; fewer = omega (arith, first, second, count_joined test earlier (change_packets change)) })))
