-- A request that goes again to a target: it fits as before, and goes next at its next moment.
use Rattle.std.proofs.Common.{◌≡◌, ◌⊎◌, inl, inr, ℕ, ◌+◌, ◌≤◌, ◌<◌, Bool, true, false, not, ◌&&◌, ◌==◌, cond, List, [], ◌∷◌, map, length, Option, Some, None, is_some}
use Rattle.std.proofs.Common.{refl, sym, subst, ◌∙◌, arith}
use Rattle.std.specs.List.{AllByRecursion}
use Rattle.sip_uri.specs.declared.addr.Addr.{Addr}
use Rattle.model_steps.specs.state.declared.server.Server.{Server}
use Rattle.model_steps.specs.state.declared.resend.Resend.{Resend}
use Rattle.model_steps.specs.state.declared.branch.Phase.{Phase}
use Rattle.model_steps.specs.state.declared.branch.Phase.TheVariants.{Unheard, Heard, Cancelled, Done, Ended}
use Rattle.model_steps.specs.state.declared.branch.Branch.{Branch}
use Rattle.model_steps.specs.state.declared.open_request.OpenRequest.{OpenRequest}
use Rattle.model_steps.specs.state.State.{is_invite, is_ended, has_left, phase_deadline}
use Rattle.model_steps.specs.context_model.Branches.{is_same_branch, is_unheard}
use Rattle.model_steps.specs.context_model.Sending.{branch_packets}
use Rattle.model_steps.specs.context_model.Retransmission.{goes_again, is_sent_again, branch_due, branch_next, resent_branch, with_resend, resend_after}
use Rattle.model_steps.specs.Effect.{replaced}
use Rattle.sip_model.specs.Order.{AreRising}
use Rattle.model_transactions.specs.OtherClient.{steady}
use Rattle.sip_model.specs.Sendings.{AreInviteMoments}
use Rattle.sip_model.proofs.SendingLists.{all_both, all_mapped}
use Rattle.sip_model.proofs.SendingBranches.{Follows, Succeeds, mapped_count, mapped_succeeds, stays, same_branch, same_is}
use Rattle.sip_model.proofs.SendingChanges.{IsOther}
use Rattle.sip_model.proofs.SendingTimes.{AreCopyLaws, WasSent, next_time, few_sent, invite_are, none_are, sent_again}
use Rattle.sip_model.proofs.SendingRequests.{IsRight, BranchFits, Fits, fits_as, Tells, Holds, all_replaced}
use Rattle.sip_model.proofs.Places.{IsIn, all_in, all_weaker, same_number}
use Rattle.sip_model.proofs.Rising.{number_is}

-- ---- what goes again

-- a branch that goes again at a moment goes again, and is due then
pub due_is : (r : OpenRequest) (b : Branch) (due : ℕ) → branch_due r b ≡ Some due → (goes_again r b ≡ true) × (b.again.due ≡ due)
due_is r b due is = by_test (goes_again r b) refl is where
  by_test : (t : Bool) → goes_again r b ≡ t → cond t (Some b.again.due) None ≡ Some due → (goes_again r b ≡ true) × (b.again.due ≡ due)
  by_test true goes e = (goes, cc)
  by_test false goes e = absurd (cc)

-- a CANCEL that goes again is no request to a target
pub cancel_other : (server : Server) (r : OpenRequest) (b : Branch) → b.is_cancel ≡ true → AllByRecursion IsOther (branch_packets server true r b)
cancel_other server r b cancel = by_address b.address where
  by_address : (o : Option Addr) → AllByRecursion IsOther (branch_packets server true r (record b { address = o }))
  by_address None = tt
  by_address (Some address) = (rw cancel refl, tt)

-- and it leaves the branches to targets
pub cancel_succeeds : (r : OpenRequest) (b : Branch) (next : Resend) → b.is_cancel ≡ true → Succeeds r (record r { branches = map (resent_branch b next) r.branches })
cancel_succeeds r b next cancel = mapped_succeeds r (resent_branch b next) (record {
  cancel_is = λ x. kept x (is_same_branch x b);
  number_is = λ x. numbered x (is_same_branch x b);
  follows = λ x there target. by_test x there target (is_same_branch x b) refl;
}) where
  kept : (x : Branch) (t : Bool) → (cond t (record x { again = next }) x).is_cancel ≡ x.is_cancel
  kept x true = refl
  kept x false = refl

  numbered : (x : Branch) (t : Bool) → (cond t (record x { again = next }) x).number ≡ x.number
  numbered x true = refl
  numbered x false = refl

  by_test : (x : Branch) → IsIn x r.branches → x.is_cancel ≡ false → (t : Bool) → is_same_branch x b ≡ t
      → Follows (is_invite r) r.branches (cond t (record x { again = next }) x)
  by_test x there target true same = let own = (same_branch x b same target).1 in absurd (cc)
  by_test x there target false same = stays (is_invite r) r.branches x there target

-- ---- a request to a target

-- what goes again hasn't ended
goes_lives : (invite : Bool) (phase : Phase) → is_sent_again invite phase ≡ true → is_ended phase ≡ false
goes_lives invite (Unheard until) goes = refl
goes_lives invite (Heard until) goes = refl
goes_lives invite (Cancelled until) goes = refl
goes_lives invite (Done until status) goes = refl
goes_lives invite Ended goes = absurd (cc)

-- when it goes next
next_is : (r : OpenRequest) (b : Branch) → b.is_cancel ≡ false → branch_next r b ≡ next_time (is_invite r) b.phase b.again
next_is r b target = by_tests (is_invite r) (is_unheard b.phase) where
  by_tests : (invite unheard : Bool)
      → cond (invite && not b.is_cancel) (resend_after 32000 b.again) (cond unheard (resend_after 4000 b.again) (record { due = b.again.due + 4000; wait = 4000 }))
      ≡ cond invite (resend_after 32000 b.again) (cond unheard (resend_after 4000 b.again) (steady b.again))
  by_tests true unheard = rw target refl
  by_tests false true = refl
  by_tests false false = refl

-- what was sent to the branch fits then
fresh_of : AreCopyLaws → (r : OpenRequest) (b : Branch) (sent after : List ℕ) → b.is_cancel ≡ false → is_sent_again (is_invite r) b.phase ≡ true
    → ((until : ℕ) → phase_deadline b.phase ≡ Some until → b.again.due ≤ until)
    → after ≡ b.again.due ∷ sent → WasSent (is_invite r) b.phase b.again sent → WasSent (is_invite r) b.phase (branch_next r b) after
fresh_of laws r b sent after target goes early is h =
    subst (λ (again : Resend). WasSent (is_invite r) b.phase again after) (sym (next_is r b target))
    (subst (λ (s : List ℕ). WasSent (is_invite r) b.phase (next_time (is_invite r) b.phase b.again) s) (sym is)
    (sent_again laws (is_invite r) b.phase b.again sent goes early h))

-- and so does what was sent to each branch of the request
resent_fits : (was was_now : ℕ → Type 0) (sent after : ℕ → ℕ → List ℕ) (r : OpenRequest) (b : Branch) (next : Resend) → IsIn b r.branches → b.is_cancel ≡ false
    → (was_now r.number → was r.number)
    → WasSent (is_invite r) b.phase next (after r.number b.number) → ((k : ℕ) → 1 ≤ k → (k ≡ b.number → ⊥) → after r.number k ≡ sent r.number k) → Fits was sent r
    → Fits was_now after (record r { branches = map (resent_branch b next) r.branches })
resent_fits was was_now sent after r b next there target told fresh other h = record {
  apart = λ n. let own = h.apart n in let same = mapped_count (resent_branch b next) n r.branches (λ x. kept x (is_same_branch x b))
      (λ x. numbered x (is_same_branch x b)) in omega (arith, own, same);
  fit = all_mapped (BranchFits (is_invite r) (after r.number)) (resent_branch b next) r.branches
      (λ x here. by_test x here (is_same_branch x b) refl (all_in (BranchFits (is_invite r) (sent r.number)) r.branches x h.fit here));
  was_invite = λ did. h.was_invite (told did);
} where
  kept : (x : Branch) (t : Bool) → (cond t (record x { again = next }) x).is_cancel ≡ x.is_cancel
  kept x true = refl
  kept x false = refl

  numbered : (x : Branch) (t : Bool) → (cond t (record x { again = next }) x).number ≡ x.number
  numbered x true = refl
  numbered x false = refl

  here_right : (x : Branch) → x ≡ b → IsRight (is_invite r) (sent r.number x.number) x → IsRight (is_invite r) (after r.number x.number) (record x { again = next })
  here_right x is own = record {
    was_sent = subst (λ (y : Branch). WasSent (is_invite r) y.phase next (after r.number y.number)) (sym is) fresh;
    numbered = own.numbered;
    reaches = own.reaches;
  }

  there_right : (x : Branch) → (x.number ≡ b.number → ⊥) → IsRight (is_invite r) (sent r.number x.number) x → IsRight (is_invite r) (after r.number x.number) x
  there_right x differ own = record {
    was_sent = subst (λ (s : List ℕ). WasSent (is_invite r) x.phase x.again s) (sym (other x.number own.numbered differ)) own.was_sent;
    numbered = own.numbered;
    reaches = own.reaches;
  }

  apart_from : (x : Branch) → x.is_cancel ≡ false → is_same_branch x b ≡ false → x.number ≡ b.number → ⊥
  apart_from x is differ same = let test = same_number x.number b.number same in by_kind x.is_cancel b.is_cancel is target test differ where
    by_kind : (s t : Bool) → s ≡ false → t ≡ false → (x.number == b.number) ≡ true → (x.number == b.number && cond s t (not t)) ≡ false → ⊥
    by_kind true t e f test differ = absurd (cc)
    by_kind false true e f test differ = absurd (cc)
    by_kind false false e f test differ = both (x.number == b.number) test differ where
      both : (u : Bool) → u ≡ true → (u && true) ≡ false → ⊥
      both true is differ = absurd (cc)
      both false is differ = absurd (cc)

  by_test : (x : Branch) → IsIn x r.branches → (t : Bool) → is_same_branch x b ≡ t → BranchFits (is_invite r) (sent r.number) x
      → BranchFits (is_invite r) (after r.number) (cond t (record x { again = next }) x)
  by_test x here true same own = λ is. here_right x (same_is r.branches x b h.apart here there same is) (own is)
  by_test x here false same own = λ is. there_right x (apart_from x is same) (own is)

-- ---- all open requests

-- what holds of each holds of all once a request replaced the one of its number, if what follows follows of all others
all_replaced_by : (P Q : OpenRequest → Type 0) (new : OpenRequest) (rs : List OpenRequest) → AreRising rs → ((x : OpenRequest) → P x → (x.number ≡ new.number → ⊥) → Q x)
    → Q new → AllByRecursion P rs
    → AllByRecursion Q (replaced new rs)
all_replaced_by P Q new [] rising each own all = tt
all_replaced_by P Q new (x ∷ xs) rising each own all = by_test (x.number == new.number) refl (has_left new) (all_replaced_by P Q new xs rising.1 each own all.1) where
  rest : x.number ≡ new.number → AllByRecursion Q xs
  rest same = all_both (λ (later : OpenRequest). x.number < later.number) P Q xs (λ y high h. each y h (λ is. omega (arith, is, high, same))) rising.0 all.1

  by_test : (t : Bool) → (x.number == new.number) ≡ t → (left : Bool) → AllByRecursion Q (replaced new xs)
      → AllByRecursion Q (cond t (cond left xs (new ∷ xs)) (x ∷ replaced new xs))
  by_test true is true later = rest (number_is x.number new.number is)
  by_test true is false later = (own, rest (number_is x.number new.number is))
  by_test false is left later = (each x all.0 (λ same. differ (same_number x.number new.number same)), later) where
    differ : (x.number == new.number) ≡ true → ⊥
    differ same = absurd (cc)

-- numbers are the same or not
one_or_other : (n m : ℕ) → (n ≡ m) ⊎ (n ≡ m → ⊥)
one_or_other n m = by_test (n == m) refl where
  by_test : (t : Bool) → (n == m) ≡ t → (n ≡ m) ⊎ (n ≡ m → ⊥)
  by_test true is = inl (number_is n m is)
  by_test false is = inr (λ same. differ (same_number n m same)) where
    differ : (n == m) ≡ true → ⊥
    differ same = absurd (cc)

-- a request went again to a target
pub holds_resent : AreCopyLaws → (was was_now : ℕ → Type 0) (next after_next : ℕ) (sent after : ℕ → ℕ → List ℕ) (requests : List OpenRequest) (r : OpenRequest)
    (b : Branch) → Tells was was_now next after_next → AreRising requests
    → IsIn r requests → IsIn b r.branches → b.is_cancel ≡ false → is_sent_again (is_invite r) b.phase ≡ true
    → ((until : ℕ) → phase_deadline b.phase ≡ Some until → b.again.due ≤ until)
    → after r.number b.number ≡ b.again.due ∷ sent r.number b.number → ((n k : ℕ) → 1 ≤ k → (n ≡ r.number → k ≡ b.number → ⊥) → after n k ≡ sent n k)
    → Holds was next sent requests → Holds was_now after_next after (replaced (with_resend b r) requests)
holds_resent laws was was_now next after_next sent after requests r b tells rising there inside target goes early here other h = record {
  few = λ n k high. few_at n k high (one_or_other n r.number) (one_or_other k b.number);
  invites = λ n k high did. invites_at n k high did (one_or_other n r.number) (one_or_other k b.number);
  none_later = λ n k high late. let more = tells.rises in other n k high (λ is same. omega (arith, is, late, more, low))
      ∙ h.none_later n k high (omega (arith, late, more));
  below = all_replaced (λ (x : OpenRequest). x.number < after_next) (with_resend b r) requests
      (all_weaker (λ (x : OpenRequest). x.number < next) (λ (x : OpenRequest). x.number < after_next) requests (λ x under. let more = tells.rises in
      omega (arith, under, more)) h.below)
      (let more = tells.rises in omega (arith, low, more));
  fit = all_replaced_by (λ (x : OpenRequest). (x.number < next) × Fits was sent x) (Fits was_now after) (with_resend b r) requests rising
      (λ x own differ. fits_as was was_now sent after x (tells.told x.number own.0) (λ k high. other x.number k high (λ is same. differ is)) own.1)
      (resent_fits was was_now sent after r b (branch_next r b) inside target (tells.told r.number low) fresh
      (λ k high differ. other r.number k high (λ is same. differ same)) fits)
      (all_both (λ (x : OpenRequest). x.number < next) (Fits was sent) (λ (x : OpenRequest). (x.number < next) × Fits was sent x) requests (λ x under own. (under, own))
      h.below h.fit);
} where
  low : r.number < next
  low = all_in (λ (x : OpenRequest). x.number < next) requests r h.below there

  fits : Fits was sent r
  fits = all_in (Fits was sent) requests r h.fit there

  right : IsRight (is_invite r) (sent r.number b.number) b
  right = all_in (BranchFits (is_invite r) (sent r.number)) r.branches b fits.fit inside target

  fresh : WasSent (is_invite r) b.phase (branch_next r b) (after r.number b.number)
  fresh = fresh_of laws r b (sent r.number b.number) (after r.number b.number) target goes early here right.was_sent

  own_few : length (after r.number b.number) ≤ 11
  own_few = few_sent (is_invite r) b.phase (branch_next r b) (after r.number b.number) fresh

  few_at : (n k : ℕ) → 1 ≤ k → (n ≡ r.number) ⊎ (n ≡ r.number → ⊥) → (k ≡ b.number) ⊎ (k ≡ b.number → ⊥) → length (after n k) ≤ 11
  few_at n k high (inl is) (inl same) = subst (λ (m : ℕ). length (after m k) ≤ 11) (sym is) (subst (λ (j : ℕ). length (after r.number j) ≤ 11) (sym same) own_few)
  few_at n k high (inl is) (inr differ) = subst (λ (s : List ℕ). length s ≤ 11) (sym (other n k high (λ one same. differ same))) (h.few n k high)
  few_at n k high (inr differ) same = subst (λ (s : List ℕ). length s ≤ 11) (sym (other n k high (λ one two. differ one))) (h.few n k high)

  before : (n k : ℕ) → 1 ≤ k → was_now n → (n < next) ⊎ (next ≤ n) → AreInviteMoments (sent n k)
  before n k high did (inl under) = h.invites n k high (tells.told n under did)
  before n k high did (inr late) = subst AreInviteMoments (sym (h.none_later n k high late)) none_are

  order : (n : ℕ) → (n < next) ⊎ (next ≤ n)
  order n = grind arith

  own_invite : was_now r.number → AreInviteMoments (after r.number b.number)
  own_invite did =
      invite_are b.phase (branch_next r b) (after r.number b.number) (subst (λ (invite : Bool). WasSent invite b.phase (branch_next r b) (after r.number b.number))
      (fits.was_invite (tells.told r.number low did)) fresh)

  invites_at : (n k : ℕ) → 1 ≤ k → was_now n → (n ≡ r.number) ⊎ (n ≡ r.number → ⊥) → (k ≡ b.number) ⊎ (k ≡ b.number → ⊥) → AreInviteMoments (after n k)
  invites_at n k high did (inl is) (inl same) =
      subst (λ (m : ℕ). AreInviteMoments (after m k)) (sym is) (subst (λ (j : ℕ). AreInviteMoments (after r.number j)) (sym same) (own_invite (subst was_now is did)))
  invites_at n k high did (inl is) (inr differ) = subst AreInviteMoments (sym (other n k high (λ one same. differ same))) (before n k high did (order n))
  invites_at n k high did (inr differ) same = subst AreInviteMoments (sym (other n k high (λ one two. differ one))) (before n k high did (order n))

-- a branch that goes again has an address
pub has_address : (was : ℕ → Type 0) (next : ℕ) (sent : ℕ → ℕ → List ℕ) (requests : List OpenRequest) (r : OpenRequest) (b : Branch) → Holds was next sent requests
    → IsIn r requests → IsIn b r.branches → b.is_cancel ≡ false
    → is_sent_again (is_invite r) b.phase ≡ true → (is_some b.address ≡ true) × (1 ≤ b.number)
has_address was next sent requests r b h there inside target goes =
    let fits : Fits was sent r = all_in (Fits was sent) requests r h.fit there in
    let right : IsRight (is_invite r) (sent r.number b.number) b = all_in (BranchFits (is_invite r) (sent r.number)) r.branches b fits.fit inside target in
    (right.reaches (goes_lives (is_invite r) b.phase goes), right.numbered)
