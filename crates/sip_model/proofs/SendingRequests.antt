-- What was sent to the targets of each open request fits its branches; and how often anything was sent.
use Rattle.std.proofs.Common.{◌≡◌, ◌⊎◌, inl, inr, ℕ, ◌+◌, ◌≤◌, ◌<◌, Bool, true, false, ◌==◌, cond, List, [], ◌∷◌, ◌++◌, length, is_some, sym, ap, subst, ◌∙◌, arith}
use Rattle.std.specs.List.{AllByRecursion}
use Rattle.model_steps.specs.state.declared.resend.Resend.{Resend}
use Rattle.model_steps.specs.state.declared.branch.Branch.{Branch}
use Rattle.model_steps.specs.state.declared.open_request.OpenRequest.{OpenRequest}
use Rattle.model_steps.specs.state.State.{is_invite, is_ended, has_left}
use Rattle.model_steps.specs.Effect.{replaced}
use Rattle.sip_model.specs.Sendings.{AreInviteMoments}
use Rattle.sip_model.proofs.SendingLists.{all_both, all_joined}
use Rattle.sip_model.proofs.SendingBranches.{AreApart, IsAfter, before_ended, Follows, FollowsIf, Succeeds, same_invite}
use Rattle.sip_model.proofs.SendingTimes.{AreCopyLaws, WasSent, sent_after, none_are, one_are}
use Rattle.sip_model.proofs.Places.{IsIn, all_in, all_weaker}

-- ---- an open request

-- what was sent to a target fits its branch, which has an address unless it ended
pub record IsRight (invite : Bool) (sent : List ℕ) (b : Branch) : Type 0 where
  pub was_sent : WasSent invite b.phase b.again sent
  pub numbered : 1 ≤ b.number
  pub reaches : is_ended b.phase ≡ false → is_some b.address ≡ true

-- the same of a branch that is to a target, by the numbers of targets
abbrev pub BranchFits : Bool → (ℕ → List ℕ) → Branch → Type 0
BranchFits invite sent b = b.is_cancel ≡ false → IsRight invite (sent b.number) b

-- What was sent fits an open request: its branches are apart, and it is an INVITE if its datagram said one.
pub record Fits (was : ℕ → Type 0) (sent : ℕ → ℕ → List ℕ) (r : OpenRequest) : Type 0 where
  pub apart : AreApart r.branches
  pub fit : AllByRecursion (BranchFits (is_invite r) (sent r.number)) r.branches
  pub was_invite : was r.number → is_invite r ≡ true

-- it fits a request that follows
pub fits_after : AreCopyLaws → (was : ℕ → Type 0) (sent : ℕ → ℕ → List ℕ) (r later : OpenRequest) → Succeeds r later → Fits was sent r → Fits was sent later
fits_after laws was sent r later next h = record {
  apart = λ n. let own = h.apart n in let same = next.no_more n in omega (arith, own, same);
  fit = all_weaker (FollowsIf (is_invite r) r.branches) (BranchFits (is_invite later) (sent later.number)) later.branches (λ b follows target. right b (follows target))
      next.follow;
  was_invite = λ did. same_invite r later next.key_is ∙ h.was_invite (subst was next.number_is did);
} where
  right : (b : Branch) → Follows (is_invite r) r.branches b → IsRight (is_invite later) (sent later.number b.number) b
  right b own =
      let before : IsRight (is_invite r) (sent r.number own.before.number) own.before =
      all_in (BranchFits (is_invite r) (sent r.number)) r.branches own.before h.fit own.there own.is_target in
      let in_phase : WasSent (is_invite r) b.phase own.before.again (sent r.number own.before.number) =
      sent_after laws (is_invite r) own.before.phase b.phase own.before.again (sent r.number own.before.number) own.phase_is before.was_sent in
      let again : WasSent (is_invite r) b.phase b.again (sent r.number own.before.number) =
      subst (λ (x : Resend). WasSent (is_invite r) b.phase x (sent r.number own.before.number)) (sym own.again_is) in_phase in
      let numbered : WasSent (is_invite r) b.phase b.again (sent later.number b.number) =
      subst (λ (n : ℕ). WasSent (is_invite r) b.phase b.again (sent n b.number)) (sym next.number_is)
      (subst (λ (k : ℕ). WasSent (is_invite r) b.phase b.again (sent r.number k)) (sym own.number_is) again) in
      record {
        was_sent = subst (λ (invite : Bool). WasSent invite b.phase b.again (sent later.number b.number)) (sym (same_invite r later next.key_is)) numbered;
        numbered = subst (λ (k : ℕ). 1 ≤ k) (sym own.number_is) before.numbered;
        reaches = λ lives. ap is_some own.address_is ∙ before.reaches (still own.before b own.phase_is lives);
      } where
        still : (x y : Branch) → IsAfter (is_invite r) x.phase y.phase → is_ended y.phase ≡ false → is_ended x.phase ≡ false
        still x y is lives = before_ended (is_invite r) x.phase y.phase is lives

-- it fits where as much was sent to its targets
pub fits_as : (was was_now : ℕ → Type 0) (sent after : ℕ → ℕ → List ℕ) (r : OpenRequest) → (was_now r.number → was r.number)
    → ((k : ℕ) → 1 ≤ k → after r.number k ≡ sent r.number k) → Fits was sent r → Fits was_now after r
fits_as was was_now sent after r told same h = record {
  apart = h.apart;
  fit = all_weaker (BranchFits (is_invite r) (sent r.number)) (BranchFits (is_invite r) (after r.number)) r.branches (λ b own target. right b (own target)) h.fit;
  was_invite = λ did. h.was_invite (told did);
} where
  right : (b : Branch) → IsRight (is_invite r) (sent r.number b.number) b → IsRight (is_invite r) (after r.number b.number) b
  right b own = record {
    was_sent = subst (λ (s : List ℕ). WasSent (is_invite r) b.phase b.again s) (sym (same b.number own.numbered)) own.was_sent;
    numbered = own.numbered;
    reaches = own.reaches;
  }

-- ---- all that was sent

-- What holds after a history, of the number of the next datagram, of what was sent, and of the open requests.
pub record Holds (was : ℕ → Type 0) (next : ℕ) (sent : ℕ → ℕ → List ℕ) (requests : List OpenRequest) : Type 0 where
  pub few : (n k : ℕ) → 1 ≤ k → length (sent n k) ≤ 11
  pub invites : (n k : ℕ) → 1 ≤ k → was n → AreInviteMoments (sent n k)
  pub none_later : (n k : ℕ) → 1 ≤ k → next ≤ n → sent n k ≡ []
  pub below : AllByRecursion (λ (r : OpenRequest). r.number < next) requests
  pub fit : AllByRecursion (Fits was sent) requests

-- What a history says of INVITEs after one more step, by what it said before: of the numbers before the next the same.
pub record Tells (was was_now : ℕ → Type 0) (next after_next : ℕ) : Type 0 where
  pub rises : next ≤ after_next
  pub told : (n : ℕ) → n < next → was_now n → was n

-- a number is below another, or not
by_order : (n next : ℕ) → (n < next) ⊎ (next ≤ n)
by_order n next = grind arith

-- where as much was sent
pub holds_as : (was was_now : ℕ → Type 0) (next after_next : ℕ) (sent after : ℕ → ℕ → List ℕ) (requests : List OpenRequest) → Tells was was_now next after_next
    → ((n k : ℕ) → 1 ≤ k → after n k ≡ sent n k) → Holds was next sent requests → Holds was_now after_next after requests
holds_as was was_now next after_next sent after requests tells same h = record {
  few = λ n k high. subst (λ (s : List ℕ). length s ≤ 11) (sym (same n k high)) (h.few n k high);
  invites = λ n k high did. subst AreInviteMoments (sym (same n k high)) (by_number n k high did (by_order n next));
  none_later = λ n k high late. let more = tells.rises in same n k high ∙ h.none_later n k high (omega (arith, late, more));
  below = all_weaker (λ (r : OpenRequest). r.number < next) (λ (r : OpenRequest). r.number < after_next) requests (λ r low. let more = tells.rises in
      omega (arith, low, more)) h.below;
  fit = all_both (λ (r : OpenRequest). r.number < next) (Fits was sent) (Fits was_now after) requests
      (λ r low own. fits_as was was_now sent after r (tells.told r.number low) (same r.number) own) h.below h.fit;
} where
  by_number : (n k : ℕ) → 1 ≤ k → was_now n → (n < next) ⊎ (next ≤ n) → AreInviteMoments (sent n k)
  by_number n k high did (inl low) = h.invites n k high (tells.told n low did)
  by_number n k high did (inr late) = subst AreInviteMoments (sym (h.none_later n k high late)) none_are

-- what holds of all, and of a request, holds of all once it replaced another
pub all_replaced : (P : OpenRequest → Type 0) (new : OpenRequest) (rs : List OpenRequest) → AllByRecursion P rs → P new → AllByRecursion P (replaced new rs)
all_replaced P new [] all h = tt
all_replaced P new (x ∷ xs) all h = by_test (x.number == new.number) (has_left new) (all_replaced P new xs all.1 h) where
  by_test : (t left : Bool) → AllByRecursion P (replaced new xs) → AllByRecursion P (cond t (cond left xs (new ∷ xs)) (x ∷ replaced new xs))
  by_test true true rest = all.1
  by_test true false rest = (h, all.1)
  by_test false left rest = (all.0, rest)

-- after a change of an open request, with which nothing was sent to a target
pub holds_changed : AreCopyLaws → (was : ℕ → Type 0) (next : ℕ) (sent : ℕ → ℕ → List ℕ) (requests : List OpenRequest) (r later : OpenRequest) → IsIn r requests
    → Succeeds r later
    → Holds was next sent requests → Holds was next sent (replaced later requests)
holds_changed laws was next sent requests r later there follows h = record {
  few = h.few;
  invites = h.invites;
  none_later = h.none_later;
  below = all_replaced (λ (x : OpenRequest). x.number < next) later requests h.below (subst (λ (n : ℕ). n < next) (sym follows.number_is)
      (all_in (λ (x : OpenRequest). x.number < next) requests r h.below there));
  fit = all_replaced (Fits was sent) later requests h.fit (fits_after laws was sent r later follows (all_in (Fits was sent) requests r h.fit there));
}

-- ---- a new request

-- something went out once, or never
pub data IsNew (sent : List ℕ) : Type 0 where
  Never : sent ≡ [] → IsNew sent
  Once : (at : ℕ) → sent ≡ at ∷ [] → IsNew sent

-- that is few
few_new : (sent : List ℕ) → IsNew sent → length sent ≤ 11
few_new sent (Never e) = omega (arith, ap length e)
few_new sent (Once at e) = omega (arith, ap length e)

-- and may be those of an INVITE
new_are : (sent : List ℕ) → IsNew sent → AreInviteMoments sent
new_are sent (Never e) = subst AreInviteMoments (sym e) none_are
new_are sent (Once at e) = subst AreInviteMoments (sym e) (one_are at)

-- a request that a datagram brings, whether it is opened or not
pub holds_turned : (was was_now : ℕ → Type 0) (next : ℕ) (sent after : ℕ → ℕ → List ℕ) (requests : List OpenRequest) → Tells was was_now next (next + 1)
    → ((n k : ℕ) → 1 ≤ k → (n ≡ next → ⊥) → after n k ≡ sent n k) → ((k : ℕ) → 1 ≤ k → IsNew (after next k)) → Holds was next sent requests
    → Holds was_now (next + 1) after requests
holds_turned was was_now next sent after requests tells same new h = record {
  few = λ n k high. few_at n k high (by_case n);
  invites = λ n k high did. invites_at n k high did (by_case n);
  none_later = λ n k high late. same n k high (λ is. omega (arith, is, late)) ∙ h.none_later n k high (omega (arith, late));
  below = all_weaker (λ (r : OpenRequest). r.number < next) (λ (r : OpenRequest). r.number < next + 1) requests (λ r low. omega (arith, low)) h.below;
  fit = all_both (λ (r : OpenRequest). r.number < next) (Fits was sent) (Fits was_now after) requests
      (λ r low own. fits_as was was_now sent after r (tells.told r.number low) (λ k high. same r.number k high (λ is. omega (arith, is, low))) own) h.below h.fit;
} where
  by_case : (n : ℕ) → (n < next) ⊎ ((n ≡ next) ⊎ (next < n))
  by_case n = grind arith

  few_at : (n k : ℕ) → 1 ≤ k → (n < next) ⊎ ((n ≡ next) ⊎ (next < n)) → length (after n k) ≤ 11
  few_at n k high (inl low) = subst (λ (s : List ℕ). length s ≤ 11) (sym (same n k high (λ is. omega (arith, is, low)))) (h.few n k high)
  few_at n k high (inr (inl is)) = subst (λ (m : ℕ). length (after m k) ≤ 11) (sym is) (few_new (after next k) (new k high))
  few_at n k high (inr (inr late)) = subst (λ (s : List ℕ). length s ≤ 11) (sym (same n k high (λ is. omega (arith, is, late)))) (h.few n k high)

  invites_at : (n k : ℕ) → 1 ≤ k → was_now n → (n < next) ⊎ ((n ≡ next) ⊎ (next < n)) → AreInviteMoments (after n k)
  invites_at n k high did (inl low) = subst AreInviteMoments (sym (same n k high (λ is. omega (arith, is, low)))) (h.invites n k high (tells.told n low did))
  invites_at n k high did (inr (inl is)) = subst (λ (m : ℕ). AreInviteMoments (after m k)) (sym is) (new_are (after next k) (new k high))
  invites_at n k high did (inr (inr late)) =
      subst AreInviteMoments (sym (same n k high (λ is. omega (arith, is, late)) ∙ h.none_later n k high (omega (arith, late)))) none_are

-- a request that is opened fits, and stands behind the others
pub holds_opened : (was : ℕ → Type 0) (next : ℕ) (sent : ℕ → ℕ → List ℕ) (requests : List OpenRequest) (r : OpenRequest) → r.number < next → Fits was sent r
    → Holds was next sent requests → Holds was next sent (requests ++ r ∷ [])
holds_opened was next sent requests r low own h = record {
  few = h.few;
  invites = h.invites;
  none_later = h.none_later;
  below = all_joined (λ (x : OpenRequest). x.number < next) requests (r ∷ []) h.below (low, tt);
  fit = all_joined (Fits was sent) requests (r ∷ []) h.fit (own, tt);
}
