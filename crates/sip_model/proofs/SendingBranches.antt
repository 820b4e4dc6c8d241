-- What the changes of an open request make of its branches to targets: each is one of before, in a phase that follows, and goes again when it did.
use Rattle.std.proofs.Common.{◌≡◌, ◌⊎◌, inl, inr, ℕ, ◌+◌, ◌≤◌, Bool, true, false, not, ◌&&◌, ◌||◌, ◌==◌, cond, List, [], ◌∷◌, ◌++◌, map, Option, Some, None, refl, sym}
use Rattle.std.proofs.Common.{ap, subst, ◌∙◌, arith, count_by}
use Rattle.std.specs.List.{AllByRecursion, flat_map}
use Rattle.sip_transaction_table.specs.declared.key.TransactionKey.{TransactionKey}
use Rattle.model_steps.specs.state.declared.branch.Phase.{Phase}
use Rattle.model_steps.specs.state.declared.branch.Phase.TheVariants.{Unheard, Heard, Cancelled, Done, Ended}
use Rattle.model_steps.specs.state.declared.branch.Branch.{Branch}
use Rattle.model_steps.specs.state.declared.open_request.OpenRequest.{OpenRequest}
use Rattle.model_steps.specs.state.declared.open_request.Upward.{Upward}
use Rattle.model_steps.specs.state.State.{is_invite, is_final, is_ended}
use Rattle.model_steps.specs.context_model.Branches.{is_same_branch, turned, with_phase, marked, after_upward, is_ready, is_cancellable, cancel_branch, held_branch}
use Rattle.model_steps.specs.context_model.Branches.{with_cancel, with_cancels, invite_heard, other_heard, heard}
use Rattle.sip_model.proofs.SendingLists.{all_of, all_mapped, all_joined, only_one, both_pass}
use Rattle.sip_model.proofs.Places.{IsIn, all_in, all_weaker, count_cons, same_number}
use Rattle.sip_model.proofs.Rising.{number_is}

-- whether a branch is the one to the target of a number
abbrev pub is_target : ℕ → Branch → Bool
is_target number b = not b.is_cancel && b.number == number

-- at most one branch is the one to a target
abbrev pub AreApart : List Branch → Type 0
AreApart branches = (number : ℕ) → count_by (is_target number) branches ≤ 1

-- ---- phases

-- A phase that a branch to a target has after another: it is heard only once, and an INVITE alone has a later deadline then; a branch that ended stays so.
abbrev pub IsAfter : Bool → Phase → Phase → Type 0
IsAfter invite before (Unheard until) = before ≡ Unheard until
IsAfter invite before (Heard until) = (before ≡ Unheard until) ⊎ ((before ≡ Heard until) ⊎ ((invite ≡ true) × (is_ended before ≡ false)))
IsAfter invite before (Cancelled until) = is_ended before ≡ false
IsAfter invite before (Done until status) = is_ended before ≡ false
IsAfter invite before Ended = Unit {0}

-- a phase stays
pub after_itself : (invite : Bool) (phase : Phase) → IsAfter invite phase phase
after_itself invite (Unheard until) = refl
after_itself invite (Heard until) = inr (inl refl)
after_itself invite (Cancelled until) = refl
after_itself invite (Done until status) = refl
after_itself invite Ended = tt

-- what is before a phase that hasn't ended hasn't either
pub before_ended : (invite : Bool) (before after : Phase) → IsAfter invite before after → is_ended after ≡ false → is_ended before ≡ false
before_ended invite before (Unheard until) h lives = ap is_ended h
before_ended invite before (Heard until) (inl h) lives = ap is_ended h
before_ended invite before (Heard until) (inr (inl h)) lives = ap is_ended h
before_ended invite before (Heard until) (inr (inr h)) lives = h.1
before_ended invite before (Cancelled until) h lives = h
before_ended invite before (Done until status) h lives = h
before_ended invite before Ended h lives = absurd (cc)

-- one behind another
pub after_both : (invite : Bool) (first second third : Phase) → IsAfter invite first second → IsAfter invite second third → IsAfter invite first third
after_both invite first second (Unheard until) h later = subst (IsAfter invite first) later h
after_both invite first second (Heard until) h (inl later) = inl (subst (IsAfter invite first) later h)
after_both invite first second (Heard until) h (inr (inl later)) = subst (IsAfter invite first) later h
after_both invite first second (Heard until) h (inr (inr later)) = inr (inr (later.0, before_ended invite first second h later.1))
after_both invite first second (Cancelled until) h later = before_ended invite first second h later
after_both invite first second (Done until status) h later = before_ended invite first second h later
after_both invite first second Ended h later = tt

-- after a provisional response to an INVITE
invite_heard_after : (now status : ℕ) (phase : Phase) → IsAfter true phase (invite_heard now status phase)
invite_heard_after now status (Unheard due) = by_test (status == 100) where
  by_test : (t : Bool) → IsAfter true (Unheard due) (cond t (Heard (due + 153000)) (Heard (now + 185000)))
  by_test true = inr (inr (refl, refl))
  by_test false = inr (inr (refl, refl))
invite_heard_after now status (Heard due) = by_test (status == 100) where
  by_test : (t : Bool) → IsAfter true (Heard due) (cond t (Heard due) (Heard (now + 185000)))
  by_test true = inr (inr (refl, refl))
  by_test false = inr (inr (refl, refl))
invite_heard_after now status (Cancelled due) = refl
invite_heard_after now status (Done due first) = refl
invite_heard_after now status Ended = tt

-- to another request
other_heard_after : (invite : Bool) (phase : Phase) → IsAfter invite phase (other_heard phase)
other_heard_after invite (Unheard due) = inl refl
other_heard_after invite (Heard due) = inr (inl refl)
other_heard_after invite (Cancelled due) = refl
other_heard_after invite (Done due status) = refl
other_heard_after invite Ended = tt

-- to either
pub heard_after : (r : OpenRequest) (now status : ℕ) (phase : Phase) → IsAfter (is_invite r) phase (heard r now status phase)
heard_after r now status phase = by_test (is_invite r) where
  by_test : (t : Bool) → IsAfter t phase (cond t (invite_heard now status phase) (other_heard phase))
  by_test true = invite_heard_after now status phase
  by_test false = other_heard_after false phase

-- after a final response
pub done_after : (invite : Bool) (until status : ℕ) (phase : Phase) → is_final phase ≡ false → IsAfter invite phase (Done until status)
done_after invite until status (Unheard due) lives = refl
done_after invite until status (Heard due) lives = refl
done_after invite until status (Cancelled due) lives = refl
done_after invite until status (Done due first) lives = absurd (cc)
done_after invite until status Ended lives = absurd (cc)

-- once it is sent a CANCEL
held_after : (invite : Bool) (until : ℕ) (phase : Phase) → is_ready phase ≡ true → IsAfter invite phase (Cancelled until)
held_after invite until (Unheard due) ready = absurd (cc)
held_after invite until (Heard due) ready = refl
held_after invite until (Cancelled due) ready = refl
held_after invite until (Done due status) ready = absurd (cc)
held_after invite until Ended ready = absurd (cc)

-- ---- branches

-- a branch to a target follows one of before
pub record Follows (invite : Bool) (branches : List Branch) (b : Branch) : Type 0 where
  pub before : Branch
  pub there : IsIn before branches
  pub is_target : before.is_cancel ≡ false
  pub number_is : b.number ≡ before.number
  pub address_is : b.address ≡ before.address
  pub again_is : b.again ≡ before.again
  pub phase_is : IsAfter invite before.phase b.phase

-- if it is one to a target
abbrev pub FollowsIf : Bool → List Branch → Branch → Type 0
FollowsIf invite branches b = b.is_cancel ≡ false → Follows invite branches b

-- An open request follows another: it has the number and the key of that, and its branches to targets follow those of that, none more often.
pub record Succeeds (r later : OpenRequest) : Type 0 where
  pub number_is : later.number ≡ r.number
  pub key_is : later.key ≡ r.key
  pub no_more : (number : ℕ) → count_by (is_target number) later.branches ≡ count_by (is_target number) r.branches
  pub follow : AllByRecursion (FollowsIf (is_invite r) r.branches) later.branches

-- a branch stays
pub stays : (invite : Bool) (branches : List Branch) (b : Branch) → IsIn b branches → FollowsIf invite branches b
stays invite branches b there =
    λ target. record { before = b; there = there; is_target = target; number_is = refl; address_is = refl; again_is = refl; phase_is = after_itself invite b.phase }

-- requests of one number and one key with the same branches
pub succeeds_alike : (r later : OpenRequest) → later.number ≡ r.number → later.key ≡ r.key → later.branches ≡ r.branches → Succeeds r later
succeeds_alike r later number key same = record {
  number_is = number;
  key_is = key;
  no_more = λ n. ap (count_by (is_target n)) same;
  follow = subst (λ bs. AllByRecursion (FollowsIf (is_invite r) r.branches) bs) (sym same)
      (all_of (FollowsIf (is_invite r) r.branches) r.branches (λ b there. stays (is_invite r) r.branches b there));
}

-- both are INVITEs or neither is
pub same_invite : (r later : OpenRequest) → later.key ≡ r.key → is_invite later ≡ is_invite r
same_invite r later e = ap (λ (key : TransactionKey). is_invite (record r { key = key })) e

-- one behind another
pub succeeds_both : (first second third : OpenRequest) → Succeeds first second → Succeeds second third → Succeeds first third
succeeds_both first second third h later = record {
  number_is = later.number_is ∙ h.number_is;
  key_is = later.key_is ∙ h.key_is;
  no_more = λ n. later.no_more n ∙ h.no_more n;
  follow = all_weaker (FollowsIf (is_invite second) second.branches) (FollowsIf (is_invite first) first.branches) third.branches through later.follow;
} where
  joined : (b : Branch) → Follows (is_invite second) second.branches b → Follows (is_invite first) first.branches b
  joined b own =
      let earlier : Follows (is_invite first) first.branches own.before = all_in (FollowsIf (is_invite first) first.branches) second.branches own.before h.follow
      own.there own.is_target in
      record {
        before = earlier.before;
        there = earlier.there;
        is_target = earlier.is_target;
        number_is = own.number_is ∙ earlier.number_is;
        address_is = own.address_is ∙ earlier.address_is;
        again_is = own.again_is ∙ earlier.again_is;
        phase_is = after_both (is_invite first) earlier.before.phase own.before.phase b.phase earlier.phase_is
            (subst (λ (invite : Bool). IsAfter invite own.before.phase b.phase) (same_invite first second h.key_is) own.phase_is);
      }

  through : (b : Branch) → FollowsIf (is_invite second) second.branches b → FollowsIf (is_invite first) first.branches b
  through b own = λ target. joined b (own target)

-- ---- a request whose branches are mapped

-- each branch stays one to its target
pub record Keeps (invite : Bool) (branches : List Branch) (f : Branch → Branch) : Type 0 where
  pub cancel_is : (b : Branch) → (f b).is_cancel ≡ b.is_cancel
  pub number_is : (b : Branch) → (f b).number ≡ b.number
  pub follows : (b : Branch) → IsIn b branches → b.is_cancel ≡ false → Follows invite branches (f b)

-- as many are to a target
pub mapped_count : (f : Branch → Branch) (n : ℕ) (bs : List Branch) → ((b : Branch) → (f b).is_cancel ≡ b.is_cancel) → ((b : Branch) → (f b).number ≡ b.number)
    → count_by (is_target n) (map f bs) ≡ count_by (is_target n) bs
mapped_count f n [] cancel number = refl
mapped_count f n (b ∷ bs) cancel number =
    let same : is_target n (f b) ≡ is_target n b = ap (λ (t : Bool). not t && (f b).number == n) (cancel b) ∙ ap (λ (v : ℕ). not b.is_cancel && v == n) (number b) in
    omega (arith, count_cons (is_target n) (f b) (map f bs), count_cons (is_target n) b bs, ap (λ (t : Bool). cond {A = ℕ} t 1 0) same, mapped_count f n bs cancel number)

-- the request follows
pub mapped_succeeds : (r : OpenRequest) (f : Branch → Branch) → Keeps (is_invite r) r.branches f → Succeeds r (record r { branches = map f r.branches })
mapped_succeeds r f keeps = record {
  number_is = refl;
  key_is = refl;
  no_more = λ n. mapped_count f n r.branches keeps.cancel_is keeps.number_is;
  follow = all_mapped (FollowsIf (is_invite r) r.branches) f r.branches (λ b there target. keeps.follows b there (sym (keeps.cancel_is b) ∙ target));
}

-- ---- a branch in another phase

-- branches that are one have the same number and kind
pub same_branch : (x b : Branch) → is_same_branch x b ≡ true → x.is_cancel ≡ false → (x.number ≡ b.number) × (b.is_cancel ≡ false)
same_branch x b same target = let both = both_pass (x.number == b.number) (cond x.is_cancel b.is_cancel (not b.is_cancel)) same in
    (number_is x.number b.number both.0, by_test b.is_cancel (rw target at both.1)) where
      by_test : (t : Bool) → not t ≡ true → t ≡ false
      by_test true e = cc
      by_test false e = refl

-- a branch to a target passes its own test
pub is_own : (b : Branch) → b.is_cancel ≡ false → is_target b.number b ≡ true
is_own b target = rw target (same_number b.number b.number refl)

-- a branch that is the same as one of the list, to a target, is that
pub same_is : (branches : List Branch) (x b : Branch) → AreApart branches → IsIn x branches → IsIn b branches → is_same_branch x b ≡ true → x.is_cancel ≡ false → x ≡ b
same_is branches x b apart here there same target =
    let both = same_branch x b same target in
    only_one (is_target b.number) branches x b (apart b.number) here there (subst (λ (n : ℕ). is_target n x ≡ true) both.0 (is_own x target)) (is_own b both.1)

-- A request with a branch in another phase follows, where that phase does of a branch to a target. Its ACK may be told apart.
pub phased_succeeds : (r : OpenRequest) (b : Branch) (to : Option (List ℕ)) (phase : Phase) → AreApart r.branches → IsIn b r.branches
    → (b.is_cancel ≡ false → IsAfter (is_invite r) b.phase phase)
    → Succeeds r (with_phase (record b { final_to = to }) phase r)
phased_succeeds r b to phase apart there after = mapped_succeeds r (λ (x : Branch). cond (is_same_branch x b) (turned (record b { final_to = to }) phase x) x) (record {
  cancel_is = λ x. kept x (is_same_branch x b);
  number_is = λ x. numbered x (is_same_branch x b);
  follows = λ x here target. by_test x here target (is_same_branch x b) refl;
}) where
  kept : (x : Branch) (t : Bool) → (cond t (turned (record b { final_to = to }) phase x) x).is_cancel ≡ x.is_cancel
  kept x true = refl
  kept x false = refl

  numbered : (x : Branch) (t : Bool) → (cond t (turned (record b { final_to = to }) phase x) x).number ≡ x.number
  numbered x true = refl
  numbered x false = refl

  by_test : (x : Branch) → IsIn x r.branches → x.is_cancel ≡ false → (t : Bool) → is_same_branch x b ≡ t
      → Follows (is_invite r) r.branches (cond t (turned (record b { final_to = to }) phase x) x)
  by_test x here target true same =
      let is : x ≡ b = same_is r.branches x b apart here there same target in
      record {
        before = b;
        there = there;
        is_target = (same_branch x b same target).1;
        number_is = ap (λ (y : Branch). y.number) is;
        address_is = ap (λ (y : Branch). y.address) is;
        again_is = refl;
        phase_is = after (same_branch x b same target).1;
      }
  by_test x here target false same = stays (is_invite r) r.branches x here target

-- ---- branches that are to be cancelled

-- those that pass a test
pub wanting_succeeds : (r : OpenRequest) (test : Branch → Bool) → Succeeds r (record r
    { branches = map (λ (x : Branch). cond (test x) (record x { wants_cancel = true }) x) r.branches })
wanting_succeeds r test = mapped_succeeds r (λ (x : Branch). cond (test x) (record x { wants_cancel = true }) x) (record {
  cancel_is = λ x. kept x (test x);
  number_is = λ x. numbered x (test x);
  follows = λ x here target. by_test x here target (test x);
}) where
  kept : (x : Branch) (t : Bool) → (cond t (record x { wants_cancel = true }) x).is_cancel ≡ x.is_cancel
  kept x true = refl
  kept x false = refl

  numbered : (x : Branch) (t : Bool) → (cond t (record x { wants_cancel = true }) x).number ≡ x.number
  numbered x true = refl
  numbered x false = refl

  by_test : (x : Branch) → IsIn x r.branches → x.is_cancel ≡ false → (t : Bool) → Follows (is_invite r) r.branches (cond t (record x { wants_cancel = true }) x)
  by_test x here target true =
      record { before = x; there = here; is_target = target; number_is = refl; address_is = refl; again_is = refl; phase_is = after_itself (is_invite r) x.phase }
  by_test x here target false = stays (is_invite r) r.branches x here target

-- all without a final answer
pub marked_succeeds : (r : OpenRequest) → Succeeds r (marked r)
marked_succeeds r = mapped_succeeds r (λ (x : Branch). cond (x.is_cancel || is_final x.phase) x (record x { wants_cancel = true })) (record {
  cancel_is = λ x. kept x (x.is_cancel || is_final x.phase);
  number_is = λ x. numbered x (x.is_cancel || is_final x.phase);
  follows = λ x here target. by_test x here target (x.is_cancel || is_final x.phase);
}) where
  kept : (x : Branch) (t : Bool) → (cond t x (record x { wants_cancel = true })).is_cancel ≡ x.is_cancel
  kept x true = refl
  kept x false = refl

  numbered : (x : Branch) (t : Bool) → (cond t x (record x { wants_cancel = true })).number ≡ x.number
  numbered x true = refl
  numbered x false = refl

  by_test : (x : Branch) → IsIn x r.branches → x.is_cancel ≡ false → (t : Bool) → Follows (is_invite r) r.branches (cond t x (record x { wants_cancel = true }))
  by_test x here target true = stays (is_invite r) r.branches x here target
  by_test x here target false =
      record { before = x; there = here; is_target = target; number_is = refl; address_is = refl; again_is = refl; phase_is = after_itself (is_invite r) x.phase }

-- ---- CANCELs

-- a CANCEL is to no target
cancel_count : (n now : ℕ) (b : Branch) (bs : List Branch) → count_by (is_target n) (cancel_branch now b ∷ bs) ≡ count_by (is_target n) bs
cancel_count n now b bs = omega (arith, count_cons (is_target n) (cancel_branch now b) bs)

-- as many branches are to a target
cancels_count : (n now : ℕ) (bs : List Branch) → count_by (is_target n) (flat_map (with_cancel now) bs) ≡ count_by (is_target n) bs
cancels_count n now [] = refl
cancels_count n now (b ∷ bs) = by_test (is_cancellable b) (cancels_count n now bs) where
  by_test : (t : Bool) → count_by (is_target n) (flat_map (with_cancel now) bs) ≡ count_by (is_target n) bs
      → count_by (is_target n) (cond t (held_branch now b ∷ cancel_branch now b ∷ []) (b ∷ []) ++ flat_map (with_cancel now) bs) ≡ count_by (is_target n) (b ∷ bs)
  by_test true rest =
      omega (
        arith,
        count_cons (is_target n) (held_branch now b) (cancel_branch now b ∷ flat_map (with_cancel now) bs),
        cancel_count n now b (flat_map (with_cancel now) bs),
        count_cons (is_target n) b bs,
        rest,
      )
  by_test false rest = omega (arith, count_cons (is_target n) b (flat_map (with_cancel now) bs), count_cons (is_target n) b bs, rest)

-- a branch that is sent a CANCEL is ready for it
is_heard : (x y : Bool) (phase : Phase) → (x && y && is_ready phase) ≡ true → is_ready phase ≡ true
is_heard true true phase e = e
is_heard true false phase e = absurd (cc)
is_heard false y phase e = absurd (cc)

-- a branch, with its CANCEL if it is sent one now
cancel_follows : (invite : Bool) (branches : List Branch) (now : ℕ) (b : Branch) → IsIn b branches → AllByRecursion (FollowsIf invite branches) (with_cancel now b)
cancel_follows invite branches now b there = by_test (is_cancellable b) refl where
  by_test : (t : Bool) → is_cancellable b ≡ t → AllByRecursion (FollowsIf invite branches) (cond t (held_branch now b ∷ cancel_branch now b ∷ []) (b ∷ []))
  by_test true is = (
    λ target. record {
      before = b;
      there = there;
      is_target = target;
      number_is = refl;
      address_is = refl;
      again_is = refl;
      phase_is = held_after invite (now + 32000) b.phase (is_heard (not b.is_cancel) b.wants_cancel b.phase is);
    },
    (λ target. absurd (cc), tt),
  )
  by_test false is = (stays invite branches b there, tt)

-- all branches
cancels_follow : (invite : Bool) (branches : List Branch) (now : ℕ) (bs : List Branch) → ((b : Branch) → IsIn b bs → IsIn b branches)
    → AllByRecursion (FollowsIf invite branches) (flat_map (with_cancel now) bs)
cancels_follow invite branches now [] there = tt
cancels_follow invite branches now (b ∷ bs) there =
    all_joined (FollowsIf invite branches) (with_cancel now b) (flat_map (with_cancel now) bs) (cancel_follows invite branches now b (there b (inl refl)))
    (cancels_follow invite branches now bs (λ x later. there x (inr later)))

-- a request whose branches are sent CANCELs
pub cancels_succeed : (now : ℕ) (r : OpenRequest) → Succeeds r (with_cancels now r)
cancels_succeed now r = record {
  number_is = refl;
  key_is = refl;
  no_more = λ n. cancels_count n now r.branches;
  follow = cancels_follow (is_invite r) r.branches now r.branches (λ b there. there);
}

-- an answer that goes to the caller leaves the branches
pub upward_succeeds : (now : ℕ) (u : Option Upward) (r : OpenRequest) → Succeeds r (after_upward now u r)
upward_succeeds now None r = succeeds_alike r r refl refl refl
upward_succeeds now (Some u) r = succeeds_alike r (after_upward now (Some u) r) refl refl refl
