-- In which order the timers of the branches of an open request are set, and that they are new.
use Rattle.std.proofs.Common.{◌≡◌, ◌≢◌, ℕ, zero, suc, ◌+◌, ◌<◌, ◌≤◌, Bool, true, false, cond, List, [], ◌∷◌, ◌++◌, length, take, drop, set, get_or, refl, sym, ap, ◌∙◌}
use Rattle.std.proofs.Common.{subst, append_assoc, append-nil, arith}
use Rattle.std.specs.Prelude.{reverse, not}
use Rattle.std.specs.List.{AllByRecursion}
use Rattle.std.proofs.lemmas.Bool.Decides.{nat_tests}
use Rattle.std.proofs.lemmas.List.{drop_all, drop_more, take_all, take_more, take_more_set, length-take}
use Rattle.sip_timers.specs.declared.timer.Owner.{Owner}
use Rattle.sip_timers.specs.declared.timer.Owner.TheVariants as Of
use Rattle.sip_timers.specs.declared.timer.Timer.{Timer}
use Rattle.sip_timers.specs.Setting.{IsNew, SetsInOrder}
use Rattle.sip_timers.proofs.Setting.{SetsInOrder-both, SetsInOrder-further, all-append}
use Rattle.model_transactions.specs.state.declared.branch.Branch.{Branch}
use Rattle.model_transactions.specs.state.declared.open_request.OpenRequest.{OpenRequest}
use Rattle.model_transactions.specs.context_model.Branches.{is_same_branch}
use Rattle.model_transactions.specs.Ties.{branch_timers, branches_timers, owner_of, part_timers, side_timers}
use Rattle.model_transactions.specs.declared.timer_keys.TimerKeys.{TimerKeys}
use Rattle.model_transactions.specs.Matching.{IsAlone, is_next, past, AreMatched}
use Rattle.sip_request.specs.Order.{keyed, left_branches, met_timers, met_at, branches_in_order}
use Rattle.sip_request.specs.Walk.{left_timers}
use Rattle.sip_request.proofs.Setting.{all-weaker, all-reverse, new-append, owned, new_of_owner}

-- ---- branches that are the same

-- both are CANCELs, or neither is
abbrev same_kind : Bool → Bool → Bool
same_kind x y = cond x y (not y)

same_owner_by : (x y : Bool) (n m : ℕ) → same_kind x y ≡ true → n ≡ m → cond x (Of.Cancel n) (Of.Branch n) ≡ cond y (Of.Cancel m) (Of.Branch m)
same_owner_by true true n m kind e = ap (λ (k : ℕ). Of.Cancel k) e
same_owner_by true false n m kind e = absurd (cc)
same_owner_by false true n m kind e = absurd (cc)
same_owner_by false false n m kind e = ap (λ (k : ℕ). Of.Branch k) e

pub same_owner : (a b : Branch) → is_same_branch a b ≡ true → owner_of a ≡ owner_of b
same_owner a b e = same_owner_by a.is_cancel b.is_cancel a.number b.number (grind (arith, nat_tests)) (grind (arith, nat_tests))

kind_is : (x : Bool) → same_kind x x ≡ true
kind_is true = refl
kind_is false = refl

pub same_by : (a b : Branch) → a.number ≡ b.number → a.is_cancel ≡ b.is_cancel → is_same_branch a b ≡ true
same_by a b number cancel =
    let kind : same_kind a.is_cancel b.is_cancel ≡ true = subst (λ (x : Bool). same_kind a.is_cancel x ≡ true) cancel (kind_is a.is_cancel) in
    grind (arith, nat_tests)

-- ---- the branches from a place on

pub keyed-none : (bs : List Branch) → keyed bs [] ≡ []
keyed-none [] = refl
keyed-none (b ∷ bs) = refl

drop-next : {X : Type 0} (n : ℕ) (xs : List X) (y : X) (ys : List X) → drop n xs ≡ y ∷ ys → drop (suc n) xs ≡ ys
drop-next zero [] y ys e = absurd (cc)
drop-next zero (x ∷ xs) y ys e = cc
drop-next (suc n) [] y ys e = absurd (cc)
drop-next (suc n) (x ∷ xs) y ys e = drop-next n xs y ys e

-- the branch that is met at a place
pub record Met (r : OpenRequest) (keys : List TimerKeys) (place : ℕ) (b : Branch) : Type 0 where
  pub w : Branch
  pub k : TimerKeys
  pub branch_is : drop place r.branches ≡ w ∷ drop (place + 1) r.branches
  pub key_is : drop place keys ≡ k ∷ drop (place + 1) keys
  pub same : is_same_branch w b ≡ true

next_drop : {X : Type 0} (n : ℕ) (xs : List X) (y : X) (ys : List X) → drop n xs ≡ y ∷ ys → drop n xs ≡ y ∷ drop (n + 1) xs
next_drop n xs y ys e =
    let further : suc n ≡ n + 1 = omega arith in
    let rest : drop (n + 1) xs ≡ ys = subst (λ (m : ℕ). drop m xs ≡ ys) further (drop-next n xs y ys e) in
    e ∙ ap (λ zs. y ∷ zs) (sym rest)

pub met_there : (r : OpenRequest) (keys : List TimerKeys) (place : ℕ) (b : Branch) → is_next (left_branches r keys place) b ≡ true → Met r keys place b
met_there r keys place b e = by_lists (drop place r.branches) (drop place keys) refl refl e where
  by_lists : (bs : List Branch) (ks : List TimerKeys) → drop place r.branches ≡ bs → drop place keys ≡ ks → is_next (keyed bs ks) b ≡ true → Met r keys place b
  by_lists [] ks of_branches of_keys is = absurd (cc)
  by_lists (w ∷ bs) [] of_branches of_keys is = absurd (cc)
  by_lists (w ∷ bs) (k ∷ ks) of_branches of_keys is =
      record { w = w; k = k; branch_is = next_drop place r.branches w bs of_branches; key_is = next_drop place keys k ks of_keys; same = is }

pub left_there : (r : OpenRequest) (keys : List TimerKeys) (place : ℕ) (w : Branch) (k : TimerKeys) → drop place r.branches ≡ w ∷ drop (place + 1) r.branches
    → drop place keys ≡ k ∷ drop (place + 1) keys
    → left_branches r keys place ≡ w ∷ left_branches r keys (place + 1)
left_there r keys place w k of_branches of_keys =
    ap (λ xs. keyed xs (drop place keys)) of_branches ∙ ap (λ ks. keyed (w ∷ drop (place + 1) r.branches) ks) of_keys

pub timers_there : (r : OpenRequest) (keys : List TimerKeys) (place : ℕ) (w : Branch) (k : TimerKeys) → drop place r.branches ≡ w ∷ drop (place + 1) r.branches
    → drop place keys ≡ k ∷ drop (place + 1) keys
    → left_timers r keys place ≡ part_timers r.number (owner_of w) k (branch_timers r w) ++ left_timers r keys (place + 1)
timers_there r keys place w k of_branches of_keys =
    ap (λ xs. branches_timers r xs (drop place keys)) of_branches ∙ ap (λ ks. branches_timers r (w ∷ drop (place + 1) r.branches) ks) of_keys

-- one that is met has these timers
pub met_is : (r : OpenRequest) (keys : List TimerKeys) (place : ℕ) (w b : Branch) (k : TimerKeys) → drop place r.branches ≡ w ∷ drop (place + 1) r.branches
    → drop place keys ≡ k ∷ drop (place + 1) keys → is_same_branch w b ≡ true
    → met_at r keys place b ≡ part_timers r.number (owner_of w) k (branch_timers r w)
met_is r keys place w b k of_branches of_keys same =
    ap (λ xs. met_timers r xs (drop place keys) b) of_branches
    ∙ ap (λ ks. met_timers r (w ∷ drop (place + 1) r.branches) ks b) of_keys
    ∙ ap (λ t. cond t (part_timers r.number (owner_of w) k (branch_timers r w)) []) same

-- where none is met, there are none
pub met_none : (r : OpenRequest) (keys : List TimerKeys) (place : ℕ) (b : Branch) → is_next (left_branches r keys place) b ≡ false → met_at r keys place b ≡ []
met_none r keys place b e = by_lists (drop place r.branches) (drop place keys) e where
  by_lists : (bs : List Branch) (ks : List TimerKeys) → is_next (keyed bs ks) b ≡ false → met_timers r bs ks b ≡ []
  by_lists [] ks is = refl
  by_lists (w ∷ bs) [] is = refl
  by_lists (w ∷ bs) (k ∷ ks) is = ap (λ t. cond t (part_timers r.number (owner_of w) k (branch_timers r w)) []) is

pub past_none : (ws : List Branch) (b : Branch) → is_next ws b ≡ false → past ws b ≡ ws
past_none [] b e = refl
past_none (w ∷ ws) b e = ap (λ t. cond t ws (w ∷ ws)) e

pub past_met : (ws xs : List Branch) (w b : Branch) → ws ≡ w ∷ xs → is_same_branch w b ≡ true → past ws b ≡ xs
past_met ws xs w b e same = ap (λ (ys : List Branch). past ys b) e ∙ ap (λ t. cond t xs (w ∷ xs)) same

-- ---- at a place

pub none_without_keys : (r : OpenRequest) (keys : List TimerKeys) (place : ℕ) (b : Branch) → length keys ≤ place → is_next (left_branches r keys place) b ≡ false
none_without_keys r keys place b h = ap (λ ws. is_next ws b) (ap (λ ks. keyed (drop place r.branches) ks) (drop_all place keys h) ∙ keyed-none (drop place r.branches))

pub none_without_branches : (r : OpenRequest) (bs : List Branch) (keys : List TimerKeys) (place : ℕ) (b : Branch) → bs ≡ r.branches → length bs ≤ place
    → is_next (left_branches r keys place) b ≡ false
none_without_branches r bs keys place b e h =
    ap (λ xs. is_next (keyed (drop place xs) (drop place keys)) b) (sym e) ∙ ap (λ xs. is_next (keyed xs (drop place keys)) b) (drop_all place bs h)

abbrev no_key : TimerKeys
no_key = record { again = 0; last = 0; call = 0 }

pub key_there : (keys : List TimerKeys) (place : ℕ) → place < length keys → drop place keys ≡ get_or keys place no_key ∷ drop (place + 1) keys
key_there keys place h = drop_more keys place no_key h

pub branch_there : (r : OpenRequest) (bs : List Branch) (place : ℕ) (w : Branch) → bs ≡ r.branches → place < length bs → w ≡ get_or bs place w
    → drop place r.branches ≡ w ∷ drop (place + 1) r.branches
branch_there r bs place w e within is =
    ap (λ xs. drop place xs) (sym e) ∙ (drop_more bs place w within ∙ (ap (λ x. x ∷ drop (place + 1) bs) (sym is) ∙ ap (λ xs. w ∷ drop (place + 1) xs) e))

pub next_there : (r : OpenRequest) (bs : List Branch) (keys : List TimerKeys) (place : ℕ) (w b : Branch) → bs ≡ r.branches → place < length bs → place < length keys
    → w ≡ get_or bs place w
    → is_next (left_branches r keys place) b ≡ is_same_branch w b
next_there r bs keys place w b e in_branches in_keys is =
    ap (λ ws. is_next ws b) (left_there r keys place w (get_or keys place no_key) (branch_there r bs place w e in_branches is) (key_there keys place in_keys))

-- ---- what is new

not_of : (o p q : Owner) → p ≢ o → q ≡ o → p ≢ q
not_of o p q differ is e = differ (e ∙ is)

-- timers of branches none of which has this owner
pub new_of_branches : (r : OpenRequest) (bs : List Branch) (ks : List TimerKeys) (o : Owner) (t : Timer) → t.name.owner ≡ o → IsAlone o (keyed bs ks)
    → IsNew (branches_timers r bs ks) t
new_of_branches r [] ks o t is alone = tt
new_of_branches r (b ∷ bs) [] o t is alone = tt
new_of_branches r (b ∷ bs) (k ∷ ks) o t is alone =
    new-append (part_timers r.number (owner_of b) k (branch_timers r b)) (branches_timers r bs ks) t
    (new_of_owner r.number (owner_of b) k (branch_timers r b) t (not_of o (owner_of b) t.name.owner alone.0 is))
    (new_of_branches r bs ks o t is alone.1)

-- what isn't met at a place is none of what is left there
pub new_at : (r : OpenRequest) (keys : List TimerKeys) (place : ℕ) (b : Branch) (t : Timer) → t.name.owner ≡ owner_of b
    → IsAlone (owner_of b) (past (left_branches r keys place) b) → IsNew (met_at r keys place b) t → IsNew (left_timers r keys place) t
new_at r keys place b t is alone new = by_lists (drop place r.branches) (drop place keys) alone new where
  by_lists : (bs : List Branch) (ks : List TimerKeys) → IsAlone (owner_of b) (past (keyed bs ks) b) → IsNew (met_timers r bs ks b) t → IsNew (branches_timers r bs ks) t
  by_lists [] ks none fresh = tt
  by_lists (w ∷ bs) [] none fresh = tt
  by_lists (w ∷ bs) (k ∷ ks) none fresh = by_test (is_same_branch w b) none fresh where
    by_test : (test : Bool) → IsAlone (owner_of b) (cond test (keyed bs ks) (w ∷ keyed bs ks))
        → IsNew (cond test (part_timers r.number (owner_of w) k (branch_timers r w)) []) t
        → IsNew (part_timers r.number (owner_of w) k (branch_timers r w) ++ branches_timers r bs ks) t
    by_test true others met =
        new-append (part_timers r.number (owner_of w) k (branch_timers r w)) (branches_timers r bs ks) t met (new_of_branches r bs ks (owner_of b) t is others)
    by_test false others met =
        new-append (part_timers r.number (owner_of w) k (branch_timers r w)) (branches_timers r bs ks) t
        (new_of_owner r.number (owner_of w) k (branch_timers r w) t (not_of (owner_of b) (owner_of w) t.name.owner others.0 is))
        (new_of_branches r bs ks (owner_of b) t is others.1)

-- ---- one branch further

-- a timer of this owner that is none of those left is none of all
abbrev pub IsFurther : OpenRequest → List TimerKeys → ℕ → Owner → Type 0
IsFurther r keys place o = (t : Timer) → t.name.owner ≡ o → IsNew (left_timers r keys place) t → IsNew (branches_timers r r.branches keys) t

-- the branches so far are through, and the timers of those that are to come are none of the ones that were met
pub record AreJoined (was : OpenRequest) (was_keys : List TimerKeys) (place : ℕ) (ts us : List Timer) (done : List Timer) (left : List Branch) : Type 0 where
  pub matched : AreMatched (left_branches was was_keys place) left
  pub further : AllByRecursion (λ b. IsFurther was was_keys place (owner_of b)) left
  pub sets : SetsInOrder ts (branches_timers was was.branches was_keys) us done

all-both : (P Q R : Branch → Type 0) (bs : List Branch) → ((b : Branch) → P b → Q b → R b) → AllByRecursion P bs → AllByRecursion Q bs → AllByRecursion R bs
all-both P Q R [] each a b = tt
all-both P Q R (x ∷ bs) each a b = (each x a.0 b.0, all-both P Q R bs each a.1 b.1)

further_first : (r : OpenRequest) (keys : List TimerKeys) (bs : List Branch) → AllByRecursion (λ b. IsFurther r keys 0 (owner_of b)) bs
further_first r keys [] = tt
further_first r keys (b ∷ bs) = (λ t is new. new, further_first r keys bs)

pub joined_first : (was : OpenRequest) (was_keys : List TimerKeys) (ts : List Timer) (bs : List Branch) → AreMatched (keyed was.branches was_keys) bs
    → SetsInOrder ts (branches_timers was was.branches was_keys) ts []
    → AreJoined was was_keys 0 ts ts [] bs
joined_first was was_keys ts bs matched sets = record { matched = matched; further = further_first was was_keys bs; sets = sets }

-- where the next place is
abbrev pub place_past : OpenRequest → List TimerKeys → ℕ → Branch → ℕ
place_past r keys place b = cond (is_next (left_branches r keys place) b) (place + 1) place

-- the timers of one branch are set
module _ (was : OpenRequest) (was_keys : List TimerKeys) (place : ℕ) (ts us vs done part : List Timer) (b : Branch) (rest : List Branch)
    (joined : AreJoined was was_keys place ts us done (b ∷ rest)) (are_its : AllByRecursion (λ (t : Timer). t.name.owner ≡ owner_of b) part)
    (sets : SetsInOrder us (met_at was was_keys place b) vs part) where
  abbrev all : List Timer
  all = branches_timers was was.branches was_keys

  new_of_all : (t : Timer) → t.name.owner ≡ owner_of b → IsNew (met_at was was_keys place b) t → IsNew all t
  new_of_all t is new = joined.further.0 t is (new_at was was_keys place b t is joined.matched.0 new)

  sets_all : SetsInOrder ts all vs (done ++ part)
  sets_all = SetsInOrder-both ts us vs all done part joined.sets
      (SetsInOrder-further us (met_at was was_keys place b) all vs part sets
      (all-weaker (λ (t : Timer). t.name.owner ≡ owner_of b) (λ (t : Timer). IsNew (met_at was was_keys place b) t → IsNew all t) part new_of_all are_its))

  matched_next : (next : ℕ) → left_branches was was_keys next ≡ past (left_branches was was_keys place) b → AreMatched (left_branches was was_keys next) rest
  matched_next next e = subst (λ ws. AreMatched ws rest) (sym e) joined.matched.2

  past_a_branch : (x : Branch) → Met was was_keys place b → owner_of x ≢ owner_of b → IsFurther was was_keys place (owner_of x)
      → IsFurther was was_keys (place + 1) (owner_of x)
  past_a_branch x met differ further t is new = further t is (subst (λ (us : List Timer). IsNew us t)
      (sym (timers_there was was_keys place met.w met.k met.branch_is met.key_is))
      (new-append (part_timers was.number (owner_of met.w) met.k (branch_timers was met.w)) (left_timers was was_keys (place + 1)) t
      (new_of_owner was.number (owner_of met.w) met.k (branch_timers was met.w) t (λ e. differ (sym is ∙ (sym e ∙ same_owner met.w b met.same))))
      new))

  joined_by : (test : Bool) → is_next (left_branches was was_keys place) b ≡ test → AreJoined was was_keys (cond test (place + 1) place) ts vs (done ++ part) rest
  joined_by true e =
      let met : Met was was_keys place b = met_there was was_keys place b e in
      let left : left_branches was was_keys (place + 1) ≡ past (left_branches was was_keys place) b =
      sym (past_met (left_branches was was_keys place) (left_branches was was_keys (place + 1)) met.w b
      (left_there was was_keys place met.w met.k met.branch_is met.key_is) met.same) in
      record {
        matched = matched_next (place + 1) left;
        further = all-both (λ (x : Branch). owner_of x ≢ owner_of b) (λ (x : Branch). IsFurther was was_keys place (owner_of x))
            (λ (x : Branch). IsFurther was was_keys (place + 1) (owner_of x)) rest
            (λ x differ further. past_a_branch x met differ further) (joined.matched.1 e) joined.further.1;
        sets = sets_all;
      }
  joined_by false e = record { matched = matched_next place (sym (past_none (left_branches was was_keys place) b e)); further = joined.further.1; sets = sets_all }

  pub joined_more : AreJoined was was_keys (place_past was was_keys place b) ts vs (done ++ part) rest
  joined_more = joined_by (is_next (left_branches was was_keys place) b) refl

-- ---- the branches after: up to a place

one_more : (r : OpenRequest) (bs : List Branch) (ks : List TimerKeys) (b : Branch) (k : TimerKeys) → length bs ≡ length ks
    → branches_in_order r (bs ++ b ∷ []) (ks ++ k ∷ []) ≡ branches_in_order r bs ks ++ reverse (part_timers r.number (owner_of b) k (branch_timers r b))
one_more r [] [] b k same = append-nil (reverse (part_timers r.number (owner_of b) k (branch_timers r b)))
one_more r [] (y ∷ ks) b k same = absurd (cc)
one_more r (x ∷ bs) [] b k same = absurd (cc)
one_more r (x ∷ bs) (y ∷ ks) b k same =
    ap (λ ts. reverse (part_timers r.number (owner_of x) y (branch_timers r x)) ++ ts) (one_more r bs ks b k (omega (arith, same)))
    ∙ sym (append_assoc (reverse (part_timers r.number (owner_of x) y (branch_timers r x))) (branches_in_order r bs ks)
    (reverse (part_timers r.number (owner_of b) k (branch_timers r b))))

same_length : (bs : List Branch) (xs : List TimerKeys) (n : ℕ) → n < length bs → length xs ≡ length bs → length (take n bs) ≡ length (take n xs)
same_length bs xs n h e = omega (arith, length-take n bs, length-take n xs)

pub order_more : (r : OpenRequest) (bs : List Branch) (ks : List TimerKeys) (i : ℕ) (b : Branch) (k : TimerKeys) → i < length bs → length ks ≡ length bs
    → b ≡ get_or bs i b
    → branches_in_order r (take (i + 1) bs) (take (i + 1) (set ks i k)) ≡ branches_in_order r (take i bs) (take i ks)
    ++ reverse (part_timers r.number (owner_of b) k (branch_timers r b))
order_more r bs ks i b k within long is =
    let of_branch : take (i + 1) bs ≡ take i bs ++ b ∷ [] = take_more bs i b within ∙ ap (λ x. take i bs ++ x ∷ []) (sym is) in
    let of_keys : take (i + 1) (set ks i k) ≡ take i ks ++ k ∷ [] = take_more_set ks i k (omega arith) in
    ap (λ xs. branches_in_order r xs (take (i + 1) (set ks i k))) of_branch
    ∙ ap (λ xs. branches_in_order r (take i bs ++ b ∷ []) xs) of_keys
    ∙ one_more r (take i bs) (take i ks) b k (same_length bs ks i within long)

pub order_done : (r : OpenRequest) (bs : List Branch) (ks : List TimerKeys) (i : ℕ) → bs ≡ r.branches → length bs ≤ i → length ks ≡ length bs
    → branches_in_order r (take i bs) (take i ks) ≡ branches_in_order r r.branches ks
order_done r bs ks i e h long =
    ap (λ xs. branches_in_order r xs (take i ks)) (take_all i bs h) ∙ ap (λ xs. branches_in_order r bs xs) (take_all i ks (omega arith))
    ∙ ap (λ xs. branches_in_order r xs ks) e

-- the branches of the next step
pub joined_at : (was : OpenRequest) (was_keys : List TimerKeys) (place : ℕ) (ts us done : List Timer) (bs : List Branch) (i : ℕ) (b : Branch) → i < length bs
    → b ≡ get_or bs i b
    → AreJoined was was_keys place ts us done (drop i bs) → AreJoined was was_keys place ts us done (b ∷ drop (i + 1) bs)
joined_at was was_keys place ts us done bs i b within is joined =
    subst (λ (xs : List Branch). AreJoined was was_keys place ts us done xs) (drop_more bs i b within ∙ ap (λ x. x ∷ drop (i + 1) bs) (sym is)) joined

-- ---- the answering side, and all of them

not_server_by : (x : Bool) (n : ℕ) → cond x (Of.Cancel n) (Of.Branch n) ≢ Of.Server
not_server_by true n e = cc
not_server_by false n e = cc

pub not_server : (b : Branch) → owner_of b ≢ Of.Server
not_server b = not_server_by b.is_cancel b.number

none_of_side : (bs : List Branch) → IsAlone Of.Server bs
none_of_side [] = tt
none_of_side (b ∷ bs) = (not_server b, none_of_side bs)

-- the timers of branches are none of the answering side's
not_of_side : (r : OpenRequest) (bs : List Branch) (ks : List TimerKeys) → AllByRecursion (λ (t : Timer). t.name.owner ≢ Of.Server) (branches_in_order r bs ks)
not_of_side r [] ks = tt
not_of_side r (b ∷ bs) [] = tt
not_of_side r (b ∷ bs) (k ∷ ks) =
    all-append (λ (t : Timer). t.name.owner ≢ Of.Server) (reverse (part_timers r.number (owner_of b) k (branch_timers r b))) (branches_in_order r bs ks)
    (all-weaker (λ (t : Timer). t.name.owner ≡ owner_of b) (λ (t : Timer). t.name.owner ≢ Of.Server) (reverse (part_timers r.number (owner_of b) k (branch_timers r b)))
    (λ t is e. not_server b (sym is ∙ e))
    (all-reverse (λ (t : Timer). t.name.owner ≡ owner_of b) (part_timers r.number (owner_of b) k (branch_timers r b))
    (owned r.number (owner_of b) k (branch_timers r b))))
    (not_of_side r bs ks)

pub all_set : (ts us vs : List Timer) (was next : OpenRequest) (side keys_side : TimerKeys) (was_keys keys : List TimerKeys)
    → SetsInOrder ts (part_timers was.number Of.Server side (side_timers was)) us (reverse (part_timers next.number Of.Server keys_side (side_timers next)))
    → SetsInOrder us (branches_timers was was.branches was_keys) vs (branches_in_order next next.branches keys)
    → SetsInOrder ts (part_timers was.number Of.Server side (side_timers was) ++ branches_timers was was.branches was_keys) vs
    (reverse (part_timers next.number Of.Server keys_side (side_timers next)) ++ branches_in_order next next.branches keys)
all_set ts us vs was next side keys_side was_keys keys of_side of_branches =
    let stood : List Timer = part_timers was.number Of.Server side (side_timers was) in
    let others : List Timer = branches_timers was was.branches was_keys in
    let first : List Timer = reverse (part_timers next.number Of.Server keys_side (side_timers next)) in
    let rest : List Timer = branches_in_order next next.branches keys in
    SetsInOrder-both ts us vs (stood ++ others) first rest
    (SetsInOrder-further ts stood (stood ++ others) us first of_side
    (all-weaker (λ (t : Timer). t.name.owner ≡ Of.Server) (λ (t : Timer). IsNew stood t → IsNew (stood ++ others) t) first
    (λ t is new. new-append stood others t new (new_of_branches was was.branches was_keys Of.Server t is (none_of_side (keyed was.branches was_keys))))
    (all-reverse (λ (t : Timer). t.name.owner ≡ Of.Server) (part_timers next.number Of.Server keys_side (side_timers next))
    (owned next.number Of.Server keys_side (side_timers next)))))
    (SetsInOrder-further us others (stood ++ others) vs rest of_branches
    (all-weaker (λ (t : Timer). t.name.owner ≢ Of.Server) (λ (t : Timer). IsNew others t → IsNew (stood ++ others) t) rest
    (λ t differ new. new-append stood others t (new_of_owner was.number Of.Server side (side_timers was) t (λ e. differ (sym e))) new)
    (not_of_side next next.branches keys)))

-- nothing was there before
matched_from : (bs : List Branch) → AreMatched [] bs
matched_from [] = tt
matched_from (b ∷ bs) = (tt, (λ e. absurd (cc)), matched_from bs)

pub matched_none : (ws bs : List Branch) → ws ≡ [] → AreMatched ws bs
matched_none ws bs e = subst (λ (xs : List Branch). AreMatched xs bs) (sym e) (matched_from bs)

-- ---- as the code goes

pub joined_further : (was : OpenRequest) (was_keys : List TimerKeys) (place next : ℕ) (ts us vs done named after : List Timer) (b : Branch) (rest : List Branch)
    → next ≡ place_past was was_keys place b → after ≡ done ++ reverse named → AllByRecursion (λ (t : Timer). t.name.owner ≡ owner_of b) named
    → AreJoined was was_keys place ts us done (b ∷ rest) → SetsInOrder us (met_at was was_keys place b) vs (reverse named) → AreJoined was was_keys next ts vs after rest
joined_further was was_keys place next ts us vs done named after b rest next_is after_is are_its joined sets =
    subst (λ (n : ℕ). AreJoined was was_keys n ts vs after rest) (sym next_is)
    (subst (λ (xs : List Timer). AreJoined was was_keys (place_past was was_keys place b) ts vs xs rest) (sym after_is)
    (joined_more was was_keys place ts us vs done (reverse named) b rest joined (all-reverse (λ (t : Timer). t.name.owner ≡ owner_of b) named are_its) sets))

-- the branch at a place is met
pub met_stood : (r : OpenRequest) (bs : List Branch) (keys : List TimerKeys) (place : ℕ) (w b : Branch) (k : TimerKeys) (standing : List Timer) → bs ≡ r.branches
    → place < length bs → place < length keys → w ≡ get_or bs place w → k ≡ get_or keys place k
    → true ≡ is_next (left_branches r keys place) b → standing ≡ part_timers r.number (owner_of w) k (branch_timers r w) → standing ≡ met_at r keys place b
met_stood r bs keys place w b k standing e in_branches in_keys is_branch is_key is is_part =
    let of_branch : drop place r.branches ≡ w ∷ drop (place + 1) r.branches = branch_there r bs place w e in_branches is_branch in
    let of_key : drop place keys ≡ k ∷ drop (place + 1) keys = drop_more keys place k in_keys ∙ ap (λ x. x ∷ drop (place + 1) keys) (sym is_key) in
    let same : is_same_branch w b ≡ true = sym (next_there r bs keys place w b e in_branches in_keys is_branch) ∙ sym is in
    is_part ∙ sym (met_is r keys place w b k of_branch of_key same)
