-- Branches that an event maps, and the CANCELs that join them.
use Rattle.std.proofs.Common.{◌≡◌, ◌≢◌, ℕ, ◌+◌, Bool, true, false, cond, List, [], ◌∷◌, ◌++◌, map, refl, sym, ap, ◌∙◌, subst, arith}
use Rattle.std.specs.Prelude.{not, ◌&&◌}
use Rattle.std.specs.List.{AllByRecursion, flat_map}
use Rattle.std.proofs.lemmas.Bool.Decides.{nat_tests}
use Rattle.sip_timers.specs.declared.timer.Owner.{Owner}
use Rattle.sip_timers.specs.declared.timer.Owner.TheVariants as Of
use Rattle.sip_context_branches.specs.state.declared.branch.Branch.{Branch}
use Rattle.sip_context_branches.specs.state.declared.branch.Phase.{Phase}
use Rattle.sip_context_branches.specs.state.declared.branch.Phase.TheVariants.{Unheard, Heard, Cancelled, Done, Ended}
use Rattle.sip_context_branches.specs.context_model.Branches.{is_same_branch, is_ready, is_cancellable, held_branch, cancel_branch, with_cancel}
use Rattle.model_transactions.specs.Matching.{IsAlone, is_next, past, AreMatched, may_be_cancelled, IsNewNumber, AreBranched, NoBranch, OneBranch, WithCancel}
use Rattle.model_transactions.specs.Ties.{owner_of}
use Rattle.model_transactions.specs.Kept.{AreKept}

-- ---- owners

abbrev number_in : Owner → ℕ
number_in Of.Server = 0
number_in (Of.Branch n) = n
number_in (Of.Cancel n) = n

number_by : (t : Bool) (n : ℕ) → number_in (cond t (Of.Cancel n) (Of.Branch n)) ≡ n
number_by true n = refl
number_by false n = refl

pub its_number : (b : Branch) → number_in (owner_of b) ≡ b.number
its_number b = number_by b.is_cancel b.number

pub owner_is : (b : Branch) (t : Bool) → b.is_cancel ≡ t → owner_of b ≡ cond t (Of.Cancel b.number) (Of.Branch b.number)
owner_is b t e = ap (λ (v : Bool). cond v (Of.Cancel b.number) (Of.Branch b.number)) e

pub kinds_differ : (n m : ℕ) → Of.Cancel n ≡ Of.Branch m → ⊥
kinds_differ n m e = absurd (cc)

-- branches of other numbers have other owners
pub alone : (o : Owner) (n : ℕ) (bs : List Branch) → number_in o ≡ n → IsNewNumber n bs → IsAlone o bs
alone o n [] e new = tt
alone o n (x ∷ bs) e new = ((λ same. new.0 (sym (its_number x) ∙ (ap number_in same ∙ e))), alone o n bs e new.1)

kind_same : (x : Bool) → cond x x (not x) ≡ true
kind_same true = refl
kind_same false = refl

-- branches of one number and one kind are one
same_by : (a b : Branch) → a.number ≡ b.number → a.is_cancel ≡ b.is_cancel → is_same_branch a b ≡ true
same_by a b number cancel =
    let kind : cond a.is_cancel b.is_cancel (not b.is_cancel) ≡ true = subst (λ (x : Bool). cond a.is_cancel x (not x) ≡ true) cancel (kind_same a.is_cancel) in
    grind (arith, nat_tests)

-- of another number, or of another kind, are not
other_number : (a b : Branch) → a.number ≢ b.number → is_same_branch a b ≡ false
other_number a b differ = grind (arith, nat_tests, differ)

other_kind : (a b : Branch) (t : Bool) → a.is_cancel ≡ t → b.is_cancel ≡ not t → is_same_branch a b ≡ false
other_kind a b true e f = grind (arith, nat_tests)
other_kind a b false e f = grind (arith, nat_tests)

-- ---- one that is met, and one that isn't

met : (w b : Branch) (ws bs : List Branch) → is_same_branch w b ≡ true → IsAlone (owner_of b) ws → IsAlone (owner_of b) bs → AreMatched ws bs
    → AreMatched (w ∷ ws) (b ∷ bs)
met w b ws bs same left right rest =
    let e : past (w ∷ ws) b ≡ ws = ap (λ t. cond t ws (w ∷ ws)) same in (
      subst (λ (xs : List Branch). IsAlone (owner_of b) xs) (sym e) left,
      (λ is. right),
      subst (λ (xs : List Branch). AreMatched xs bs) (sym e) rest,
    )

joins_by : (ws bs : List Branch) (b : Branch) → is_next ws b ≡ false → past ws b ≡ ws → IsAlone (owner_of b) ws → IsAlone (owner_of b) bs → AreMatched ws bs
    → AreMatched ws (b ∷ bs)
joins_by ws bs b none e left right rest = (
  subst (λ (xs : List Branch). IsAlone (owner_of b) xs) (sym e) left,
  (λ is. right),
  subst (λ (xs : List Branch). AreMatched xs bs) (sym e) rest,
)

joins : (ws bs : List Branch) (b : Branch) → IsNewNumber b.number ws → IsAlone (owner_of b) bs → AreMatched ws bs → AreMatched ws (b ∷ bs)
joins [] bs b new right rest = joins_by [] bs b refl refl tt right rest
joins (w ∷ ws) bs b new right rest =
    let other : is_same_branch w b ≡ false = other_number w b new.0 in
    joins_by (w ∷ ws) bs b other (ap (λ t. cond t ws (w ∷ ws)) other) (alone (owner_of b) b.number (w ∷ ws) (its_number b) new) right rest

-- ---- what an event does to a branch

-- it keeps its number and its kind, and where no CANCEL could be sent to it none can be
pub record Keeps (f : Branch → Branch) (b : Branch) : Type 0 where
  pub number : (f b).number ≡ b.number
  pub is_cancel : (f b).is_cancel ≡ b.is_cancel
  pub phase : may_be_cancelled b.phase ≡ false → may_be_cancelled (f b).phase ≡ false

new_mapped : (f : Branch → Branch) (n m : ℕ) (bs : List Branch) → m ≡ n → AllByRecursion (Keeps f) bs → IsNewNumber n bs → IsNewNumber m (map f bs)
new_mapped f n m [] e keeps new = tt
new_mapped f n m (b ∷ bs) e keeps new = ((λ same. new.0 (sym keeps.0.number ∙ (same ∙ e))), new_mapped f n m bs e keeps.1 new.1)

-- ---- CANCELs join

not_ready : (phase : Phase) → may_be_cancelled phase ≡ false → is_ready phase ≡ false
not_ready (Unheard due) e = refl
not_ready (Heard due) e = absurd (cc)
not_ready (Cancelled due) e = refl
not_ready (Done due status) e = refl
not_ready Ended e = refl

and-false : (a b c : Bool) → c ≡ false → (a && b && c) ≡ false
and-false true true c e = e
and-false true false c e = refl
and-false false b c e = refl

not_cancelled : (b : Branch) → may_be_cancelled b.phase ≡ false → is_cancellable b ≡ false
not_cancelled b e = and-false (not b.is_cancel) b.wants_cancel (is_ready b.phase) (not_ready b.phase e)

no_cancel_of : (b : Branch) → b.is_cancel ≡ true → is_cancellable b ≡ false
no_cancel_of b e = ap (λ (t : Bool). not t && b.wants_cancel && is_ready b.phase) e

alone_one : (now : ℕ) (b : Branch) → is_cancellable b ≡ false → with_cancel now b ≡ b ∷ []
alone_one now b e = ap (λ t. cond t (held_branch now b ∷ cancel_branch now b ∷ []) (b ∷ [])) e

new_joined : (now n : ℕ) (bs : List Branch) → IsNewNumber n bs → IsNewNumber n (flat_map (with_cancel now) bs)
new_joined now n [] new = tt
new_joined now n (b ∷ bs) new = by_test (is_cancellable b) (new_joined now n bs new.1) where
  by_test : (t : Bool) → IsNewNumber n (flat_map (with_cancel now) bs) → IsNewNumber n
      (cond t (held_branch now b ∷ cancel_branch now b ∷ []) (b ∷ []) ++ flat_map (with_cancel now) bs)
  by_test true rest = (new.0, (new.0, rest))
  by_test false rest = (new.0, rest)

-- the branches after an event that maps them, with the CANCELs that are sent then
module _ (f : Branch → Branch) (now : ℕ) where
  abbrev pub after : List Branch → List Branch
  after bs = flat_map (with_cancel now) (map f bs)

  one_kept : (b : Branch) (bs : List Branch) → Keeps f b → AllByRecursion (Keeps f) bs → b.is_cancel ≡ false → IsNewNumber b.number bs → AreKept bs (after bs)
      → AreKept (b ∷ bs) (after (b ∷ bs))
  one_kept b bs keeps others is new rest = by_test (is_cancellable (f b)) where
    same : is_same_branch b (f b) ≡ true
    same = same_by b (f b) (sym keeps.number) (sym keeps.is_cancel)

    its_kind : (f b).is_cancel ≡ false
    its_kind = keeps.is_cancel ∙ is

    its_new : IsNewNumber (f b).number (after bs)
    its_new = new_joined now (f b).number (map f bs) (new_mapped f b.number (f b).number bs keeps.number others new)

    left : IsAlone (owner_of (f b)) bs
    left = alone (owner_of (f b)) b.number bs (its_number (f b) ∙ keeps.number) new

    by_test : (t : Bool) → AreKept (b ∷ bs) (cond t (held_branch now (f b) ∷ cancel_branch now (f b) ∷ []) (f b ∷ []) ++ after bs)
    by_test true =
        let c : Branch = cancel_branch now (f b) in
        let h : Branch = held_branch now (f b) in
        let other : owner_of c ≢ owner_of h = λ e. kinds_differ (f b).number (f b).number (e ∙ owner_is h false its_kind) in
        record {
          branched = WithCancel h c (after bs) its_kind refl refl refl its_new rest.branched;
          matched = met b h bs (c ∷ after bs) same left (other, alone (owner_of h) (f b).number (after bs) (its_number h) its_new)
              (joins bs (after bs) c (subst (λ (n : ℕ). IsNewNumber n bs) (sym keeps.number) new) (alone (owner_of c) (f b).number (after bs) (its_number c) its_new)
              rest.matched);
        }
    by_test false = record {
      branched = OneBranch (f b) (after bs) its_kind its_new rest.branched;
      matched = met b (f b) bs (after bs) same left (alone (owner_of (f b)) (f b).number (after bs) (its_number (f b)) its_new) rest.matched;
    }

  both_kept : (b c : Branch) (bs : List Branch) → Keeps f b → Keeps f c → AllByRecursion (Keeps f) bs → b.is_cancel ≡ false → c.is_cancel ≡ true → c.number ≡ b.number
      → may_be_cancelled b.phase ≡ false → IsNewNumber b.number bs → AreKept bs (after bs)
      → AreKept (b ∷ c ∷ bs) (after (b ∷ c ∷ bs))
  both_kept b c bs keeps c_keeps others is c_is numbers is_past new rest = subst (λ (xs : List Branch). AreKept (b ∷ c ∷ bs) xs) (sym listed) its_kept where
    number_is : (f c).number ≡ (f b).number
    number_is = c_keeps.number ∙ (numbers ∙ sym keeps.number)

    its_past : may_be_cancelled (f b).phase ≡ false
    its_past = keeps.phase is_past

    its_kind : (f b).is_cancel ≡ false
    its_kind = keeps.is_cancel ∙ is

    c_kind : (f c).is_cancel ≡ true
    c_kind = c_keeps.is_cancel ∙ c_is

    listed : after (b ∷ c ∷ bs) ≡ f b ∷ f c ∷ after bs
    listed = ap (λ xs. xs ++ (with_cancel now (f c) ++ after bs)) (alone_one now (f b) (not_cancelled (f b) its_past))
        ∙ ap (λ xs. f b ∷ (xs ++ after bs)) (alone_one now (f c) (no_cancel_of (f c) c_kind))

    its_new : IsNewNumber (f b).number (after bs)
    its_new = new_joined now (f b).number (map f bs) (new_mapped f b.number (f b).number bs keeps.number others new)

    not_c : owner_of c ≢ owner_of (f b)
    not_c e = kinds_differ c.number (f b).number (sym (owner_is c true c_is) ∙ (e ∙ owner_is (f b) false its_kind))

    not_fc : owner_of (f c) ≢ owner_of (f b)
    not_fc e = kinds_differ (f c).number (f b).number (sym (owner_is (f c) true c_kind) ∙ (e ∙ owner_is (f b) false its_kind))

    its_kept : AreKept (b ∷ c ∷ bs) (f b ∷ f c ∷ after bs)
    its_kept = record {
      branched = WithCancel (f b) (f c) (after bs) its_kind c_kind number_is its_past its_new rest.branched;
      matched = met b (f b) (c ∷ bs) (f c ∷ after bs) (same_by b (f b) (sym keeps.number) (sym keeps.is_cancel))
          (not_c, alone (owner_of (f b)) b.number bs (its_number (f b) ∙ keeps.number) new)
          (not_fc, alone (owner_of (f b)) (f b).number (after bs) (its_number (f b)) its_new)
          (met c (f c) bs (after bs) (same_by c (f c) (sym c_keeps.number) (sym c_keeps.is_cancel))
          (alone (owner_of (f c)) b.number bs (its_number (f c) ∙ (c_keeps.number ∙ numbers)) new)
          (alone (owner_of (f c)) (f b).number (after bs) (its_number (f c) ∙ number_is) its_new)
          rest.matched);
    }

  pub kept : (bs : List Branch) → AllByRecursion (Keeps f) bs → AreBranched bs → AreKept bs (after bs)
  kept bs keeps NoBranch = record { branched = NoBranch; matched = tt }
  kept bs keeps (OneBranch b rest is new branched) = one_kept b rest keeps.0 keeps.1 is new (kept rest keeps.1 branched)
  kept bs keeps (WithCancel b c rest is c_is numbers is_past new branched) =
      both_kept b c rest keeps.0 keeps.1.0 keeps.1.1 is c_is numbers is_past new (kept rest keeps.1.1 branched)

-- ---- no CANCEL joins

-- the branches after an event that only maps them
module _ (f : Branch → Branch) where
  one_stays : (b : Branch) (bs : List Branch) → Keeps f b → AllByRecursion (Keeps f) bs → b.is_cancel ≡ false → IsNewNumber b.number bs → AreKept bs (map f bs)
      → AreKept (b ∷ bs) (f b ∷ map f bs)
  one_stays b bs keeps others is new rest =
      let its_new : IsNewNumber (f b).number (map f bs) = new_mapped f b.number (f b).number bs keeps.number others new in
      record {
        branched = OneBranch (f b) (map f bs) (keeps.is_cancel ∙ is) its_new rest.branched;
        matched = met b (f b) bs (map f bs) (same_by b (f b) (sym keeps.number) (sym keeps.is_cancel))
            (alone (owner_of (f b)) b.number bs (its_number (f b) ∙ keeps.number) new)
            (alone (owner_of (f b)) (f b).number (map f bs) (its_number (f b)) its_new) rest.matched;
      }

  both_stay : (b c : Branch) (bs : List Branch) → Keeps f b → Keeps f c → AllByRecursion (Keeps f) bs → b.is_cancel ≡ false → c.is_cancel ≡ true → c.number ≡ b.number
      → may_be_cancelled b.phase ≡ false → IsNewNumber b.number bs → AreKept bs (map f bs)
      → AreKept (b ∷ c ∷ bs) (f b ∷ f c ∷ map f bs)
  both_stay b c bs keeps c_keeps others is c_is numbers is_past new rest =
      let number_is : (f c).number ≡ (f b).number = c_keeps.number ∙ (numbers ∙ sym keeps.number) in
      let its_kind : (f b).is_cancel ≡ false = keeps.is_cancel ∙ is in
      let c_kind : (f c).is_cancel ≡ true = c_keeps.is_cancel ∙ c_is in
      let its_new : IsNewNumber (f b).number (map f bs) = new_mapped f b.number (f b).number bs keeps.number others new in
      let not_c : owner_of c ≢ owner_of (f b) = λ e. kinds_differ c.number (f b).number (sym (owner_is c true c_is) ∙ (e ∙ owner_is (f b) false its_kind)) in
      let not_fc : owner_of (f c) ≢ owner_of (f b) = λ e. kinds_differ (f c).number (f b).number (sym (owner_is (f c) true c_kind) ∙ (e ∙ owner_is (f b) false its_kind))
      in
      record {
        branched = WithCancel (f b) (f c) (map f bs) its_kind c_kind number_is (keeps.phase is_past) its_new rest.branched;
        matched = met b (f b) (c ∷ bs) (f c ∷ map f bs) (same_by b (f b) (sym keeps.number) (sym keeps.is_cancel))
            (not_c, alone (owner_of (f b)) b.number bs (its_number (f b) ∙ keeps.number) new)
            (not_fc, alone (owner_of (f b)) (f b).number (map f bs) (its_number (f b)) its_new)
            (met c (f c) bs (map f bs) (same_by c (f c) (sym c_keeps.number) (sym c_keeps.is_cancel))
            (alone (owner_of (f c)) b.number bs (its_number (f c) ∙ (c_keeps.number ∙ numbers)) new)
            (alone (owner_of (f c)) (f b).number (map f bs) (its_number (f c) ∙ number_is) its_new)
            rest.matched);
      }

  pub mapped : (bs : List Branch) → AllByRecursion (Keeps f) bs → AreBranched bs → AreKept bs (map f bs)
  mapped bs keeps NoBranch = record { branched = NoBranch; matched = tt }
  mapped bs keeps (OneBranch b rest is new branched) = one_stays b rest keeps.0 keeps.1 is new (mapped rest keeps.1 branched)
  mapped bs keeps (WithCancel b c rest is c_is numbers is_past new branched) =
      both_stay b c rest keeps.0 keeps.1.0 keeps.1.1 is c_is numbers is_past new (mapped rest keeps.1.1 branched)

-- all branches join where there were none
pub all_join : (bs : List Branch) → AreBranched bs → AreMatched [] bs
all_join bs NoBranch = tt
all_join bs (OneBranch b rest is new branched) = joins [] rest b tt (alone (owner_of b) b.number rest (its_number b) new) (all_join rest branched)
all_join bs (WithCancel b c rest is c_is numbers is_past new branched) =
    let differ : owner_of c ≢ owner_of b = λ e. kinds_differ c.number b.number (sym (owner_is c true c_is) ∙ (e ∙ owner_is b false is)) in
    joins [] (c ∷ rest) b tt (differ, alone (owner_of b) b.number rest (its_number b) new)
    (joins [] rest c tt (alone (owner_of c) b.number rest (its_number c ∙ numbers) new) (all_join rest branched))

-- ---- branches that are one are as far

abbrev pub IsAsFarAs : Branch → Branch → Type 0
IsAsFarAs y x = is_same_branch x y ≡ true → may_be_cancelled x.phase ≡ may_be_cancelled y.phase

far_by : (y x : Branch) → is_same_branch x y ≡ false → IsAsFarAs y x
far_by y x e same = absurd (cc)

each : {P Q : Branch → Type 0} (bs : List Branch) → ((b : Branch) → P b → Q b) → AllByRecursion P bs → AllByRecursion Q bs
each [] f all = tt
each (b ∷ bs) f all = (f b all.0, each bs f all.1)

-- of another number than each of some
none_as_far : (y : Branch) (bs : List Branch) → IsNewNumber y.number bs → AllByRecursion (IsAsFarAs y) bs
none_as_far y bs new = each bs (λ x differ. far_by y x (other_number x y differ)) new

as_far_back : (y : Branch) (bs : List Branch) → IsNewNumber y.number bs → AllByRecursion (λ (x : Branch). IsAsFarAs x y) bs
as_far_back y bs new = each bs (λ x differ. far_by x y (other_number y x (λ e. differ (sym e)))) new

both : {P Q R : Branch → Type 0} (bs : List Branch) → ((b : Branch) → P b → Q b → R b) → AllByRecursion P bs → AllByRecursion Q bs → AllByRecursion R bs
both [] f a b = tt
both (x ∷ bs) f a b = (f x a.0 b.0, both bs f a.1 b.1)

pub all_as_far : (bs : List Branch) → AreBranched bs → AllByRecursion (λ (y : Branch). AllByRecursion (IsAsFarAs y) bs) bs
all_as_far bs NoBranch = tt
all_as_far bs (OneBranch b rest is new branched) =
    (((λ same. refl), none_as_far b rest new), both rest (λ y back others. (back, others)) (as_far_back b rest new) (all_as_far rest branched))
all_as_far bs (WithCancel b c rest is c_is numbers is_past new branched) =
    let c_new : IsNewNumber c.number rest = subst (λ (n : ℕ). IsNewNumber n rest) (sym numbers) new in
    let of_b : AllByRecursion (IsAsFarAs b) (b ∷ c ∷ rest) = ((λ same. refl), (far_by b c (other_kind c b true c_is is), none_as_far b rest new)) in
    let of_c : AllByRecursion (IsAsFarAs c) (b ∷ c ∷ rest) = (far_by c b (other_kind b c false is c_is), ((λ same. refl), none_as_far c rest c_new)) in
    let backs : AllByRecursion (λ (y : Branch). IsAsFarAs y b × IsAsFarAs y c) rest = both rest (λ y x z. (x, z)) (as_far_back b rest new) (as_far_back c rest c_new) in
    (of_b, (of_c, both {P = λ (y : Branch). IsAsFarAs y b × IsAsFarAs y c} rest (λ y back others. (back.0, (back.1, others))) backs (all_as_far rest branched)))
