-- Timers that are set one behind the other, and filtered.
use Rattle.std.proofs.Common.{◌≡◌, ℕ, ◌≤◌, ◌<◌, List, [], ◌∷◌, ◌++◌, eqb, ltb, cond, Bool, true, false, refl, ap, sym, ◌∙◌, subst, arith}
use Rattle.std.specs.Prelude.{not, ◌&&◌, filter}
use Rattle.std.specs.List.{AllByRecursion}
use Rattle.std.proofs.lemmas.Bool.Decides.{nat_tests}
use Rattle.sip_timers.specs.declared.timer.Timer.{Timer}
use Rattle.sip_timers.specs.Timers.{placed, without, due_before, AreOrdered}
use Rattle.sip_timers.specs.Setting.{all_placed, AreSome, NoMore, Takes, LeavesOut, IsNew, SetsInOrder}
use Rattle.sip_timers.proofs.Counting.{count-cons, count-filter, count_le}
use Rattle.sip_timers.proofs.Placing.{AreOrdered-placed}

-- ---- filters

filter-true : (ts : List Timer) → filter (λ (t : Timer). true) ts ≡ ts
filter-true [] = refl
filter-true (t ∷ ts) = ap (λ us. t ∷ us) (filter-true ts)

filter-twice : (p q : Timer → Bool) (ts : List Timer) → filter p (filter q ts) ≡ filter (λ t. q t && p t) ts
filter-twice p q [] = refl
filter-twice p q (t ∷ ts) = by_test (q t) (filter-twice p q ts) where
  by_test : (b : Bool) → filter p (filter q ts) ≡ filter (λ u. q u && p u) ts
      → filter p (cond b (t ∷ filter q ts) (filter q ts)) ≡ cond (b && p t) (t ∷ filter (λ u. q u && p u) ts) (filter (λ u. q u && p u) ts)
  by_test true rest = ap (λ us. cond (p t) (t ∷ us) us) rest
  by_test false rest = rest

AreOrdered-filter : (q : Timer → Bool) (ts : List Timer) → AreOrdered ts → AreOrdered (filter q ts)
AreOrdered-filter q [] h = tt
AreOrdered-filter q (t ∷ ts) h = by_test (q t) (AreOrdered-filter q ts h.1) where
  fewer : due_before t.due (filter q ts) ≤ due_before t.due ts
  fewer = rw (count-filter (λ x. ltb x.due t.due) q ts) (count_le (λ x. q x && ltb x.due t.due) (λ x. ltb x.due t.due) ts (λ x k. grind (arith, nat_tests)))

  by_test : (b : Bool) → AreOrdered (filter q ts) → AreOrdered (cond b (t ∷ filter q ts) (filter q ts))
  by_test true rest = (omega (arith, fewer, h.0), rest)
  by_test false rest = rest

-- where none is due before a later moment, a timer goes in front
placed_in_front : (q : Timer → Bool) (t : Timer) (moment : ℕ) (ts : List Timer) → due_before moment ts ≡ 0 → t.due < moment → placed t (filter q ts) ≡ t ∷ filter q ts
placed_in_front q t moment [] none early = refl
placed_in_front q t moment (u ∷ us) none early = by_test (q u) (placed_in_front q t moment us (omega (arith, none, count-cons (λ x. ltb x.due moment) u us)) early) where
  later : ltb t.due u.due ≡ true
  later = grind (arith, nat_tests, none, early, count-cons (λ x. ltb x.due moment) u us)

  by_test : (b : Bool) → placed t (filter q us) ≡ t ∷ filter q us → placed t (cond b (u ∷ filter q us) (filter q us)) ≡ t ∷ cond b (u ∷ filter q us) (filter q us)
  by_test true rest = ap (λ b. cond b (t ∷ u ∷ filter q us) (u ∷ placed t (filter q us))) later
  by_test false rest = rest

-- a timer goes behind one that is due no later, whichever are left
goes_past : (t u : Timer) (a b : Bool) (rest whole : List Timer) → ltb t.due u.due ≡ false → whole ≡ cond b (placed t rest) rest
    → cond a (u ∷ whole) whole ≡ cond b (placed t (cond a (u ∷ rest) rest)) (cond a (u ∷ rest) rest)
goes_past t u true true rest whole late is = ap (λ us. u ∷ us) is ∙ sym (ap (λ b. cond b (t ∷ u ∷ rest) (u ∷ placed t rest)) late)
goes_past t u true false rest whole late is = ap (λ us. u ∷ us) is
goes_past t u false b rest whole late is = is

-- what is left of timers among which one was set
filter-placed : (q : Timer → Bool) (t : Timer) (ts : List Timer) → AreOrdered ts → filter q (placed t ts) ≡ cond (q t) (placed t (filter q ts)) (filter q ts)
filter-placed q t [] h = refl
filter-placed q t (u ∷ us) h = by_due (ltb t.due u.due) refl (filter-placed q t us h.1) where
  by_due : (b : Bool) → ltb t.due u.due ≡ b → filter q (placed t us) ≡ cond (q t) (placed t (filter q us)) (filter q us)
      → filter q (cond b (t ∷ u ∷ us) (u ∷ placed t us)) ≡ cond (q t) (placed t (filter q (u ∷ us))) (filter q (u ∷ us))
  by_due true early rest =
      let none : due_before u.due (u ∷ us) ≡ 0 = grind (arith, nat_tests, count-cons (λ x. ltb x.due u.due) u us, h.0) in
      ap (λ ts. cond (q t) ts (filter q (u ∷ us))) (sym (placed_in_front q t u.due (u ∷ us) none (grind (arith, nat_tests, early))))
  by_due false late rest = goes_past t u (q u) (q t) (filter q us) (filter q (placed t us)) late rest

-- ---- several timers

pub AreOrdered-all_placed : (standing ts : List Timer) → AreOrdered standing → AreOrdered (all_placed standing ts)
AreOrdered-all_placed standing [] h = h
AreOrdered-all_placed standing (t ∷ ts) h = AreOrdered-all_placed (placed t standing) ts (AreOrdered-placed t standing h)

all_placed-append : (standing ts us : List Timer) → all_placed standing (ts ++ us) ≡ all_placed (all_placed standing ts) us
all_placed-append standing [] us = refl
all_placed-append standing (t ∷ ts) us = all_placed-append (placed t standing) ts us

filter-all_placed : (q : Timer → Bool) (standing ts : List Timer) → AreOrdered standing → filter q (all_placed standing ts) ≡ all_placed (filter q standing) (filter q ts)
filter-all_placed q standing [] h = refl
filter-all_placed q standing (t ∷ ts) h =
    filter-all_placed q (placed t standing) ts (AreOrdered-placed t standing h)
    ∙ ap (λ us. all_placed us (filter q ts)) (filter-placed q t standing h)
    ∙ by_test (q t) where
      by_test : (b : Bool) → all_placed (cond b (placed t (filter q standing)) (filter q standing)) (filter q ts)
          ≡ all_placed (filter q standing) (cond b (t ∷ filter q ts) (filter q ts))
      by_test true = refl
      by_test false = refl

-- ---- some of them

pub AreSome-none : (us : List Timer) → AreSome [] us
AreSome-none [] = NoMore
AreSome-none (u ∷ us) = LeavesOut u [] us (AreSome-none us)

pub AreSome-all : (us : List Timer) → AreSome us us
AreSome-all [] = NoMore
AreSome-all (u ∷ us) = Takes u us us (AreSome-all us)

AreSome-append : (ts us vs ws : List Timer) → AreSome ts us → AreSome vs ws → AreSome (ts ++ vs) (us ++ ws)
AreSome-append ts us vs ws NoMore some = some
AreSome-append ts us vs ws (Takes t ts' us' rest) some = Takes t (ts' ++ vs) (us' ++ ws) (AreSome-append ts' us' vs ws rest some)
AreSome-append ts us vs ws (LeavesOut t ts' us' rest) some = LeavesOut t (ts' ++ vs) (us' ++ ws) (AreSome-append ts' us' vs ws rest some)

AreSome-filter : (q : Timer → Bool) (ts us : List Timer) → AreSome ts us → AreSome (filter q ts) us
AreSome-filter q ts us NoMore = NoMore
AreSome-filter q ts us (Takes t ts' us' rest) = by_test (q t) (AreSome-filter q ts' us' rest) where
  by_test : (b : Bool) → AreSome (filter q ts') us' → AreSome (cond b (t ∷ filter q ts') (filter q ts')) (t ∷ us')
  by_test true some = Takes t (filter q ts') us' some
  by_test false some = LeavesOut t (filter q ts') us' some
AreSome-filter q ts us (LeavesOut t ts' us' rest) = LeavesOut t (filter q ts') us' (AreSome-filter q ts' us' rest)

pub all-append : (P : Timer → Type 0) (ts us : List Timer) → AllByRecursion P ts → AllByRecursion P us → AllByRecursion P (ts ++ us)
all-append P [] us a b = b
all-append P (t ∷ ts) us a b = (a.0, all-append P ts us a.1 b)

all-filter : (P : Timer → Type 0) (q : Timer → Bool) (ts : List Timer) → AllByRecursion P ts → AllByRecursion P (filter q ts)
all-filter P q [] a = tt
all-filter P q (t ∷ ts) a = by_test (q t) (all-filter P q ts a.1) where
  by_test : (b : Bool) → AllByRecursion P (filter q ts) → AllByRecursion P (cond b (t ∷ filter q ts) (filter q ts))
  by_test true rest = (a.0, rest)
  by_test false rest = rest

-- what holds of some of them, if it holds of each
all-some : (P Q : Timer → Type 0) (ts us : List Timer) → AreSome ts us → AllByRecursion (λ t. P t → Q t) us → AllByRecursion P ts → AllByRecursion Q ts
all-some P Q ts us NoMore each all = tt
all-some P Q ts us (Takes t ts' us' rest) each all = (each.0 all.0, all-some P Q ts' us' rest each.1 all.1)
all-some P Q ts us (LeavesOut t ts' us' rest) each all = all-some P Q ts' us' rest each.1 all

-- ---- timers that are set in order

-- none is set
pub SetsInOrder-none : (ts before named : List Timer) → SetsInOrder ts before ts named
SetsInOrder-none ts before named =
    record { stays = λ t. true; set = []; are_named = AreSome-none named; are_new = tt; order = λ ordered. sym (filter-true ts) }

-- one is stopped
pub SetsInOrder-stopped : (ts before : List Timer) (key : ℕ) (named : List Timer) → SetsInOrder ts before (without key ts) named
SetsInOrder-stopped ts before key named =
    record { stays = λ t. not (eqb t.key key); set = []; are_named = AreSome-none named; are_new = tt; order = λ ordered. refl }

-- one is set that is none of those before
pub SetsInOrder-started : (ts before : List Timer) (t : Timer) → IsNew before t → SetsInOrder ts before (placed t ts) (t ∷ [])
SetsInOrder-started ts before t is_new =
    record { stays = λ u. true; set = t ∷ []; are_named = AreSome-all (t ∷ []); are_new = (is_new, tt); order = λ ordered. ap (λ us. placed t us) (sym (filter-true ts)) }

-- some are set, and then others
pub SetsInOrder-both : (ts us vs before after further : List Timer) → SetsInOrder ts before us after → SetsInOrder us before vs further
    → SetsInOrder ts before vs (after ++ further)
SetsInOrder-both ts us vs before after further a b = record {
  stays = λ t. a.stays t && b.stays t;
  set = filter b.stays a.set ++ b.set;
  are_named = AreSome-append (filter b.stays a.set) after b.set further (AreSome-filter b.stays a.set after a.are_named) b.are_named;
  are_new = all-append (IsNew before) (filter b.stays a.set) b.set (all-filter (IsNew before) b.stays a.set a.are_new) b.are_new;
  order = λ ordered.
      let stood : List Timer = filter a.stays ts in
      let left : AreOrdered stood = AreOrdered-filter a.stays ts ordered in
      let middle : AreOrdered us = subst (λ (xs : List Timer). AreOrdered xs) (sym (a.order ordered)) (AreOrdered-all_placed stood a.set left) in
      b.order middle
      ∙ ap (λ (xs : List Timer). all_placed xs b.set)
      (ap (λ (xs : List Timer). filter b.stays xs) (a.order ordered)
      ∙ filter-all_placed b.stays stood a.set left
      ∙ ap (λ (xs : List Timer). all_placed xs (filter b.stays a.set)) (filter-twice b.stays a.stays ts))
      ∙ sym (all_placed-append (filter (λ t. a.stays t && b.stays t) ts) (filter b.stays a.set) b.set);
}

-- beside others before
pub SetsInOrder-further : (ts before others us after : List Timer) → SetsInOrder ts before us after → AllByRecursion (λ t. IsNew before t → IsNew others t) after
    → SetsInOrder ts others us after
SetsInOrder-further ts before others us after a each = record {
  stays = a.stays;
  set = a.set;
  are_named = a.are_named;
  are_new = all-some (IsNew before) (IsNew others) a.set after a.are_named each a.are_new;
  order = a.order;
}

-- none was named
pub SetsInOrder-beside : (ts before others us : List Timer) → SetsInOrder ts before us [] → SetsInOrder ts others us []
SetsInOrder-beside ts before others us a = SetsInOrder-further ts before others us [] a tt

-- in the order in which they fire
pub SetsInOrder-ordered : (ts us before named : List Timer) → SetsInOrder ts before us named → AreOrdered ts → AreOrdered us
SetsInOrder-ordered ts us before named a ordered =
    subst (λ (xs : List Timer). AreOrdered xs) (sym (a.order ordered)) (AreOrdered-all_placed (filter a.stays ts) a.set (AreOrdered-filter a.stays ts ordered))
