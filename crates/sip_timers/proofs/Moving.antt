-- How timers move.
use Rattle.std.proofs.Common.{◌≡◌, ℕ, ◌+◌, ◌≤◌, List, [], ◌∷◌, ◌++◌, cond, Bool, true, false, refl, subst, arith, eqb}
use Rattle.std.specs.Prelude.{count_by}
use Rattle.std.proofs.lemmas.Bool.Decides.{nat_tests}
use Rattle.std.proofs.lemmas.List.Sums.{sum_by-cons, sum_by-append}
use Rattle.sip_timers.specs.declared.timer.Timer.{Timer}
use Rattle.sip_timers.specs.Timers.{placed, without, keys_with, Stands}
use Rattle.sip_timers.specs.Moves.{IsHeld, IsTied, Moves}

pub count-one : (p : Timer → Bool) (t : Timer) → count_by p (t ∷ []) ≡ cond (p t) 1 0
count-one p t = let e : count_by p (t ∷ []) ≡ cond (p t) 1 0 + count_by p [] = sum_by-cons (λ (u : Timer). cond (p u) 1 0) t [] in omega arith

pub count-append : (p : Timer → Bool) (xs ys : List Timer) → count_by p (xs ++ ys) ≡ count_by p xs + count_by p ys
count-append p xs ys = sum_by-append (λ (u : Timer). cond (p u) 1 0) xs ys

pub stands : (ts : List Timer) (t : Timer) → IsHeld ts (t ∷ []) → Stands t ts
stands ts t h p passes = grind (arith, nat_tests, h.stand p, count-one p t, passes)

-- a timer that stands is stopped
pub Moves-stopped : (ts : List Timer) (t : Timer) → ((p : Timer → Bool) → count_by p ts ≡ count_by p (without t.key ts) + cond (p t) 1 0)
    → Moves ts (t ∷ []) (without t.key ts) []
Moves-stopped ts t taken = record {
  same = λ p. omega (arith, count-one p t, taken p);
  keys_differ = λ differ key. omega (arith, differ key, taken (λ u. eqb u.key key));
}

-- the one that holds a timer's key
fresh_key : (ts : List Timer) (t : Timer) (key : ℕ) (b : Bool) → eqb t.key key ≡ b → keys_with t.key ts ≡ 0 → keys_with key ts ≤ 1 → keys_with key ts + cond b 1 0 ≤ 1
fresh_key ts t key true same none one = let e : t.key ≡ key = grind (arith, nat_tests) in let zero : keys_with key ts ≡ 0 = subst (λ k. keys_with k ts ≡ 0) e none in
    omega arith
fresh_key ts t key false same none one = omega arith

-- a timer is set
pub Moves-started : (ts : List Timer) (t : Timer) → keys_with t.key ts ≡ 0 → ((p : Timer → Bool) → count_by p (placed t ts) ≡ count_by p ts + cond (p t) 1 0)
    → Moves ts [] (placed t ts) (t ∷ [])
Moves-started ts t none set = record {
  same = λ p. omega (arith, count-one p t, set p);
  keys_differ = λ differ key. let e = set (λ u. eqb u.key key) in let one = fresh_key ts t key (eqb t.key key) refl none (differ key) in omega arith;
}

-- ---- moves join

pub Moves-none : (ts : List Timer) → Moves ts [] ts []
Moves-none ts = record { same = λ p. refl; keys_differ = λ differ. differ }

pub Moves-both : (ts us vs before after further later : List Timer) → Moves ts before us after → Moves us further vs later
    → Moves ts (before ++ further) vs (after ++ later)
Moves-both ts us vs before after further later a b = record {
  same = λ p. omega (arith, a.same p, b.same p, count-append p before further, count-append p after later);
  keys_differ = λ differ. b.keys_differ (a.keys_differ differ);
}

pub Moves-passing : (ts us before after passing : List Timer) → Moves ts (before ++ passing) us (after ++ passing) → Moves ts before us after
Moves-passing ts us before after passing m = record {
  same = λ p. omega (arith, m.same p, count-append p before passing, count-append p after passing);
  keys_differ = m.keys_differ;
}

-- ---- the others

pub IsHeld-first : (ts mine others : List Timer) → IsHeld ts (mine ++ others) → IsHeld ts mine
IsHeld-first ts mine others h = record { stand = λ p. omega (arith, h.stand p, count-append p mine others); keys_differ = h.keys_differ }

pub IsHeld-rest : (ts us mine others after : List Timer) → IsHeld ts (mine ++ others) → Moves ts mine us after → IsHeld us (after ++ others)
IsHeld-rest ts us mine others after h m = record {
  stand = λ p. omega (arith, h.stand p, m.same p, count-append p mine others, count-append p after others);
  keys_differ = m.keys_differ h.keys_differ;
}

-- ---- exactly those

pub IsTied-held : (ts named : List Timer) → IsTied ts named → IsHeld ts named
IsTied-held ts named h = record { stand = λ p. omega (arith, h.same p); keys_differ = h.keys_differ }

pub IsTied-moved : (ts us mine others after : List Timer) → IsTied ts (mine ++ others) → Moves ts mine us after → IsTied us (after ++ others)
IsTied-moved ts us mine others after h m = record {
  same = λ p. omega (arith, h.same p, m.same p, count-append p mine others, count-append p after others);
  keys_differ = m.keys_differ h.keys_differ;
}
