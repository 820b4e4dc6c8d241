-- Where nothing of a part is due at a moment, none of its timers is.
use Rattle.std.proofs.Common.{◌≡◌, ℕ, ◌<◌, ◌≤◌, Bool, true, false, cond, List, [], ◌∷◌, Option, Some, refl, arith}
use Rattle.std.specs.Prelude.{◌&&◌, count_by}
use Rattle.std.specs.List.{AllByRecursion}
use Rattle.sip_timers.specs.declared.letter.Letter.{Letter}
use Rattle.sip_fork.proofs.Lists.{none_passes}
use Rattle.sip_request.specs.transactions_model.Ties.{IsFor, GoesAgain, Ends, Behind}
use Rattle.sip_timers.proofs.Counting.{count_le, count-cons}

-- a test fails at each moment of a part's timers
one_fails : (q : ℕ → Bool) (again deadline : Option ℕ) (t : Letter × ℕ) → IsFor again deadline t → ((m : ℕ) → again ≡ Some m → q m ≡ false)
    → ((m : ℕ) → deadline ≡ Some m → q m ≡ false)
    → ((m until : ℕ) → deadline ≡ Some until → until < m → q m ≡ false) → q t.1 ≡ false
one_fails q again deadline _ (GoesAgain letter due e) a d behind = a due e
one_fails q again deadline _ (Ends letter due e) a d behind = d due e
one_fails q again deadline _ (Behind letter due until e lt) a d behind = behind due until e lt

pub none_of_part : (q : ℕ → Bool) (again deadline : Option ℕ) (ts : List (Letter × ℕ)) → AllByRecursion (IsFor again deadline) ts
    → ((m : ℕ) → again ≡ Some m → q m ≡ false) → ((m : ℕ) → deadline ≡ Some m → q m ≡ false)
    → ((m until : ℕ) → deadline ≡ Some until → until < m → q m ≡ false) → count_by (λ (t : Letter × ℕ). q t.1) ts ≡ 0
none_of_part q again deadline ts reasons a d behind = none_passes (IsFor again deadline) (λ (t : Letter × ℕ). q t.1) (λ t is. one_fails q again deadline t is a d behind)
    ts reasons

-- of two tests that both must pass, one fails
pub fewer : (q : ℕ → Bool) (x : Bool) (ts : List (Letter × ℕ)) → count_by (λ (t : Letter × ℕ). q t.1 && x) ts ≤ count_by (λ (t : Letter × ℕ). q t.1) ts
fewer q x ts = count_le (λ (t : Letter × ℕ). q t.1 && x) (λ (t : Letter × ℕ). q t.1) ts (λ t both. left (q t.1) both) where
  left : (b : Bool) → (b && x) ≡ true → b ≡ true
  left true e = refl
  left false e = absurd (cc)

pub others : (q : ℕ → Bool) (ts : List (Letter × ℕ)) → count_by (λ (t : Letter × ℕ). q t.1 && false) ts ≡ 0
others q [] = refl
others q (t ∷ ts) = omega (arith, others q ts, count-cons (λ (u : Letter × ℕ). q u.1 && false) t ts, fails (q t.1)) where
  fails : (b : Bool) → cond {A = ℕ} (b && false) 1 0 ≡ 0
  fails true = refl
  fails false = refl
