-- A front of bytes that pass a test, as those do that may stand in a value.
use Rattle.std.proofs.Common.{◌≡◌, ℕ, ◌+◌, ◌<◌, ◌≤◌, Bool, true, false, List, [], ◌∷◌, length, take, refl, sym, subst, arith, inl, inr}
use Rattle.std.specs.Prelude.{◌&&◌}
use Rattle.std.specs.List.{list_all}
use Rattle.std.proofs.lemmas.Bool.{cases_lt}
use Rattle.std.proofs.lemmas.List.{get_or-take, length-take}
use Rattle.httparse.specs.Pieces.{AllPassBetween, PassesIn}
use Rattle.httparse.proofs.LaneLemmas.{all_pass}
use Rattle.sip_text_runs.specs.TextRun.{is_text, is_text_but_tab}

-- the bytes before a place pass a test
pub record PassesBefore (test : ℕ → Bool) (bytes : List ℕ) (end : ℕ) : Type 0 where
  pub within : end ≤ length bytes
  pub pass : AllPassBetween test bytes 0 end

pub run_more : (test : ℕ → Bool) (bytes : List ℕ) (end run next : ℕ) → PassesBefore test bytes end → PassesIn test bytes end 16 run → end + 16 ≤ length bytes
    → next ≡ end + run → PassesBefore test bytes next
run_more test bytes end run next so_far more fits is = record {
  within = omega (arith, is, more.0);
  pass = λ k from to. elim (cases_lt k end) [ inl early ↦ so_far.pass k from early | inr late ↦ more.1 k late (omega (arith, is)) ];
}

pub run_front : (test : ℕ → Bool) (bytes : List ℕ) (end : ℕ) → PassesBefore test bytes end → list_all test (take end bytes) ≡ true
run_front test bytes end is =
    all_pass test (take end bytes) (λ k from to.
    let below : k < end = omega (arith, length-take end bytes) in
    subst (λ (b : ℕ). test b ≡ true) (sym (get_or-take end bytes k 0 below)) (is.pass k from below))

-- ---- a test that passes more

left_of : (a b : Bool) → (a && b) ≡ true → a ≡ true
left_of true b e = refl
left_of false b e = absurd cc

both_of : (a b : Bool) → a ≡ true → b ≡ true → (a && b) ≡ true
both_of true b x y = y
both_of false b x y = absurd cc

right_of : (a b : Bool) → (a && b) ≡ true → b ≡ true
right_of true b e = e
right_of false b e = absurd cc

pub all_weaker : (test other : ℕ → Bool) → ((b : ℕ) → test b ≡ true → other b ≡ true) → (xs : List ℕ) → list_all test xs ≡ true → list_all other xs ≡ true
all_weaker test other weaker [] all = refl
all_weaker test other weaker (x ∷ xs) all =
    both_of (other x) (list_all other xs) (weaker x (left_of (test x) (list_all test xs) all))
    (all_weaker test other weaker xs (right_of (test x) (list_all test xs) all))

pub text_front : (bytes : List ℕ) (end : ℕ) → PassesBefore is_text_but_tab bytes end → list_all is_text (take end bytes) ≡ true
text_front bytes end is = all_weaker is_text_but_tab is_text (λ b e. left_of (is_text b) _ e) (take end bytes) (run_front is_text_but_tab bytes end is)
