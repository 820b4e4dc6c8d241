-- A front of bytes that stand for themselves.
use Rattle.std.proofs.Common.{◌≡◌, ℕ, ◌+◌, ◌<◌, ◌≤◌, true, List, length, take, drop, sym, subst, ap, ◌∙◌, arith, inl, inr}
use Rattle.std.specs.List.{list_all}
use Rattle.std.proofs.lemmas.Bool.{cases_lt}
use Rattle.std.proofs.lemmas.List.{get_or-drop, get_or-take, length-take, take_all}
use Rattle.httparse.specs.Pieces.{AllPassBetween, PassesIn}
use Rattle.httparse.proofs.LaneLemmas.{all_pass}
use Rattle.sip_replay_script.specs.Escaped.{is_plain}

-- the bytes before a place do
pub record PlainBefore (bytes : List ℕ) (end : ℕ) : Type 0 where
  pub within : end ≤ length bytes
  pub pass : AllPassBetween is_plain bytes 0 end

pub run_more : (bytes : List ℕ) (end run next : ℕ) → PlainBefore bytes end → PassesIn is_plain bytes end 16 run → end + 16 ≤ length bytes → next ≡ end + run
    → PlainBefore bytes next
run_more bytes end run next so_far more fits is = record {
  within = omega (arith, is, more.0);
  pass = λ k from to. elim (cases_lt k end) [ inl early ↦ so_far.pass k from early | inr late ↦ more.1 k late (omega (arith, is)) ];
}

pub run_front : (bytes : List ℕ) (end : ℕ) → PlainBefore bytes end → list_all is_plain (take end bytes) ≡ true
run_front bytes end is =
    all_pass is_plain (take end bytes) (λ k from to.
    let below : k < end = omega (arith, length-take end bytes) in
    subst (λ (b : ℕ). is_plain b ≡ true) (sym (get_or-take end bytes k 0 below)) (is.pass k from below))

pub all_plain : (bytes : List ℕ) (run : ℕ) → length bytes ≤ run → list_all is_plain (take run bytes) ≡ true → list_all is_plain bytes ≡ true
all_plain bytes run le all = sym (ap (list_all is_plain) (take_all run bytes le)) ∙ all

-- the same of so many bytes from a place on
pub part_plain : (bytes : List ℕ) (from run : ℕ) → AllPassBetween is_plain bytes from (from + run) → list_all is_plain (take run (drop from bytes)) ≡ true
part_plain bytes from run pass =
    all_pass is_plain (take run (drop from bytes)) (λ k low high.
    let below : k < run = omega (arith, length-take run (drop from bytes)) in
    subst (λ (b : ℕ). is_plain b ≡ true) (sym (get_or-take run (drop from bytes) k 0 below ∙ get_or-drop from bytes k 0)) (pass (from + k) (omega arith)
    (omega (arith, below))))
