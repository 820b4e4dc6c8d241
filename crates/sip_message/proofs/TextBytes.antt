-- A byte that may stand in a value of HTTP is one that may stand in a value here.
use Rattle.std.proofs.Common.{◌≡◌, ◌⊎◌, inl, inr, ℕ, ◌<◌, ◌≤◌, Bool, true, ◌&&◌, List, [], ◌∷◌, refl, sym, ap₂, ◌∙◌, arith}
use Rattle.std.proofs.lemmas.Bool.{agree_below_at}
use Rattle.std.proofs.lemmas.Bool.Decides.{nat_tests}
use Rattle.std.specs.List.{list_all}
use Rattle.httparse.specs.Grammar.{is_value_byte}
use Rattle.sip_text_runs.specs.TextRun.{is_text}

high_value : (b : ℕ) → 128 ≤ b → is_value_byte b ≡ true
high_value b le = grind (arith, nat_tests)

high_text : (b : ℕ) → 128 ≤ b → is_text b ≡ true
high_text b le = grind (arith, nat_tests)

by_order : (b : ℕ) → (b < 128) ⊎ (128 ≤ b) → is_value_byte b ≡ is_text b
by_order b (inl low) = agree_below_at is_value_byte is_text 128 b refl low
by_order b (inr high) = high_value b high ∙ sym (high_text b high)

order : (b : ℕ) → (b < 128) ⊎ (128 ≤ b)
order b = grind arith

pub same_values : (bytes : List ℕ) → list_all is_value_byte bytes ≡ list_all is_text bytes
same_values [] = refl
same_values (b ∷ bytes) = ap₂ (λ (x y : Bool). x && y) (by_order b (order b)) (same_values bytes)
