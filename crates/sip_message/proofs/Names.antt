-- The name at the front of a line.
use Rattle.std.proofs.Common.{◌≡◌, ℕ, ◌+◌, ◌<◌, true, false, List, ◌∷◌, ◌++◌, length, take, drop, get_or, sym, ap, ◌∙◌, arith}
use Rattle.std.specs.Prelude.{◌==◌}
use Rattle.std.specs.List.{list_all}
use Rattle.std.proofs.lemmas.List.{length-take, take-append-drop, drop_more}
use Rattle.sip_text.specs.Words.{is_token_byte, is_token_text}
use Rattle.sip_message.specs.Named.{IsNamed}
use Rattle.sip_message.proofs.Halves.{token_all}

-- a token at the front, and a `:` at once behind it
pub named : (line name value : List ℕ) (at : ℕ) → 0 < at → at < length line → list_all is_token_byte (take at line) ≡ true → get_or line at 0 ≡ 58 → name ≡ take at line
    → value ≡ drop (at + 1) line → IsNamed line name value
named line name value at some fits all mark first second = record {
  whole = sym (take-append-drop at line) ∙ ap (λ (w : List ℕ). take at line ++ w) (drop_more line at 0 fits ∙ ap (λ (b : ℕ). b ∷ drop (at + 1) line) mark
      ∙ ap (λ (w : List ℕ). 58 ∷ w) (sym second))
      ∙ ap (λ (w : List ℕ). w ++ 58 ∷ value) (sym first);
  is_token = ap is_token_text first ∙ token_all (take at line) (some_bytes (take at line) (omega (arith, length-take at line))) all;
}
  where
    some_bytes : (xs : List ℕ) → 0 < length xs → (length xs == 0) ≡ false
    some_bytes xs lt = grind (arith, lt)
