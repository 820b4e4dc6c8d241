-- A response that isn't wrong is the answer.
use Rattle.std.proofs.Common.{◌≡◌, ℕ, Bool, true, false, cond, List, Option, Some, None, ◌↔◌, refl}
use Rattle.std.specs.Str.{bytes_eq}
use Rattle.std.proofs.lemmas.Slice.Eq.{bytes_eq-Decides}
use Rattle.sip_digest.specs.declared.nonces.Nonce.{Nonce}
use Rattle.sip_digest.specs.declared.nonces.Worth.TheVariants.{Right, Stale, Wrong}
use Rattle.sip_digest.specs.Nonces.{standing}

-- a nonce makes no answer wrong
standing_counts : (row : Option Nonce) (count : Option ℕ) → standing row count ≡ Wrong → ⊥
standing_counts None count wrong = absurd cc
standing_counts (Some row) None wrong = absurd cc
standing_counts (Some row) (Some count) wrong = by_test _ wrong where
  by_test : (b : Bool) → cond b Right Stale ≡ Wrong → ⊥
  by_test true wrong = absurd cc
  by_test false wrong = absurd cc

pub right_text : (response text : List ℕ) (row : Option Nonce) (count : Option ℕ) → (cond (bytes_eq response text) (standing row count) Wrong ≡ Wrong → ⊥) ↔
    (response ≡ text)
right_text response text row count = (λ counts. one _ refl counts, λ same. λ wrong. other _ ((bytes_eq-Decides response text).1 same) wrong) where
  one : (b : Bool) → bytes_eq response text ≡ b → (cond b (standing row count) Wrong ≡ Wrong → ⊥) → response ≡ text
  one true is counts = (bytes_eq-Decides response text).0 is
  one false is counts = absurd (counts refl)

  other : (b : Bool) → b ≡ true → cond b (standing row count) Wrong ≡ Wrong → ⊥
  other true is wrong = standing_counts row count wrong
  other false is wrong = absurd cc
