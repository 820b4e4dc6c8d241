-- A front in two parts.
use Rattle.std.proofs.Common.{◌≡◌, ℕ, true, false, List, [], ◌∷◌, ◌++◌, length, take, drop, Some, None, refl, ap, ◌∙◌}
use Rattle.std.specs.Prelude.{◌==◌, ◌&&◌, if◌then◌else◌}
use Rattle.std.specs.Option.{option_and_then}
use Rattle.std.specs.Str.{bytes_eq}
use Rattle.sip_edit.specs.BranchId.{behind}

-- a front of two parts is found where the second stands behind the first
behind_both : (a b text : List ℕ) → behind (a ++ b) text ≡ option_and_then (behind b) (behind a text)
behind_both [] b text = refl
behind_both (x ∷ a) b [] = refl
behind_both (x ∷ a) b (y ∷ text) = elim (y == x) as (λ t. (if t && bytes_eq (take (length (a ++ b)) text) (a ++ b) then Some (drop (length (a ++ b)) text) else None)
    ≡ option_and_then (behind b) (if t && bytes_eq (take (length a) text) a then Some (drop (length a) text) else None)) [ true ↦ behind_both a b text | false ↦ refl ]

-- a front of three parts is found part by part
pub behind_parts : (a b c text : List ℕ) → behind (a ++ b ++ c) text ≡ option_and_then (behind c) (option_and_then (behind b) (behind a text))
behind_parts a b c text = behind_both (a ++ b) c text ∙ ap (option_and_then (behind c)) (behind_both a b text)
