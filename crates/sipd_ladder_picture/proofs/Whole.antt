-- The drawing of a call that has a row.
use Rattle.std.proofs.Common.{◌≡◌, ℕ, List, ◌∷◌, refl, sym, subst}
use Rattle.sipd_ladder.specs.declared.rung.AddrName.{AddrName}
use Rattle.sipd_ladder.specs.declared.rung.Rung.{Rung}
use Rattle.sipd_ladder_picture.specs.Picture.{drawing, drawing_from}

pub drawn : (call_id : List ℕ) (names : List AddrName) (first : Rung) (rungs rest : List Rung) → rungs ≡ first ∷ rest
    → drawing_from call_id names first rungs ≡ drawing call_id names rungs
drawn call_id names first rungs rest is =
    subst (λ (l : List Rung). drawing_from call_id names first l ≡ drawing call_id names l) (sym is) refl
