-- Once more.
use Rattle.std.proofs.Common.{◌≡◌, ℕ, suc, ◌+◌, List, ◌++◌, ap, arith}
use Rattle.sipd_ladder.specs.declared.drawing.Arrow.{Arrow}
use Rattle.sipd_ladder.specs.Drawing.{cell, cells_to, times}

pub once_more : (n : ℕ) (text : List ℕ) → times (n + 1) text ≡ times n text ++ text
once_more n text = let on : n + 1 ≡ suc n = omega arith in ap (λ m. times m text) on

pub one_gap_more : (arrow : Arrow) (word : List ℕ) (n : ℕ) → cells_to arrow word (n + 1) ≡ cells_to arrow word n ++ cell arrow word n
one_gap_more arrow word n = let on : n + 1 ≡ suc n = omega arith in ap (λ m. cells_to arrow word m) on
