-- Rows whose numbers rise.
use Rattle.std.specs.Prelude.{◌≤◌, ◌<◌, ℕ, List, length}
use Rattle.std.specs.List.{AllPairs}

-- Numbers rise from row to row, and there is room for 1,024 of them.
pub record IsNumbered {R : Type 0} (number : R → ℕ) (rows : List R) (capacity : ℕ) : Type 0 where
  pub rise : AllPairs (λ a b. number a < number b) rows
  pub few : length rows ≤ 1024
  pub room : 1024 ≤ capacity
