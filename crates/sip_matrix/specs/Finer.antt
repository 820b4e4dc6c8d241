-- Finer tables: those of more rules, users and own domains.
use Rattle.std.specs.Prelude.{◌≡◌, Bool, true, List}
use Rattle.std.specs.List.{list_all, list_any}

-- some elements are among others: what all others pass they pass, and where one of them passes, one of the others does
pub record AreAmong {X : Type 0} (few many : List X) : Type 0 where
  pub every : (test : X → Bool) → list_all test many ≡ true → list_all test few ≡ true
  pub some : (test : X → Bool) → list_any test few ≡ true → list_any test many ≡ true
