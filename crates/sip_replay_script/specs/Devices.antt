-- What a reader and a writer may tell of their calls.
use Rattle.std.specs.Prelude.{◌≡◌, ◌≢◌, ◌+◌, ◌<◌, ◌≤◌, ◌^◌, ◌-◌, ◌⊎◌, ℕ, List, ◌++◌, length, Option, option_map, IfSome, IfOk, Result}
use Rattle.std.specs.declared.io.ErrorKind.{ErrorKind}
use Rattle.std.specs.declared.io.ErrorKind.TheVariants.{Interrupted}
use Rattle.std.specs.Io.KnownBytes.{Appends}

-- so many calls later, where they are counted
abbrev pub later : ℕ → Option ℕ → Option ℕ
later n calls = option_map (λ m. m + n) calls

-- a reader was asked at most that often
pub record IsAsked (most : ℕ) (old new : Option ℕ) : Type 0 where
  pub times : ℕ
  pub within : times ≤ most
  pub counted : new ≡ later times old

-- an interrupted call is tried again; any other error is a fault
abbrev pub IsFault : ErrorKind → Type 0
IsFault kind = kind ≢ Interrupted

-- a writer took nothing of a text that isn't empty
abbrev pub TookNothing : {E : Type 0} → Result ℕ E → List ℕ → Type 0
TookNothing result text = IfOk result (λ n. n ≡ 0) × (0 < length text)

-- a writer failed, or was called 2^64 - 1 times or more
abbrev pub GaveUp : Type 0 → Option ℕ → Type 0
GaveUp has_failed called = has_failed ⊎ IfSome called (λ n. 2 ^ 64 - 1 ≤ n)

-- what was written is what was there and a front of the text
pub record WritesFront (old new : Option (List ℕ)) (text : List ℕ) : Type 0 where
  pub done : List ℕ
  pub rest : List ℕ
  pub cut : text ≡ done ++ rest
  pub written : Appends old new done
