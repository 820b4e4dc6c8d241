-- What a reading gives, and the first thing that it is refused for.
use Rattle.std.specs.Prelude.{◌≡◌, Result, Ok, Err}
use Rattle.sipd_expect.specs.declared.error.LineError.{LineError}
use Rattle.sipd_expect.specs.declared.error.LineError.TheVariants.{NoMemory}

-- a call answered what is wanted, or memory ran out
abbrev pub Reads : {X : Type 0} → Result X LineError → Result X LineError → Type 0
Reads (Ok value) wanted = wanted ≡ Ok value
Reads (Err NoMemory) wanted = Unit {0}
Reads (Err refusal) wanted = wanted ≡ Err refusal

infixl 10 ◌>>=◌
-- the value, and then what comes of it; or the refusal
abbrev pub ◌>>=◌ : {A B : Type 0} → Result A LineError → (A → Result B LineError) → Result B LineError
Ok value >>= next = next value
Err refusal >>= next = Err refusal
