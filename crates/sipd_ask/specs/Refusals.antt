-- What an answer gives, and the first thing that it is refused for.
use Rattle.std.specs.Prelude.{◌≡◌, Bool, true, false, Result, Ok, Err}
use Rattle.sipd_ask.specs.declared.error.QuestionError.{QuestionError}
use Rattle.sipd_ask.specs.declared.error.QuestionError.TheVariants.{NoMemory}

-- a call answered what is wanted, or memory ran out
abbrev pub Reads : {X Y : Type 0} → (X → Y) → Result X QuestionError → Result Y QuestionError → Type 0
Reads view (Ok value) wanted = wanted ≡ Ok (view value)
Reads view (Err NoMemory) wanted = Unit {0}
Reads view (Err refusal) wanted = wanted ≡ Err refusal

infixl 10 ◌>>=◌
-- the value, and then what comes of it; or the refusal
abbrev pub ◌>>=◌ : {A B : Type 0} → Result A QuestionError → (A → Result B QuestionError) → Result B QuestionError
Ok value >>= next = next value
Err refusal >>= next = Err refusal

-- what has to hold, and how it is refused where it doesn't
abbrev pub confirmed : Bool → QuestionError → Result (Unit {0}) QuestionError
confirmed true refusal = Ok tt
confirmed false refusal = Err refusal
