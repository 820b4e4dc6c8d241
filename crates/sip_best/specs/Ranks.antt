-- Which of two final answers goes up (RFC 3261 16.7 step 6).
use Rattle.std.specs.Prelude.{◌≡◌, ◌≢◌, ℕ, ◌/◌, ◌<◌, Bool, true, false, ◌&&◌, ◌||◌, ◌==◌, not, nat_lt, [], ◌∷◌, if◌then◌else◌}
use Rattle.std.specs.List.{list_any}
use Rattle.sip_best.specs.declared.final_answer.Final.{Final}

-- the first digit of a status (RFC 3261 7.2)
abbrev pub class_of : Final → ℕ
class_of f = f.status / 100

-- the statuses that tell a client how to ask again (RFC 3261 16.7 step 6)
abbrev pub says_how_to_retry : Final → Bool
says_how_to_retry f = list_any (λ status. f.status == status) (401 ∷ 407 ∷ 415 ∷ 420 ∷ 484 ∷ [])

-- One answer outranks another, whichever came first: a 6xx any other class, else a lower class a higher one, and in 4xx an answer
-- that says how to retry one that doesn't.
pub data Outranks (f g : Final) : Type 0 where
  GlobalFailure : class_of f ≡ 6 → class_of g ≢ 6 → Outranks f g
  LowerClass : class_of f ≢ 6 → class_of g ≢ 6 → class_of f < class_of g → Outranks f g
  SaysHowToRetry : class_of f ≡ 4 → class_of g ≡ 4 → says_how_to_retry f ≡ true → says_how_to_retry g ≡ false → Outranks f g

-- in 4xx, one that says how to retry and one that doesn't
abbrev pub says_more : Final → Final → Bool
says_more f g = class_of f == 4 && class_of g == 4 && says_how_to_retry f && not (says_how_to_retry g)

-- the same as a test
abbrev pub outranks : Final → Final → Bool
outranks f g =
    if class_of f == 6 then not (class_of g == 6)
    else if class_of g == 6 then false
    else nat_lt (class_of f) (class_of g) || says_more f g
