-- By which words a row is coloured.
use Rattle.std.specs.Prelude.{ℕ, Bool, ◌||◌, nat_eq, if◌then◌else◌, List, codes}
use Rattle.std.specs.List.{ends_with, starts_with}

abbrev pub begins : List ℕ → List ℕ → Bool
begins text front = starts_with nat_eq text front

-- A message by its word: a request by its method, a response by its status (RFC 3261 7.2). A method may begin with a digit (25.1), and is coloured
-- as a response then: no phone makes one.
abbrev pub kind_of : List ℕ → List ℕ
kind_of word =
    if begins word (codes "401 ") || begins word (codes "407 ") then codes "asked"
    else (if begins word (codes "1") then codes "trying"
    else (if begins word (codes "2") then codes "done"
    else (if begins word (codes "3") || begins word (codes "4") then codes "refused"
    else (if begins word (codes "5") || begins word (codes "6") then codes "refused" else codes "request"))))

-- what was decided: a challenge, a denial, or what else a rule did; or what happened
abbrev pub note_kind : List ℕ → List ℕ
note_kind text =
    if begins text (codes "challenge ") then codes "note asked"
    else (if ends_with nat_eq text (codes ": deny") then codes "note refused"
    else (if begins text (codes "rule ") then codes "note done" else codes "note"))
