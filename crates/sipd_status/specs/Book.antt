-- What is kept of a server for those who look on (this project's profile).
use Rattle.std.specs.Prelude.{ℕ, Bool, false, not, ◌&&◌, ◌+◌, ◌-◌, ◌^◌, min, nat_le, List, [], Option, Some, None}
use Rattle.sipd_status.specs.GivenName.{given_name}
use Rattle.sipd_status.specs.Tally.{more}
use Rattle.sipd_status.specs.Tries.{behind_right, behind_wrong}
use Rattle.sipd_status.specs.declared.book.StatusBook.{StatusBook}
use Rattle.sipd_status.specs.declared.tally.Proof.{Proof}
use Rattle.sipd_status.specs.declared.tally.Proof.TheVariants.{Given, Wanted, Unasked}

-- so many milliseconds behind a moment, at most the greatest that a u64 holds
abbrev pub behind_by : ℕ → ℕ → ℕ
behind_by span now = min (now + span) (2 ^ 64 - 1)

-- of a server of which nothing is known
abbrev pub new_book : StatusBook
new_book = record { wrong = 0; tries = []; due = 0; ends = 0; is_refused = false }

-- with a wrong password more
abbrev pub with_wrong : List ℕ → List ℕ → StatusBook → StatusBook
with_wrong ip name book = record book { wrong = more book.wrong; tries = behind_wrong ip name book.tries }

-- the same, where a challenged request gave one
abbrev pub with_given : List ℕ → Option (List ℕ) → StatusBook → StatusBook
with_given ip (Some name) book = with_wrong ip name book
with_given ip None book = book

-- what a decision leaves: a proven user gave a right password; one who was challenged a wrong one, if the request has a name in its
-- credentials; and where nobody was asked, nothing is known
abbrev pub noted : Proof → List ℕ → List ℕ → StatusBook → StatusBook
noted Given ip datagram book = record book { tries = behind_right ip [] book.tries }
noted Wanted ip datagram book = with_given ip (given_name datagram) book
noted Unasked ip datagram book = book

-- whether a minute is over
abbrev pub is_minute_over : ℕ → StatusBook → Bool
is_minute_over now book = nat_le book.ends now

-- another one begins
abbrev pub minute_ended : ℕ → StatusBook → StatusBook
minute_ended now book = record book { tries = []; ends = behind_by 60000 now }

-- whether the numbers are written
abbrev pub is_due : ℕ → StatusBook → Bool
is_due now book = nat_le book.due now

-- they are again ten seconds later
abbrev pub waiting : ℕ → StatusBook → StatusBook
waiting now book = record book { due = behind_by 10000 now }

-- whether it is said that they can't be written: once, until they could be again
abbrev pub says_refused : Bool → StatusBook → Bool
says_refused is_refused book = is_refused && not book.is_refused
