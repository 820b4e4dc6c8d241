-- What the bytes at the front of a line say of it, and how much of a line is given.
use Rattle.std.specs.Prelude.{◌≡◌, ◌<◌, ◌≤◌, ◌++◌, ◌∷◌, [], ℕ, true, false, List, length, take, count_by, Some, None}
use Rattle.sip_replay_script.specs.Lines.{is_end, BeginsWith}
use Rattle.sip_record_omitted.specs.declared.front.Front.{Front}
use Rattle.sip_record_omitted.specs.declared.front.Front.TheVariants.{Omitted, Stays, Short}
use Rattle.sip_record_omitted.specs.declared.part.Part.{Part}
use Rattle.sip_record_omitted.specs.Omitted.{expanded, omitted_of, passed}

-- what a whole line says
abbrev pub IsSaidBy : Front → List ℕ → Type 0
IsSaidBy (Omitted count size) line = (omitted_of line ≡ Some count) × (size ≡ length line)
IsSaidBy Stays line = omitted_of line ≡ None
IsSaidBy Short line = ⊥

-- bytes begin with a line of so many bytes that stands for so many datagrams
pub record BeginsOmitted (bytes : List ℕ) (count size : ℕ) : Type 0 where
  pub line : List ℕ
  pub begins : BeginsWith bytes line
  pub size_is : size ≡ length line
  pub says : omitted_of line ≡ Some count

-- bytes begin with a line, or the front of one, that stays as it is, whatever comes behind them
pub record BeginsPlain (bytes : List ℕ) : Type 0 where
  pub some : 1 ≤ length bytes
  pub stays : (rest : List ℕ) → expanded (bytes ++ rest) ≡ passed (bytes ++ rest)

-- what the bytes at the front of a line say of it
abbrev pub IsFront : Front → List ℕ → Type 0
IsFront (Omitted count size) bytes = BeginsOmitted bytes count size
IsFront Stays bytes = BeginsPlain bytes
IsFront Short bytes = (length bytes < 28) × (count_by is_end bytes ≡ 0)

-- a line and its LF
pub record IsEndedLine (text : List ℕ) : Type 0 where
  pub line : List ℕ
  pub single : count_by is_end line ≡ 0
  pub cut : text ≡ line ++ 10 ∷ []

-- so many bytes at the front of some, no more than wanted, are a line up to its LF, or a part of one
pub record IsPart (bytes : List ℕ) (most : ℕ) (p : Part) : Type 0 where
  pub within : p.count ≤ length bytes
  pub few : p.count ≤ most
  pub some : 1 ≤ length bytes → 1 ≤ most → 1 ≤ p.count
  pub whole : p.ends ≡ true → IsEndedLine (take p.count bytes)
  pub part : p.ends ≡ false → count_by is_end (take p.count bytes) ≡ 0
