-- The lines of a script, and what was read and not given yet.
use Rattle.std.specs.Prelude.{◌≡◌, ◌≢◌, ◌≤◌, ◌<◌, ◌+◌, ◌*◌, ◌==◌, ◌⊎◌, ⊤, ℕ, Bool, List, [], ◌∷◌, ◌++◌, length, take, drop, count_by, Option, IfSome}
use Rattle.std.specs.Io.KnownBytes.{prepend_known, Consumes, Keeps, IsAtEnd}
use Rattle.sip_replay_script.specs.declared.read_stop.ReadStop.{ReadStop}
use Rattle.sip_replay_script.specs.declared.read_stop.ReadStop.TheVariants.{NoMemory, Damaged, Cut, Read}

-- LF
abbrev pub is_end : ℕ → Bool
is_end b = b == 10

-- a line without its LF: at most 200,000 bytes, none of them LF
pub record IsLine (text : List ℕ) : Type 0 where
  pub short : length text ≤ 200000
  pub single : count_by is_end text ≡ 0

-- no line stands here: there is no LF among the next 200,001 bytes
abbrev pub HasNoLine : List ℕ → Type 0
HasNoLine rest = count_by is_end (take 200001 rest) ≡ 0

-- the first LF stands at that place
pub record EndsAt (text : List ℕ) (place : ℕ) : Type 0 where
  pub inside : place < length text
  pub single : count_by is_end (take place text) ≡ 0
  pub cut : text ≡ take place text ++ 10 ∷ drop (place + 1) text

-- bytes begin with that line, whole, and its LF
pub record BeginsWith (text line : List ℕ) : Type 0 where
  pub rest : List ℕ
  pub is_line : IsLine line
  pub cut : text ≡ line ++ 10 ∷ rest

-- what was read and not given yet, how often the reader may still be asked, and how many lines were given
pub record Reading : Type 0 where
  pub unread : List ℕ
  pub asks : ℕ
  pub number : ℕ

-- what is still to come of a script whose reader has some bytes left, where those are known
abbrev pub pending : Reading → Option (List ℕ) → Option (List ℕ)
pending r remaining = prepend_known r.unread remaining

-- at most how many bytes are still to come
abbrev pub left : Reading → ℕ
left r = length r.unread + 8192 * r.asks

-- the unread bytes held an LF: what stands before it went to the line, and it is passed
pub record EndsLine (old new : Reading) (before after : List ℕ) : Type 0 where
  pub part : List ℕ
  pub grown : after ≡ before ++ part
  pub single : count_by is_end part ≡ 0
  pub unread : old.unread ≡ part ++ 10 ∷ new.unread
  pub number : new.number ≡ old.number + 1
  pub asks : new.asks ≡ old.asks

-- they held none: all of them went to the line
pub record GoesOn (old new : Reading) (before after : List ℕ) : Type 0 where
  pub grown : after ≡ before ++ old.unread
  pub single : count_by is_end old.unread ≡ 0
  pub unread : new.unread ≡ []
  pub number : new.number ≡ old.number
  pub asks : new.asks ≡ old.asks

-- a line was given
pub record GivesLine (old new : Reading) (before after : Option (List ℕ)) (line : List ℕ) : Type 0 where
  pub is_line : IsLine line
  pub consumes : Consumes (pending old before) (pending new after) (line ++ 10 ∷ [])
  pub number : new.number ≡ old.number + 1
  pub fewer : left new < left old

-- a line that stood whole among the unread bytes is passed
pub record PassesLine (old new : Reading) (line : List ℕ) : Type 0 where
  pub is_line : IsLine line
  pub unread : old.unread ≡ line ++ 10 ∷ new.unread
  pub number : new.number ≡ old.number + 1
  pub asks : new.asks ≡ old.asks

-- the script is at its end
pub record IsOver (old new : Reading) (before after : Option (List ℕ)) : Type 0 where
  pub kept : Keeps (pending old before) (pending new after)
  pub at_end : IsAtEnd (pending new after)

-- an unread front without LF makes a line too long
pub record IsTooLong (unread before : List ℕ) : Type 0 where
  pub part : List ℕ
  pub rest : List ℕ
  pub cut : unread ≡ part ++ rest
  pub single : count_by is_end part ≡ 0
  pub long : 200000 < length before + length part

-- why a part isn't added to a line
abbrev pub PutStops : List ℕ → List ℕ → ReadStop → Type 0
PutStops part before NoMemory = ⊤
PutStops part before Damaged = 200000 < length before + length part
PutStops part before Cut = ⊥
PutStops part before Read = ⊥

-- and why those up to the first LF aren't
abbrev pub PartStops : List ℕ → List ℕ → ReadStop → Type 0
PartStops unread before NoMemory = ⊤
PartStops unread before Damaged = IsTooLong unread before
PartStops unread before Cut = ⊥
PartStops unread before Read = ⊥

-- something is left, and no line stands there
abbrev pub IsUnended : List ℕ → Type 0
IsUnended rest = (rest ≢ []) × HasNoLine rest

-- what is left is a line too long
pub record IsLong (rest : List ℕ) : Type 0 where
  pub long : 200000 < length rest
  pub unended : HasNoLine rest

-- what is left is these bytes, a line without its LF, of which some have come
pub record IsUnfinished (seen rest : List ℕ) : Type 0 where
  pub all : rest ≡ seen
  pub begun : seen ≢ []
  pub is_line : IsLine seen

-- the reader failed, or may not be asked any more
abbrev pub IsSpent : Type 0 → ℕ → Type 0
IsSpent has_failed asks = has_failed ⊎ (asks ≡ 0)

-- why no line is given of what is still to come, and the bytes of one that was cut
abbrev pub LineStops : Type 0 → Option (List ℕ) → List ℕ → ReadStop → Type 0
LineStops spent script seen NoMemory = ⊤
LineStops spent script seen Damaged = IfSome script IsLong
LineStops spent script seen Cut = IfSome script (IsUnfinished seen)
LineStops spent script seen Read = spent
