-- What a reader holds that gives an expanded text in parts.
use Rattle.std.specs.Prelude.{◌≡◌, ◌⊎◌, ◌<◌, ◌≤◌, ◌+◌, ◌-◌, ◌^◌, min, ℕ, Bool, true, false, if◌then◌else◌, List, [], ◌++◌, length, drop, count_by, Option}
use Rattle.std.specs.Io.KnownBytes.{IsAtEnd}
use Rattle.sip_replay_script.specs.Lines.{is_end}
use Rattle.sip_record_omitted.specs.Omitted.{expanded, left_out_text, passed}

-- how many lines of left out datagrams are to be given, and how many bytes of the first of them were; whether the front of a line was given
-- that stays as it is; the bytes that were read and not given yet; and how many lines more there are by now than were read
pub record Holding : Type 0 where
  pub lines : ℕ
  pub given : ℕ
  pub inside : Bool
  pub unread : List ℕ
  pub added : ℕ

-- nothing read, and nothing to be given
abbrev pub nothing_held : Holding
nothing_held = record { lines = 0; given = 0; inside = false; unread = []; added = 0 }

-- what is to be given of lines that stand for another one
abbrev pub made_text : Holding → List ℕ
made_text h = drop h.given (left_out_text h.lines)

-- the text that some bytes stand for, at the front of a line, or behind the front of one that stays
abbrev pub text_from : Bool → List ℕ → List ℕ
text_from inside bytes = if inside then passed bytes else expanded bytes

-- what is still to come where so much is left to be read
abbrev pub ahead : Holding → List ℕ → List ℕ
ahead h rest = made_text h ++ text_from h.inside (h.unread ++ rest)

-- at most the greatest that a u64 holds
abbrev pub capped : ℕ → ℕ
capped n = min n (2 ^ 64 - 1)

-- what holds where nothing of it can be given before more is read: no lines are made, and too few bytes stand there, no LF among them
pub record IsShort (h : Holding) : Type 0 where
  pub lines : h.lines ≡ 0
  pub few : length h.unread < 28
  pub single : count_by is_end h.unread ≡ 0

-- something can be given at once
abbrev pub IsReady : Holding → Type 0
IsReady h = h.lines ≡ 0 → (h.inside ≡ true) × (1 ≤ length h.unread)

-- nothing stands there whose meaning isn't known yet
abbrev pub IsSettled : Holding → Type 0
IsSettled h = h.lines ≡ 0 → h.inside ≡ false → h.unread ≡ []

-- nothing is left, here and of what may be read
pub record IsOver (h : Holding) (rest : Option (List ℕ)) : Type 0 where
  pub lines : h.lines ≡ 0
  pub unread : h.unread ≡ []
  pub at_end : IsAtEnd rest

-- what can be given is known: something can at once, or nothing is left
pub record IsKnown (h : Holding) (rest : Option (List ℕ)) : Type 0 where
  pub settled : IsSettled h
  pub some : IsReady h ⊎ IsOver h rest

-- a line of so many bytes at the front was taken for so many lines of left out datagrams
pub record MakesLines (old new : Holding) (count size : ℕ) : Type 0 where
  pub lines : new.lines ≡ count
  pub given : new.given ≡ 0
  pub inside : new.inside ≡ old.inside
  pub unread : new.unread ≡ drop (size + 1) old.unread
  pub added : new.added ≡ capped (old.added + (count - 1))

-- so many bytes of the first of these lines were given, or the rest of it
pub record PassesMade (old new : Holding) (count : ℕ) : Type 0 where
  pub part : old.given + count < 54 → (new.lines ≡ old.lines) × (new.given ≡ old.given + count)
  pub whole : old.given + count ≡ 54 → (new.lines + 1 ≡ old.lines) × (new.given ≡ 0)
  pub inside : new.inside ≡ old.inside
  pub unread : new.unread ≡ old.unread
  pub added : new.added ≡ old.added

-- so many bytes that were read were given, and whether the line that they stand in goes on
pub record PassesRead (old new : Holding) (count : ℕ) (goes_on : Bool) : Type 0 where
  pub lines : new.lines ≡ old.lines
  pub given : new.given ≡ old.given
  pub inside : new.inside ≡ goes_on
  pub unread : new.unread ≡ drop count old.unread
  pub added : new.added ≡ old.added
