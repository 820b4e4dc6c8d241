-- An input that is read line by line: what the reader of a script's lines holds (sip_replay_script `specs/Lines`), of lines of any length.
use Rattle.std.specs.Prelude.{◌≡◌, ◌<◌, ⊤, ℕ, List, [], ◌∷◌, ◌++◌, take, count_by, Option, Some, None}
use Rattle.sip_replay_script.specs.Lines.{Reading, is_end, pending, left}
use Rattle.sipd_report.specs.Entries.{fronts_of}

-- the front of the first line was given, and the other lines are still to come
abbrev pub GivesFront : Option (List ℕ) → Option (List ℕ) → List ℕ → Type 0
GivesFront None after line = ⊤
GivesFront (Some bytes) None line = ⊥
GivesFront (Some bytes) (Some rest) line = fronts_of bytes ≡ line ∷ fronts_of rest

-- a line was given
pub record GivesLine (old new : Reading) (before after : Option (List ℕ)) (line : List ℕ) : Type 0 where
  pub gives : GivesFront (pending old before) (pending new after) line
  pub fewer : left new < left old

-- ---- inside

-- the unread bytes held an LF: the front of the line grew by what stands before it, and it is passed
pub record EndsLine (old new : Reading) (before after : List ℕ) : Type 0 where
  pub part : List ℕ
  pub grown : after ≡ take 200001 (before ++ part)
  pub single : count_by is_end part ≡ 0
  pub unread : old.unread ≡ part ++ 10 ∷ new.unread
  pub asks : new.asks ≡ old.asks

-- they held none: the front of the line grew by all of them
pub record GoesOn (old new : Reading) (before after : List ℕ) : Type 0 where
  pub grown : after ≡ take 200001 (before ++ old.unread)
  pub single : count_by is_end old.unread ≡ 0
  pub unread : new.unread ≡ []
  pub asks : new.asks ≡ old.asks
