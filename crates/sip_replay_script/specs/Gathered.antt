-- Lines that are copied where they are looked for.
use Rattle.std.specs.Prelude.{◌≡◌, ◌+◌, ◌≤◌, ℕ, Bool, not, List, ◌++◌, length, take, count_by}
use Rattle.sip_replay_script.specs.Lines.{is_end, EndsAt}
use Rattle.sip_replay_script.specs.Events.{SaysBytes}

-- a byte of a line
abbrev pub is_inside : ℕ → Bool
is_inside b = not (is_end b)

-- A text begins with a line of so many bytes, which LF ends: they stand at that place of the room now, behind what stood before it, and there is
-- room for two bytes more.
pub record CopiesLine (text old new : List ℕ) (at count : ℕ) : Type 0 where
  pub ends : EndsAt text count
  pub copied : take (at + count) new ≡ take at old ++ take count text
  pub fits : at + count + 2 ≤ length new

-- The first bytes of a text are so many lines, none of which is a dot: what they say stands at that place of the room now, behind what stood before it, and is
-- longer than they are by a byte for each.
pub record CopiesLines (text old new : List ℕ) (at count lines : ℕ) : Type 0 where
  pub whole : List ℕ
  pub within : count ≤ length text
  pub says : SaysBytes (take count text) whole
  pub counted : count_by is_end (take count text) ≡ lines
  pub size : length whole ≡ count + lines
  pub fewer : lines ≤ count
  pub copied : take (at + (count + lines)) new ≡ take at old ++ whole

-- the same of a text whose lines were added to bytes, of which no more stand there than are kept
pub record AddsLines (text before after : List ℕ) (count lines : ℕ) : Type 0 where
  pub whole : List ℕ
  pub within : count ≤ length text
  pub says : SaysBytes (take count text) whole
  pub counted : count_by is_end (take count text) ≡ lines
  pub fewer : lines ≤ count
  pub added : after ≡ before ++ whole
  pub short : length after ≤ 65508
