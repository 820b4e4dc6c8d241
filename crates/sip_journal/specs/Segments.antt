-- How a record holds configurations: the whole text of each, in front of the events that were taken while it was in force.
use Rattle.std.specs.Prelude.{◌≡◌, ℕ, nat_eq, List, [], ◌∷◌, ◌++◌, drop, Option, Some, None, All, codes, if◌then◌else◌}
use Rattle.std.specs.List.{flat_map, starts_with}
use Rattle.hex.specs.Hex.{encode_lower}
use Rattle.sha2.specs.Sha256.{sha256}
use Rattle.sip_event.specs.declared.event.Event.{Event}
use Rattle.sip_replay_script.specs.Lines.{IsLine}
use Rattle.sip_replay_script.specs.Script.{◌>>=◌}
use Rattle.sip_replay_script.specs.Events.{ended}
use Rattle.sip_replay_script.specs.Recorded.{SaysRecord}

-- what a line gives of a text: `= P` gives P and LF, `+ P` gives P
abbrev pub piece_of : List ℕ → Option (List ℕ)
piece_of line =
    if starts_with nat_eq line (codes "= ") then Some (ended (drop 2 line))
    else if starts_with nat_eq line (codes "+ ") then Some (drop 2 line)
    else None

-- and what lines give, one behind the other
abbrev pub pieces_of : List (List ℕ) → Option (List ℕ)
pieces_of [] = Some []
pieces_of (line ∷ lines) = do
  piece ← piece_of line
  others ← pieces_of lines
  Some (piece ++ others)

-- lines that give a text
pub record GivesText (text given : List ℕ) : Type 0 where
  pub lines : List (List ℕ)
  pub are_lines : All IsLine lines
  pub text_is : text ≡ flat_map ended lines
  pub gives : pieces_of lines ≡ Some given

-- the line from which on a configuration is in force: `configuration DIGEST`, the SHA-256 of its bytes (FIPS 180-4) in 64 hexadecimal
-- digits in lower case
abbrev pub configuration_line : List ℕ → List ℕ
configuration_line configuration = codes "configuration " ++ encode_lower (sha256 configuration)

-- a text says a configuration: lines that give the bytes of its file, and that line
pub record SaysConfiguration (text configuration : List ℕ) : Type 0 where
  pub front : List ℕ
  pub gives : GivesText front configuration
  pub text_is : text ≡ front ++ ended (configuration_line configuration)

-- the bytes of a configuration's file, and the events that were taken while it was in force
pub record Segment : Type 0 where
  pub configuration : List ℕ
  pub events : List Event

-- a text that says a configuration, one that says events, and one that says other segments
pub record SegmentFirst (text : List ℕ) (segment : Segment) (SaysOthers : List ℕ → Type 0) : Type 0 where
  pub first : List ℕ
  pub taken : List ℕ
  pub rest : List ℕ
  pub cut : text ≡ first ++ (taken ++ rest)
  pub configured : SaysConfiguration first segment.configuration
  pub says : SaysRecord segment.events taken
  pub others : SaysOthers rest

-- a record says these segments, one after the other
abbrev pub SaysSegments : List Segment → List ℕ → Type 0
SaysSegments [] text = text ≡ []
SaysSegments (segment ∷ segments) text = SegmentFirst text segment (SaysSegments segments)

-- What stands behind the first line of a record: events of which the record doesn't hold the configuration, and segments. A record of
-- before has no segments, one that is made now has no events in front of them.
pub record SaysWhole (events : List Event) (segments : List Segment) (text : List ℕ) : Type 0 where
  pub taken : List ℕ
  pub rest : List ℕ
  pub cut : text ≡ taken ++ rest
  pub says : SaysRecord events taken
  pub others : SaysSegments segments rest
