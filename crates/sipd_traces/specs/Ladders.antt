-- A call of recorded days.
use Rattle.std.specs.Prelude.{◌≡◌, ℕ, Bool, if◌then◌else◌, List, [], ◌∷◌, length, Option}
use Rattle.std.specs.Io.KnownBytes.{Appends}
use Rattle.sip_listener.specs.Heard.{Heard}
use Rattle.sipd_ladder.specs.Hearing.{names_with, place_at, rungs_with}
use Rattle.sipd_ladder.specs.Table.{ladder_text}
use Rattle.sipd_ladder.specs.declared.hearing.Ladder.{Ladder}
use Rattle.sipd_ladder_picture.specs.Picture.{drawing}
use Rattle.sipd_record_files.specs.Named.{AreNamed}
use Rattle.sipd_telling.specs.Records.{TellsFiles}

-- a ladder hears a step
pub record AddsRungs (old : Ladder) (step : Heard) (new : Ladder) : Type 0 where
  pub same : new.call_id ≡ old.call_id
  pub names : new.names ≡ names_with step.event step.out old.names
  pub rungs : new.rungs ≡ rungs_with old.call_id (place_at step.config.offset new.names) step.event step.out old.rungs

-- a ladder with one step more, and with those of a day, from its first on
abbrev pub ladder_with : Ladder → Heard → Ladder
ladder_with old step = record {
  call_id = old.call_id;
  rungs = rungs_with old.call_id (place_at step.config.offset (names_with step.event step.out old.names)) step.event step.out old.rungs;
  names = names_with step.event step.out old.names;
}

abbrev pub ladder_behind : Ladder → List Heard → Ladder
ladder_behind ladder [] = ladder
ladder_behind ladder (step ∷ steps) = ladder_behind (ladder_with ladder step) steps

-- nothing was heard of a call yet
pub record IsUnheard (ladder : Ladder) : Type 0 where
  pub rungs : ladder.rungs ≡ []
  pub names : ladder.names ≡ []

-- a ladder as a drawing, or as text
abbrev pub shown_ladder : Bool → Ladder → List ℕ
shown_ladder svg ladder =
    if svg then drawing ladder.call_id ladder.names ladder.rungs else ladder_text ladder.call_id ladder.names ladder.rungs

-- the diagram of a call of the records that paths name was printed
pub record PrintsLadder (svg : Bool) (paths : List (List ℕ)) (old new : Option (List ℕ)) : Type 0 where
  pub first : Ladder
  pub unheard : IsUnheard first
  pub ladder : Ladder
  pub files : List (List ℕ)
  pub named : AreNamed paths files
  pub days : TellsFiles AddsRungs (length files) first ladder
  pub printed : Appends old new (shown_ladder svg ladder)
