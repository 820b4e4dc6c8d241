-- What comes of a record that is taken again: what a journal writes of its events and configurations, and what is shown of its steps.
use Rattle.std.specs.Prelude.{ℕ, List, Option}
use Rattle.std.specs.Io.KnownBytes.{Appends}
use Rattle.sip_event.specs.declared.event.StepOut.{StepOut}
use Rattle.sip_replay_print.specs.Print.{printed}
use Rattle.sip_replay_script.specs.Devices.{WritesFront}

-- what a journal has written, if it tells any and hasn't failed, and what was shown, if that is known
pub record Outputs : Type 0 where
  pub written : Option (Option (List ℕ))
  pub shown : Option (List ℕ)

abbrev pub outputs_of : Option (Option (List ℕ)) → Option (List ℕ) → Outputs
outputs_of written shown = record { written = written; shown = shown }

-- exactly what is printed of steps was shown
abbrev pub Shows : Option (List ℕ) → Option (List ℕ) → List StepOut → Type 0
Shows shown shown_then steps = Appends shown shown_then (printed steps)

-- a front of what is printed of them was shown
abbrev pub ShowsFront : Option (List ℕ) → Option (List ℕ) → List StepOut → Type 0
ShowsFront shown shown_then steps = WritesFront shown shown_then (printed steps)
