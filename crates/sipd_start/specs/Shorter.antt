-- A record that was made shorter, and leads where the whole one leads.
use Rattle.std.specs.Prelude.{ℕ, List, Option}
use Rattle.sip_event.specs.declared.event.StepOut.{StepOut}
use Rattle.sip_model.specs.SameAhead.{SameAhead}
use Rattle.sip_model.specs.TimerOrder.{Standing}
use Rattle.sip_model.specs.state.declared.server.Server.{Server}
use Rattle.sipd_start.specs.Begins.{GoesOnFrom}

-- what some file held leads to that server
abbrev pub IsLedByFile : List ℕ → List ℕ → Server → Standing → ℕ → Option StepOut → Type 0
IsLedByFile bytes digest server state lines last = (whole : Option (List ℕ)) × GoesOnFrom bytes digest whole server state lines last

-- by so many lines, whichever
abbrev pub IsLedSomehow : List ℕ → List ℕ → Server → Standing → Option StepOut → Type 0
IsLedSomehow bytes digest server state last = (lines : ℕ) × IsLedByFile bytes digest server state lines last

-- A server goes on from the shorter record that some file held, by so many of its lines, with the configuration that bytes of this digest state.
-- Some other file held a record from which the same server goes on, in a state that is the same ahead: whatever comes, that server sends and
-- records the same (law runs_same of sip_model).
pub record LeadsAlike (bytes digest : List ℕ) (server : Server) (state : Standing) (lines : ℕ) (last : Option StepOut) : Type 0 where
  pub shorter : Option (List ℕ)
  pub goes_on : GoesOnFrom bytes digest shorter server state lines last
  pub whole : Option (List ℕ)
  pub other : Standing
  pub other_lines : ℕ
  pub other_last : Option StepOut
  pub leads : GoesOnFrom bytes digest whole server other other_lines other_last
  pub same : SameAhead state.state other.state

-- by so many lines, whichever
pub record GoesOnAlike (bytes digest : List ℕ) (server : Server) (state : Standing) (last : Option StepOut) : Type 0 where
  pub lines : ℕ
  pub leads : LeadsAlike bytes digest server state lines last
