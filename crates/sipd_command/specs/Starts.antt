-- What a start takes of a configuration, and what is printed of it.
use Rattle.std.specs.Prelude.{⊤, ℕ, List, [], Option, Some, None}
use Rattle.sip_audit.specs.declared.record.Record.{Record}
use Rattle.sip_config_types.specs.declared.config.Config.{Config}
use Rattle.sip_event.specs.declared.event.StepOut.{StepOut}
use Rattle.sip_uri.specs.declared.addr.Addr.{Addr}
use Rattle.sipd_service.specs.Printing.{PrintsServed}

-- where a configuration says that a server is bound: at its own IP address, and at the port that is bound
abbrev pub bound_address : Config → Addr
bound_address config = record { ip = config.own.ip; port = config.bound_port }

-- what the last step of an older record decided, where there is one
abbrev pub decided_before : Option StepOut → List Record
decided_before None = []
decided_before (Some out) = out.records

-- What is printed of a server of which so many turns are asked for: where it serves, the lines of what was decided before it began, the lines of
-- some records, and that number; of one that serves without end nothing is said.
abbrev pub PrintsFor : Option ℕ → Addr → List Record → Option (List ℕ) → Option (List ℕ) → Type 0
PrintsFor None address decided old new = ⊤
PrintsFor (Some turns) address decided old new = PrintsServed address decided turns old new

-- the same, whatever was decided before it began
pub record PrintsAt (turns : Option ℕ) (address : Addr) (old new : Option (List ℕ)) : Type 0 where
  pub decided : List Record
  pub printed : PrintsFor turns address decided old new

-- the same, wherever it serves
pub record PrintsSomewhere (turns : Option ℕ) (old new : Option (List ℕ)) : Type 0 where
  pub address : Addr
  pub there : PrintsAt turns address old new
