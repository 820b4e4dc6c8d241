-- The turns of the service. In each the clock is read, the configuration may change, and the link is let wait until something is due; then
-- the server serves one turn.
use Rattle.std.specs.Prelude.{◌≡◌, ◌<◌, ◌⊎◌, ℕ, Bool, false, zero, suc, List, [], Option, Some, None, MatchOption}
use Rattle.std.specs.Io.KnownBytes.{Appends}
use Rattle.rand_core.specs.Stream.{Stream}
use Rattle.sip_audit.specs.declared.record.Record.{Record}
use Rattle.sip_config.specs.Stated.{States}
use Rattle.sip_transport.specs.Told.{and_counted, GrewBy}
use Rattle.sip_loop.specs.run.engine.Engine.{Engine}
use Rattle.sip_loop.specs.run.engine.engine_time.Next.{IsNext}
use Rattle.sip_loop.specs.run.engine.engine_time.fork.Due.{IsNothingDue}
use Rattle.sip_loop.specs.run.Due.{standing_of}
use Rattle.sip_guard.specs.Guard.{GuardState}
use Rattle.sip_journal.specs.Record.{Notes}
use Rattle.sip_journal.specs.Recorder.{told}
use Rattle.sipd_reload.specs.Watch.{WatchState}
use Rattle.sip_loop.specs.Serving.{Told, IsServed, IsUnserved, kept, told_by}
use Rattle.sip_loop.specs.declared.serve_error.ServeError.{ServeError}
use Rattle.sipd_exit.specs.Exits.{IsPrintFault}
use Rattle.sipd_exit.specs.declared.device_fault.DeviceFault.{DeviceFault}
use Rattle.sipd_exit.specs.declared.exit.Exit.{Exit}
use Rattle.sipd_exit.specs.declared.exit.Exit.TheVariants.{Recording}
use Rattle.sipd_service.specs.Exits.{exit_of_serve}
use Rattle.sipd_service.specs.NextRecords.{MayGoOver, in_force}
use Rattle.sipd_service.specs.Printing.{start_text, turns_text}
use Rattle.sipd_service.specs.Reloads.{HearsHops, IsUnnoted, MayChange, Written, always_of}
use Rattle.sip_guard.specs.Waits.{wait_before}
use Rattle.sip_uri.specs.declared.addr.Addr.{Addr}

-- A service as it is seen: its engine, the port that it has bound, and what is known of its configuration's file, where that is watched; the
-- bytes of the configuration with which it began; whom its guard hears always, where it has a limit; what its devices tell; and how many
-- milliseconds its link was let wait, time by time.
pub record ServiceSeen : Type 0 where
  pub engine : Engine
  pub port : ℕ
  pub file : Option WatchState
  pub stated : List ℕ
  pub always : Option (List (List ℕ))
  pub devices : Told
  pub waits : Option (List ℕ)

-- of its engine, its port and its watch; of what it began with; of the link under its guard, its clock's readings, what was written of its journal, whether that
-- answers faults, and the numbers of its source; and of what it prints on, whether that has failed, and its bytes
abbrev pub service_seen : Engine → ℕ → Option WatchState → List ℕ → GuardState → Option (List ℕ) → Option (Option (List ℕ)) → Bool → Stream
    → Bool → Option (List ℕ) → ServiceSeen
service_seen engine port file stated guard readings written faulted words has_failed contents = record {
  engine = engine;
  port = port;
  file = file;
  stated = stated;
  always = always_of guard;
  devices = told_by guard.link.heard guard.link.given readings (kept written faulted) (kept (told has_failed contents) has_failed) words;
  waits = guard.link.waits;
}

-- its server is under the configuration in force
abbrev pub IsAsTold : ServiceSeen → Type 0
IsAsTold seen = States (in_force seen.stated seen.file) seen.engine.server.config

-- between two turns the journal may be looked at: it tells nothing more, unless it has failed
pub record IsLookedAt (before after : Told) : Type 0 where
  pub others : after ≡ record before { journal = after.journal }
  pub noted : Notes before.journal.bytes after.journal.bytes []

-- A turn begins: the clock is read, the journal is looked at, and a new record may be begun; the configuration's file is looked at, what it
-- holds may come into force, with the hops that are heard always; and the link is let wait as long as nothing is due, a second at most.
pub record Begins (before first : ServiceSeen) : Type 0 where
  pub now : ℕ
  pub due : Option ℕ
  pub seen : Told
  pub looked : IsLookedAt (record before.devices { readings = and_counted before.devices.readings now }) seen
  pub engine : Engine
  pub told : Told
  pub over : MayGoOver (in_force before.stated before.file) before.engine engine seen.journal.bytes told.journal.bytes
  pub told_on : told ≡ record seen { journal = told.journal }
  pub changed : MayChange before.port now engine.server first.engine.server before.file first.file told.journal.bytes first.devices.journal.bytes
  pub hears : HearsHops engine.server first.engine.server before.always first.always
  pub others : first.devices ≡ record told { journal = first.devices.journal }
  pub still : first.engine.state ≡ engine.state
  pub same_timers : first.engine.timers ≡ engine.timers
  pub same_port : first.port ≡ before.port
  pub same_stated : first.stated ≡ before.stated
  pub next : MatchOption due (IsNothingDue engine.state.requests) (IsNext engine.state.requests)
  pub waited : GrewBy (wait_before due now) before.waits first.waits

-- nothing but the engine's state, its timers and what the devices tell changed
pub record IsServedOn (first after : ServiceSeen) : Type 0 where
  pub same_server : after.engine.server ≡ first.engine.server
  pub same_port : after.port ≡ first.port
  pub same_file : after.file ≡ first.file
  pub same_stated : after.stated ≡ first.stated
  pub same_waits : after.waits ≡ first.waits

-- One turn: it begins, and then the server serves one turn, as `IsServed` says.
pub record IsTurn (before after : ServiceSeen) : Type 0 where
  pub first : ServiceSeen
  pub last : Told
  pub begins : Begins before first
  pub served : IsServed 1 first.engine.server (standing_of first.engine) (standing_of after.engine) first.devices last
  pub ends : IsLookedAt last after.devices
  pub on : IsServedOn first after

-- so many turns, one behind the other
abbrev pub AreTurns : ℕ → ServiceSeen → ServiceSeen → Type 0
AreTurns zero before after = after ≡ before
AreTurns (suc n) before after = (middle : ServiceSeen) × AreTurns n before middle × IsTurn middle after

-- A turn in which serving ends, and what the program then ends with.
pub record EndsServing (before after : ServiceSeen) (fault : DeviceFault) (exit : Exit) : Type 0 where
  pub first : ServiceSeen
  pub last : Told
  pub why : ServeError
  pub begins : Begins before first
  pub unserved : IsUnserved 1 first.engine.server (standing_of first.engine) (standing_of after.engine) first.devices last why
  pub ends : IsLookedAt last after.devices
  pub on : IsServedOn first after
  pub exit_is : exit ≡ exit_of_serve why fault

-- A turn in which the journal can't be told a configuration that came into force: nothing is served. A new record may have been begun before.
pub record EndsUnnoted (before after : ServiceSeen) (exit : Exit) : Type 0 where
  pub now : ℕ
  pub watch : WatchState
  pub watched : before.file ≡ Some watch
  pub seen : Written
  pub looked : Notes before.devices.journal.bytes seen []
  pub engine : Engine
  pub told : Written
  pub over : MayGoOver (in_force before.stated before.file) before.engine engine seen told
  pub unnoted : IsUnnoted before.port now engine.server after.engine.server watch
  pub hears : HearsHops engine.server after.engine.server before.always after.always
  pub failed : after.devices.journal.bytes ≡ None
  pub others : after.devices ≡ record before.devices { readings = and_counted before.devices.readings now; journal = after.devices.journal }
  pub still : after.engine.state ≡ engine.state
  pub same_timers : after.engine.timers ≡ engine.timers
  pub same_waits : after.waits ≡ before.waits
  pub exit_is : exit ≡ Recording

abbrev pub EndsTurn : ServiceSeen → ServiceSeen → DeviceFault → Exit → Type 0
EndsTurn before after fault exit = EndsServing before after fault exit ⊎ EndsUnnoted before after exit

-- Fewer turns than so many, and one in which serving ends.
pub record EndsWithin (turns : ℕ) (before after : ServiceSeen) (fault : DeviceFault) (exit : Exit) : Type 0 where
  pub number : ℕ
  pub within : number < turns
  pub middle : ServiceSeen
  pub whole : AreTurns number before middle
  pub last : EndsTurn middle after fault exit

-- the same, printing on a writer that holds these bytes and hasn't failed
abbrev pub printing_on : Option (List ℕ) → ServiceSeen → ServiceSeen
printing_on contents before = record before { devices = record before.devices { log = kept (Some contents) false } }

-- The start is printed, then so many turns are served.
pub record Serves (address : Addr) (decided : List Record) (turns : ℕ) (before after : ServiceSeen) (empty written : Option (List ℕ)) : Type 0 where
  pub started : Option (List ℕ)
  pub start : Appends empty started (start_text address decided)
  pub are_turns : AreTurns turns (printing_on started before) (printing_on written after)

-- The same, and then the number of the turns is printed.
pub record ServesCounted (address : Addr) (decided : List Record) (turns : ℕ) (before after : ServiceSeen) (empty written : Option (List ℕ)) : Type 0 where
  pub ended : Option (List ℕ)
  pub serves : Serves address decided turns before after empty ended
  pub last : Appends ended written (turns_text turns)

-- the start couldn't be printed, and nothing was served
pub record IsUnstarted (before after : ServiceSeen) (exit : Exit) : Type 0 where
  pub same : after ≡ record before { devices = record before.devices { log = after.devices.log } }
  pub why : IsPrintFault exit

-- the start was printed, and serving ended in one of so many turns
pub record EndsBehindStart (address : Addr) (decided : List Record) (turns : ℕ) (before after : ServiceSeen) (empty : Option (List ℕ))
    (fault : DeviceFault) (exit : Exit) : Type 0 where
  pub started : Option (List ℕ)
  pub start : Appends empty started (start_text address decided)
  pub ends : EndsWithin turns (printing_on started before) after fault exit

-- why so many turns end before they are over
abbrev pub EndsEarly : Addr → List Record → ℕ → ServiceSeen → ServiceSeen → Option (List ℕ) → DeviceFault → Exit → Type 0
EndsEarly address decided turns before after empty fault exit = IsUnstarted before after exit ⊎ EndsBehindStart address decided turns before after empty fault exit

-- all of them were served, and their number couldn't be printed behind what was written
pub record IsUncounted (address : Addr) (decided : List Record) (turns : ℕ) (before after : ServiceSeen) (empty : Option (List ℕ)) (exit : Exit) : Type 0 where
  pub ended : Option (List ℕ)
  pub serves : Serves address decided turns before after empty ended
  pub why : IsPrintFault exit

-- the same of turns whose number is printed then
abbrev pub EndsCounted : Addr → List Record → ℕ → ServiceSeen → ServiceSeen → Option (List ℕ) → DeviceFault → Exit → Type 0
EndsCounted address decided turns before after empty fault exit =
    EndsEarly address decided turns before after empty fault exit ⊎ IsUncounted address decided turns before after empty exit
