-- How the office's clock was set, as the configurations of records say.
use Rattle.std.specs.Prelude.{◌≡◌, ℕ, zero, suc, ℤ, List, [], ◌∷◌, ◌++◌, Option, Some, None, IfSome}
use Rattle.std.specs.Io.KnownBytes.{Consumes}
use Rattle.sip_config.specs.Stated.{States}
use Rattle.sip_config_types.specs.declared.config.Config.{Config}
use Rattle.sip_event.specs.declared.event.Event.{Event}
use Rattle.sip_event.specs.declared.event.Event.TheVariants as happenings
use Rattle.sip_journal.specs.Segments.{SaysConfiguration}
use Rattle.sip_replay_script.specs.Lines.{pending}
use Rattle.sip_replay_script.specs.Recorded.{SaysRecorded}
use Rattle.sip_segment_config.specs.Last.{EndsCut}
use Rattle.sipd_old_record.specs.Own.{unread}
use Rattle.sipd_report.specs.declared.zone.Zone.{Zone}
use Rattle.sipd_tools.specs.declared.clocks.ClockPart.{ClockPart}
use Rattle.sipd_tools.specs.declared.clocks.ClockPart.TheVariants.{Happened, Set}

-- ---- what a record says

-- the moment of an event
abbrev pub moment_of : Event → ℕ
moment_of (happenings.Datagram at word from bytes) = at
moment_of (happenings.Time at) = at
moment_of (happenings.Fault at ticket) = at

-- what is left of a record begins with a text that says an event at this moment
pub record SaysEvent (before after : Option (List ℕ)) (at : ℕ) : Type 0 where
  pub text : List ℕ
  pub event : Event
  pub says : SaysRecorded text event
  pub consumes : Consumes before after text
  pub moment : at ≡ moment_of event

-- or with one that says a configuration by which the clock is so far ahead
pub record SaysClock (before after : Option (List ℕ)) (ahead : ℤ) : Type 0 where
  pub text : List ℕ
  pub configuration : List ℕ
  pub config : Config
  pub says : SaysConfiguration text configuration
  pub states : States configuration config
  pub consumes : Consumes before after text
  pub offset : ahead ≡ config.offset

abbrev pub SaysNext : Option (List ℕ) → Option (List ℕ) → ClockPart → Type 0
SaysNext before after (Happened at) = SaysEvent before after at
SaysNext before after (Set ahead) = SaysClock before after ahead

-- one part more was said
pub record SaidOne (Said : Option (List ℕ) → Type 0) (after : Option (List ℕ)) (part : ClockPart) : Type 0 where
  pub between : Option (List ℕ)
  pub earlier : Said between
  pub newest : SaysNext between after part

-- a record says these parts up to where that is left of it; the newest one stands first
abbrev pub SaysParts : Option (List ℕ) → List ClockPart → Option (List ℕ) → Type 0
SaysParts before [] after = after ≡ before
SaysParts before (part ∷ parts) after = SaidOne (SaysParts before parts) after part

-- ---- the zones

-- how the clock was set, if no event came behind that yet
abbrev pub set_behind : ClockPart → Option ℤ
set_behind (Happened at) = None
set_behind (Set ahead) = Some ahead

abbrev pub set_by : List ClockPart → Option ℤ
set_by [] = None
set_by (part ∷ parts) = set_behind part

-- the zone that a part begins, where the clock was set so and no event came behind that yet
abbrev pub zone_begun : Option ℤ → ClockPart → List Zone
zone_begun None part = []
zone_begun (Some ahead) (Happened at) = record { since = at; offset = ahead } ∷ []
zone_begun (Some ahead) (Set later) = []

-- the zones that some parts begin, of which the newest stands first: each from the first event on that its configuration was in force for
abbrev pub zones_by : List ClockPart → List Zone
zones_by [] = []
zones_by (part ∷ parts) = zones_by parts ++ zone_begun (set_by parts) part

-- the zones of what stands behind the first line of a record: it says parts that begin them, and ends there, or was cut in what comes next
pub record HasZones (events : Option (List ℕ)) (zones : List Zone) : Type 0 where
  pub parts : List ClockPart
  pub rest : Option (List ℕ)
  pub says : SaysParts (pending unread events) parts rest
  pub ends : IfSome rest EndsCut
  pub begun : zones ≡ zones_by parts

-- they stand behind others
pub record AddsZones (events : Option (List ℕ)) (old new : List Zone) : Type 0 where
  pub own : List Zone
  pub has : HasZones events own
  pub added : new ≡ old ++ own

-- those of a record, whatever it says
pub record AddsSome (old new : List Zone) : Type 0 where
  pub events : Option (List ℕ)
  pub adds : AddsZones events old new

-- those of so many records, one behind the other
pub record AddsOneMore (Has : List Zone → Type 0) (zones : List Zone) : Type 0 where
  pub earlier : List Zone
  pub has : Has earlier
  pub adds : AddsSome earlier zones

abbrev pub HasZonesOf : ℕ → List Zone → Type 0
HasZonesOf zero zones = zones ≡ []
HasZonesOf (suc count) zones = AddsOneMore (HasZonesOf count) zones

-- ---- inside

-- what was read so far, and what is known of the clock
pub record IsSoFar (events : Option (List ℕ)) (old zones : List Zone) (set : Option ℤ) (rest : Option (List ℕ)) : Type 0 where
  pub parts : List ClockPart
  pub says : SaysParts (pending unread events) parts rest
  pub added : zones ≡ old ++ zones_by parts
  pub set_is : set ≡ set_by parts
