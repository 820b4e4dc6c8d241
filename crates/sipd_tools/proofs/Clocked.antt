-- How the office's clock was set, as the parts of a record are read.
use Rattle.std.proofs.Common.{◌≡◌, inl, inr, ℕ, ◌<◌, ◌≤◌, ◌+◌, suc, List, [], ◌∷◌, ◌++◌, Option, None, Some, refl, sym, ◌∙◌, ap, subst, arith, append-nil, append_assoc}
use Rattle.std.specs.Prelude.{ℤ, Result, Ok, Err, IfNone, IfOk, IfSome}
use Rattle.std.specs.Io.KnownBytes.{IsAtEnd, Keeps}
use Rattle.sip_config_types.specs.declared.config.Config.{Config}
use Rattle.sip_event.specs.declared.event.Event.{Event}
use Rattle.sip_journal.specs.Configurations.{IsCutConfiguration}
use Rattle.sip_replay_script.specs.Lines.{IsOver, Reading, left, pending}
use Rattle.sip_replay_script.specs.Recorded.{GivesRecorded, IsCutRecord}
use Rattle.sip_replay_script.proofs.Written.{keeps_consumes}
use Rattle.sip_segment_config.specs.Last.{EndsCut}
use Rattle.sip_segment_config.specs.Reads.{GivesStated}
use Rattle.sip_segment_config.proofs.SoFar.{if_kept}
use Rattle.sipd_exit.specs.declared.exit.Exit.{Exit}
use Rattle.sipd_old_record.specs.Own.{unread}
use Rattle.sipd_report.specs.declared.zone.Zone.{Zone}
use Rattle.sipd_tools.specs.Clocks.{AddsSome, AddsZones, HasZonesOf, IsSoFar, SaysClock, SaysEvent, SaysNext, moment_of, set_behind, set_by, zone_begun, zones_by}
use Rattle.sipd_tools.specs.declared.clocks.ClockPart.{ClockPart}
use Rattle.sipd_tools.specs.declared.clocks.ClockPart.TheVariants.{Happened, Set}

-- ---- a part

pub said_event : (old new : Reading) (before after : Option (List ℕ)) (event : Event) (at : ℕ) → GivesRecorded old new before after event → at ≡ moment_of event
    → SaysEvent (pending old before) (pending new after) at
said_event old new before after event at h is = record {
  text = h.given.text;
  event = event;
  says = h.recorded;
  consumes = h.given.consumes;
  moment = is;
}

pub said_clock : (old new : Reading) (before after : Option (List ℕ)) (text : List ℕ) (config : Config) (ahead : ℤ) → GivesStated old new before after text config
    → ahead ≡ config.offset → SaysClock (pending old before) (pending new after) ahead
said_clock old new before after text config ahead h is = record {
  text = h.gives.text;
  configuration = text;
  config = config;
  says = h.gives.says;
  states = h.states;
  consumes = h.gives.consumes;
  offset = is;
}

pub fewer_event : (old new : Reading) (before after : Option (List ℕ)) (event : Event) → GivesRecorded old new before after event → left new < left old
fewer_event old new before after event h = h.given.fewer

pub fewer_clock : (old new : Reading) (before after : Option (List ℕ)) (text : List ℕ) (config : Config) → GivesStated old new before after text config
    → left new < left old
fewer_clock old new before after text config h = h.gives.fewer

-- nothing is left
pub over_ends : (old new : Reading) (before after : Option (List ℕ)) → IsOver old new before after → IfSome (pending old before) EndsCut
over_ends old new before after h = by (pending old before) (pending new after) h.kept h.at_end
  where
    by : (a b : Option (List ℕ)) → Keeps a b → IsAtEnd b → IfSome a EndsCut
    by None b kept none = tt
    by (Some xs) None kept none = absurd kept
    by (Some xs) (Some ys) kept none = inl (sym kept ∙ none)

-- or what was cut
pub cut_event_ends : (rest : Option (List ℕ)) → IfSome rest IsCutRecord → IfSome rest EndsCut
cut_event_ends None h = tt
cut_event_ends (Some bytes) h = inr (inl h)

pub cut_configuration_ends : (rest : Option (List ℕ)) → IfSome rest IsCutConfiguration → IfSome rest EndsCut
cut_configuration_ends None h = tt
cut_configuration_ends (Some bytes) h = inr (inr h)

-- ---- behind a look at it

next_behind : (part : ClockPart) (a b c : Option (List ℕ)) → Keeps a b → SaysNext b c part → SaysNext a c part
next_behind (Happened at) a b c kept h = record {
  text = h.text;
  event = h.event;
  says = h.says;
  consumes = keeps_consumes a b c h.text kept h.consumes;
  moment = h.moment;
}
next_behind (Set ahead) a b c kept h = record {
  text = h.text;
  configuration = h.configuration;
  config = h.config;
  says = h.says;
  states = h.states;
  consumes = keeps_consumes a b c h.text kept h.consumes;
  offset = h.offset;
}

pub said_behind : (result : Result (Option ClockPart) Exit) (a b c : Option (List ℕ)) → Keeps a b → IfOk result (λ found. IfSome found (SaysNext b c))
    → IfOk result (λ found. IfSome found (SaysNext a c))
said_behind (Err exit) a b c kept h = tt
said_behind (Ok None) a b c kept h = tt
said_behind (Ok (Some part)) a b c kept h = next_behind part a b c kept h

pub ends_behind : (result : Result (Option ClockPart) Exit) (a b : Option (List ℕ)) → Keeps a b → IfOk result (λ found. IfNone found (IfSome b EndsCut))
    → IfOk result (λ found. IfNone found (IfSome a EndsCut))
ends_behind (Err exit) a b kept h = tt
ends_behind (Ok (Some part)) a b kept h = tt
ends_behind (Ok None) a b kept h = if_kept EndsCut a b kept h

less : (a b c : ℕ) → a < b → b ≤ c → a < c
less a b c h k = omega (arith, h, k)

pub fewer_behind : (result : Result (Option ClockPart) Exit) (new mid old : ℕ) → mid ≤ old → IfOk result (λ found. IfSome found (λ part. new < mid))
    → IfOk result (λ found. IfSome found (λ part. new < old))
fewer_behind (Err exit) new mid old most h = tt
fewer_behind (Ok None) new mid old most h = tt
fewer_behind (Ok (Some part)) new mid old most h = less new mid old h most

-- ---- parts

pub none_so_far : (lines : Reading) (events : Option (List ℕ)) (zones : List Zone) → lines ≡ unread → IsSoFar events zones zones None (pending lines events)
none_so_far lines events zones fresh = record {
  parts = [];
  says = ap (λ (l : Reading). pending l events) fresh;
  added = sym (append-nil zones);
  set_is = refl;
}

pub so_far_more : (events rest after : Option (List ℕ)) (old zones more : List Zone) (set later : Option ℤ) (part : ClockPart) → IsSoFar events old zones set rest
    → SaysNext rest after part → more ≡ zones ++ zone_begun set part → later ≡ set_behind part → IsSoFar events old more later after
so_far_more events rest after old zones more set later part s says added is = record {
  parts = part ∷ s.parts;
  says = record { between = rest; earlier = s.says; newest = says };
  added =
      added
      ∙ ap (λ (x : Option ℤ). zones ++ zone_begun x part) s.set_is
      ∙ ap (λ (l : List Zone). l ++ zone_begun (set_by s.parts) part) s.added
      ∙ append_assoc old (zones_by s.parts) (zone_begun (set_by s.parts) part);
  set_is = is;
}

pub all_so_far : (events rest : Option (List ℕ)) (old zones : List Zone) (set : Option ℤ) → IsSoFar events old zones set rest → IfSome rest EndsCut
    → AddsZones events old zones
all_so_far events rest old zones set s ends = record {
  own = zones_by s.parts;
  has = record { parts = s.parts; rest = rest; says = s.says; ends = ends; begun = refl };
  added = s.added;
}

-- ---- records

pub added_some : (events : Option (List ℕ)) (old new : List Zone) → AddsZones events old new → AddsSome old new
added_some events old new h = record { events = events; adds = h }

pub one_more : (count : ℕ) (earlier zones : List Zone) → HasZonesOf count earlier → AddsSome earlier zones → HasZonesOf (count + 1) zones
one_more count earlier zones has adds =
    let same : count + 1 ≡ suc count = omega arith in
    let more : HasZonesOf (suc count) zones = record { earlier = earlier; has = has; adds = adds } in
    rw same more
