-- What an address did, by its own datagrams alone.
use Rattle.std.specs.Prelude.{◌≡◌, ◌<◌, ℕ, suc, Bool, false, ◌&&◌, if◌then◌else◌, List, [], ◌∷◌, length, count_by, Option, None, Some}
use Rattle.std.specs.List.{AllByRecursion, flat_map, list_any}
use Rattle.std.specs.Map.{lookup}
use Rattle.std.specs.Option.{option_to_list}
use Rattle.std.specs.Ordering.{nat_cmp}
use Rattle.std.specs.Str.{bytes_eq}
use Rattle.std.specs.BTreeMap.{is_at}
use Rattle.sip_event.specs.declared.event.Event.{Event}
use Rattle.sip_event.specs.declared.event.Event.TheVariants.{Datagram, Time, Fault}
use Rattle.sip_event.specs.declared.event.StepOut.{StepOut}
use Rattle.sip_listener.specs.Heard.{Heard}
use Rattle.sipd_report.specs.Totals.{capped}
use Rattle.sipd_sources.specs.declared.asked.Asked.{Asked}
use Rattle.sipd_sources.specs.declared.filter.SourceFilter.{SourceFilter}
use Rattle.sipd_sources.specs.declared.source.Source.{Source}
use Rattle.sipd_sources.specs.declared.source.SourceMoment.{SourceMoment}
use Rattle.sipd_sources.specs.Asked.{asked_with, nothing}
use Rattle.sipd_sources.specs.Filter.{takes}
use Rattle.sipd_sources.specs.Source.{number_of}
use Rattle.sipd_sources.specs.Told.{Known, moment_of}

-- ---- whose datagrams

-- four bytes
abbrev pub IsAddress : List ℕ → Type 0
IsAddress ip = (length ip ≡ 4) × AllByRecursion (λ b. b < 256) ip

-- an event's datagram came from an address, if it is one
abbrev pub HasAddress : Option Event → Type 0
HasAddress None = Unit {0}
HasAddress (Some (Datagram at word from bytes)) = IsAddress from.ip
HasAddress (Some (Time at)) = Unit {0}
HasAddress (Some (Fault at ticket)) = Unit {0}

-- so did each of a day
abbrev pub HaveAddresses : List Heard → Type 0
HaveAddresses day = AllByRecursion (λ (step : Heard). HasAddress step.event) day

-- whether an event at a moment is a datagram of an address, and counts
abbrev pub counts_for : SourceFilter → List ℕ → SourceMoment → Option Event → Bool
counts_for chosen ip moment None = false
counts_for chosen ip moment (Some (Datagram at word from bytes)) = takes chosen moment from.ip && bytes_eq from.ip ip
counts_for chosen ip moment (Some (Time at)) = false
counts_for chosen ip moment (Some (Fault at ticket)) = false

abbrev pub moment_in : Heard → SourceMoment
moment_in step = moment_of step.config step.out

-- whether a step's datagram is
abbrev pub is_own : SourceFilter → List ℕ → Heard → Bool
is_own chosen ip step = counts_for chosen ip (moment_in step) step.event

-- ---- what they asked for

abbrev pub asked_for : List ℕ → Option Event → StepOut → Asked
asked_for realm None out = nothing
asked_for realm (Some (Datagram at word from bytes)) out = asked_with realm bytes out.packets out.records
asked_for realm (Some (Time at)) out = nothing
asked_for realm (Some (Fault at ticket)) out = nothing

-- what came of a step's datagram
abbrev pub asked_in : Heard → Asked
asked_in step = asked_for step.config.realm step.event step.out

-- the names that some datagrams tried, one for each that tried one
abbrev pub names_tried : List Heard → List (List ℕ)
names_tried own = flat_map (λ (step : Heard). option_to_list (asked_in step).name) own

-- how many different ones are among some
abbrev pub different : List (List ℕ) → ℕ
different [] = 0
different (text ∷ texts) = if list_any (bytes_eq text) texts then different texts else suc (different texts)

-- ---- what is told of an address

-- the moments of the first and of the last of some steps
abbrev pub first_moment : SourceMoment → List Heard → SourceMoment
first_moment none [] = none
first_moment none (step ∷ later) = moment_in step

abbrev pub last_moment : SourceMoment → List Heard → SourceMoment
last_moment none [] = none
last_moment none (step ∷ later) = last_moment (moment_in step) later

-- how many of its datagrams there are, were challenged, proved a user, and gave a wrong credential, and how many different names they tried; a
-- count stays at the greatest that a u64 holds
abbrev pub counts_of : List ℕ → SourceMoment → List Heard → Source
counts_of ip none own = record {
  ip = ip;
  heard = capped (length own);
  challenged = capped (count_by (λ (step : Heard). (asked_in step).challenged) own);
  proven = capped (count_by (λ (step : Heard). (asked_in step).proven) own);
  wrong = capped (count_by (λ (step : Heard). (asked_in step).wrong) own);
  names = capped (different (names_tried own));
  first = first_moment none own;
  last = last_moment none own;
}

-- what is told of an address by its own datagrams: nothing, where there are none
abbrev pub source_by : List ℕ → List Heard → Option Source
source_by ip [] = None
source_by ip (step ∷ later) = Some (counts_of ip (moment_in step) (step ∷ later))

-- what is known of it
abbrev pub source_in : List ℕ → Known → Option Source
source_in ip known = lookup (is_at (nat_cmp (number_of ip))) known.rows
