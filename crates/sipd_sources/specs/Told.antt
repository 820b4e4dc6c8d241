-- The addresses of a day, as the steps say that are told of its record.
use Rattle.std.specs.Prelude.{◌≡◌, ℕ, Bool, false, not, if◌then◌else◌, List, [], ◌∷◌, ◌++◌, map, unwrap_or, Vec, Option, None, Some}
use Rattle.std.specs.List.{list_any}
use Rattle.std.specs.Map.{lookup}
use Rattle.std.specs.Ordering.{nat_cmp}
use Rattle.std.specs.Cmp.Lexicographic.{slice_cmp}
use Rattle.std.specs.BTreeMap.{insert_entry, is_at}
use Rattle.std.specs.BTreeSet.{insert_key}
use Rattle.sip_config_types.specs.declared.config.Config.{Config}
use Rattle.sip_event.specs.declared.event.Event.{Event}
use Rattle.sip_event.specs.declared.event.Event.TheVariants.{Datagram, Time, Fault}
use Rattle.sip_event.specs.declared.event.StepOut.{StepOut}
use Rattle.sip_listener.specs.Heard.{Heard}
use Rattle.sipd_sources.specs.declared.asked.Asked.{Asked}
use Rattle.sipd_sources.specs.declared.filter.SourceFilter.{SourceFilter}
use Rattle.sipd_sources.specs.declared.source.Mark.{Mark}
use Rattle.sipd_sources.specs.declared.source.Source.{Source}
use Rattle.sipd_sources.specs.declared.source.SourceMoment.{SourceMoment}
use Rattle.sipd_sources.specs.Asked.{asked_with}
use Rattle.sipd_sources.specs.Filter.{takes}
use Rattle.sipd_sources.specs.Source.{heard_more, number_of, silent}

-- What is known of a day: which of its datagrams are counted; the addresses from which these came, each behind its number, in the order of the
-- numbers; and the names that were tried, each behind the bytes of its address, in the order of these texts.
pub record Known : Type 0 where
  pub filter : SourceFilter
  pub rows : List (ℕ × Source)
  pub tried : List (List ℕ)

abbrev pub held : SourceFilter → List (ℕ × Source) → List (List ℕ) → Known
held filter rows tried = record { filter = filter; rows = rows; tried = tried }

-- nothing yet
abbrev pub none : SourceFilter → Known
none filter = held filter [] []

-- ---- an address

-- what is known of it; of a new one nothing
abbrev pub known_of : List ℕ → SourceMoment → List (ℕ × Source) → Source
known_of ip moment rows = unwrap_or (lookup (is_at (nat_cmp (number_of ip))) rows) (silent ip moment)

-- the addresses, with one more datagram from there; a new address goes to its place in the order
abbrev pub rows_with : List ℕ → SourceMoment → Mark → List (ℕ × Source) → List (ℕ × Source)
rows_with ip moment mark rows = insert_entry nat_cmp rows (number_of ip) (heard_more moment mark (known_of ip moment rows))

-- ---- names

-- whether a text isn't among some
abbrev pub is_new : List ℕ → List (List ℕ) → Bool
is_new text texts = not (list_any (is_at (slice_cmp nat_cmp text)) texts)

-- these with one more, at its place in the order, unless it is among them
abbrev pub with_text : List ℕ → List (List ℕ) → List (List ℕ)
with_text text texts = insert_key (slice_cmp nat_cmp) texts text

-- whether a name, if there is one, wasn't tried from an address before
abbrev pub tries_new : List ℕ → Option (List ℕ) → List (List ℕ) → Bool
tries_new ip None tried = false
tries_new ip (Some name) tried = is_new (ip ++ name) tried

abbrev pub tried_with : List ℕ → Option (List ℕ) → List (List ℕ) → List (List ℕ)
tried_with ip None tried = tried
tried_with ip (Some name) tried = with_text (ip ++ name) tried

-- ---- a step

-- what a datagram from an address adds to that
abbrev pub mark_of : List ℕ → Asked → List (List ℕ) → Mark
mark_of ip asked tried = record {
  challenged = asked.challenged;
  proven = asked.proven;
  wrong = asked.wrong;
  is_new = tries_new ip asked.name tried;
}

abbrev pub asks_at : List ℕ → SourceMoment → Asked → Known → Known
asks_at ip moment asked old = held old.filter (rows_with ip moment (mark_of ip asked old.tried) old.rows) (tried_with ip asked.name old.tried)

-- when a step was, and on which clock of the office
abbrev pub moment_of : Config → StepOut → SourceMoment
moment_of config out = record { at = out.at; offset = config.offset }

-- a datagram from an address, if it is counted
abbrev pub heard_from : Config → StepOut → List ℕ → List ℕ → Known → Known
heard_from config out ip bytes old =
    if takes old.filter (moment_of config out) ip
    then asks_at ip (moment_of config out) (asked_with config.realm bytes out.packets out.records) old
    else old

abbrev pub heard_by : Config → StepOut → Event → Known → Known
heard_by config out (Datagram at word from bytes) old = heard_from config out from.ip bytes old
heard_by config out (Time at) old = old
heard_by config out (Fault at ticket) old = old

abbrev pub known_by : Config → StepOut → Option Event → Known → Known
known_by config out None old = old
known_by config out (Some event) old = heard_by config out event old

-- what is known behind a step
abbrev pub known_with : Heard → Known → Known
known_with step old = known_by step.config step.out step.event old

-- it hears a step
abbrev pub adds_sources : Known → Heard → Known → Type 0
adds_sources old step new = new ≡ known_with step old

-- behind the steps of a day
abbrev pub known_behind : Known → List Heard → Known
known_behind known [] = known
known_behind known (step ∷ later) = known_behind (known_with step known) later

-- The addresses of a day: what each did from which datagrams came that are counted.
abbrev pub sources_of : SourceFilter → List Heard → Known
sources_of filter day = known_behind (none filter) day

-- ---- inside

-- the texts of a set
abbrev pub names_in : {A : Type 0} → List (Vec ℕ A) → List (List ℕ)
names_in keys = map (λ v. v.items) keys
