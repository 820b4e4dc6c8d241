-- What the words of a command line choose.
use Rattle.std.specs.Prelude.{◌≡◌, ℕ, Bool, if◌then◌else◌, List, Option, None, Some, option_map, string_bytes}
use Rattle.std.specs.Option.{option_and_then}
use Rattle.sip_uri.specs.Addresses.{ip_of}
use Rattle.sipd_arguments.specs.declared.call.ChosenCalls.{ChosenCalls}
use Rattle.sipd_arguments.specs.declared.call.ChosenSources.{ChosenSources}
use Rattle.sipd_calls.specs.declared.choice.CallFilter.{CallFilter}
use Rattle.sipd_calls.specs.declared.notation.Notation.{Notation}
use Rattle.sipd_calls.specs.declared.notation.Notation.TheVariants.{Csv, Json}
use Rattle.sipd_sources.specs.declared.filter.SourceFilter.{SourceFilter}
use Rattle.sipd_report.specs.Said.{time_in}

-- how something is written; none is a table
abbrev pub form_of : Bool → Bool → Option Notation
form_of csv json = if csv then Some Csv else if json then Some Json else None

-- which calls are asked for
pub record IsChoice (chosen : ChosenCalls) (choice : CallFilter) : Type 0 where
  pub since : choice.since ≡ time_in (option_map string_bytes chosen.since)
  pub until : choice.until ≡ time_in (option_map string_bytes chosen.until)
  pub user : option_map (λ name. name.now) choice.user ≡ option_map string_bytes chosen.user
  pub target : option_map (λ text. text.now) choice.target ≡ option_map string_bytes chosen.target
  pub from : option_map (λ text. text.now) choice.from ≡ option_map string_bytes chosen.from
  pub challenged : choice.challenged ≡ chosen.challenged

-- the address that is said, if one is
abbrev pub address_in : Option (List ℕ) → Option (List ℕ)
address_in said = option_and_then ip_of said

-- which datagrams are to be counted
pub record IsFilter (chosen : ChosenSources) (filter : SourceFilter) : Type 0 where
  pub since : filter.since ≡ time_in (option_map string_bytes chosen.since)
  pub until : filter.until ≡ time_in (option_map string_bytes chosen.until)
  pub from : filter.from ≡ address_in (option_map string_bytes chosen.from)
