-- A link that hears no more of a source than its allowance.
use Rattle.std.specs.Prelude.{◌≡◌, ◌≤◌, ◌<◌, nat_lt, ℕ, zero, suc, Bool, true, false, not, ◌||◌, max, List, [], ◌∷◌, length, if◌then◌else◌, Option, Some, None}
use Rattle.std.specs.Prelude.{option_map, option_and_then, Result, Ok, Err, ◌⊎◌}
use Rattle.std.specs.List.{list_all, list_any}
use Rattle.sip_transport.specs.Told.{counted, heard_of, and_then, and_counted, left_of}
use Rattle.sip_transport.specs.declared.datagram.Instead.{Instead}
use Rattle.sip_transport.specs.declared.datagram.Instead.TheVariants.{AskedAgain, HeardNothing}
use Rattle.sip_transport.specs.declared.datagram.Given.{Given}
use Rattle.sip_transport.specs.declared.datagram.HeardDatagram.{HeardDatagram}
use Rattle.sip_transport.specs.declared.datagram.LinkFault.{LinkFault}
use Rattle.sip_uri.specs.declared.addr.Addr.{Addr}
use Rattle.sip_base.specs.KeyedHasher.{fed_first}
use Rattle.sip_guard.specs.Allowance.{admits}
use Rattle.sip_guard.specs.Limits.{limit_of}
use Rattle.sip_guard.specs.Sources.{SourceTable, no_sources, AreFew, same_ip, used_of, IsCharged}
use Rattle.sip_guard.specs.Unheard.{UnheardCounts, most_sources, none_unheard, noted}
use Rattle.sip_guard.specs.declared.limit.Limit.{Limit}

-- what is kept of the sources: their limit, the IP addresses that are heard always, the latest moment that is known, their numbers,
-- and how much of whom wasn't handed on
pub record AllowanceState : Type 0 where
  pub limit : Limit
  pub always : List (List ℕ)
  pub present : ℕ
  pub sources : SourceTable
  pub unheard : UnheardCounts

-- what a link tells: what it heard, set aside, was given and was let wait, where it tells that, what it holds, how often it was asked for a
-- datagram, and how often that failed
pub record LinkState : Type 0 where
  pub heard : Option (List (Option HeardDatagram))
  pub fresh : Bool
  pub aside : Option (List HeardDatagram)
  pub given : Option (List Given)
  pub held : List ℕ
  pub waits : Option (List ℕ)
  pub receives : ℕ
  pub failures : ℕ

-- by what each of these is
abbrev pub link_told : Option (List (Option HeardDatagram)) → Bool → Option (List HeardDatagram) → Option (List Given) → List ℕ → Option (List ℕ) → ℕ → ℕ → LinkState
link_told heard fresh aside given held waits receives failures =
    record { heard = heard; fresh = fresh; aside = aside; given = given; held = held; waits = waits; receives = receives; failures = failures }

-- what a guard is seen as: what it keeps where there is a limit; what the link under it tells, and its clock; how often it was
-- asked for a datagram itself, and how often that failed; and of whom the datagram is that it handed on last
pub record GuardState : Type 0 where
  pub allowances : Option AllowanceState
  pub link : LinkState
  pub readings : Option (List ℕ)
  pub receives : ℕ
  pub failures : ℕ
  pub last : Option Addr

-- no more of all this is kept than there is room for
abbrev pub IsBounded : AllowanceState → Type 0
IsBounded allowances = AreFew allowances.sources × (length allowances.unheard.sources ≤ most_sources)

-- what is kept at first, under a secret of these keys
abbrev pub allowances_of : ℕ → List (List ℕ) → Limit → AllowanceState
allowances_of keys always limit = record { limit = limit; always = always; present = 0; sources = no_sources (fed_first keys); unheard = none_unheard }

-- a guard that hears so many datagrams a second from one address, where that is said, and some IP addresses always, and that wasn't asked
-- yet; what it keeps of addresses is hashed under a secret of these keys
abbrev pub guard_over : ℕ → List (List ℕ) → Option ℕ → LinkState → Option (List ℕ) → GuardState
guard_over keys always per_source link readings = record {
  allowances = option_map (allowances_of keys always) (option_and_then limit_of per_source);
  link = link;
  readings = readings;
  receives = 0;
  failures = 0;
  last = None;
}

-- the same with nothing unheard
abbrev pub told_all : AllowanceState → AllowanceState
told_all allowances = record allowances { unheard = none_unheard }

-- the same, hearing these IP addresses always, and no others
abbrev pub hearing : List (List ℕ) → AllowanceState → AllowanceState
hearing always allowances = record allowances { always = always }

-- the same at a reading, unless that is earlier than the latest moment
abbrev pub reached : AllowanceState → ℕ → AllowanceState
reached allowances reading = record allowances { present = max allowances.present reading }

-- whether an IP address is among these
abbrev pub is_among : List (List ℕ) → List ℕ → Bool
is_among always ip = list_any (λ other. same_ip other ip) always

-- whether a datagram of a source is handed on at the latest moment: the source is heard always, or it is within its allowance
abbrev pub is_within : AllowanceState → List ℕ → Bool
is_within allowances ip = is_among allowances.always ip || admits allowances.limit (used_of ip allowances.sources) allowances.present

-- a datagram of a source was handed on: nothing changes where that is heard always, else it is charged
abbrev pub IsAdmitted : AllowanceState → List ℕ → AllowanceState → Type 0
IsAdmitted old ip new = (is_among old.always ip ≡ true → new ≡ old)
    × (is_among old.always ip ≡ false → (new ≡ record old { sources = new.sources }) × IsCharged old.limit old.present ip old.sources new.sources)

-- what a link tells when it set aside these datagrams too, the newest first
abbrev pub and_passed : Option (List HeardDatagram) → List HeardDatagram → Option (List HeardDatagram)
and_passed told [] = told
and_passed told (datagram ∷ before) = and_then (and_passed told before) datagram

-- what isn't handed on, with these datagrams too, the newest first
abbrev pub noted_all : UnheardCounts → List HeardDatagram → UnheardCounts
noted_all unheard [] = unheard
noted_all unheard (datagram ∷ before) = noted (noted_all unheard before) datagram.from.ip

-- a number counted up so often
abbrev pub counted_times : ℕ → ℕ → ℕ
counted_times zero number = number
counted_times (suc n) number = counted (counted_times n number)

-- how many datagrams in a row are passed over at most
abbrev pub most_passed : ℕ
most_passed = 64

-- what becomes of the receive that heard the last of so many: the link is asked again, unless they are as many as may be
abbrev pub instead_behind : ℕ → Instead
instead_behind count = if nat_lt count most_passed then AskedAgain else HeardNothing

-- The link heard so many datagrams, each beyond the allowance of its source, which isn't heard always; they were counted, set aside and not
-- handed on, so that the link heard what it had heard before, or nothing behind the last of as many as are passed over at most. The newest first.
pub record PassesOver (old new : AllowanceState) (before after : LinkState) (count : ℕ) : Type 0 where
  pub passed : List HeardDatagram
  pub number : length passed ≡ count
  pub told : after.heard ≡ left_of (instead_behind count) before.heard
  pub aside : after.aside ≡ and_passed before.aside passed
  pub given : after.given ≡ before.given
  pub waits : after.waits ≡ before.waits
  pub asked : after.receives ≡ counted_times count before.receives
  pub whole : after.failures ≡ before.failures
  pub beyond : list_all (λ datagram. not (is_within old datagram.from.ip)) passed ≡ true
  pub noted : new ≡ record old { unheard = noted_all old.unheard passed }

-- a receive of a link: what it answers is what it heard, and if it failed, nothing
abbrev pub Receives : LinkState → LinkState → Result (Option Addr) LinkFault → Type 0
Receives before after (Ok from) = (after.aside ≡ before.aside) × (after.heard ≡ and_then before.heard (heard_of from after.held)) × (after.given ≡ before.given)
    × (after.waits ≡ before.waits)
    × (after.receives ≡ counted before.receives) × (after.failures ≡ before.failures)
Receives before after (Err fault) = (after.aside ≡ before.aside) × (after.heard ≡ before.heard) × (after.given ≡ before.given) × (after.waits ≡ before.waits)
    × (after.receives ≡ counted before.receives) × (after.failures ≡ counted before.failures)

-- of whom the datagram is that a receive answers
abbrev pub handed_on : Result (Option Addr) LinkFault → Option Addr
handed_on (Ok from) = from
handed_on (Err fault) = None

-- what becomes of the allowances behind what a receive answers: a datagram's source is heard always, or it was within its allowance
abbrev pub Answers : AllowanceState → AllowanceState → Result (Option Addr) LinkFault → Type 0
Answers old new (Ok (Some from)) = (is_within old from.ip ≡ true) × IsAdmitted old from.ip new
Answers old new (Ok None) = new ≡ old
Answers old new (Err fault) = new ≡ old

-- a receive under a limit: some datagrams are passed over; then the link's next answer is handed on, or nothing, once that many
-- were passed over
pub record Hears (old new : AllowanceState) (before after : LinkState) (result : Result (Option Addr) LinkFault) : Type 0 where
  pub between : AllowanceState
  pub link : LinkState
  pub count : ℕ
  pub passes : PassesOver old between before link count
  pub answers : Answers between new result
  pub ends : ((count < most_passed) × Receives link after result) ⊎ ((count ≡ most_passed) × (result ≡ Ok None) × (after ≡ link))

-- a receive of a guard with a limit: its clock is read once
pub record HearsWithin (allowances : AllowanceState) (old new : GuardState) (result : Result (Option Addr) LinkFault) : Type 0 where
  pub reading : ℕ
  pub behind : AllowanceState
  pub read : new.readings ≡ and_counted old.readings reading
  pub kept : new.allowances ≡ Some behind
  pub hears : Hears (reached allowances reading) behind old.link new.link result

-- a receive of a guard without a limit is one of the link
pub record HearsAll (old new : GuardState) (result : Result (Option Addr) LinkFault) : Type 0 where
  pub read : new.readings ≡ old.readings
  pub kept : new.allowances ≡ None
  pub hears : Receives old.link new.link result

-- a receive of a guard
abbrev pub Guards : Option AllowanceState → GuardState → GuardState → Result (Option Addr) LinkFault → Type 0
Guards None old new result = HearsAll old new result
Guards (Some allowances) old new result = HearsWithin allowances old new result
