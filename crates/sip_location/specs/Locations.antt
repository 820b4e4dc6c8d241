-- What a registrar keeps, and what it plans for a REGISTER (RFC 3261 10.3).
use Rattle.std.specs.Prelude.{◌≡◌, ◌⊎◌, ℕ, List, filter, Err, IsOk}
use Rattle.sip_uri.specs.declared.aor.Aor.{Aor}
use Rattle.sip_location.specs.declared.binding.Binding.{Binding}
use Rattle.sip_location.specs.declared.error.LocationError.{LocationError}
use Rattle.sip_location.specs.declared.error.LocationError.TheVariants.{NoMemory}
use Rattle.sip_location.specs.declared.registration.Registration.{Registration}
use Rattle.sip_location.specs.Binding.{is_of}
use Rattle.sip_location.specs.Registration.{edited, registered}

-- the bindings of all addresses of record, and for how many further addresses there is room without memory
pub record LocationService : Type 0 where
  pub rows : List Binding
  pub room : ℕ

-- the bindings that an address of record is to have
pub record Planned : Type 0 where
  pub aor : Aor
  pub bindings : List Binding

-- the bindings of an address of record, live or not, in their order
abbrev pub of_aor : Aor → List Binding → List Binding
of_aor aor rows = filter (is_of aor) rows

-- a REGISTER that isn't refused gives its address of record the edited list
abbrev pub IsPlan : List Binding → Registration → ℕ → Planned → Type 0
IsPlan rows r now plan = IsOk (registered rows r now) × (plan.aor ≡ r.aor) × (plan.bindings ≡ edited rows r now)

-- memory ran out, or the REGISTER is refused so
abbrev pub IsRefusal : List Binding → Registration → ℕ → LocationError → Type 0
IsRefusal rows r now e = (e ≡ NoMemory) ⊎ (registered rows r now ≡ Err e)
