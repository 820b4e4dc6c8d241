-- Bindings of addresses of record to contacts (RFC 3261 10.3).
use Rattle.std.specs.Prelude.{ℕ, ◌+◌, ◌-◌, ◌/◌, Bool, ◌&&◌, not, nat_lt, List, [], ◌∷◌, map, filter, if◌then◌else◌}
use Rattle.sip_uri.specs.declared.aor.Aor.{Aor}
use Rattle.sip_uri.specs.declared.uri.Uri.{Uri}
use Rattle.sip_uri.specs.Aor.{is_same_aor}
use Rattle.sip_uri_equality.specs.Equality.{same}
use Rattle.sip_location.specs.declared.binding.Binding.{Binding}

-- a binding is live while its expiry is above the moment (RFC 3261 10.3: expiration)
abbrev pub is_live : ℕ → Binding → Bool
is_live now b = nat_lt now b.expires_at

-- a binding of an address of record
abbrev pub is_of : Aor → Binding → Bool
is_of aor b = is_same_aor b.aor aor

-- the live bindings of an address of record, in their order
abbrev pub live : Aor → ℕ → List Binding → List Binding
live aor now rows = filter (λ b. is_of aor b && is_live now b) rows

-- the contacts of the live bindings of an address of record, in their order
abbrev pub contacts_of : List Binding → ℕ → Aor → List Uri
contacts_of rows now aor = map (λ b. b.uri) (live aor now rows)

-- the bindings of every other address of record, live or not
abbrev pub of_others : Aor → List Binding → List Binding
of_others aor rows = filter (λ b. not (is_of aor b)) rows

-- the bindings whose contact isn't equal to a URI (RFC 3261 19.1.4)
abbrev pub without_contact : Uri → List Binding → List Binding
without_contact uri bindings = filter (λ b. not (same b.uri uri)) bindings

-- A binding replaces every one whose contact is equal to its own. It takes the place of the first of these, or goes last.
abbrev pub put : Binding → List Binding → List Binding
put binding [] = binding ∷ []
put binding (b ∷ bs) = if same b.uri binding.uri then binding ∷ without_contact binding.uri bs else b ∷ put binding bs

-- the seconds that a binding has left, rounded up: what a 200 lists (RFC 3261 10.3 step 8)
abbrev pub seconds_left : ℕ → Binding → ℕ
seconds_left now b = (b.expires_at - now + 999) / 1000
