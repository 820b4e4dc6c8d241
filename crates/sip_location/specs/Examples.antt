-- Bindings and registrations of the worked examples.
use Rattle.std.specs.Prelude.{ℕ, List, [], ◌∷◌, map, codes, Some, Result}
use Rattle.std.specs.Result.{result_map_both}
use Rattle.sip_uri.specs.declared.aor.Aor.{Aor}
use Rattle.sip_uri.specs.declared.uri.Uri.{Uri}
use Rattle.sip_uri.specs.Examples.{user_at, bob, carol_secured, carol_unsecured}
use Rattle.sip_header.specs.declared.expires.Expires.TheVariants.{Absent, Seconds}
use Rattle.sip_header.specs.declared.name_addr.AnyUri.TheVariants.{Sip, Other}
use Rattle.sip_header.specs.declared.contact_item.ContactItem.{ContactItem}
use Rattle.sip_header.specs.declared.contact_item.ContactItem.TheVariants.{Star, Address}
use Rattle.sip_location.specs.declared.binding.Binding.{Binding}
use Rattle.sip_location.specs.declared.error.LocationError.{LocationError}
use Rattle.sip_location.specs.declared.registration.Registration.{Registration}
use Rattle.sip_location.specs.Binding.{live, contacts_of, seconds_left}
use Rattle.sip_location.specs.Registration.{registered}

-- the address of record Mufasa@host.com
abbrev pub mufasa : Aor
mufasa = record { user = codes "Mufasa"; host = codes "host.com" }

-- the address of record alice@host.com
abbrev pub alice : Aor
alice = record { user = codes "alice"; host = codes "host.com" }

-- `sip:Mufasa@127.0.0.1`
abbrev pub first_contact : Uri
first_contact = user_at (codes "Mufasa") (codes "127.0.0.1")

-- `sip:Mufasa@127.0.0.2`
abbrev pub second_contact : Uri
second_contact = user_at (codes "Mufasa") (codes "127.0.0.2")

-- a binding of Mufasa's that a REGISTER made, live until 3,601,000
abbrev pub binding_by : List ℕ → ℕ → Uri → Binding
binding_by call_id cseq uri = record { aor = mufasa; uri = uri; call_id = call_id; cseq = cseq; expires_at = 3601000 }

-- one by the Call-ID c1 and CSeq 2, one by c9 and 5, and one of another address of record
abbrev pub two_bindings : List Binding
two_bindings =
    binding_by (codes "c1") 2 first_contact
    ∷ binding_by (codes "c9") 5 second_contact
    ∷ record (binding_by (codes "c1") 9 first_contact) { aor = alice }
    ∷ []

-- what a REGISTER for Mufasa's address of record asks, without Expires
abbrev pub asking : List ℕ → ℕ → List ContactItem → Registration
asking call_id cseq contacts = record { aor = mufasa; contacts = contacts; expires = Absent; call_id = call_id; cseq = cseq }

-- a contact without parameters
abbrev pub contact_alone : Uri → ContactItem
contact_alone uri = Address (record { uri = Sip uri; parameters = [] })

-- a contact whose `expires` parameter has this value
abbrev pub contact_for : List ℕ → ContactItem
contact_for value = Address (record { uri = Sip first_contact; parameters = record { name = codes "expires"; value = Some value } ∷ [] })

-- a contact of another scheme for 30 seconds
abbrev pub other_contact : ContactItem
other_contact = Address (record { uri = Other (codes "tel:+1"); parameters = record { name = codes "expires"; value = Some (codes "30") } ∷ [] })

-- the contacts of Mufasa's live bindings after a REGISTER at 1,000
abbrev pub contacts_after : List Binding → Registration → Result (List Uri) LocationError
contacts_after rows r = result_map_both (λ after. contacts_of after 1000 mufasa) (λ e. e) (registered rows r 1000)

-- the seconds that each of these has left
abbrev pub seconds_after : List Binding → Registration → Result (List ℕ) LocationError
seconds_after rows r = result_map_both (λ after. map (seconds_left 1000) (live mufasa 1000 after)) (λ e. e) (registered rows r 1000)

-- a REGISTER in c1 that removes every binding
abbrev pub removing_all : ℕ → Registration
removing_all cseq = record { aor = mufasa; contacts = Star ∷ []; expires = Seconds 0; call_id = codes "c1"; cseq = cseq }

-- bindings of two contacts that differ and both equal `sip:carol@chicago.com`, then of another
abbrev pub carols_bindings : List Binding
carols_bindings =
    binding_by (codes "c1") 2 carol_secured
    ∷ binding_by (codes "c1") 2 carol_unsecured
    ∷ binding_by (codes "c1") 2 bob
    ∷ []

-- the contacts `sip:Mufasa@a` to `sip:Mufasa@p`
abbrev pub sixteen_contacts : List Uri
sixteen_contacts = map (λ letter. user_at (codes "Mufasa") (letter ∷ [])) (codes "abcdefghijklmnop")

abbrev pub sixteen_bindings : List Binding
sixteen_bindings = map (binding_by (codes "c1") 1) sixteen_contacts

-- the live bindings of an address of record at a moment, after a REGISTER at 1,000
abbrev pub live_after : Aor → ℕ → List Binding → Registration → Result (List Binding) LocationError
live_after aor moment rows r = result_map_both (λ after. live aor moment after) (λ e. e) (registered rows r 1000)

-- a binding of alice's
abbrev pub alices_binding : Uri → ℕ → Binding
alices_binding uri expires_at = record { aor = alice; uri = uri; call_id = codes "c7"; cseq = 4; expires_at = expires_at }

-- Mufasa's two bindings between two of alice's, of which the first expires at 1,000
abbrev pub beside_alice : List Binding
beside_alice =
    alices_binding second_contact 1000
    ∷ binding_by (codes "c1") 2 first_contact
    ∷ binding_by (codes "c9") 5 second_contact
    ∷ alices_binding first_contact 3601000
    ∷ []
