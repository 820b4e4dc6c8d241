-- Bindings, and a REGISTER of one user for another.
use Rattle.std.specs.Prelude.{ℕ, List, [], ◌∷◌, ◌++◌, codes, Option, option_map}
use Rattle.std.specs.Result.{result_ok}
use Rattle.sip_uri.specs.declared.aor.Aor.{Aor}
use Rattle.sip_uri.specs.declared.uri.Uri.{Uri}
use Rattle.sip_uri.specs.Examples.{user_at}
use Rattle.sip_message_fields.specs.declared.field_name.FieldName.TheVariants as Name
use Rattle.sip_header.specs.CoreFields.{core_in}
use Rattle.sip_header.specs.FieldExamples.{fields_of}
use Rattle.sip_location.specs.declared.binding.Binding.{Binding}
use Rattle.sip_location.specs.Examples.{binding_by, first_contact}
use Rattle.sip_location.specs.Registering.{to_aor}

-- a binding of Mufasa's that lives until a moment
abbrev pub until : ℕ → Binding
until expires_at = record (binding_by (codes "c1") 2 first_contact) { expires_at = expires_at }

-- the first of the sixteen contacts
abbrev pub first_of_sixteen : Uri
first_of_sixteen = user_at (codes "Mufasa") (codes "a")

-- the address of record that a REGISTER with this From and To is for
abbrev pub registering_for : List ℕ → List ℕ → Option Aor
registering_for from to =
    option_map (λ core. to_aor core) (result_ok (core_in (fields_of Name.From (from ∷ []) ++ fields_of Name.To (to ∷ [])
    ++ fields_of Name.CallId (codes "c1" ∷ []) ++ fields_of Name.CSeq (codes "1 REGISTER" ∷ []))))
