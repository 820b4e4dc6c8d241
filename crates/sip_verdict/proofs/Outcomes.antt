-- What a registration comes to.
use Rattle.std.proofs.Common.{◌≡◌, ◌≢◌, ◌∙◌, ℕ, Bool, List, Ok, Err, inl, inr, sym, ap, subst}
use Rattle.sip_message_fields.specs.declared.field.Field.{Field}
use Rattle.sip_message_form.specs.declared.message.Message.{Message}
use Rattle.sip_header.specs.declared.core_fields.CoreFields.{CoreFields}
use Rattle.sip_location.specs.Registering.{registration_of, to_aor}
use Rattle.std.specs.Prelude.{◌&&◌, Option, Result, IfOk, OnOk}
use Rattle.std.specs.declared.alloc.AllocError.{AllocError}
use Rattle.sip_location.specs.declared.binding.Binding.{Binding}
use Rattle.sip_location.specs.declared.error.LocationError.{LocationError}
use Rattle.sip_location.specs.declared.error.LocationError.TheVariants.{NoMemory}
use Rattle.sip_location.specs.declared.registration.Registration.{Registration}
use Rattle.sip_location.specs.Locations.{IsRefusal}
use Rattle.sip_location.specs.Registration.{registered}
use Rattle.sip_policy.specs.User.{is_users_address}
use Rattle.model_verdict.specs.state.declared.server.Server.{Server}
use Rattle.sip_uri.specs.declared.aor.Aor.{Aor}
use Rattle.sip_uri.specs.declared.uri.Uri.{Uri}
use Rattle.sip_route.specs.Way.{request_uri_of}
use Rattle.sip_verdict.specs.declared.registering.Registering.{Registering}
use Rattle.sip_verdict.specs.Registering.{ComesTo}
use Rattle.model_verdict.specs.Verdict.{is_own_uri, refused_by, registered_by}

-- whether a REGISTER is for an own domain and a user of one, by its Request-URI that was read
pub registrable_by : (server : Server) (m : Message) (aor : Aor) (uri : Option Uri) (said is : Bool) → uri ≡ request_uri_of server.config.own m
    → said ≡ (is_own_uri server uri && is_users_address server.config.users server.config.own.domains aor) → said ≡ is
    → (is_own_uri server (request_uri_of server.config.own m) && is_users_address server.config.users server.config.own.domains aor) ≡ is
registrable_by server m aor uri said is read by same =
    ap (λ (u : Option Uri). is_own_uri server u && is_users_address server.config.users server.config.own.domains aor) (sym read) ∙ sym by ∙ same

-- what one that the registrar refuses comes to
pub refuses : (result : Result Registering AllocError) (rows : List Binding) (now : ℕ) (r : Registration) (e : LocationError) → IsRefusal rows r now e
    → IfOk result (λ o. (some : List Binding) (at : ℕ) (who : Aor) → ComesTo some at who (refused_by e) o) → OnOk result (e ≢ NoMemory)
    → IfOk result (ComesTo rows now r.aor (registered_by (registered rows r now)))
refuses (Ok o) rows now r e refusal gives memory = elim refusal [
  | inl is ↦ absurd (memory is)
  | inr is ↦ subst (λ x. ComesTo rows now r.aor (registered_by x) o) (sym is)
      (gives rows now r.aor)
]
refuses (Err x) rows now r e refusal gives memory = tt

-- what a registration comes to that was read of some fields, which are those of a request
pub reads : (result : Result Registering AllocError) (rows : List Binding) (now : ℕ) (core : CoreFields) (read fields : List Field) (r : Registration)
    → r ≡ registration_of core read → read ≡ fields
    → IfOk result (ComesTo rows now r.aor (registered_by (registered rows r now))) → IfOk result
    (ComesTo rows now (to_aor core) (registered_by (registered rows (registration_of core fields) now)))
reads result rows now core read fields r is are h =
    subst (λ (x : Registration). IfOk result (ComesTo rows now x.aor (registered_by (registered rows x now)))) (is ∙ ap (registration_of core) are) h
