-- Rows that say the same give the same targets, and the same outcomes of a REGISTER.
use Rattle.std.proofs.Common.{◌≡◌, ℕ, List, [], map, cond, Bool, true, false, refl, sym, ◌∙◌, ap, subst, arith, Option, Some, None, Ok, Err}
use Rattle.std.specs.Prelude.{◌&&◌, Result}
use Rattle.sip_uri.specs.declared.uri.Uri.{Uri}
use Rattle.sip_uri.specs.declared.aor.Aor.{Aor}
use Rattle.sip_message_fields.specs.declared.field.Field.{Field}
use Rattle.sip_message_form.specs.declared.message.Message.{Message}
use Rattle.sip_header.specs.declared.core_fields.CoreFields.{CoreFields}
use Rattle.sip_route.specs.Way.{request_uri_of}
use Rattle.sip_policy.specs.declared.decision.Decision.{Decision}
use Rattle.sip_policy.specs.User.{is_users_address}
use Rattle.sip_location.specs.declared.binding.Binding.{Binding}
use Rattle.sip_location.specs.declared.error.LocationError.{LocationError}
use Rattle.sip_location.specs.declared.error.LocationError.TheVariants.{NoMemory, BadStar, TooBrief, OldCSeq, TooMany}
use Rattle.sip_location.specs.Binding.{live}
use Rattle.sip_location.specs.Registration.{registered}
use Rattle.sip_location.specs.Registering.{to_aor, registration_of}
use Rattle.sip_location.specs.Sameness.{SameBindings, SameOutcome}
use Rattle.sip_location.proofs.Sameness.{registered_same}
use Rattle.sip_targets.specs.Targets.{targets_of}
use Rattle.model_context.specs.state.declared.server.Server.{Server}
use Rattle.model_verdict.specs.declared.question.Question.{Question}
use Rattle.model_verdict.specs.Verdict.{Registered, Bound, Refused, refused_by, registered_by, is_own_uri, registration_by, targets_by, request_targets}
use Rattle.model_verdict.specs.Sameness.{SameRegistered}

-- ---- targets

targets_by_same : (server : Server) (left right : List Binding) (now : ℕ) (target : Aor) (decision : Decision) (uri : Option Uri)
    → live target now left ≡ live target now right
    → targets_by server left now target decision uri ≡ targets_by server right now target decision uri
targets_by_same server left right now target decision None e = refl
targets_by_same server left right now target decision (Some uri) e =
    ap (λ (lives : List Binding). targets_of decision (is_users_address server.config.users server.config.own.domains target) uri (map (λ (b : Binding). b.uri) lives)
    server.config.hops server.config.addresses) e

-- the targets of a request are the same
pub request_targets_same : (server : Server) (left right : List Binding) (now : ℕ) (m : Message) (q : Question) (decision : Decision) → SameBindings now left right
    → request_targets server left now m q decision ≡ request_targets server right now m q decision
request_targets_same server left right now m q decision h = targets_by_same server left right now q.target decision (request_uri_of server.config.own m)
    (h q.target now (omega arith))

-- ---- a REGISTER

refused_same : (now : ℕ) (e : LocationError) → SameRegistered now (refused_by e) (refused_by e)
refused_same now NoMemory = refl
refused_same now BadStar = refl
refused_same now TooBrief = refl
refused_same now OldCSeq = refl
refused_same now TooMany = refl

registered_by_same : (now : ℕ) (left right : Result (List Binding) LocationError) → SameOutcome now left right
    → SameRegistered now (registered_by left) (registered_by right)
registered_by_same now (Ok left) (Ok right) h = h
registered_by_same now (Err left) (Err right) h = subst (λ (e : LocationError). SameRegistered now (refused_by left) (refused_by e)) h (refused_same now left)
registered_by_same now (Ok left) (Err right) h = absurd h
registered_by_same now (Err left) (Ok right) h = absurd h

-- a REGISTER comes to the same
pub registration_same : (server : Server) (left right : List Binding) (now : ℕ) (m : Message) (core : CoreFields) → SameBindings now left right
    → SameRegistered now (registration_by server left now m core) (registration_by server right now m core)
registration_same server left right now m core h = by_test (is_own_uri server (request_uri_of server.config.own m)
    && is_users_address server.config.users server.config.own.domains (to_aor core)) where
      by_test : (t : Bool)
          → SameRegistered now (cond t (registered_by (registered left (registration_of core m.fields) now)) (Refused 404 []))
          (cond t (registered_by (registered right (registration_of core m.fields) now)) (Refused 404 []))
      by_test true = registered_by_same now _ _ (registered_same left right (registration_of core m.fields) now h)
      by_test false = refl

-- what a REGISTER comes to over the first rows, by what it comes to over the others
pub bound_back : (now : ℕ) (left right : Registered) (after : List Binding) → SameRegistered now left right → right ≡ Bound after
    → (before : List Binding) × (left ≡ Bound before) × SameBindings now before after
bound_back now (Bound before) right after h e = (before, refl, subst (λ (x : Registered). SameRegistered now (Bound before) x) e h)
bound_back now (Refused status extras) right after h e = let bad : Refused status extras ≡ Bound after = sym h ∙ e in absurd (cc)

pub refused_back : (now : ℕ) (left right : Registered) (status : ℕ) (extras : List Field) → SameRegistered now left right → right ≡ Refused status extras
    → left ≡ Refused status extras
refused_back now (Bound before) right status extras h e = absurd (subst (λ (x : Registered). SameRegistered now (Bound before) x) e h)
refused_back now (Refused status extras) right _ _ h e = sym h ∙ e
