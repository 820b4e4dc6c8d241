-- Two INVITEs and a REGISTER that pass every check.
use Rattle.std.proofs.Common.{◌≡◌, ℕ, Bool, true, false, List, codes, Some, None, Ok, Err, Result, refl}
use Rattle.std.specs.Fmt.{digits}
use Rattle.sip_uri.specs.Reading as Uris
use Rattle.sip_message.specs.Reading as Bytes
use Rattle.sip_message_form.specs.Text.{text_of}
use Rattle.sip_message_form.specs.declared.message.Message.{Message}
use Rattle.sip_header.specs.declared.core_fields.CoreFields.{CoreFields}
use Rattle.sip_header.specs.declared.error.HeaderError.{HeaderError}
use Rattle.sip_header.specs.CoreFields.{core_in, core_of}
use Rattle.sip_transaction_table.specs.declared.key.TransactionKey.{TransactionKey}
use Rattle.sip_transaction_table.specs.Key.{key_of}
use Rattle.sip_validate.specs.Refusal.{refusal_of}
use Rattle.sip_edit_response.specs.Examples.{register}
use Rattle.sip_edit.specs.OnwardExamples.{invite}
use Rattle.sip_model.specs.state.State.{first_state}
use Rattle.sip_model.specs.verdict_model.Verdict.{message_in, is_outside}
use Rattle.sip_model.specs.steps_model.Examples.{sample, to_vault}
use Rattle.model_laws.specs.Valid.{SaysNewRequest}

-- ---- the INVITE

pub invite_said : message_in (Bytes.reading_of (text_of invite)) ≡ Some (invite, false)
unfolding digits Bytes.reading_of Bytes.datagram_of Bytes.message_from
invite_said = refl

pub invite_valid : refusal_of sample.config.own invite false ≡ None
unfolding digits Uris.rest_of Uris.reading_of core_in
invite_valid = refl

invite_key : TransactionKey
invite_key = record { branch = codes "z9hG4bKinv1"; host = codes "pc.host.com"; port = 5070; method = codes "INVITE" }

-- whether a message's core fields can be read, and are outside a dialog
outside_in : List ℕ → Result CoreFields HeaderError → Bool
outside_in method (Ok core) = is_outside method core
outside_in method (Err e) = false

-- there are core fields, then
record HasCore (m : Message) (method : List ℕ) : Type 0 where
  core : CoreFields
  is_core : core_of m ≡ Ok core
  is_out : is_outside method core ≡ true

core_there : (m : Message) (method : List ℕ) (r : Result CoreFields HeaderError) → core_of m ≡ r → outside_in method r ≡ true → HasCore m method
unfolding outside_in
core_there m method (Ok core) e out = record { core = core; is_core = e; is_out = out }
core_there m method (Err error) e out = absurd (cc)

invite_outside : outside_in (codes "INVITE") (core_of invite) ≡ true
unfolding outside_in digits Uris.rest_of Uris.reading_of core_in
invite_outside = refl

invite_keyed : key_of invite ≡ Some invite_key
unfolding invite_key digits
invite_keyed = refl

pub new_invite : SaysNewRequest sample (first_state 1) (text_of invite) invite (codes "INVITE")
new_invite =
    let has : HasCore invite (codes "INVITE") = core_there invite (codes "INVITE") (core_of invite) refl invite_outside in
    record {
      core = has.core;
      is_new = record {
        uri = codes "sip:help@host.com";
        version = codes "SIP/2.0";
        key = invite_key;
        says = invite_said;
        is_request = refl;
        key_is = invite_keyed;
        is_new = refl;
        is_no_ack = refl;
        is_no_cancel = refl;
        is_valid = invite_valid;
        has_room = refl;
        core_is = has.is_core;
        is_outside_dialog = has.is_out;
      };
    }

-- ---- the INVITE to vault@host.com

pub vault_said : message_in (Bytes.reading_of (text_of to_vault)) ≡ Some (to_vault, false)
unfolding digits Bytes.reading_of Bytes.datagram_of Bytes.message_from
vault_said = refl

vault_valid : refusal_of sample.config.own to_vault false ≡ None
unfolding digits Uris.rest_of Uris.reading_of core_in
vault_valid = refl

vault_outside : outside_in (codes "INVITE") (core_of to_vault) ≡ true
unfolding outside_in digits Uris.rest_of Uris.reading_of core_in
vault_outside = refl

vault_keyed : key_of to_vault ≡ Some invite_key
unfolding invite_key digits
vault_keyed = refl

pub new_vault : SaysNewRequest sample (first_state 1) (text_of to_vault) to_vault (codes "INVITE")
new_vault =
    let has : HasCore to_vault (codes "INVITE") = core_there to_vault (codes "INVITE") (core_of to_vault) refl vault_outside in
    record {
      core = has.core;
      is_new = record {
        uri = codes "sip:vault@host.com";
        version = codes "SIP/2.0";
        key = invite_key;
        says = vault_said;
        is_request = refl;
        key_is = vault_keyed;
        is_new = refl;
        is_no_ack = refl;
        is_no_cancel = refl;
        is_valid = vault_valid;
        has_room = refl;
        core_is = has.is_core;
        is_outside_dialog = has.is_out;
      };
    }

-- ---- the REGISTER

pub register_said : message_in (Bytes.reading_of (text_of register)) ≡ Some (register, false)
unfolding digits Bytes.reading_of Bytes.datagram_of Bytes.message_from
register_said = refl

pub register_valid : refusal_of sample.config.own register false ≡ None
unfolding digits Uris.rest_of Uris.reading_of core_in
register_valid = refl

register_key : TransactionKey
register_key = record { branch = codes "z9hG4bKreg1"; host = codes "127.0.0.1"; port = 5062; method = codes "REGISTER" }

register_outside : outside_in (codes "REGISTER") (core_of register) ≡ true
unfolding outside_in digits Uris.rest_of Uris.reading_of core_in
register_outside = refl

register_keyed : key_of register ≡ Some register_key
unfolding register_key digits
register_keyed = refl

pub new_register : SaysNewRequest sample (first_state 1) (text_of register) register (codes "REGISTER")
new_register =
    let has : HasCore register (codes "REGISTER") = core_there register (codes "REGISTER") (core_of register) refl register_outside in
    record {
      core = has.core;
      is_new = record {
        uri = codes "sip:host.com";
        version = codes "SIP/2.0";
        key = register_key;
        says = register_said;
        is_request = refl;
        key_is = register_keyed;
        is_new = refl;
        is_no_ack = refl;
        is_no_cancel = refl;
        is_valid = register_valid;
        has_room = refl;
        core_is = has.is_core;
        is_outside_dialog = has.is_out;
      };
    }
