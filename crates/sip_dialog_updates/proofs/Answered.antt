-- The dialog that an answer names.
use Rattle.std.proofs.Common.{◌≡◌, ℕ, List, Option, Some, None, option_map, refl, sym, ap}
use Rattle.std.specs.Option.{option_and_then}
use Rattle.std.specs.Result.{result_ok}
use Rattle.sip_message_fields.specs.declared.field_name.FieldName.TheVariants as Name
use Rattle.sip_message_form.specs.declared.message.Message.{Message}
use Rattle.sip_header.specs.declared.core_fields.CoreFields.{CoreFields}
use Rattle.sip_header.specs.declared.name_addr.NameAddr.{NameAddr}
use Rattle.sip_header.specs.CoreFields.{core_of, name_addr_in}
use Rattle.sip_header.specs.Parameters.{tag_of}
use Rattle.sip_dialog.specs.declared.dialog.DialogId.{DialogId}
use Rattle.sip_dialog.specs.DialogId.{id_with}
use Rattle.sip_state.specs.declared.open_request.OpenRequest.{OpenRequest}
use Rattle.sip_state.specs.Dialogs.{answered_dialog}
use Rattle.sip_state.specs.Names.{names_in, names_of, dialog_to}

-- by the core fields of the request, and the answer's To
abbrev named : Option NameAddr → Option CoreFields → Option DialogId
named to core = option_and_then (λ (c : CoreFields). option_and_then (id_with c.call_id c.from) to) core

with_by : (to : NameAddr) (tag : List ℕ) (core : Option CoreFields) → tag_of to.parameters ≡ Some tag → dialog_to tag (option_map names_of core) ≡ named (Some to) core
with_by to tag None is = refl
with_by to tag (Some c) is = ap (λ (t : Option (List ℕ)). option_map (λ tag. record { call_id = c.call_id; from_tag = (names_of c).from_tag; to_tag = tag }) t) (sym is)

-- the tag of an answer's To
abbrev tag_in : Option NameAddr → Option (List ℕ)
tag_in to = option_and_then (λ (to : NameAddr). tag_of to.parameters) to

with_to : (to : Option NameAddr) (tag : List ℕ) (core : Option CoreFields) → Some tag ≡ tag_in to → dialog_to tag (option_map names_of core) ≡ named to core
with_to None tag core is = absurd cc
with_to (Some to) tag core is = with_by to tag core (sym is)

pub with_tag : (r : OpenRequest) (answer : Message) (tag : List ℕ) → Some tag ≡ option_and_then (λ (to : NameAddr). tag_of to.parameters)
    (result_ok (name_addr_in Name.To answer.fields))
    → dialog_to tag (names_in r.request.message) ≡ answered_dialog r answer
with_tag r answer tag is = with_to (result_ok (name_addr_in Name.To answer.fields)) tag (result_ok (core_of r.request.message)) is

none_by : (to : Option NameAddr) (core : Option CoreFields) → ((c : CoreFields) → option_and_then (id_with c.call_id c.from) to ≡ None) → None ≡ named to core
none_by to None none = refl
none_by to (Some c) none = sym (none c)

without : (to : Option NameAddr) (core : Option CoreFields) → None ≡ tag_in to → None ≡ named to core
without None core is = none_by None core (λ c. refl)
without (Some to) core is =
    none_by (Some to) core (λ c. ap (λ (t : Option (List ℕ)). option_map (λ tag. record { call_id = c.call_id; from_tag = (names_of c).from_tag; to_tag = tag }) t)
    (sym is))

pub without_tag : (r : OpenRequest) (answer : Message) → None ≡ option_and_then (λ (to : NameAddr). tag_of to.parameters) (result_ok (name_addr_in Name.To answer.fields))
    → None ≡ answered_dialog r answer
without_tag r answer is = without (result_ok (name_addr_in Name.To answer.fields)) (result_ok (core_of r.request.message)) is
