-- What the top Via of a request gets, and where its answers go.
use Rattle.std.proofs.Common.{◌≡◌, ◌∙◌, ℕ, Bool, true, false, cond, List, [], ◌∷◌, refl, sym, ap, Option, Some, None, option_map}
use Rattle.std.specs.Option.{option_and_then, option_map_or}
use Rattle.sip_message_fields.specs.declared.field.Field.{Field}
use Rattle.sip_message_fields.specs.declared.field_name.FieldName.TheVariants as Name
use Rattle.sip_message_fields.specs.Named.{first_named}
use Rattle.sip_message_fields.specs.FieldName.{is_same_name}
use Rattle.sip_message_fields.specs.Values.{first_value, with_first}
use Rattle.sip_header.specs.declared.via.Via.{Via}
use Rattle.sip_header.specs.Via.{via_of}
use Rattle.sip_message_form.specs.declared.message.Message.{Message}
use Rattle.sip_uri.specs.declared.addr.Addr.{Addr}
use Rattle.sip_edit.specs.ReceivedRequest.{at_port, received_fields, address_by, response_address, top_via}
use Rattle.sip_edit.specs.TopVia.{received_via}
use Rattle.sip_state.specs.declared.top_via.TopVia.{TopVia}
use Rattle.sip_state.specs.TopVia.{IsTopVia}

none_by : (t : Bool) (value : List ℕ) (field : Field) (fields : List Field) → cond t (Some field) (first_named Name.Via fields) ≡ None
    → (first_named Name.Via fields ≡ None → with_first Name.Via value fields ≡ fields)
    → cond t (record field { value = value } ∷ fields) (field ∷ with_first Name.Via value fields) ≡ field ∷ fields
none_by true value field fields none rest = absurd cc
none_by false value field fields none rest = ap (λ (w : List Field). field ∷ w) (rest none)

none_named : (value : List ℕ) (fields : List Field) → first_named Name.Via fields ≡ None → with_first Name.Via value fields ≡ fields
none_named value [] none = refl
none_named value (field ∷ fields) none = none_by (is_same_name field.name Name.Via) value field fields none (none_named value fields)

no_value : (found : Option Field) → option_map (λ (f : Field). f.value) found ≡ None → found ≡ None
no_value None none = refl
no_value (Some field) none = absurd cc

pub none_edited : (value : List ℕ) (fields : List Field) → first_value Name.Via fields ≡ None → with_first Name.Via value fields ≡ fields
none_edited value fields none = none_named value fields (no_value (first_named Name.Via fields) none)

-- ---- where the top Via was read

pub on_top : (fields : List Field) (value : List ℕ) (via : Via) → first_value Name.Via fields ≡ Some value
    → option_and_then via_of (first_value Name.Via fields) ≡ Some via → via_of value ≡ Some via
on_top fields value via is read = sym (ap (option_and_then via_of) is) ∙ read

-- it gets what it says that it gets
pub edited : (fields : List Field) (value text : List ℕ) (from : Addr) → first_value Name.Via fields ≡ Some value → text ≡ received_via value from
    → with_first Name.Via text fields ≡ received_fields from fields
edited fields value text from is gets =
    ap (λ (t : List ℕ). with_first Name.Via t fields) gets
    ∙ sym (ap (λ (o : Option (List ℕ)). option_map_or (λ (v : List ℕ). with_first Name.Via (received_via v from) fields) o fields) is)

-- and the answers go where it says
pub answered : (m : Message) (via : Via) (port : Option ℕ) → top_via m ≡ Some via → ((from : Addr) → at_port port from ≡ address_by (Some via) from) →
    (from : Addr) → at_port port from ≡ response_address m from
answered m via port read is from = is from ∙ sym (ap (λ (o : Option Via). address_by o from) read)

pub goes_back : (m : Message) (top : TopVia) (from address : Addr) → IsTopVia m top → top.source ≡ from → address ≡ at_port top.port top.source
    → address ≡ response_address m from
goes_back m top from address h same is = is ∙ h.port top.source ∙ ap (λ (a : Addr). response_address m a) same
