-- What the top Via of an ACK gets, where it was read.
use Rattle.std.proofs.Common.{◌≡◌, ◌∙◌, ℕ, List, sym, ap, Option, Some}
use Rattle.std.specs.Option.{option_and_then, option_map_or}
use Rattle.sip_message_fields.specs.declared.field.Field.{Field}
use Rattle.sip_message_fields.specs.declared.field_name.FieldName.TheVariants as Name
use Rattle.sip_message_fields.specs.Values.{first_value, with_first}
use Rattle.sip_header.specs.declared.via.Via.{Via}
use Rattle.sip_header.specs.Via.{via_of}
use Rattle.sip_uri.specs.declared.addr.Addr.{Addr}
use Rattle.sip_edit.specs.ReceivedRequest.{received_fields}
use Rattle.sip_edit.specs.TopVia.{received_via}

-- the value on top says it
pub on_top : (fields : List Field) (value : List ℕ) (via : Via) → first_value Name.Via fields ≡ Some value
    → option_and_then via_of (first_value Name.Via fields) ≡ Some via → via_of value ≡ Some via
on_top fields value via is read = sym (ap (option_and_then via_of) is) ∙ read

-- it gets what it says that it gets
pub edited : (fields : List Field) (value text : List ℕ) (from : Addr) → first_value Name.Via fields ≡ Some value → text ≡ received_via value from
    → with_first Name.Via text fields ≡ received_fields from fields
edited fields value text from is gets =
    ap (λ (t : List ℕ). with_first Name.Via t fields) gets
    ∙ sym (ap (λ (o : Option (List ℕ)). option_map_or (λ (v : List ℕ). with_first Name.Via (received_via v from) fields) o fields) is)
