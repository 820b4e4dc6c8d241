-- Contacts and fields for the worked examples.
use Rattle.std.specs.Prelude.{ℕ, List, [], ◌∷◌, map, codes, Option, None}
use Rattle.sip_message_form.specs.fields.declared.field.Field.{Field}
use Rattle.sip_message_form.specs.fields.declared.field_name.FieldName.{FieldName}
use Rattle.sip_uri.specs.declared.scheme.Scheme.TheVariants as Scheme
use Rattle.sip_uri.specs.declared.uri.Uri.{Uri}
use Rattle.sip_header.specs.declared.parameters.HeaderParameter.{HeaderParameter}
use Rattle.sip_header.specs.declared.name_addr.AnyUri.TheVariants.{Sip}
use Rattle.sip_header.specs.declared.contact_item.ContactItem.{ContactItem}
use Rattle.sip_header.specs.declared.contact_item.ContactItem.TheVariants.{Address}

-- `sip:`, a host, and perhaps a port
abbrev pub uri_at : List ℕ → Option (List ℕ) → Uri
uri_at host port = record { scheme = Scheme.Sip; userinfo = None; host = host; port = port; parameters = []; headers = [] }

-- an address with one header parameter
abbrev pub contact_with : HeaderParameter → ContactItem
contact_with parameter = Address (record { uri = Sip (uri_at (codes "host.com") None); parameters = parameter ∷ [] })

-- an address without header parameters
abbrev pub contact_to : Uri → ContactItem
contact_to uri = Address (record { uri = Sip uri; parameters = [] })

-- fields of one name
abbrev pub fields_of : FieldName → List (List ℕ) → List Field
fields_of name values = map (λ value. record { name = name; value = value }) values
