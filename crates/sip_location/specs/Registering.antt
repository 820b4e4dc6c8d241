-- What a REGISTER asks of the registrar, read from the message (RFC 3261 10.3).
use Rattle.std.specs.Prelude.{List, [], Option, option_map}
use Rattle.std.specs.Option.{unwrap_or}
use Rattle.std.specs.List.{filter_map}
use Rattle.sip_uri.specs.declared.uri.Uri.{Uri}
use Rattle.sip_uri.specs.declared.aor.Aor.{Aor}
use Rattle.sip_uri.specs.Aor.{aor_of}
use Rattle.sip_message_fields.specs.declared.field.Field.{Field}
use Rattle.sip_message_fields.specs.declared.field_name.FieldName.TheVariants as Name
use Rattle.sip_header.specs.declared.contact_item.ContactItem.{ContactItem}
use Rattle.sip_header.specs.declared.core_fields.CoreFields.{CoreFields}
use Rattle.sip_message_fields.specs.Values.{values_of}
use Rattle.sip_header.specs.NameAddr.{sip_uri}
use Rattle.sip_header.specs.ContactItem.{contact_of}
use Rattle.sip_header.specs.Expires.{expires_of}
use Rattle.sip_location.specs.declared.registration.Registration.{Registration}

-- what names nobody: the address of record of what isn't a SIP or SIPS URI, which no checked request has where an address is needed
abbrev pub nobody : Aor
nobody = record { user = []; host = [] }

-- the address of record of a URI, if there is one
abbrev pub aor_or_nobody : Option Uri → Aor
aor_or_nobody uri = unwrap_or (option_map (λ u. aor_of u) uri) nobody

-- the address of record that To names (RFC 3261 10.3 step 5)
abbrev pub to_aor : CoreFields → Aor
to_aor core = aor_or_nobody (sip_uri core.to.uri)

-- the items of Contact, in their order; a checked REGISTER has no other values of it (RFC 3261 10.3 step 6)
abbrev pub contact_items : List Field → List ContactItem
contact_items fields = filter_map contact_of (values_of Name.Contact fields)

-- what a REGISTER with these core fields and fields asks for
abbrev pub registration_of : CoreFields → List Field → Registration
registration_of core fields =
    record {
      aor = to_aor core;
      contacts = contact_items fields;
      expires = expires_of fields;
      call_id = core.call_id;
      cseq = core.cseq.number;
    }
