-- A REGISTER for the worked examples.
use Rattle.std.specs.Prelude.{ℕ, List, [], ◌∷◌, ◌++◌, codes, Some, None}
use Rattle.sip_message_form.specs.fields.declared.field.Field.{Field}
use Rattle.sip_message_form.specs.fields.declared.field_name.FieldName.TheVariants as Name
use Rattle.sip_message_form.specs.declared.message.Start.TheVariants.{Request}
use Rattle.sip_message_form.specs.declared.message.Message.{Message}
use Rattle.sip_uri.specs.declared.scheme.Scheme.TheVariants as Scheme
use Rattle.sip_uri.specs.declared.uri.Uri.{Uri}
use Rattle.sip_header.specs.declared.parameters.HeaderParameter.{HeaderParameter}
use Rattle.sip_header.specs.declared.name_addr.AnyUri.TheVariants.{Sip}
use Rattle.sip_header.specs.declared.name_addr.NameAddr.{NameAddr}

-- `sip:Mufasa@host.com`
abbrev pub mufasa : Uri
mufasa = record {
  scheme = Scheme.Sip;
  userinfo = Some (record { user = codes "Mufasa"; password = None });
  host = codes "host.com";
  port = None;
  parameters = [];
  headers = [];
}

-- the address of that URI with some parameters
abbrev pub address_with : List HeaderParameter → NameAddr
address_with parameters = record { uri = Sip mufasa; parameters = parameters }

abbrev pub tag_a1 : HeaderParameter
tag_a1 = record { name = codes "tag"; value = Some (codes "a1") }

abbrev pub first_fields : List Field
first_fields =
    record { name = Name.Via; value = codes "SIP/2.0/UDP 127.0.0.1:5062;branch=z9hG4bKreg1" }
    ∷ record { name = Name.MaxForwards; value = codes "70" }
    ∷ record { name = Name.From; value = codes "<sip:Mufasa@host.com>;tag=a1" }
    ∷ record { name = Name.To; value = codes "<sip:Mufasa@host.com>" }
    ∷ record { name = Name.CallId; value = codes "c1@127.0.0.1" }
    ∷ []

-- a REGISTER whose fields these end
abbrev pub register_with : List Field → Message
register_with more = record { start = Request (codes "REGISTER") (codes "sip:host.com") (codes "SIP/2.0"); fields = first_fields ++ more; body = [] }

-- the same with a CSeq
abbrev pub register_numbered : List ℕ → Message
register_numbered cseq = register_with (record { name = Name.CSeq; value = cseq } ∷ [])
