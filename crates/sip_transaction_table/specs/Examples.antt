-- Requests with one Via for the worked examples.
use Rattle.std.specs.Prelude.{ℕ, List, [], ◌∷◌, codes}
use Rattle.sip_message_fields.specs.declared.field_name.FieldName.TheVariants as Name
use Rattle.sip_message_form.specs.declared.message.Start.TheVariants.{Request}
use Rattle.sip_message_form.specs.declared.message.Message.{Message}

-- a request of a method whose one field is this Via
abbrev pub request_by : List ℕ → List ℕ → Message
request_by method via = record {
  start = Request method (codes "sip:help@host.com") (codes "SIP/2.0");
  fields = record { name = Name.Via; value = via } ∷ [];
  body = [];
}
