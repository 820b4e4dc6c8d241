-- Worked examples.
use Rattle.std.specs.Prelude.{ℕ, List, [], ◌∷◌, codes}
use Rattle.sip_message_fields.specs.declared.field_name.FieldName.TheVariants as Name
use Rattle.sip_message_form.specs.declared.message.Start.TheVariants.{Request}
use Rattle.sip_message_form.specs.declared.message.Message.{Message}
use Rattle.sip_uri.specs.declared.addr.Addr.{Addr}

-- 127.0.0.1:5070
abbrev pub client : Addr
client = record { ip = 127 ∷ 0 ∷ 0 ∷ 1 ∷ []; port = 5070 }

-- an OPTIONS whose one field is this Via
abbrev pub with_via : List ℕ → Message
with_via value = record {
  start = Request (codes "OPTIONS") (codes "sip:host.com") (codes "SIP/2.0");
  fields = record { name = Name.Via; value = value } ∷ [];
  body = [];
}
