-- Requests without hops.
use Rattle.std.specs.Prelude.{ℕ, List, [], ◌∷◌, ◌++◌, codes}
use Rattle.sip_message_fields.specs.declared.field_name.FieldName.TheVariants as Name
use Rattle.sip_message_form.specs.declared.message.Start.TheVariants.{Request}
use Rattle.sip_message_form.specs.declared.message.Message.{Message}
use Rattle.sip_validate.specs.Examples.{field, fields_with}

-- a request of a method to `sip:host.com`, with Max-Forwards 0
abbrev pub without_hops : List ℕ → Message
without_hops method =
    record {
      start = Request method (codes "sip:host.com") (codes "SIP/2.0");
      fields = fields_with (field Name.To (codes "<sip:Mufasa@host.com>") ∷ field Name.CSeq (codes "1 " ++ method)
          ∷ field Name.MaxForwards (codes "0") ∷ []);
      body = [];
    }
