-- This server's places and requests for the worked examples.
use Rattle.std.specs.Prelude.{ℕ, List, [], ◌∷◌, codes}
use Rattle.sip_message_fields.specs.declared.field_name.FieldName.TheVariants as Name
use Rattle.sip_header.specs.forms.declared.message.Start.TheVariants.{Request}
use Rattle.sip_header.specs.forms.declared.message.Message.{Message}
use Rattle.sip_uri.specs.Examples.{sample_domains}
use Rattle.sip_header.specs.FieldExamples.{fields_of}
use Rattle.sip_route.specs.declared.own.Own.{Own}

-- sip.host.com:5060 at 127.0.0.1, which serves host.com
abbrev pub own : Own
own = record { host = codes "sip.host.com"; port = 5060; domains = sample_domains; ip = 127 ∷ 0 ∷ 0 ∷ 1 ∷ [] }

-- the realm of the sample configuration (RFC 2617 3.5)
abbrev pub sample_realm : List ℕ
sample_realm = codes "testrealm@host.com"

-- an INVITE with these Routes
abbrev pub invite_by : List ℕ → List (List ℕ) → Message
invite_by uri routes = record { start = Request (codes "INVITE") uri (codes "SIP/2.0"); fields = fields_of Name.Route routes; body = [] }
