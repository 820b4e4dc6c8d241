-- Open requests that no CANCEL cancels, and requests that are refused.
use Rattle.std.specs.Prelude.{ℕ, List, [], ◌∷◌, codes, Option, option_map, Result}
use Rattle.sip_message_fields.specs.declared.field_name.FieldName.TheVariants as Name
use Rattle.sip_message_form.specs.declared.message.Message.{Message}
use Rattle.sip_message_form.specs.declared.error.ReadError.{ReadError}
use Rattle.sip_hops.specs.Examples.{local}
use Rattle.model_context.specs.Calls as Calls
use Rattle.model_context.specs.state.declared.open_request.OpenRequest.{OpenRequest}
use Rattle.model_verdict.specs.Verdict.{Verdict, message_in, verdict_in}
use Rattle.model_verdict.specs.Examples.{knowing, arriving_from, request_with, invite_via}

-- a request with the branch and sent-by of the INVITE, and a method
abbrev pub of_method : List ℕ → OpenRequest
of_method method =
    let r : OpenRequest = Calls.one_target in
    record r { key = record r.key { method = method } }

-- its CANCEL, and an ACK
abbrev pub open_cancel : OpenRequest
open_cancel = of_method (codes "CANCEL")

abbrev pub open_ack : OpenRequest
open_ack = of_method (codes "ACK")

-- an INVITE that needs an extension of each proxy
abbrev pub requiring : List ℕ → Message
requiring extension =
    let m : Message = request_with (codes "INVITE") (codes "sip:help@host.com") invite_via (codes "<sip:help@host.com>") [] in
    record m { fields = record { name = Name.ProxyRequire; value = extension } ∷ m.fields }

-- the verdict on what a datagram says, by how it was read
abbrev pub said_by : Result Message ReadError → Option Verdict
said_by read = option_map (λ x. x.1) (verdict_in Calls.sample (knowing [] []) (arriving_from (local 5070)) (message_in read))
