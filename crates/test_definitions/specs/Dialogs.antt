-- What messages tell of dialogs.
use Rattle.std.specs.Prelude.{ℕ, List, [], ◌∷◌, ◌++◌, codes, Option, option_map}
use Rattle.std.specs.Option.{option_and_then}
use Rattle.std.specs.Result.{result_ok}
use Rattle.sip_uri.specs.declared.addr.Addr.{Addr}
use Rattle.sip_uri.specs.declared.uri.Uri.{Uri}
use Rattle.sip_uri.specs.Port.{port_number}
use Rattle.sip_message_fields.specs.declared.field.Field.{Field}
use Rattle.sip_message_fields.specs.declared.field_name.FieldName.TheVariants as Name
use Rattle.sip_header.specs.CoreFields.{core_in}
use Rattle.sip_header.specs.FieldExamples.{fields_of}
use Rattle.sip_dialog.specs.declared.dialog.Dialog.{Dialog}
use Rattle.sip_dialog.specs.declared.dialog.DialogId.{DialogId}
use Rattle.sip_dialog.specs.Addresses.{addresses_in}
use Rattle.sip_dialog.specs.DialogId.{answer_id}
use Rattle.sip_dialog.specs.Dialogs.{learnt}
use Rattle.sip_dialog.specs.Examples.{at_port, ringing, one_call}

-- the address of a URI with a port, which here is always at 127.0.0.1
abbrev pub by_port : Uri → Option Addr
by_port uri = option_map at_port (port_number uri.port)

-- the addresses that fields tell
abbrev pub told_by : List Field → List Addr
told_by fields = addresses_in by_port fields

-- the confirmed dialog of a call, and an early one of the same INVITE
abbrev pub two_calls : List Dialog
two_calls = learnt 63500 ringing one_call

-- the From, To, Call-ID and CSeq of the INVITE
abbrev pub invite_fields : List Field
invite_fields =
    fields_of Name.From (codes "<sip:x@away.net>;tag=f1" ∷ []) ++ fields_of Name.To (codes "<sip:help@host.com>" ∷ [])
    ++ fields_of Name.CallId (codes "k1" ∷ []) ++ fields_of Name.CSeq (codes "7 INVITE" ∷ [])

-- the dialog that an answer with this To names for it
abbrev pub answered : List ℕ → Option DialogId
answered to = option_and_then (λ core. answer_id core (fields_of Name.To (to ∷ []))) (result_ok (core_in invite_fields))
