-- Answers that nobody owes.
use Rattle.std.specs.Prelude.{ℕ, false, List, [], ◌∷◌, ◌++◌, codes, Some}
use Rattle.sip_message_fields.specs.declared.field_name.FieldName.TheVariants as Name
use Rattle.sip_message_fields.specs.declared.field.Field.{Field}
use Rattle.sip_message_form.specs.declared.message.Message.{Message}
use Rattle.sip_message_form.specs.Text.{text_of}
use Rattle.sip_hops.specs.Examples.{local}
use Rattle.sip_edit_response.specs.Extras.{denial_warning}
use Rattle.sip_edit_response.specs.Challenges.{challenge_fields}
use Rattle.sip_edit_response.specs.Examples as Replies
use Rattle.sip_edit.specs.OnwardExamples as Onward
use Rattle.sip_edit.specs.OwnVia.{without_top_via}
use Rattle.sip_event.specs.declared.packet.Packet.{Packet}
use Rattle.sip_event.specs.declared.event.Event.TheVariants.{Time}
use Rattle.sip_model.specs.state.declared.proxy_state.ProxyState.{ProxyState}
use Rattle.sip_model.specs.state.declared.branch.Phase.TheVariants.{Cancelled, Done}
use Rattle.sip_model.specs.state.declared.open_request.Side.TheVariants.{Closing}
use Rattle.sip_model.specs.state.declared.open_request.OpenRequest.{OpenRequest}
use Rattle.sip_model.specs.context_model.Calls.{branch_at, call_to, first_branch, second_ringing, replied_with, one_target}
use Rattle.sip_model.specs.context_model.Opening.{closing}
use Rattle.sip_model.specs.context_model.Sending.{made_answer, answer_packet, answer_to, ack_packets}
use Rattle.sip_model.specs.steps_model.Examples.{sample, arriving_at, answer_with, ringing_from}
use Rattle.sip_model.specs.steps_model.Step.{Act, Given}
use Rattle.sip_model.specs.Run.{Link}
use Rattle.sip_model.specs.Access.{sent_for}
use Rattle.model_laws.specs.Links.{knowing_open, saying, sending}

-- ---- answers that are made later

-- an answer that is made here to Mufasa's REGISTER, which came as the first datagram
abbrev pub answer_to_register : ℕ → List Field → List ℕ
answer_to_register status extras = text_of (made_answer sample 1 Replies.register (local 5062) status extras)

-- that REGISTER, which was denied at 1,000 by rule 0
abbrev pub denied_register : OpenRequest
denied_register = closing (arriving_at 1 1000 5062) Replies.register 403 (answer_to_register 403 (denial_warning sample.config.own 0 ∷ []))

-- half a second later, as time passes, it gets an answer of another status
abbrev pub answered_later : ℕ → List Field → ProxyState → ProxyState → Link
answered_later status extras known after =
    sending (knowing_open known 2 1000 (denied_register ∷ [])) (Given (Time 1500)) 1500
    (answer_packet false 1 Replies.register (local 5062) (answer_to_register status extras) ∷ []) after

-- a contact that nobody bound
abbrev pub false_contact : List Field
false_contact = record { name = Name.Contact; value = codes "<sip:Mufasa@127.0.0.1:6666>;expires=3600" } ∷ []

-- a challenge by a nonce that nobody issued
abbrev pub false_challenge : List Field
false_challenge = challenge_fields Name.WwwAuthenticate false sample.config.realm (codes "00000000000000000000000000000042") false

-- ---- a 200 beside a fork

-- an INVITE comes to help@host.com, while no request is open
abbrev pub before_call : ProxyState → ProxyState
before_call known = knowing_open known 4 61000 []

abbrev pub invite_comes : Act
invite_comes = saying 62000 5070 Onward.invite

-- an answer that is made here to it
abbrev pub answer_to_invite : ℕ → Packet
answer_to_invite status = answer_packet false 4 Onward.invite (local 5070) (text_of (made_answer sample 4 Onward.invite (local 5070) status []))

-- it gets what it is to get; and beside that it gets a 200 that nobody sent
abbrev pub accepted_at_once : ProxyState → ProxyState → Link
accepted_at_once known after = sending (before_call known) invite_comes 62000
    (sent_for sample (before_call known) invite_comes ++ answer_to_invite 200 ∷ []) after

-- ---- an answer that lost

-- an INVITE to two targets, of which the second rings
abbrev pub two_called : OpenRequest
two_called = call_to (first_branch ∷ second_ringing ∷ [])

-- the first is busy
abbrev pub busy : Message
busy = answer_with 1 486 (codes "Busy Here") []

-- the 486 gets its ACK, as it is to; and it goes to the caller while the second target rings
abbrev pub lost_goes_up : ProxyState → ProxyState → Link
lost_goes_up known after =
    sending (knowing_open known 6 63000 (two_called ∷ [])) (saying 63500 5082 busy) 63500
    (ack_packets sample false two_called first_branch (Some (codes "<sip:help@host.com>;tag=t1"))
    ++ answer_to false two_called (text_of (without_top_via busy)) ∷ []) after

-- ---- a ringing that is late

-- an INVITE whose first target accepted, and whose second was sent its CANCEL
abbrev pub accepted_call : OpenRequest
accepted_call = replied_with 200 (Closing 95000) (call_to (branch_at 1 5082 (Done 95000 200) ∷ branch_at 2 5083 (Cancelled 95000) ∷ []))

-- the second rings, and its 180 goes to the caller, who has the 200
abbrev pub late_ringing : ProxyState → ProxyState → Link
late_ringing known after =
    sending (knowing_open known 7 63000 (accepted_call ∷ [])) (saying 63500 5083 (ringing_from 2)) 63500
    (answer_to false accepted_call (text_of (without_top_via (ringing_from 2))) ∷ []) after

-- ---- a 100 that goes on

-- the one target tries
abbrev pub trying_there : Message
trying_there = answer_with 1 100 (codes "Trying") []

-- its 100 goes to the caller
abbrev pub passed_100 : ProxyState → ProxyState → Link
passed_100 known after =
    sending (knowing_open known 5 62000 (one_target ∷ [])) (saying 62100 5082 trying_there) 62100
    (answer_to false one_target (text_of (without_top_via trying_there)) ∷ []) after
