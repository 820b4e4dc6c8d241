-- Steps that don't keep the headline.
use Rattle.std.specs.Prelude.{ℕ, false, List, [], ◌∷◌}
use Rattle.sip_message_fields.specs.declared.field.Field.{Field}
use Rattle.sip_message_form.specs.Text.{text_of}
use Rattle.sip_hops.specs.Examples.{local}
use Rattle.sip_edit.specs.OnwardExamples as Onward
use Rattle.sip_edit_response.specs.Extras.{denial_warning}
use Rattle.sip_event.specs.declared.packet.Packet.{Packet}
use Rattle.sip_model.specs.state.declared.proxy_state.ProxyState.{ProxyState}
use Rattle.sip_model.specs.state.State.{first_state}
use Rattle.sip_model.specs.context_model.Sending.{made_answer, answer_packet}
use Rattle.sip_model.specs.steps_model.Examples.{sample, knowing_help, packet_of, to_vault}
use Rattle.sip_model.specs.Run.{Link}
use Rattle.model_laws.specs.Links.{knowing_open, saying, sending}

-- ---- a call

-- help is bound at port 5082 until a moment, and no request is open
abbrev pub before_call : ℕ → ProxyState
before_call expires_at = knowing_open (knowing_help 4 expires_at) 4 61000 []

-- an INVITE to help@host.com comes at 62,000, and all that is sent is its request to that binding, at a port
abbrev pub calls : ℕ → ℕ → ProxyState → Link
calls expires_at port after =
    sending (before_call expires_at) (saying 62000 5070 Onward.invite) 62000 (packet_of port 4 1 Onward.onward_invite_text ∷ []) after

-- it goes to another port than help bound
abbrev pub goes_elsewhere : ProxyState → Link
goes_elsewhere after = calls 3602000 6666 after

-- help's binding expired 2,000 ms before
abbrev pub goes_to_expired : ProxyState → Link
goes_to_expired after = calls 60000 5082 after

-- ---- a denial

-- the 403 to an INVITE to vault@host.com, with these fields
abbrev pub denial_with : List Field → Packet
denial_with extras = answer_packet false 1 to_vault (local 5070) (text_of (made_answer sample 1 to_vault (local 5070) 403 extras))

-- the INVITE, which rule 3 denies, comes at 1,000 and gets it
abbrev pub denied_with : List Field → ProxyState → Link
denied_with extras after = sending (first_state 1) (saying 1000 5070 to_vault) 1000 (denial_with extras ∷ []) after

-- it has no Warning
abbrev pub denied_without_rule : ProxyState → Link
denied_without_rule after = denied_with [] after

-- its Warning names rule 0
abbrev pub denied_by_another : ProxyState → Link
denied_by_another after = denied_with (denial_warning sample.config.own 0 ∷ []) after
