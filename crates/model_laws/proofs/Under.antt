-- What a history says of dialogs doesn't ask which configuration came into force later: only what the server is to others, and its word.
use Rattle.std.proofs.Common.{◌≡◌, ℕ, List, refl}
use Rattle.sip_message_form.specs.declared.message.Message.{Message}
use Rattle.sip_uri.specs.declared.addr.Addr.{Addr}
use Rattle.sip_dialog.specs.declared.dialog.DialogId.{DialogId}
use Rattle.sip_dialog.specs.declared.dialog.Dialog.{Dialog}
use Rattle.sip_config_types.specs.declared.config.Config.{Config}
use Rattle.sip_model.specs.state.declared.server.Server.{Server}
use Rattle.sip_model.specs.state.Arrival.{Arrival}
use Rattle.sip_model.specs.Access.{CameFor}
use Rattle.sip_model.specs.Run.{Link, under}
use Rattle.model_laws.specs.Dialogs.{Begins, WentThrough, Invite, AnswerToInvite, AnswerWithin, Within, IsAddressOf, OfCaller, OfBranch, OfMessage, HadRequest}
use Rattle.model_laws.specs.Dialogs.{AtFirst, Later, WasAccepted, WasTold}
use Rattle.sip_model.proofs.Places.{all_weaker}

-- Under its own configuration the server under another one is what it was, so each of these leads back, too.
module _ (server : Server) (config : Config) (history : List Link) where
  -- a response came for a branch
  came_under : (number status : ℕ) (response : Message) → CameFor server history number status response → CameFor (under server config) history number status response
  came_under number status response h = record {
    link = h.link;
    a = h.a;
    bytes = h.bytes;
    reason = h.reason;
    request = h.request;
    branch = h.branch;
    is_there = h.is_there;
    is_said = h.is_said;
    is_response = h.is_response;
    is_for = h.is_for;
    is_number = h.is_number;
    is_target = h.is_target;
  }

  -- an INVITE began a dialog
  pub begins_under : (id : DialogId) (a : Arrival) (invite : Message) (status : ℕ) (response : Message) → Begins server history a invite status response id
      → Begins (under server config) history a invite status response id
  begins_under id a invite status response h = record {
    is_brought = h.is_brought;
    is_invite = h.is_invite;
    came_for = came_under a.number status response h.came_for;
    is_above_100 = h.is_above_100;
    is_below_300 = h.is_below_300;
    has_gone = h.has_gone;
    names = h.names;
  }

  -- its response came in the same step
  pub link_under : (id : DialogId) (a : Arrival) (invite : Message) (status : ℕ) (response : Message) (h : Begins server history a invite status response id)
      → (begins_under id a invite status response h).came_for.link ≡ h.came_for.link
  unfolding begins_under came_under
  link_under id a invite status response h = refl

  -- a message of a dialog went through
  through_under : (id : DialogId) (link : Link) (m : Message) → WentThrough server history id link m → WentThrough (under server config) history id link m
  unfolding begins_under came_under
  through_under id link _ (Invite a invite status response begins now) = Invite a invite status response (begins_under id a invite status response begins) now
  through_under id link _ (AnswerToInvite a invite answer there brought is gone names) = AnswerToInvite a invite answer there brought is gone names
  through_under id link _ (AnswerWithin a m answer there brought names gone) = AnswerWithin a m answer there brought names gone
  through_under id link _ (Within a m brought now names sent) =
      Within a m brought now names (record { packet = sent.packet; is_there = sent.is_there; is_text = sent.is_text; is_of_datagram = sent.is_of_datagram })

  -- an address is one of a dialog
  address_under : (id : DialogId) (address : Addr) → IsAddressOf server history id address → IsAddressOf (under server config) history id address
  unfolding begins_under came_under
  address_under id address (OfCaller a invite status response begins e) = OfCaller a invite status response (begins_under id a invite status response begins) e
  address_under id address (OfBranch a invite status response begins e) = OfBranch a invite status response (begins_under id a invite status response begins) e
  address_under id address (OfMessage link m through gives) = OfMessage link m (through_under id link m through) gives

  -- a request of a dialog came
  request_under : (id : DialogId) (moment : ℕ) → HadRequest server history id moment → HadRequest (under server config) history id moment
  request_under id moment (AtFirst a invite status response begins e) = AtFirst a invite status response (begins_under id a invite status response begins) e
  request_under id moment (Later a m brought names sent e) =
      Later a m brought names (record { packet = sent.packet; is_there = sent.is_there; is_text = sent.is_text; is_of_datagram = sent.is_of_datagram }) e

  -- a dialog was told
  pub told_under : (d : Dialog) → WasTold server history d → WasTold (under server config) history d
  told_under d h = record {
    a = h.a;
    invite = h.invite;
    status = h.status;
    response = h.response;
    begins = begins_under d.id h.a h.invite h.status h.response h.begins;
    is_number = h.is_number;
    had_request = request_under d.id d.since h.had_request;
    was_accepted = λ is. accepted (h.was_accepted is);
    are_addresses = all_weaker (IsAddressOf server history d.id) (IsAddressOf (under server config) history d.id) d.addresses (address_under d.id) h.are_addresses;
  } where
    accepted : WasAccepted server history d.id → WasAccepted (under server config) history d.id
    accepted x = record {
      a = x.a;
      invite = x.invite;
      status = x.status;
      response = x.response;
      begins = begins_under d.id x.a x.invite x.status x.response x.begins;
      is_success = x.is_success;
    }
