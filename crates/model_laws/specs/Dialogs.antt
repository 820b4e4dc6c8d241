-- Where the dialogs that a proxy knows come from (RFC 3261 12, in this project's profile).
use Rattle.std.specs.Prelude.{◌≡◌, ◌⊎◌, ◌<◌, ◌≤◌, ◌+◌, ℕ, true, false, List, [], ◌∷◌, codes, Contains, Some, Ok}
use Rattle.std.specs.Option.{unwrap_or}
use Rattle.std.specs.List.{AllByRecursion}
use Rattle.std.specs.Str.{bytes_eq}
use Rattle.sip_message_fields.specs.declared.field.Field.{Field}
use Rattle.sip_message_fields.specs.declared.field_name.FieldName.TheVariants as Name
use Rattle.sip_message_fields.specs.FieldName.{is_same_name}
use Rattle.sip_message_fields.specs.Values.{values_of}
use Rattle.sip_message_form.specs.declared.message.Start.TheVariants.{Status}
use Rattle.sip_message_form.specs.declared.message.Message.{Message}
use Rattle.sip_message_form.specs.Text.{text_of}
use Rattle.sip_uri.specs.declared.addr.Addr.{Addr}
use Rattle.sip_uri.specs.declared.uri.Uri.{Uri}
use Rattle.sip_header.specs.declared.core_fields.CoreFields.{CoreFields}
use Rattle.sip_header.specs.declared.name_addr.AnyUri.TheVariants.{Sip}
use Rattle.sip_header.specs.declared.name_addr.NameAddr.{NameAddr}
use Rattle.sip_header.specs.CoreFields.{core_of, name_addr_in}
use Rattle.sip_header.specs.NameAddr.{name_addr_of}
use Rattle.sip_header.specs.Parameters.{tag_of}
use Rattle.sip_header.specs.Route.{route_of}
use Rattle.sip_hops.specs.HostAddress.{address_of}
use Rattle.sip_edit.specs.Onward.{onward_uri}
use Rattle.sip_edit.specs.OwnVia.{without_top_via}
use Rattle.sip_dialog.specs.declared.dialog.DialogId.{DialogId}
use Rattle.sip_dialog.specs.declared.dialog.Dialog.{Dialog}
use Rattle.sip_event.specs.declared.packet.Packet.{Packet}
use Rattle.sip_model.specs.state.declared.server.Server.{Server}
use Rattle.sip_model.specs.state.declared.branch.Branch.{Branch}
use Rattle.sip_model.specs.state.declared.open_request.OpenRequest.{OpenRequest}
use Rattle.sip_model.specs.state.State.{is_invite, is_answering, is_final, is_success}
use Rattle.sip_model.specs.state.Arrival.{Arrival}
use Rattle.sip_model.specs.context_model.Sending.{onward_as}
use Rattle.sip_model.specs.verdict_model.Verdict.{is_many, responding}
use Rattle.sip_model.specs.steps_model.Effect.{method_of}
use Rattle.sip_model.specs.Access.{CameFor, IsSaidAt}
use Rattle.sip_model.specs.Run.{Link, under}
use Rattle.sip_model.specs.Lives.{sent_first}
use Rattle.model_laws.specs.Requests.{IsBrought, WentToCaller}

-- ---- names

-- A dialog is named by a Call-ID and two tags, in either order: a proxy sees the requests of both sides (RFC 3261 12).
abbrev pub IsNamed : DialogId → List ℕ → List ℕ → List ℕ → Type 0
IsNamed id call_id one other = (id.call_id ≡ call_id) × (((id.from_tag ≡ one) × (id.to_tag ≡ other)) ⊎ ((id.from_tag ≡ other) × (id.to_tag ≡ one)))

-- A request names a dialog: by its Call-ID, the tag of its From, and that of its To, which has one; a From without a tag has an
-- empty one (RFC 3261 12.2.2).
pub record Names (m : Message) (id : DialogId) : Type 0 where
  pub core : CoreFields
  pub tag : List ℕ
  pub core_is : core_of m ≡ Ok core
  pub to_tag_is : tag_of core.to.parameters ≡ Some tag
  pub name_is : IsNamed id core.call_id (unwrap_or (tag_of core.from.parameters) []) tag

-- An answer names a dialog for an INVITE: by the INVITE's Call-ID and the tag of its From, and the tag of the answer's To (RFC 3261 12.1.1).
pub record NamesFor (invite answer : Message) (id : DialogId) : Type 0 where
  pub core : CoreFields
  pub to : NameAddr
  pub tag : List ℕ
  pub core_is : core_of invite ≡ Ok core
  pub to_is : name_addr_in Name.To answer.fields ≡ Ok to
  pub to_tag_is : tag_of to.parameters ≡ Some tag
  pub name_is : IsNamed id core.call_id (unwrap_or (tag_of core.from.parameters) []) tag

-- ---- messages of a dialog

-- An INVITE began a dialog: a datagram brought it; a response of 101 to 299 came for a branch of it, and went to its caller without
-- its top Via; and that names the dialog for it
-- (RFC 3261 12.1).
pub record Begins (server : Server) (history : List Link) (a : Arrival) (invite : Message) (status : ℕ) (response : Message) (id : DialogId)
    : Type 0 where
  pub is_brought : IsBrought history a invite
  pub is_invite : bytes_eq (method_of invite.start) (codes "INVITE") ≡ true
  pub came_for : CameFor server history a.number status response
  pub is_above_100 : 100 < status
  pub is_below_300 : status < 300
  pub has_gone : WentToCaller history a.number invite a.from (text_of (without_top_via response))
  pub names : NamesFor invite (without_top_via response) id

-- A request, or an ACK, of a dialog was sent on: as it goes onward, with the ticket of its datagram (RFC 3261 16.6, 16.12).
pub record WasSentOn (server : Server) (history : List Link) (a : Arrival) (m : Message) : Type 0 where
  pub packet : Packet
  pub is_there : Contains (sent_first history) packet
  pub is_text : packet.bytes ≡ text_of (onward_as server a.number m a.from (onward_uri server.config.own m) 1)
  pub is_of_datagram : packet.ticket.datagram ≡ a.number

-- A message of a dialog went through the server in a step of a history: an INVITE that began it, in the step in which the response
-- came with which it did; an answer to an INVITE for which it names the dialog, or to a request of the dialog, in the step in which it
-- went to the caller; or a request or an ACK of it, in the step that it was taken for and sent on in.
pub data WentThrough (server : Server) (history : List Link) (id : DialogId) (link : Link) : Message → Type 0 where
  Invite : (a : Arrival) (invite : Message) (status : ℕ) (response : Message) (begins : Begins server history a invite status response id)
      → begins.came_for.link ≡ link → WentThrough server history id link invite
  AnswerToInvite : (a : Arrival) (invite answer : Message) → Contains history link → IsBrought history a invite
      → bytes_eq (method_of invite.start) (codes "INVITE") ≡ true → WentToCaller (link ∷ []) a.number invite a.from (text_of answer)
      → NamesFor invite answer id → WentThrough server history id link answer
  AnswerWithin : (a : Arrival) (m answer : Message) → Contains history link → IsBrought history a m → Names m id
      → WentToCaller (link ∷ []) a.number m a.from (text_of answer) → WentThrough server history id link answer
  Within : (a : Arrival) (m : Message) (brought : IsBrought history a m) → brought.link ≡ link → Names m id → WasSentOn server (link ∷ []) a m
      → WentThrough server history id link m

-- ---- addresses

-- A message gives a server an address: that of the SIP URI of a Contact, or of a Record-Route, which has brackets, by the host addresses of
-- its configuration (RFC 3261 12.1.1, 12.2, 20.10, 20.30).
pub data Gives (server : Server) (m : Message) (address : Addr) : Type 0 where
  ByContact : (field : Field) (item : NameAddr) (uri : Uri) → Contains m.fields field → is_same_name field.name Name.Contact ≡ true
      → name_addr_of field.value ≡ Some item
      → item.uri ≡ Sip uri
      → address_of server.config.addresses uri ≡ Some address → Gives server m address
  ByRecordRoute : (field : Field) (item : NameAddr) (uri : Uri) → Contains m.fields field → is_same_name field.name Name.RecordRoute ≡ true
      → route_of field.value ≡ Some item
      → item.uri ≡ Sip uri
      → address_of server.config.addresses uri ≡ Some address → Gives server m address

-- Where an address of a dialog comes from: it is the source of an INVITE that began the dialog, the address of the branch that
-- answered this, or one that a message of the dialog gave, by the configuration of the step in which it went through.
pub data IsAddressOf (server : Server) (history : List Link) (id : DialogId) (address : Addr) : Type 0 where
  OfCaller : (a : Arrival) (invite : Message) (status : ℕ) (response : Message) → Begins server history a invite status response id → address ≡ a.from
      → IsAddressOf server history id address
  OfBranch : (a : Arrival) (invite : Message) (status : ℕ) (response : Message) (begins : Begins server history a invite status response id)
      → begins.came_for.branch.address ≡ Some address
      → IsAddressOf server history id address
  OfMessage : (link : Link) (m : Message) → WentThrough server history id link m → Gives (under server link.config) m address
      → IsAddressOf server history id address

-- ---- a dialog

-- A request of a dialog came at a moment: an INVITE that began it, or a request or an ACK of it that was sent on.
pub data HadRequest (server : Server) (history : List Link) (id : DialogId) (moment : ℕ) : Type 0 where
  AtFirst : (a : Arrival) (invite : Message) (status : ℕ) (response : Message) → Begins server history a invite status response id → moment ≡ a.now
      → HadRequest server history id moment
  Later : (a : Arrival) (m : Message) → IsBrought history a m → Names m id → WasSentOn server history a m → moment ≡ a.now
      → HadRequest server history id moment

-- An INVITE began a dialog with a 2xx.
pub record WasAccepted (server : Server) (history : List Link) (id : DialogId) : Type 0 where
  pub a : Arrival
  pub invite : Message
  pub status : ℕ
  pub response : Message
  pub begins : Begins server history a invite status response id
  pub is_success : 200 ≤ status

-- A dialog was told: the INVITE of its number began it, with a response that names it; a request of it came at the moment since
-- which it is known; it is confirmed only by a
-- 2xx; and each of its addresses is one of it.
pub record WasTold (server : Server) (history : List Link) (d : Dialog) : Type 0 where
  pub a : Arrival
  pub invite : Message
  pub status : ℕ
  pub response : Message
  pub begins : Begins server history a invite status response d.id
  pub is_number : d.number ≡ a.number
  pub had_request : HadRequest server history d.id d.since
  pub was_accepted : d.has_success ≡ true → WasAccepted server history d.id
  pub are_addresses : AllByRecursion (IsAddressOf server history d.id) d.addresses

-- A request or an ACK of a dialog goes, at a moment, to an address of that dialog, of which a request came less than twelve hours before.
pub record GoesWhereTold (server : Server) (history : List Link) (now : ℕ) (id : DialogId) (address : Addr) : Type 0 where
  pub is_address : IsAddressOf server history id address
  pub moment : ℕ
  pub had_request : HadRequest server history id moment
  pub is_recent : now < moment + 43200000

-- ---- the end of a dialog

-- In a step a 2xx comes for a branch of a BYE of a dialog, while neither has a final answer; it has a second Via, so that it goes to
-- the caller (RFC 3261 15, 16.7 step 5).
pub record EndsDialog (server : Server) (link : Link) (id : DialogId) : Type 0 where
  pub a : Arrival
  pub bytes : List ℕ
  pub response : Message
  pub status : ℕ
  pub reason : List ℕ
  pub request : OpenRequest
  pub branch : Branch
  pub is_said : IsSaidAt link.before link.act a bytes response false
  pub is_response : response.start ≡ Status status reason
  pub is_accepting : is_success status ≡ true
  pub goes_on : is_many (values_of Name.Via response.fields) ≡ true
  pub is_for : responding server link.before.requests response.fields ≡ Some (request, branch)
  pub is_target : branch.is_cancel ≡ false
  pub is_first : is_final branch.phase ≡ false
  pub is_waiting : is_answering request.side ≡ true
  pub is_bye : bytes_eq request.key.method (codes "BYE") ≡ true
  pub names : Names request.request.message id

-- A dialog was told anew in the newer steps of a history: the response with which an INVITE began it came in one of them.
pub record WasToldAnew (server : Server) (newer history : List Link) (id : DialogId) : Type 0 where
  pub a : Arrival
  pub invite : Message
  pub status : ℕ
  pub response : Message
  pub begins : Begins server history a invite status response id
  pub is_newer : Contains newer begins.came_for.link

-- An INVITE that came in the datagram of a number is open: neither its transaction nor those of all its branches have ended.
pub record IsInviteOpen (requests : List OpenRequest) (number : ℕ) : Type 0 where
  pub request : OpenRequest
  pub is_open : Contains requests request
  pub is_number : request.number ≡ number
  pub is_for_invite : is_invite request ≡ true
