-- The headline for its reader: where each request went, what an allowed REGISTER did, which rule denied, and to whom all else belongs. Of the
-- bytes that are made here it says what a request line, a status line, a Warning and a list of Contacts say.
use Rattle.std.specs.Prelude.{◌≡◌, ◌⊎◌, ◌<◌, ◌≤◌, ◌&&◌, ◌||◌, ◌++◌, nat_lt, ℕ, Bool, true, false, if◌then◌else◌, List, [], ◌∷◌, length, Contains, Option, Some, None}
use Rattle.std.specs.Prelude.{option_map, unwrap_or, Ok, codes}
use Rattle.std.specs.List.{AllByRecursion, AllZip, filter_map}
use Rattle.std.specs.Option.{option_map_or}
use Rattle.std.specs.Str.{bytes_eq}
use Rattle.sip_uri.specs.declared.addr.Addr.{Addr}
use Rattle.sip_uri.specs.declared.uri.Uri.{Uri}
use Rattle.sip_uri.specs.Uri as UriText
use Rattle.sip_uri.specs.Aor.{aor_of}
use Rattle.sip_message_fields.specs.declared.field.Field.{Field}
use Rattle.sip_message_fields.specs.declared.field_name.FieldName.{FieldName}
use Rattle.sip_message_fields.specs.declared.field_name.FieldName.TheVariants as Name
use Rattle.sip_message_fields.specs.Named.{all_named}
use Rattle.sip_message_form.specs.declared.message.Start.TheVariants.{Request, Status}
use Rattle.sip_message_form.specs.declared.message.Message.{Message}
use Rattle.sip_message_form.specs.Text.{text_of}
use Rattle.sip_message.specs.Lines.{unfolded, IsCut}
use Rattle.sip_message.specs.Start.{IsRequestLine}
use Rattle.sip_message.specs.Field.{kept, IsField}
use Rattle.sip_message.specs.Body.{lengths, IsBody}
use Rattle.sip_message.specs.Says.{IsWithinLimits}
use Rattle.sip_header.specs.declared.core_fields.CoreFields.{CoreFields}
use Rattle.sip_header.specs.CoreFields.{core_of}
use Rattle.sip_transaction_table.specs.declared.key.TransactionKey.{TransactionKey}
use Rattle.sip_transaction_table.specs.Key.{key_of}
use Rattle.sip_route.specs.declared.own.Own.{Own}
use Rattle.sip_route.specs.Way.{request_uri_of, way_from}
use Rattle.sip_hops.specs.declared.host_address.HostAddress.{HostAddress}
use Rattle.sip_hops.specs.HostAddress.{address_of}
use Rattle.sip_hops.specs.Hop.{hop_of}
use Rattle.sip_validate.specs.UncheckedRequest.{UncheckedRequest}
use Rattle.sip_validate.specs.Faults.{has_other_cseq_method, has_bad_max_forwards, has_bad_uri, has_bad_item, registers_other_scheme, binds_other_contact}
use Rattle.sip_validate.specs.Refusal.{has_other_scheme, has_no_hops, has_own_via, needs_extension, has_other_route}
use Rattle.sip_edit.specs.ReceivedRequest.{response_address}
use Rattle.sip_edit_response.specs.Extras.{denial_warning}
use Rattle.sip_policy.specs.declared.decision.Decision.{Decision}
use Rattle.sip_policy.specs.Decision.{decision_of}
use Rattle.sip_policy.specs.Operation.{operation_of}
use Rattle.sip_policy.specs.User.{is_own_domain, is_users_address}
use Rattle.sip_policy.specs.Window.{minute_of}
use Rattle.sip_location.specs.declared.binding.Binding.{Binding}
use Rattle.sip_location.specs.Binding.{live, contacts_of, of_others}
use Rattle.sip_location.specs.Registering.{to_aor, registration_of}
use Rattle.sip_location.specs.declared.registration.Registration.{Registration}
use Rattle.sip_location.specs.Registration.{has_bad_star, is_too_brief, has_old_cseq, edited, asks_nothing}
use Rattle.sip_location.specs.Sameness.{SameBindings}
use Rattle.sip_targets.specs.Target.{target_uri}
use Rattle.sip_dialog.specs.declared.dialog.DialogId.{DialogId}
use Rattle.sip_dialog.specs.DialogId.{id_of}
use Rattle.sip_dialog.specs.Dialogs.{IsInDialog}
use Rattle.sip_event.specs.declared.packet.Packet.{Packet}
use Rattle.sip_event.specs.declared.event.Event.TheVariants.{Datagram}
use Rattle.sip_model.specs.state.declared.server.Server.{Server}
use Rattle.sip_model.specs.state.declared.proxy_state.ProxyState.{ProxyState}
use Rattle.sip_model.specs.state.declared.branch.Branch.{Branch}
use Rattle.sip_model.specs.state.declared.open_request.OpenRequest.{OpenRequest}
use Rattle.sip_model.specs.verdict_model.Verdict.{is_register, has_contact, target_of}
use Rattle.sip_model.specs.steps_model.Effect.{contact_fields}
use Rattle.sip_model.specs.steps_model.Step.{Given, moment_of, originals}
use Rattle.sip_model.specs.Run.{Link, under}
use Rattle.sip_model.specs.Lives.{first_sending, sent_first}
use Rattle.sip_model.specs.Access.{rule_of, branch_originals}
use Rattle.model_laws.specs.Packets.{BeginsWithLine}

-- ---- requests

-- a request, where it came from and when, its method, and its From, To, Call-ID and CSeq
pub record Came : Type 0 where
  pub from : Addr
  pub now : ℕ
  pub message : Message
  pub method : List ℕ
  pub core : CoreFields

-- it as it is checked, with its Request-URI
abbrev pub checked : Own → Came → List ℕ → UncheckedRequest
checked own q uri = record {
  own = own;
  method = q.method;
  uri = uri;
  version = codes "SIP/2.0";
  fields = q.message.fields;
  short = false;
  core = Some q.core;
  way = way_from own uri q.message.fields;
}

-- Bytes say it, with this Request-URI: their first line is its request line; each further line, with its folds, writes a field, and what is
-- kept of these are its fields; what follows the empty line is its body, as long as Content-Length says (RFC 3261 7).
pub record IsSaid (bytes : List ℕ) (q : Came) (uri : List ℕ) : Type 0 where
  pub first : List ℕ
  pub lines : List (List ℕ)
  pub rest : List ℕ
  pub entries : List Field
  pub is_cut : IsCut bytes first lines rest
  pub is_line : IsRequestLine first q.method uri (codes "SIP/2.0")
  pub is_request : q.message.start ≡ Request q.method uri (codes "SIP/2.0")
  pub are_entries : AllZip IsField (unfolded lines) entries
  pub are_kept : kept entries ≡ Some q.message.fields
  pub is_body : IsBody (lengths entries) rest q.message.body

-- It passes each check: it is no bad request (400), it is a SIP one (416), it has hops left (483), it is no loop (482), it needs no
-- extension (420), and it wants to go by no other place (RFC 3261 16.3).
pub record IsChecked (c : UncheckedRequest) : Type 0 where
  pub has_its_method : has_other_cseq_method c ≡ false
  pub has_a_limit : has_bad_max_forwards c ≡ false
  pub has_a_uri : has_bad_uri c ≡ false
  pub has_items : has_bad_item c ≡ false
  pub registers_sip : registers_other_scheme c ≡ false
  pub binds_sip : binds_other_contact c ≡ false
  pub is_sip : has_other_scheme c ≡ false
  pub has_hops : has_no_hops c ≡ false
  pub is_no_loop : has_own_via c ≡ false
  pub needs_nothing : needs_extension c ≡ false
  pub goes_by_here : has_other_route c ≡ false

-- A step's datagram says a request, of a size that is read, that passes each check.
pub record IsValid (server : Server) (link : Link) (q : Came) : Type 0 where
  pub at : ℕ
  pub word : ℕ
  pub bytes : List ℕ
  pub uri : List ℕ
  pub is_act : link.act ≡ Given (Datagram at word q.from bytes)
  pub is_now : moment_of link.before at ≡ q.now
  pub is_said : IsSaid bytes q uri
  pub fits : IsWithinLimits bytes q.message
  pub core_is : core_of q.message ≡ Ok q.core
  pub passes : IsChecked (checked server.config.own q uri)

-- It is new and outside a dialog, too: it is neither ACK nor CANCEL, its transaction isn't open, there is room for it, and it is a
-- REGISTER or its To has no tag (RFC 3261 12.2, 17.2.3).
pub record IsNew (server : Server) (link : Link) (q : Came) : Type 0 where
  pub key : TransactionKey
  pub is_valid : IsValid server link q
  pub key_is : key_of q.message ≡ Some key
  pub is_new : (r : OpenRequest) → Contains link.before.requests r → r.key ≡ key → ⊥
  pub is_no_ack : bytes_eq q.method (codes "ACK") ≡ false
  pub is_no_cancel : bytes_eq q.method (codes "CANCEL") ≡ false
  pub has_room : length link.before.requests < 1024
  pub is_outside : (is_register q.method ≡ true) ⊎ (id_of q.core ≡ None)

-- whom a message proves to come from, if anyone, to a server in a state, at a moment: who is proven is told by no definition here; of
-- this server it is told by `by_digest` of `specs/Proven`
abbrev pub Proves : Type 0
Proves = Server → ProxyState → ℕ → Message → Option (List ℕ)

-- what the first matching rule decides about it: for the user whom it proves to come from, or for nobody, about what it asks for, of
-- which address of record, at the minute of the day
abbrev pub decided : Proves → Server → Link → Came → Decision
decided proves server link q =
    decision_of server.config.rules server.config.users server.config.own.domains (proves server link.before q.now q.message)
    (operation_of q.method (has_contact q.message.fields)) (target_of server q.message q.method q.core) (minute_of q.now server.config.offset)

-- it is a REGISTER, and a rule lets it through (RFC 3261 10.3 steps 3 and 4)
pub record IsAllowed (proves : Proves) (server : Server) (link : Link) (q : Came) : Type 0 where
  pub id : ℕ
  pub is_new : IsNew server link q
  pub registers : is_register q.method ≡ true
  pub is_let_through : rule_of (decided proves server link q) ≡ Some id

-- whether it is for a domain of this server, and its To a user's address (RFC 3261 10.3 steps 1 and 5)
abbrev pub is_served_here : Server → Came → Bool
is_served_here server q =
    option_map_or (λ uri. is_own_domain server.config.own.domains uri.host) (request_uri_of server.config.own q.message) false
    && is_users_address server.config.users server.config.own.domains (to_aor q.core)

-- the bindings after what is asked of some: as they are after a query; else those of its address are edited, by all its Contacts or by
-- none, and no other address's (RFC 3261 10.3 steps 6 and 7; at most 16 are kept: this project's profile)
abbrev pub edited_by : List Binding → Registration → ℕ → Option (List Binding)
edited_by rows r now =
    if asks_nothing r.contacts then Some rows
    else if has_bad_star r || is_too_brief r || has_old_cseq r (live r.aor now rows) || nat_lt 16 (length (edited rows r now)) then None
    else Some (of_others r.aor rows ++ edited rows r now)

-- the bindings that the registrar makes of some by it, if it doesn't refuse it
abbrev pub bound_by : Server → List Binding → Came → Option (List Binding)
bound_by server rows q = if is_served_here server q then edited_by rows (registration_of q.core q.message.fields) q.now else None

-- ---- where it goes

-- the place of a contact: the address of its URI, if it has one, and the text of that, as it is a Request-URI (RFC 3261 16.6 step 2, 19.1.1)
abbrev pub place_of : List HostAddress → Uri → Option (Addr × List ℕ)
place_of addresses contact = option_map (λ address. (address, UriText.text_of (target_uri contact))) (address_of addresses (target_uri contact))

-- Where a decision lets a request for a URI go, over some bindings: to the unexpired ones of a configured user's address, in their
-- order; to the configured hop; a request that is denied or challenged goes nowhere (RFC 3261 16.5).
abbrev pub led_by : Server → List Binding → ℕ → Decision → Uri → List (Addr × List ℕ)
led_by server rows now (Decision.Allow id) uri =
    if is_users_address server.config.users server.config.own.domains (aor_of uri)
    then filter_map (place_of server.config.addresses) (contacts_of rows now (aor_of uri)) else []
led_by server rows now (Decision.Via id hop) uri = option_map_or (λ address. (address, UriText.text_of uri) ∷ []) (hop_of server.config.hops hop) []
led_by server rows now (Decision.Deny id) uri = []
led_by server rows now Decision.Challenge uri = []

-- the places of its targets: none of a REGISTER, which is for this server
abbrev pub places : Proves → Server → List Binding → Link → Came → List (Addr × List ℕ)
places proves server rows link q =
    if is_register q.method then []
    else option_map_or (led_by server rows q.now (decided proves server link q)) (request_uri_of server.config.own q.message) []

-- a packet is a request of a method to a place: it goes to the address, and its Request-URI is that text (RFC 3261 7.1, 16.6)
abbrev pub GoesTo : List ℕ → Packet → Addr × List ℕ → Type 0
GoesTo method p place = (p.to ≡ place.0) × BeginsWithLine method place.1 p.bytes

-- ---- what it gets

-- All that is sent for the first time is one response of a status to a request, to where its responses go; of the fields of a name
-- it has these (RFC 3261 8.2.6, 18.2.2).
pub record IsAnswered (q : Came) (packets : List Packet) (status : ℕ) (name : FieldName) (fields : List Field) : Type 0 where
  pub packet : Packet
  pub response : Message
  pub reason : List ℕ
  pub is_alone : originals packets ≡ packet ∷ []
  pub goes_back : packet.to ≡ response_address q.message q.from
  pub is_text : packet.bytes ≡ text_of response
  pub has_status : response.start ≡ Status status reason
  pub has : all_named name response.fields ≡ fields

-- What becomes of it over some bindings: it is sent to exactly its targets, one by one in their order; where policy denies it, it gets
-- the 403 whose one Warning names that rule; a REGISTER that is allowed gets the 200 whose Contacts are the live bindings of its
-- address after it, or another final response without a Contact where the registrar refuses it (RFC 3261 10.3, 16.6, 20.43).
pub record IsServed (proves : Proves) (server : Server) (rows : List Binding) (link : Link) (q : Came) : Type 0 where
  pub goes : AllZip (GoesTo q.method) (branch_originals link.out.packets) (places proves server rows link q)
  pub denies : (id : ℕ) → decided proves server link q ≡ Decision.Deny id
      → IsAnswered q link.out.packets 403 Name.Warning (denial_warning server.config.own id ∷ [])
  pub lists : (after : List Binding) → IsAllowed proves server link q → bound_by server rows q ≡ Some after
      → IsAnswered q link.out.packets 200 Name.Contact (contact_fields q.now (to_aor q.core) after)
  pub refuses : IsAllowed proves server link q → bound_by server rows q ≡ None → (status : ℕ) × (300 ≤ status) × IsAnswered q link.out.packets status Name.Contact []

-- The bindings after a step: by the REGISTER that is allowed in it, what the registrar makes of those before it; where it refuses it,
-- or none is allowed, those before it (RFC 3261 10.3).
pub data Binds (proves : Proves) (server : Server) (link : Link) (rows : List Binding) : List Binding → Type 0 where
  Registers : (q : Came) → IsAllowed proves server link q → Binds proves server link rows (unwrap_or (bound_by server rows q) rows)
  Stays : ((q : Came) → IsAllowed proves server link q → ⊥) → Binds proves server link rows rows

-- ---- what else is sent

-- What a packet of a step belongs to: to the valid new request of its datagram, of which it goes to a target; to the request that its
-- datagram brings, which is no ACK, and whose sender it goes to; to an open request, of which it goes to the caller or to a branch;
-- or to a known dialog, which holds the address that it goes to (RFC 3261 12.2, 16.6, 16.7, 18.2.2).
pub data Belongs (server : Server) (link : Link) (p : Packet) : Type 0 where
  ToTarget : (q : Came) → IsNew server link q → Contains (branch_originals link.out.packets) p → Belongs server link p
  ToSender : (at word : ℕ) (from : Addr) (bytes first method uri version : List ℕ) (lines : List (List ℕ)) (rest : List ℕ)
      → link.act ≡ Given (Datagram at word from bytes) → IsCut bytes first lines rest → IsRequestLine first method uri version
      → bytes_eq method (codes "ACK") ≡ false → p.to.ip ≡ from.ip → p.ticket.datagram ≡ link.before.next → Belongs server link p
  ToCaller : (r : OpenRequest) → Contains link.before.requests r → p.to ≡ response_address r.request.message r.request.source
      → p.ticket.datagram ≡ r.number → Belongs server link p
  ToBranch : (r : OpenRequest) (b : Branch) → Contains link.before.requests r → Contains r.branches b → b.address ≡ Some p.to
      → p.ticket.datagram ≡ r.number → Belongs server link p
  InDialog : (q : Came) (id : DialogId) → IsValid server link q → id_of q.core ≡ Some id → IsInDialog q.now link.before.dialogs id p.to
      → p.ticket.datagram ≡ link.before.next → Belongs server link p

-- what goes again went before, byte for byte to the same address (RFC 3261 17)
abbrev pub WentBefore : List Packet → Packet → Type 0
WentBefore sent p = p.again ≡ true → Contains sent (first_sending p)

-- ---- the headline

-- A step keeps it, over the bindings before it, which it leaves as others: they are what the state has from its moment on, before and after.
pub record IsKept (proves : Proves) (server : Server) (sent : List Packet) (rows : List Binding) (link : Link) (after : List Binding) : Type 0 where
  pub had : SameBindings link.before.moment link.before.bindings rows
  pub serves : (q : Came) → IsNew server link q → IsServed proves server rows link q
  pub binds : Binds proves server link rows after
  pub has : SameBindings link.after.moment link.after.bindings after
  pub belongs : AllByRecursion (Belongs server link) link.out.packets
  pub went : AllByRecursion (WentBefore sent) link.out.packets

-- each step of a history keeps it, by the configuration in force, from no binding on, and these are left
pub data Leads (proves : Proves) (server : Server) : List Link → List Binding → Type 0 where
  Begins : Leads proves server [] []
  Goes : (link : Link) (history : List Link) (rows after : List Binding) → Leads proves server history rows
      → IsKept proves (under server link.config) (sent_first history) rows link after → Leads proves server (link ∷ history) after

-- Over every list of datagrams, timer moments and send faults, each valid new request outside a dialog is sent to exactly the
-- unexpired bindings or the configured hop that the first matching rule gives its proven user; bindings change or are listed exactly as
-- an allowed REGISTER says; every policy denial is a 403 whose Warning names that rule; all else sent belongs to an open request or a
-- known dialog. The newest step stands first.
pub record Headline (proves : Proves) (server : Server) (history : List Link) : Type 0 where
  pub bindings : List Binding
  pub leads : Leads proves server history bindings
