-- What is made of the known dialogs keeps that each was told.
use Rattle.std.proofs.Common.{◌≡◌, ◌⊎◌, ◌∙◌, inl, inr, ℕ, ◌≤◌, Bool, true, false, ◌&&◌, ◌||◌, cond, List, [], ◌∷◌, ◌++◌, length, bytes_eq, Contains, Option, Some, None}
use Rattle.std.proofs.Common.{option_and_then, refl, sym, subst}
use Rattle.std.specs.Prelude.{option_map, Result, Ok, Err, nat_le}
use Rattle.std.specs.Option.{unwrap_or}
use Rattle.std.specs.Result.{result_ok}
use Rattle.std.specs.List.{AllByRecursion, filter_map, cons_option, list_any}
use Rattle.std.proofs.lemmas.Slice.Eq.{bytes_eq-Decides}
use Rattle.sip_message_fields.specs.declared.field.Field.{Field}
use Rattle.sip_message_fields.specs.declared.field_name.FieldName.TheVariants as Name
use Rattle.sip_message_fields.specs.FieldName.{is_same_name}
use Rattle.sip_message_form.specs.declared.message.Message.{Message}
use Rattle.sip_uri.specs.declared.uri.Uri.{Uri}
use Rattle.sip_uri.specs.declared.addr.Addr.{Addr}
use Rattle.sip_header.specs.declared.core_fields.CoreFields.{CoreFields}
use Rattle.sip_header.specs.declared.error.HeaderError.{HeaderError}
use Rattle.sip_header.specs.declared.name_addr.AnyUri.{AnyUri}
use Rattle.sip_header.specs.declared.name_addr.AnyUri.TheVariants.{Sip, Other}
use Rattle.sip_header.specs.declared.name_addr.NameAddr.{NameAddr}
use Rattle.sip_header.specs.CoreFields.{core_of, name_addr_in}
use Rattle.sip_header.specs.NameAddr.{name_addr_of}
use Rattle.sip_header.specs.Parameters.{tag_of}
use Rattle.sip_header.specs.Route.{route_of}
use Rattle.sip_hops.specs.HostAddress.{address_of}
use Rattle.sip_dialog.specs.declared.dialog.DialogId.{DialogId}
use Rattle.sip_dialog.specs.declared.dialog.Dialog.{Dialog}
use Rattle.sip_dialog.specs.declared.dialog.InviteAnswer.{InviteAnswer}
use Rattle.sip_dialog.specs.DialogId.{is_same_dialog, id_with, id_of, answer_id}
use Rattle.sip_dialog.specs.Addresses.{is_same_addr, with_address, with_addresses, address_by, address_in}
use Rattle.sip_dialog.specs.Dialogs.{is_named, told, answered_again, begun}
use Rattle.sip_model.specs.state.declared.server.Server.{Server}
use Rattle.sip_model.specs.state.declared.open_request.OpenRequest.{OpenRequest}
use Rattle.sip_model.specs.state.Dialogs.{dialog_of, addresses_of, answered_dialog}
use Rattle.sip_model.specs.state.Arrival.{Arrival}
use Rattle.sip_model.specs.Run.{Link, under}
use Rattle.model_laws.specs.Dialogs.{IsNamed, Names, NamesFor, Begins, WentThrough, Invite, AnswerToInvite, AnswerWithin, Within, Gives, ByContact, ByRecordRoute}
use Rattle.model_laws.specs.Dialogs.{IsAddressOf, OfCaller, OfBranch, OfMessage, HadRequest, AtFirst, Later, WasAccepted, WasTold}
use Rattle.sip_model.proofs.Places.{IsIn, contains_from_in, all_weaker}
use Rattle.sip_model.proofs.Lists.{all_append}

-- ---- names

-- both parts of a test hold
and_parts : (x y : Bool) → (x && y) ≡ true → (x ≡ true) × (y ≡ true)
and_parts true y e = (refl, e)
and_parts false y e = absurd (cc)

-- one part of a test holds
or_parts : (x y : Bool) → (x || y) ≡ true → (x ≡ true) ⊎ (y ≡ true)
or_parts true y e = inl refl
or_parts false y e = inr e

-- texts that are compared are one
text_is : (x y : List ℕ) → bytes_eq x y ≡ true → x ≡ y
text_is x y e = (bytes_eq-Decides x y).0 e

-- what names one of two that are the same names the other
pub named_alike : (d id : DialogId) (call_id one other : List ℕ) → is_same_dialog d id ≡ true → IsNamed id call_id one other → IsNamed d call_id one other
named_alike d id call_id one other same named = (text_is d.call_id id.call_id parts.0 ∙ named.0, by_order (or_parts straight crossed parts.1) named.1) where
  straight : Bool
  straight = bytes_eq d.from_tag id.from_tag && bytes_eq d.to_tag id.to_tag

  crossed : Bool
  crossed = bytes_eq d.from_tag id.to_tag && bytes_eq d.to_tag id.from_tag

  parts : (bytes_eq d.call_id id.call_id ≡ true) × ((straight || crossed) ≡ true)
  parts = and_parts (bytes_eq d.call_id id.call_id) (straight || crossed) same

  by_order : (straight ≡ true) ⊎ (crossed ≡ true) → ((id.from_tag ≡ one) × (id.to_tag ≡ other)) ⊎ ((id.from_tag ≡ other) × (id.to_tag ≡ one))
      → ((d.from_tag ≡ one) × (d.to_tag ≡ other)) ⊎ ((d.from_tag ≡ other) × (d.to_tag ≡ one))
  by_order (inl e) (inl tags) =
      let both = and_parts (bytes_eq d.from_tag id.from_tag) (bytes_eq d.to_tag id.to_tag) e in
      inl (text_is d.from_tag id.from_tag both.0 ∙ tags.0, text_is d.to_tag id.to_tag both.1 ∙ tags.1)
  by_order (inl e) (inr tags) =
      let both = and_parts (bytes_eq d.from_tag id.from_tag) (bytes_eq d.to_tag id.to_tag) e in
      inr (text_is d.from_tag id.from_tag both.0 ∙ tags.0, text_is d.to_tag id.to_tag both.1 ∙ tags.1)
  by_order (inr e) (inl tags) =
      let both = and_parts (bytes_eq d.from_tag id.to_tag) (bytes_eq d.to_tag id.from_tag) e in
      inr (text_is d.from_tag id.to_tag both.0 ∙ tags.1, text_is d.to_tag id.from_tag both.1 ∙ tags.0)
  by_order (inr e) (inr tags) =
      let both = and_parts (bytes_eq d.from_tag id.to_tag) (bytes_eq d.to_tag id.from_tag) e in
      inl (text_is d.from_tag id.to_tag both.0 ∙ tags.1, text_is d.to_tag id.from_tag both.1 ∙ tags.0)

-- a From and a To with a tag name a dialog
with_names : (call_id : List ℕ) (from to : NameAddr) (id : DialogId) → id_with call_id from to ≡ Some id
    → (tag : List ℕ) × (tag_of to.parameters ≡ Some tag) × IsNamed id call_id (unwrap_or (tag_of from.parameters) []) tag
with_names call_id from to id e = by_tag (tag_of to.parameters) refl e where
  by_tag : (o : Option (List ℕ)) → tag_of to.parameters ≡ o
      → option_map (λ tag. record { call_id = call_id; from_tag = unwrap_or (tag_of from.parameters) []; to_tag = tag }) o ≡ Some id
      → (tag : List ℕ) × (tag_of to.parameters ≡ Some tag) × IsNamed id call_id (unwrap_or (tag_of from.parameters) []) tag
  by_tag None is f = absurd (cc)
  by_tag (Some tag) is f =
      let same : record { call_id = call_id; from_tag = unwrap_or (tag_of from.parameters) []; to_tag = tag } ≡ id = cc in
      (tag, is, subst (λ (i : DialogId). IsNamed i call_id (unwrap_or (tag_of from.parameters) []) tag) same (refl, inl (refl, refl)))

-- a request that names a dialog
pub dialog_names : (m : Message) (id : DialogId) → dialog_of m ≡ Some id → Names m id
dialog_names m id e = by_core (core_of m) refl e where
  by_core : (read : Result CoreFields HeaderError) → core_of m ≡ read → option_and_then (λ core. id_of core) (result_ok read) ≡ Some id → Names m id
  by_core (Err x) is f = absurd (cc)
  by_core (Ok core) is f = let named = with_names core.call_id core.from core.to id f in
      record { core = core; tag = named.0; core_is = is; to_tag_is = named.1; name_is = named.2 }

-- an answer that does for an INVITE
pub answer_names : (r : OpenRequest) (answer : Message) (id : DialogId) → answered_dialog r answer ≡ Some id → NamesFor r.request.message answer id
answer_names r answer id e = by_core (core_of r.request.message) refl e where
  by_to : (core : CoreFields) → core_of r.request.message ≡ Ok core → (read : Result NameAddr HeaderError) → name_addr_in Name.To answer.fields ≡ read
      → option_and_then (id_with core.call_id core.from) (result_ok read) ≡ Some id → NamesFor r.request.message answer id
  by_to core read_is (Err x) is f = absurd (cc)
  by_to core read_is (Ok to) is f =
      let named = with_names core.call_id core.from to id f in record {
        core = core;
        to = to;
        tag = named.0;
        core_is = read_is;
        to_is = is;
        to_tag_is = named.1;
        name_is = named.2;
      }

  by_core : (read : Result CoreFields HeaderError) → core_of r.request.message ≡ read → option_and_then (λ core. answer_id core answer.fields) (result_ok read) ≡ Some id
      → NamesFor r.request.message answer id
  by_core (Err x) is f = absurd (cc)
  by_core (Ok core) is f = by_to core is (name_addr_in Name.To answer.fields) refl f

-- ---- addresses

-- the address that a field gives, a message that has the field gives
field_gives : (server : Server) (m : Message) (field : Field) (address : Addr)
    → Contains m.fields field → address_in (address_of server.config.addresses) field ≡ Some address
    → Gives server m address
field_gives server m field address there e = by_names (is_same_name field.name Name.Contact) refl (is_same_name field.name Name.RecordRoute) refl e where
  by : AnyUri → Option Addr
  by uri = address_by (address_of server.config.addresses) uri

  by_uri : (item : NameAddr) → ((uri : Uri) → item.uri ≡ Sip uri → address_of server.config.addresses uri ≡ Some address → Gives server m address) → (uri : AnyUri)
      → item.uri ≡ uri → by uri ≡ Some address → Gives server m address
  by_uri item gives (Sip uri) is f = gives uri is f
  by_uri item gives (Other text) is f = absurd (cc)

  by_contact : is_same_name field.name Name.Contact ≡ true → (o : Option NameAddr) → name_addr_of field.value ≡ o
      → option_and_then (λ (item : NameAddr). by item.uri) o ≡ Some address → Gives server m address
  by_contact name None is f = absurd (cc)
  by_contact name (Some item) is f = by_uri item (λ uri uri_is at. ByContact field item uri there name is uri_is at) item.uri refl f

  by_route : is_same_name field.name Name.RecordRoute ≡ true → (o : Option NameAddr) → route_of field.value ≡ o
      → option_and_then (λ (item : NameAddr). by item.uri) o ≡ Some address → Gives server m address
  by_route name None is f = absurd (cc)
  by_route name (Some item) is f = by_uri item (λ uri uri_is at. ByRecordRoute field item uri there name is uri_is at) item.uri refl f

  by_names : (t : Bool) → is_same_name field.name Name.Contact ≡ t → (u : Bool) → is_same_name field.name Name.RecordRoute ≡ u
      → option_and_then (λ (item : NameAddr). by item.uri) (cond t (name_addr_of field.value) (cond u (route_of field.value) None)) ≡ Some address
      → Gives server m address
  by_names true contact u route f = by_contact contact (name_addr_of field.value) refl f
  by_names false contact true route f = by_route route (route_of field.value) refl f
  by_names false contact false route f = absurd (cc)

-- each address that is read from some fields of a message it gives
fields_give : (server : Server) (m : Message) (fields : List Field) → ((field : Field) → IsIn field fields → Contains m.fields field)
    → AllByRecursion (Gives server m) (filter_map (address_in (address_of server.config.addresses)) fields)
fields_give server m [] there = tt
fields_give server m (x ∷ xs) there = by_address (fields_give server m xs (λ field later. there field (inr later))) (address_in (address_of server.config.addresses) x)
    refl where
      by_address : AllByRecursion (Gives server m) (filter_map (address_in (address_of server.config.addresses)) xs) → (o : Option Addr)
          → address_in (address_of server.config.addresses) x ≡ o → AllByRecursion (Gives server m)
          (cons_option o (filter_map (address_in (address_of server.config.addresses)) xs))
      by_address rest None is = rest
      by_address rest (Some address) is = (field_gives server m x address (there x (inl refl)) is, rest)

-- and so each that is read from the message
pub message_gives : (server : Server) (m : Message) → AllByRecursion (Gives server m) (addresses_of server m)
message_gives server m = fields_give server m m.fields (λ field there. contains_from_in m.fields field there)

-- what holds of the addresses that are held, and of more, holds of those that are held then
one_more : (P : Addr → Type 0) (held : List Addr) (a : Addr) → AllByRecursion P held → P a → AllByRecursion P (with_address held a)
one_more P held a all own = by_test (list_any (is_same_addr a) held || nat_le 16 (length held)) where
  by_test : (t : Bool) → AllByRecursion P (cond t held (held ++ a ∷ []))
  by_test true = all
  by_test false = all_append P held (a ∷ []) all (own, tt)

-- and some more
more_held : (P : Addr → Type 0) (held more : List Addr) → AllByRecursion P held → AllByRecursion P more → AllByRecursion P (with_addresses held more)
more_held P held [] all own = all
more_held P held (a ∷ more) all own = more_held P (with_address held a) more (one_more P held a all own.0) own.1

module _ (server : Server) (history : List Link) where
  -- ---- dialogs that are the same

  -- an INVITE that began one began the other
  begins_alike : (d id : DialogId) → is_same_dialog d id ≡ true → (a : Arrival) (invite : Message) (status : ℕ) (response : Message)
      → Begins server history a invite status response id
      → Begins server history a invite status response d
  begins_alike d id same a invite status response h = record {
    is_brought = h.is_brought;
    is_invite = h.is_invite;
    came_for = h.came_for;
    is_above_100 = h.is_above_100;
    is_below_300 = h.is_below_300;
    has_gone = h.has_gone;
    names = record {
      core = h.names.core;
      to = h.names.to;
      tag = h.names.tag;
      core_is = h.names.core_is;
      to_is = h.names.to_is;
      to_tag_is = h.names.to_tag_is;
      name_is = named_alike d id _ _ _ same h.names.name_is;
    };
  }

  -- a request that names one names the other
  pub names_alike : (d id : DialogId) (m : Message) → is_same_dialog d id ≡ true → Names m id → Names m d
  names_alike d id m same h = record { core = h.core; tag = h.tag; core_is = h.core_is; to_tag_is = h.to_tag_is; name_is = named_alike d id _ _ _ same h.name_is }

  -- and so an answer
  names_for_alike : (d id : DialogId) (invite answer : Message) → is_same_dialog d id ≡ true → NamesFor invite answer id → NamesFor invite answer d
  names_for_alike d id invite answer same h =
      record { core = h.core; to = h.to; tag = h.tag; core_is = h.core_is; to_is = h.to_is; to_tag_is = h.to_tag_is; name_is = named_alike d id _ _ _ same h.name_is }

  -- a message of one is one of the other
  through_alike : (d id : DialogId) (link : Link) (m : Message) → is_same_dialog d id ≡ true → WentThrough server history id link m → WentThrough server history d link m
  unfolding begins_alike
  through_alike d id link _ same (Invite a invite status response begins now) = Invite a invite status response (begins_alike d id same a invite status response begins)
      now
  through_alike d id link _ same (AnswerToInvite a invite answer there brought is gone names) =
      AnswerToInvite a invite answer there brought is gone (names_for_alike d id invite answer same names)
  through_alike d id link _ same (AnswerWithin a m answer there brought names gone) = AnswerWithin a m answer there brought (names_alike d id m same names) gone
  through_alike d id link _ same (Within a m brought now names sent) = Within a m brought now (names_alike d id m same names) sent

  -- an address of one is one of the other
  pub address_alike : (d id : DialogId) → is_same_dialog d id ≡ true → (address : Addr) → IsAddressOf server history id address → IsAddressOf server history d address
  unfolding begins_alike
  address_alike d id same address (OfCaller a invite status response begins e) = OfCaller a invite status response
      (begins_alike d id same a invite status response begins) e
  address_alike d id same address (OfBranch a invite status response begins e) = OfBranch a invite status response
      (begins_alike d id same a invite status response begins) e
  address_alike d id same address (OfMessage link m through gives) = OfMessage link m (through_alike d id link m same through) gives

  -- a request of one is one of the other
  pub request_alike : (d id : DialogId) → is_same_dialog d id ≡ true → (moment : ℕ) → HadRequest server history id moment → HadRequest server history d moment
  request_alike d id same moment (AtFirst a invite status response begins e) = AtFirst a invite status response (begins_alike d id same a invite status response begins) e
  request_alike d id same moment (Later a m brought names sent e) = Later a m brought (names_alike d id m same names) sent e

  -- a step is one of the history, and the server has the configuration of it
  pub record IsTakenIn (link : Link) : Type 0 where
    pub is_there : Contains history link
    pub is_by : under server link.config ≡ server

  -- a message's addresses are the dialog's
  pub addresses_told : (link : Link) → IsTakenIn link → (id : DialogId) (m : Message) → WentThrough server history id link m
      → AllByRecursion (IsAddressOf server history id) (addresses_of server m)
  addresses_told link taken id m through =
      all_weaker (Gives server m) (IsAddressOf server history id) (addresses_of server m)
      (λ address gives. OfMessage link m through (subst (λ (s : Server). Gives s m address) (sym taken.is_by) gives))
      (message_gives server m)

  -- ---- a dialog that was told

  -- some more addresses
  more_told : (id : DialogId) (more : List Addr) (d : Dialog) → is_named id d ≡ true → AllByRecursion (IsAddressOf server history id) more
      → AllByRecursion (IsAddressOf server history d.id) d.addresses
      → AllByRecursion (IsAddressOf server history d.id) (with_addresses d.addresses more)
  more_told id more d same own held =
      more_held (IsAddressOf server history d.id) d.addresses more held
      (all_weaker (IsAddressOf server history id) (IsAddressOf server history d.id) more (address_alike d.id id same) own)

  -- it was, once an answer told it addresses
  pub taught_told : (id : DialogId) (addresses : List Addr) (d : Dialog) → is_named id d ≡ true → AllByRecursion (IsAddressOf server history id) addresses
      → WasTold server history d
      → WasTold server history (told addresses d)
  taught_told id addresses d same own was = record {
    a = was.a;
    invite = was.invite;
    status = was.status;
    response = was.response;
    begins = was.begins;
    is_number = was.is_number;
    had_request = was.had_request;
    was_accepted = was.was_accepted;
    are_addresses = more_told id addresses d same own was.are_addresses;
  }

  -- and once a request of it was sent on
  pub renewed_told : (now : ℕ) (id : DialogId) (addresses : List Addr) (d : Dialog) → is_named id d ≡ true → AllByRecursion (IsAddressOf server history id) addresses
      → HadRequest server history d.id now
      → WasTold server history d → WasTold server history (record (told addresses d) { since = now })
  renewed_told now id addresses d same own had was = record {
    a = was.a;
    invite = was.invite;
    status = was.status;
    response = was.response;
    begins = was.begins;
    is_number = was.is_number;
    had_request = had;
    was_accepted = was.was_accepted;
    are_addresses = more_told id addresses d same own was.are_addresses;
  }

  -- an answer to an INVITE that came in a step, with the INVITE
  pub record IsUpdate (link : Link) (answer : InviteAnswer) : Type 0 where
    pub a : Arrival
    pub invite : Message
    pub status : ℕ
    pub response : Message
    pub begins : Begins server history a invite status response answer.id
    pub is_now : begins.came_for.link ≡ link
    pub is_number : answer.number ≡ a.number
    pub is_arrival : answer.arrived_at ≡ a.now
    pub success : answer.is_success ≡ true → 200 ≤ status
    pub are_addresses : AllByRecursion (IsAddressOf server history answer.id) answer.addresses

  -- the dialog that it makes known
  pub begun_told : (link : Link) (answer : InviteAnswer) → IsUpdate link answer → WasTold server history (begun answer)
  begun_told link answer h = record {
    a = h.a;
    invite = h.invite;
    status = h.status;
    response = h.response;
    begins = h.begins;
    is_number = h.is_number;
    had_request = AtFirst h.a h.invite h.status h.response h.begins h.is_arrival;
    was_accepted = λ is. record { a = h.a; invite = h.invite; status = h.status; response = h.response; begins = h.begins; is_success = h.success is };
    are_addresses = more_held (IsAddressOf server history answer.id) [] answer.addresses tt h.are_addresses;
  }

  -- one that is known
  pub again_told : (link : Link) (answer : InviteAnswer) (d : Dialog) → IsUpdate link answer → is_named answer.id d ≡ true → WasTold server history d
      → WasTold server history (answered_again answer d)
  again_told link answer d h same was = record {
    a = was.a;
    invite = was.invite;
    status = was.status;
    response = was.response;
    begins = was.begins;
    is_number = was.is_number;
    had_request = was.had_request;
    was_accepted = λ is. by_either (or_parts d.has_success answer.is_success is);
    are_addresses = more_told answer.id answer.addresses d same h.are_addresses was.are_addresses;
  } where
    by_either : (d.has_success ≡ true) ⊎ (answer.is_success ≡ true) → WasAccepted server history d.id
    by_either (inl is) = was.was_accepted is
    by_either (inr is) = record {
      a = h.a;
      invite = h.invite;
      status = h.status;
      response = h.response;
      begins = begins_alike d.id answer.id same h.a h.invite h.status h.response h.begins;
      is_success = h.success is;
    }
