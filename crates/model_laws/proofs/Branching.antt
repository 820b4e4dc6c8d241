-- The packets of a request's branches go to its targets.
use Rattle.std.proofs.Common.{◌≡◌, ℕ, ◌+◌, Bool, true, false, cond, not, List, [], ◌∷◌, ◌++◌, codes, decimal, length, flat_map, Option, Some, None, refl, sym, ap, subst}
use Rattle.std.proofs.Common.{◌∙◌, append_assoc, bytes_eq, option_map}
use Rattle.std.specs.Option.{option_map_or}
use Rattle.std.proofs.lemmas.Slice.Eq.{bytes_eq-Decides}
use Rattle.sip_uri.specs.declared.addr.Addr.{Addr}
use Rattle.sip_uri.specs.Uri as UriText
use Rattle.sip_message_form.specs.declared.message.Start.{Start}
use Rattle.sip_message_form.specs.declared.message.Start.TheVariants.{Request}
use Rattle.sip_message_form.specs.declared.message.Message.{Message}
use Rattle.sip_message_form.specs.Text.{start_text, field_text, text_of}
use Rattle.sip_header.specs.declared.core_fields.CoreFields.{CoreFields}
use Rattle.sip_route.specs.declared.own.Own.{Own}
use Rattle.sip_edit.specs.Onward.{with_uri, with_record_route}
use Rattle.sip_validate.specs.Refusal.{Row, refusal, refusal_of, unchecked_by}
use Rattle.sip_targets.specs.declared.target.Target.{Target}
use Rattle.sip_event.specs.declared.event.Event.TheVariants.{Datagram}
use Rattle.sip_event.specs.declared.packet.Packet.{Packet}
use Rattle.sip_model.specs.state.declared.server.Server.{Server}
use Rattle.sip_model.specs.state.declared.branch.Branch.{Branch}
use Rattle.sip_model.specs.state.declared.open_request.OpenRequest.{OpenRequest}
use Rattle.sip_model.specs.state.declared.proxy_state.ProxyState.{ProxyState}
use Rattle.sip_model.specs.state.State.{first_state}
use Rattle.sip_model.specs.state.Arrival.{Arrival}
use Rattle.sip_model.specs.context_model.Sending.{begins_dialog, onward_as, request_of, branch_packets}
use Rattle.sip_model.specs.context_model.Opening.{arriving, branch_to, branches_from}
use Rattle.sip_model.specs.steps_model.Step.{Act, Given, moment_of, arrival_of}
use Rattle.sip_model.specs.Run.{Link, under, IsChain}
use Rattle.sip_model.specs.Bindings.{bindings_after}
use Rattle.sip_model.specs.Access.{IsNewRequest, IsServed, Serves, Access, targets_on, branch_originals}
use Rattle.model_laws.specs.Packets.{BeginsWithLine, IsRequestTo, GoToTargets, NoMore, Goes, GoesNowhere}

-- ---- one packet

-- the parts of a request's text, taken together in another way
parted : (method space uri version end fields name size blank body : List ℕ)
    → method ++ space ++ uri ++ space ++ version ++ end ++ fields ++ name ++ size ++ blank ++ body
    ≡ method ++ space ++ uri ++ (space ++ (version ++ end)) ++ (fields ++ name ++ size ++ blank ++ body)
parted method space uri version end fields name size blank body = simp append_assoc

-- the text of a request begins with its line
begins_with : (m : Message) (method uri : List ℕ) → m.start ≡ Request method uri (codes "SIP/2.0") → BeginsWithLine method uri (text_of m)
begins_with m method uri e = record {
  rest = flat_map field_text m.fields ++ codes "Content-Length: " ++ decimal (length m.body) ++ codes "\r\n\r\n" ++ m.body;
  is_text =
      ap (λ (s : Start). start_text s ++ codes "\r\n" ++ flat_map field_text m.fields ++ codes "Content-Length: " ++ decimal (length m.body) ++ codes "\r\n\r\n"
      ++ m.body) e
      ∙ parted method (codes " ") uri (codes "SIP/2.0") (codes "\r\n") (flat_map field_text m.fields) (codes "Content-Length: ") (decimal (length m.body))
      (codes "\r\n\r\n") m.body;
}

-- a Record-Route leaves the start line
same_start : (t : Bool) (own : Own) (m : Message) → (cond t (with_record_route own m) m).start ≡ m.start
same_start true own m = refl
same_start false own m = refl

-- the start line of a branch's request is the request's, with the branch's URI
start_of : (server : Server) (r : OpenRequest) (b : Branch) → (request_of server r b).start ≡ with_uri b.uri r.request.message.start
start_of server r b = same_start (begins_dialog r) server.config.own (onward_as server r.number r.request.message r.request.source b.uri b.number)

-- ---- all packets

module _ (server : Server) (a : Arrival) (m : Message) (method uri : List ℕ) (e : m.start ≡ Request method uri (codes "SIP/2.0")) where
  -- what goes to a target at an address
  packet_to : ℕ → Target → Addr → Packet
  packet_to place t address =
      record {
        to = address;
        bytes = text_of (request_of server (arriving a m) (branch_to a.now place t));
        ticket = record { datagram = a.number; branch = place };
        again = false;
      }

  goes_to : (place : ℕ) (t : Target) (address : Addr) → IsRequestTo a.number method place t.uri address (packet_to place t address)
  unfolding packet_to
  goes_to place t address = record {
    goes_there = refl;
    begins =
        begins_with (request_of server (arriving a m) (branch_to a.now place t)) method (UriText.text_of t.uri)
        (start_of server (arriving a m) (branch_to a.now place t) ∙ ap (with_uri (UriText.text_of t.uri)) e);
    is_of_datagram = refl;
    is_of_place = refl;
    is_first = refl;
  }

  pub all_go : (place : ℕ) (targets : List Target) → GoToTargets a.number method place targets
      (flat_map (branch_packets server false (arriving a m)) (branches_from a.now place targets))
  unfolding packet_to
  all_go place [] = NoMore place
  all_go place (t ∷ ts) = by_address t.address refl (all_go (place + 1) ts) where
    by_address : (o : Option Addr) → t.address ≡ o → GoToTargets a.number method (place + 1) ts
        (flat_map (branch_packets server false (arriving a m)) (branches_from a.now (place + 1) ts))
        → GoToTargets a.number method place (t ∷ ts)
        (option_map_or (λ address. packet_to place t address ∷ []) o [] ++ flat_map (branch_packets server false (arriving a m)) (branches_from a.now (place + 1) ts))
    by_address None is rest = GoesNowhere place t ts _ is rest
    by_address (Some address) is rest = Goes place t address (packet_to place t address) ts _ is (goes_to place t address) rest

-- ---- a valid request

-- a request that no row refuses isn't refused for its version
version_by : (s t : Bool) (bad other : Row) (o : Option Row) (f : Row → ℕ × List ℕ) → option_map f (cond s (Some bad) (cond t (Some other) o)) ≡ None → t ≡ false
version_by true t bad other o f e = absurd (cc)
version_by false true bad other o f e = absurd (cc)
version_by false false bad other o f e = refl

text_by : (t : Bool) → not t ≡ false → t ≡ true
text_by true e = refl
text_by false e = absurd (cc)

pub valid_version : (own : Own) (m : Message) (method uri version : List ℕ)
    → m.start ≡ Request method uri version → refusal_of own m false ≡ None → version ≡ codes "SIP/2.0"
valid_version own m method uri version e valid =
    let checked = subst (λ (s : Start). option_map_or refusal (unchecked_by own m.fields false s) None ≡ None) e valid in
    (bytes_eq-Decides version (codes "SIP/2.0")).0 (text_by (bytes_eq version (codes "SIP/2.0"))
    (version_by _ (not (bytes_eq version (codes "SIP/2.0"))) _ _ _ _ checked))

-- ---- a step

-- what a step that is taken for a datagram serves
serves_datagram : (server : Server) (history : List Link) (link : Link) (at word : ℕ) (from : Addr) (bytes : List ℕ) (m : Message) (method : List ℕ) (core : CoreFields)
    → link.act ≡ Given (Datagram at word from bytes) → Serves (under server link.config) (bindings_after server history) link.before link.act link.out
    → IsNewRequest (under server link.config) link.before bytes m method core
    → IsServed (under server link.config) (bindings_after server history) link.before (arrival_of link.before at word from) m method core link.out
serves_datagram server history link at word from bytes m method core is serves new =
    (subst (λ (act : Act). Serves (under server link.config) (bindings_after server history) link.before act link.out) is serves) m method core new

-- its packets go to the targets of the request
pub step_goes : ((server : Server) (first : ℕ) (history : List Link) (last : ProxyState) → IsChain server (first_state first) history last → Access server history)
    → (server : Server) (first : ℕ) (link : Link) (history : List Link) (last : ProxyState) → IsChain server (first_state first) (link ∷ history) last
    → (at word : ℕ) (from : Addr) (bytes : List ℕ) → link.act ≡ Given (Datagram at word from bytes) → (m : Message) (method : List ℕ) (core : CoreFields)
    → IsNewRequest (under server link.config) link.before bytes m method core
    → GoToTargets link.before.next method 1 (targets_on (under server link.config) (bindings_after server history) link.before (moment_of link.before at) m method core)
    (branch_originals link.out.packets)
step_goes access server first link history last chain at word from bytes is m method core new =
    let served = serves_datagram server history link at word from bytes m method core is (access server first (link ∷ history) last chain).0.serves new in
    let version = valid_version server.config.own m method new.uri new.version new.is_request new.is_valid in
    let line : m.start ≡ Request method new.uri (codes "SIP/2.0") = new.is_request ∙ ap (Request method new.uri) version in
    let targets : List Target = targets_on (under server link.config) (bindings_after server history) link.before (moment_of link.before at) m method core in
    subst (λ (packets : List Packet). GoToTargets link.before.next method 1 targets packets) (sym served.reaches)
    (all_go (under server link.config) (arrival_of link.before at word from) m method new.uri line 1 targets)
