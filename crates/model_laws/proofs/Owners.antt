-- To what each packet of a step belongs.
use Rattle.std.proofs.Common.{◌≡◌, ◌∙◌, ℕ, Bool, true, false, cond, not, ◌&&◌, List, [], ◌∷◌, flat_map, codes, bytes_eq, Contains, Option, Some, None, refl, sym, ap}
use Rattle.std.proofs.Common.{subst, true≢false}
use Rattle.std.specs.Option.{option_map_or}
use Rattle.std.specs.List.{AllByRecursion}
use Rattle.sip_uri.specs.declared.addr.Addr.{Addr}
use Rattle.sip_message_fields.specs.declared.field_name.FieldName.TheVariants as Name
use Rattle.sip_message_fields.specs.Values.{first_value}
use Rattle.sip_message_form.specs.declared.message.Start.{Start}
use Rattle.sip_message_form.specs.declared.message.Start.TheVariants.{Request, Status}
use Rattle.sip_message_form.specs.declared.message.Message.{Message}
use Rattle.sip_message_form.specs.Text.{text_of}
use Rattle.sip_message.specs.Start.{IsStart}
use Rattle.sip_header.specs.declared.via.Via.{Via}
use Rattle.sip_header.specs.declared.core_fields.CoreFields.{CoreFields}
use Rattle.sip_header.specs.CoreFields.{core_of}
use Rattle.sip_transaction_table.specs.declared.key.TransactionKey.{TransactionKey}
use Rattle.sip_transaction_table.specs.Key.{start_key}
use Rattle.sip_edit.specs.OwnRequests.{cancel_of, ack_with}
use Rattle.sip_edit.specs.ReceivedRequest.{top_via, address_by, response_address}
use Rattle.sip_dialog.specs.Dialogs.{IsInDialog}
use Rattle.sip_location.specs.declared.binding.Binding.{Binding}
use Rattle.sip_event.specs.declared.packet.Packet.{Packet}
use Rattle.sip_model.specs.state.declared.server.Server.{Server}
use Rattle.sip_model.specs.state.declared.branch.Branch.{Branch}
use Rattle.sip_model.specs.state.declared.branch.Phase.{Phase}
use Rattle.sip_model.specs.state.declared.branch.Phase.TheVariants.{Unheard, Heard, Cancelled, Done, Ended}
use Rattle.sip_model.specs.state.declared.open_request.LastAnswer.{LastAnswer}
use Rattle.sip_model.specs.state.declared.open_request.OpenRequest.{OpenRequest}
use Rattle.sip_model.specs.state.Arrival.{Arrival}
use Rattle.sip_model.specs.state.State.{is_invite, is_success, is_failure}
use Rattle.sip_model.specs.context_model.Sending.{made_answer, answer_packet, answer_to, request_of, to_branch, branch_packets, ack_packets, ticket_branch, sent_of}
use Rattle.sip_model.specs.context_model.Retransmission.{IsRetransmission, is_lasting, answers_again, goes_again, acks_again, branch_again, retransmissions_of}
use Rattle.sip_model.specs.steps_model.Effect.{method_of}
use Rattle.sip_model.specs.steps_model.Step.{Act, originals, retransmissions}
use Rattle.sip_model.specs.Run.{Link}
use Rattle.sip_model.specs.Lives.{first_sending}
use Rattle.sip_model.specs.Access.{IsServed as GetsIts, Serves, IsSaidAt, IsNewRequest, IsOpen, Before, Brought, IsOwed, ToTarget, Answers, Forwards, Acknowledges}
use Rattle.sip_model.specs.Access.{Cancels, InKnownDialog, targets_on, requests_to}
use Rattle.model_laws.specs.Headline.{Belongs, WentBefore}
use Rattle.model_laws.specs.Headline as Whose
use Rattle.sip_model.proofs.Places.{contains_from_in, all_weaker}
use Rattle.model_laws.proofs.Lists.{all_from_in}
use Rattle.model_laws.proofs.Refused.{holds_of}
use Rattle.model_laws.proofs.Belonging.{taken}
use Rattle.model_laws.proofs.Heads.{HasHead, head_in}
use Rattle.model_laws.proofs.Checks.{came_in, valid_of, new_of, NamesDialog, names_dialog}
use Rattle.sip_model.proofs.Lists.{all_append, all_flat_map}

-- where responses go is the IP address of the source
same_ip : (m : Message) (from : Addr) → (response_address m from).ip ≡ from.ip
same_ip m from = by_via (top_via m) where
  by_via : (o : Option Via) → (address_by o from).ip ≡ from.ip
  by_via None = refl
  by_via (Some via) = refl

-- a message with a key is a request
record IsRequest (start : Start) : Type 0 where
  method : List ℕ
  uri : List ℕ
  version : List ℕ
  is_it : start ≡ Request method uri version
  is_method : method_of start ≡ method

keyed_request : (m : Message) (key : TransactionKey) (start : Start) → start_key m.fields start ≡ Some key → IsRequest start
keyed_request m key (Request method uri version) e = record { method = method; uri = uri; version = version; is_it = refl; is_method = refl }
keyed_request m key (Status code reason) e = absurd (cc)

module _ (server : Server) (rows : List Binding) (link : Link) where
  -- what a packet belongs to
  abbrev Owner : Packet → Type 0
  Owner p = Belongs server link p

  -- ---- an open request

  -- a message to a branch of it
  of_branch : (r : OpenRequest) (b : Branch) (target : ℕ) (again : Bool) (m : Message) → Contains link.before.requests r → Contains r.branches b
      → AllByRecursion Owner (to_branch r b target again m)
  of_branch r b target again m stands its = by_address b.address refl where
    by_address : (o : Option Addr) → b.address ≡ o
        → AllByRecursion Owner (option_map_or (λ address. record {
          to = address;
          bytes = text_of m;
          ticket = record { datagram = r.number; branch = target };
          again = again;
        } ∷ []) o [])
    by_address None is = tt
    by_address (Some address) is = (Whose.ToBranch r b stands its is refl, tt)

  -- its last answer
  of_answer : (r : OpenRequest) (o : Option LastAnswer) → Contains link.before.requests r → AllByRecursion Owner (answers_again r o)
  of_answer r None stands = tt
  of_answer r (Some last) stands = by_test (is_lasting r.side && not (is_invite r && is_success last.status)) where
    by_test : (t : Bool) → AllByRecursion Owner (cond t (answer_to true r last.text ∷ []) [])
    by_test true = (Whose.ToCaller r stands refl refl, tt)
    by_test false = tt

  -- the ACKs of a branch
  of_acks : (r : OpenRequest) (b : Branch) (phase : Phase) → Contains link.before.requests r → Contains r.branches b → AllByRecursion Owner (acks_again server r b phase)
  of_acks r b (Done due status) stands its = by_test (is_invite r && not b.is_cancel && is_failure status) where
    by_test : (t : Bool) → AllByRecursion Owner (cond t (ack_packets server true r b b.final_to) [])
    by_test true = of_branch r b 0 true (ack_with b.final_to (request_of server r b)) stands its
    by_test false = tt
  of_acks r b (Unheard due) stands its = tt
  of_acks r b (Heard due) stands its = tt
  of_acks r b (Cancelled due) stands its = tt
  of_acks r b Ended stands its = tt

  -- what goes again of a branch
  of_again : (r : OpenRequest) (b : Branch) → Contains link.before.requests r → Contains r.branches b → AllByRecursion Owner (branch_again server r b)
  of_again r b stands its =
      all_append Owner (cond (goes_again r b) (branch_packets server true r b) []) (acks_again server r b b.phase) (by_test (goes_again r b))
      (of_acks r b b.phase stands its) where
        by_test : (t : Bool) → AllByRecursion Owner (cond t (branch_packets server true r b) [])
        by_test true = of_branch r b (ticket_branch b) true (sent_of server r b) stands its
        by_test false = tt

  -- all that goes again of it
  pub of_retransmission : (p : Packet) → IsRetransmission server link.before.requests p → Owner p
  of_retransmission p is =
      let r : OpenRequest = is.request in
      holds_of Owner (retransmissions_of server r) p
      (all_append Owner (answers_again r r.answer) (flat_map (branch_again server r) r.branches) (of_answer r r.answer is.is_open)
      (all_flat_map Owner (branch_again server r) r.branches
      (all_from_in (λ (b : Branch). AllByRecursion Owner (branch_again server r b)) r.branches
      (λ b there. of_again r b is.is_open (contains_from_in r.branches b there)))))
      is.is_one

  -- ---- what is sent for the first time

  -- an answer that is made here
  of_made : (number : ℕ) (m : Message) (from : Addr) (text : List ℕ) → IsOpen link.before link.act number m from → Owner (answer_packet false number m from text)
  of_made _ _ _ text (Before r stands) = Whose.ToCaller r stands refl refl
  of_made _ _ _ text (Brought a bytes m short key said is_key new other) =
      let head : HasHead bytes m.start = head_in bytes m short said.says in
      let request : IsRequest m.start = keyed_request m key m.start is_key in
      Whose.ToSender said.at said.word said.from bytes head.is_head.first request.method request.uri request.version head.lines head.rest said.is_act head.is_head.is_cut
      (subst (λ (s : Start). IsStart head.is_head.first s) request.is_it head.is_head.is_start)
      (subst (λ (method : List ℕ). bytes_eq method (codes "ACK") ≡ false) request.is_method other)
      (same_ip m a.from ∙ ap (λ (x : Arrival). x.from.ip) said.is_arrival) (ap (λ (x : Arrival). x.number) said.is_arrival)

  -- a request to a target
  of_target : Serves server rows link.before link.act link.out → (a : Arrival) (bytes : List ℕ) (m : Message) (method : List ℕ) (core : CoreFields) (p : Packet)
      → IsSaidAt link.before link.act a bytes m false → IsNewRequest server link.before bytes m method core
      → Contains (requests_to server a m (targets_on server rows link.before a.now m method core)) p → Owner p
  of_target serves a bytes m method core p said new there =
      let gets : GetsIts server rows link.before a m method core link.out =
      subst (λ (x : Arrival). GetsIts server rows link.before x m method core link.out) (sym said.is_arrival)
      ((subst (λ (act : Act). Serves server rows link.before act link.out) said.is_act serves) m method core new) in
      Whose.ToTarget (came_in a m method core) (new_of server link a bytes m method core said new) (subst (λ (ps : List Packet). Contains ps p) (sym gets.reaches) there)

  pub of_owed : Serves server rows link.before link.act link.out → (history : List Link) (p : Packet) → IsOwed server history link.before link.act rows p → Owner p
  of_owed serves history p (ToTarget a bytes m method core said new there) = of_target serves a bytes m method core p said new there
  of_owed serves history p (Answers number m from status extras stands denied e) = subst Owner (sym e)
      (of_made number m from (text_of (made_answer server number m from status extras)) stands)
  of_owed serves history p (Forwards r status response challenges stands came taken_along none e) = subst Owner (sym e) (Whose.ToCaller r stands refl refl)
  of_owed serves history p (Acknowledges a bytes r b status reason response said is_response is_for invite failure there) =
      let its = taken server link.before.requests response.fields r b is_for in
      let to : Option (List ℕ) = first_value Name.To response.fields in
      holds_of Owner (ack_packets server false r b to) p (of_branch r b 0 false (ack_with to (request_of server r b)) its.is_open its.is_its) there
  of_owed serves history p (Cancels r b stands its target invite heard there) =
      holds_of Owner (to_branch r b 0 false (cancel_of (request_of server r b))) p (of_branch r b 0 false (cancel_of (request_of server r b)) stands its) there
  of_owed serves history p (InKnownDialog a m address within to bytes ticket) =
      let named : NamesDialog m within.id = names_dialog m within.id (core_of m) refl within.dialog_is in
      Whose.InDialog (came_in a m within.method named.core) within.id
      (valid_of server link a within.bytes m within.method within.uri within.version named.core within.is_said within.is_request named.core_is within.is_valid)
      named.names
      (subst (λ (x : Addr). IsInDialog a.now link.before.dialogs within.id x) (sym to) within.is_known)
      (ticket ∙ ap (λ (x : Arrival). x.number) within.is_said.is_arrival)

-- ---- all packets of a step

-- what holds of the first sendings and of what goes again holds of all
pub joined : (P : Packet → Type 0) (ps : List Packet) → AllByRecursion P (originals ps) → AllByRecursion P (retransmissions ps) → AllByRecursion P ps
joined P [] a b = tt
joined P (p ∷ ps) a b = by_test p.again a b (joined P ps) where
  by_test : (t : Bool) → AllByRecursion P (cond (not t) (p ∷ originals ps) (originals ps)) → AllByRecursion P (cond t (p ∷ retransmissions ps) (retransmissions ps))
      → (AllByRecursion P (originals ps) → AllByRecursion P (retransmissions ps) → AllByRecursion P ps) → P p × AllByRecursion P ps
  by_test true a b rest = (b.0, rest a b.1)
  by_test false a b rest = (a.0, rest a.1 b)

-- what goes again of all went before
pub all_went : (sent : List Packet) (ps : List Packet) → AllByRecursion (λ (p : Packet). Contains sent (first_sending p)) (retransmissions ps)
    → AllByRecursion (WentBefore sent) ps
all_went sent [] a = tt
all_went sent (p ∷ ps) a = by_test p.again refl a (all_went sent ps) where
  by_test : (t : Bool) → p.again ≡ t → AllByRecursion (λ (p : Packet). Contains sent (first_sending p)) (cond t (p ∷ retransmissions ps) (retransmissions ps))
      → (AllByRecursion (λ (p : Packet). Contains sent (first_sending p)) (retransmissions ps) → AllByRecursion (WentBefore sent) ps)
      → WentBefore sent p × AllByRecursion (WentBefore sent) ps
  by_test true is a rest = ((λ e. a.0), rest a.1)
  by_test false is a rest = ((λ e. absurd (true≢false (sym e ∙ is))), rest a)

-- each belongs to something
pub all_belong : (server : Server) (rows : List Binding) (link : Link) (history : List Link)
    → Serves server rows link.before link.act link.out → AllByRecursion (IsOwed server history link.before link.act rows) (originals link.out.packets)
    → AllByRecursion (IsRetransmission server link.before.requests) (retransmissions link.out.packets) → AllByRecursion (Belongs server link) link.out.packets
all_belong server rows link history serves owed again =
    joined (Belongs server link) link.out.packets
    (all_weaker (IsOwed server history link.before link.act rows) (Belongs server link) (originals link.out.packets) (of_owed server rows link serves history) owed)
    (all_weaker (IsRetransmission server link.before.requests) (Belongs server link) (retransmissions link.out.packets) (of_retransmission server rows link) again)
