-- Over every history each known dialog was told.
use Rattle.std.proofs.Common.{◌≡◌, ℕ, ◌-◌, ◌<◌, Bool, true, false, ◌&&◌, cond, List, [], ◌∷◌, Contains, refl, sym, subst, arith}
use Rattle.std.specs.List.{AllByRecursion}
use Rattle.std.proofs.lemmas.List.Elements.{Contains-append_left}
use Rattle.sip_message_form.specs.declared.message.Message.{Message}
use Rattle.sip_message_form.specs.Text.{text_of}
use Rattle.sip_uri.specs.declared.addr.Addr.{Addr}
use Rattle.sip_edit.specs.OwnVia.{without_top_via}
use Rattle.sip_dialog.specs.declared.dialog.DialogId.{DialogId}
use Rattle.sip_dialog.specs.declared.dialog.Dialog.{Dialog}
use Rattle.sip_dialog.specs.Sameness.{SameDialogs}
use Rattle.sip_event.specs.declared.packet.Packet.{Packet}
use Rattle.sip_event.specs.declared.event.StepOut.{StepOut}
use Rattle.sip_model.specs.state.declared.server.Server.{Server}
use Rattle.sip_model.specs.state.declared.open_request.OpenRequest.{OpenRequest}
use Rattle.sip_model.specs.state.declared.open_request.Upward.{Upward}
use Rattle.sip_model.specs.state.declared.proxy_state.ProxyState.{ProxyState}
use Rattle.sip_model.specs.state.State.{first_state, is_invite}
use Rattle.sip_model.specs.state.Arrival.{Arrival}
use Rattle.sip_model.specs.context_model.Branches.{Change, acknowledged, acknowledged_side, was_refused}
use Rattle.sip_model.specs.context_model.Opening.{forking}
use Rattle.sip_model.specs.context_model.Retransmission.{IsResent, OfAnswer, OfRequest}
use Rattle.sip_model.specs.steps_model.Effect.{change_packets}
use Rattle.sip_model.specs.steps_model.Step.{Act, IsStep, originals}
use Rattle.sip_model.specs.Access.{CameFor}
use Rattle.sip_model.specs.Run.{Link, under, IsChain}
use Rattle.sip_model.specs.Histories.{step_dialogs, history_dialogs}
use Rattle.sip_model.specs.Parts.{IsOpening, Answered, Sent, IsChangeAt, ByResponse, ByDeadline, ByFault, ByCancel, IsPart, Stays, Passes, Copies, TurnsAway, Opens}
use Rattle.sip_model.specs.Parts.{Changes, Resends, Acknowledges, AreParts, One, Two, HasParts}
use Rattle.model_laws.specs.Requests.{HasCome}
use Rattle.model_laws.specs.Dialogs.{Begins, WasSentOn, WentThrough, Invite, AnswerToInvite, AnswerWithin, Within, IsAddressOf, OfCaller, OfBranch, OfMessage}
use Rattle.model_laws.specs.Dialogs.{HadRequest, AtFirst, Later, WasAccepted, WasTold}
use Rattle.sip_model.proofs.Places.{in_from_contains, all_in, all_weaker}
use Rattle.model_laws.proofs.Requests.{all_replaced, later_there, later_sent, later_brought, later_went, later_come, brought_now, sent_now, chain_come}
use Rattle.model_laws.proofs.Failures.{KeepsFailures, Refusing, responded_honest, overdue_honest, failed_honest, cancelled_honest, opening_honest, unsent_fail}
use Rattle.model_laws.proofs.Telling.{IsTakenIn}
use Rattle.model_laws.proofs.Edits.{told_closed}
use Rattle.model_laws.proofs.Dialogs.{IsHere, step_told}
use Rattle.model_laws.proofs.Same.{known_in_both}
use Rattle.model_laws.proofs.Under.{told_under}
use Rattle.sip_model.proofs.Lists.{all_append}

-- ---- failures alone are kept

-- nothing is asked of what goes up
abbrev Anything : Upward → Type 0
Anything u = Unit {0}

-- a refusal is so, too
anything : (u : Upward) → Refusing u → Anything u
anything u is = tt

-- a change leaves failures alone
change_fails : (server : Server) (state : ProxyState) (act : Act) (now : ℕ) (r : OpenRequest) (change : Change) (again : List Packet)
    → IsChangeAt server state act now r change again → KeepsFailures r → KeepsFailures change.request
change_fails server state act now r _ _ (ByResponse a bytes m status reason b said start is there) h =
    (responded_honest Anything anything server now r b status m (λ target. tt) h).keeps
change_fails server state act now r _ _ (ByDeadline change is) h = (overdue_honest Anything anything server now r change is h).keeps
change_fails server state act now r _ _ (ByFault at ticket b is number found) h = (failed_honest Anything anything server now r b h).keeps
change_fails server state act now r _ _ (ByCancel a bytes m short key said method key_is found) h = (cancelled_honest Anything anything server now r h).keeps

-- and so does a request that is opened
opening_fails : (server : Server) (a : Arrival) (m : Message) (r : OpenRequest) (packets : List Packet) → IsOpening server a m r packets → KeepsFailures r
opening_fails server a m _ _ (Answered status extras final) = tt
opening_fails server a m _ _ (Sent first others begun) = (opening_honest Anything anything server a.now (forking a m (first ∷ others))
    (unsent_fail Anything anything (first ∷ others))).keeps

-- what goes again
resent_fails : (server : Server) (now : ℕ) (r : OpenRequest) (packets : List Packet) (later : OpenRequest) → IsResent server now r packets later → KeepsFailures r
    → KeepsFailures later
resent_fails server now r _ _ (OfAnswer due) h = h
resent_fails server now r _ _ (OfRequest b there due) h = h

-- an ACK
acknowledged_fails : (now : ℕ) (r : OpenRequest) → KeepsFailures r → KeepsFailures (acknowledged now r)
acknowledged_fails now r h = by_test (is_invite r && was_refused r.answer) where
  by_test : (t : Bool) → KeepsFailures (cond t (record r { side = acknowledged_side now r.side }) r)
  by_test true = h
  by_test false = h

-- all open requests keep failures alone
abbrev AllKeep : List OpenRequest → Type 0
AllKeep requests = AllByRecursion KeepsFailures requests

-- after a part of a step
part_fails : (server : Server) (state : ProxyState) (act : Act) (now : ℕ) (requests after : List OpenRequest) (firsts again : List Packet)
    → IsPart server state act now requests after firsts again → AllKeep requests → AllKeep after
part_fails server state act now requests after firsts again (Stays e f g) h = subst AllKeep (sym e) h
part_fails server state act now requests after firsts again (Passes a m address within ack e f g) h = subst AllKeep (sym e) h
part_fails server state act now requests after firsts again (Copies a bytes m short key r is other key_is found e f g) h = subst AllKeep (sym e) h
part_fails server state act now requests after firsts again (TurnsAway a bytes m short r is key other opens full e g) h = subst AllKeep (sym e) h
part_fails server state act now requests after firsts again (Opens a bytes m short r is key other at opens room is_new e g) h =
    subst AllKeep (sym e) (all_append KeepsFailures requests (r ∷ []) h (opening_fails server a m r firsts opens, tt))
part_fails server state act now requests after firsts again (Changes r change there is e f) h =
    subst AllKeep (sym e)
    (all_replaced KeepsFailures change.request requests h (change_fails server state act now r change again is
    (all_in KeepsFailures requests r h (in_from_contains requests r there))))
part_fails server state act now requests after firsts again (Resends r later there goes e f) h =
    subst AllKeep (sym e) (all_replaced KeepsFailures later requests h (resent_fails server now r again later goes
    (all_in KeepsFailures requests r h (in_from_contains requests r there))))
part_fails server state act now requests after firsts again (Acknowledges r there e f g) h =
    subst AllKeep (sym e) (all_replaced KeepsFailures (acknowledged now r) requests h
    (acknowledged_fails now r (all_in KeepsFailures requests r h (in_from_contains requests r there))))

-- after one, or two
parts_fail : (server : Server) (state : ProxyState) (act : Act) (now : ℕ) (requests after : List OpenRequest) (firsts again : List Packet)
    → AreParts server state act now requests after firsts again → AllKeep requests → AllKeep after
parts_fail server state act now requests after firsts again (One part) h = part_fails server state act now requests after firsts again part h
parts_fail server state act now requests after firsts again (Two middle earlier r change first there still is e f g) h =
    part_fails server state act now middle after (change_packets change) [] (Changes r change still is e refl)
    (part_fails server state act now requests middle earlier [] first h)

-- ---- longer histories

-- a response that came for a branch
later_for : (server : Server) (link : Link) (history : List Link) (number status : ℕ) (response : Message) → CameFor server history number status response
    → CameFor server (link ∷ history) number status response
later_for server link history number status response h = record {
  link = h.link;
  a = h.a;
  bytes = h.bytes;
  reason = h.reason;
  request = h.request;
  branch = h.branch;
  is_there = later_there link history h.link h.is_there;
  is_said = h.is_said;
  is_response = h.is_response;
  is_for = h.is_for;
  is_number = h.is_number;
  is_target = h.is_target;
}

module _ (server : Server) (link : Link) (history : List Link) where
  -- an INVITE that began a dialog
  pub later_begins : (id : DialogId) (a : Arrival) (invite : Message) (status : ℕ) (response : Message) → Begins server history a invite status response id
      → Begins server (link ∷ history) a invite status response id
  later_begins id a invite status response h = record {
    is_brought = later_brought link history a invite h.is_brought;
    is_invite = h.is_invite;
    came_for = later_for server link history a.number status response h.came_for;
    is_above_100 = h.is_above_100;
    is_below_300 = h.is_below_300;
    has_gone = later_went link history a.number invite a.from (text_of (without_top_via response)) h.has_gone;
    names = h.names;
  }

  -- its response came in the same step
  pub later_link : (id : DialogId) (a : Arrival) (invite : Message) (status : ℕ) (response : Message) (h : Begins server history a invite status response id)
      → (later_begins id a invite status response h).came_for.link ≡ h.came_for.link
  unfolding later_begins later_for
  later_link id a invite status response h = refl

  -- a request that was sent on
  later_on : (a : Arrival) (m : Message) → WasSentOn server history a m → WasSentOn server (link ∷ history) a m
  later_on a m h = record { packet = h.packet; is_there = later_sent link history h.packet h.is_there; is_text = h.is_text; is_of_datagram = h.is_of_datagram }

  -- a message of a dialog
  later_through : (id : DialogId) (own : Link) (m : Message) → WentThrough server history id own m → WentThrough server (link ∷ history) id own m
  unfolding later_begins later_for
  later_through id own _ (Invite a invite status response begins now) = Invite a invite status response (later_begins id a invite status response begins) now
  later_through id own _ (AnswerToInvite a invite answer there brought is gone names) =
      AnswerToInvite a invite answer (later_there link history own there) (later_brought link history a invite brought) is gone names
  later_through id own _ (AnswerWithin a m answer there brought names gone) =
      AnswerWithin a m answer (later_there link history own there) (later_brought link history a m brought) names gone
  later_through id own _ (Within a m brought now names sent) = Within a m (later_brought link history a m brought) now names sent

  -- an address
  later_address : (id : DialogId) (address : Addr) → IsAddressOf server history id address → IsAddressOf server (link ∷ history) id address
  unfolding later_begins later_for
  later_address id address (OfCaller a invite status response begins e) = OfCaller a invite status response (later_begins id a invite status response begins) e
  later_address id address (OfBranch a invite status response begins e) = OfBranch a invite status response (later_begins id a invite status response begins) e
  later_address id address (OfMessage own m through gives) = OfMessage own m (later_through id own m through) gives

  -- a request
  later_request : (id : DialogId) (moment : ℕ) → HadRequest server history id moment → HadRequest server (link ∷ history) id moment
  later_request id moment (AtFirst a invite status response begins e) = AtFirst a invite status response (later_begins id a invite status response begins) e
  later_request id moment (Later a m brought names sent e) = Later a m (later_brought link history a m brought) names (later_on a m sent) e

  -- a dialog
  later_told : (d : Dialog) → WasTold server history d → WasTold server (link ∷ history) d
  later_told d h = record {
    a = h.a;
    invite = h.invite;
    status = h.status;
    response = h.response;
    begins = later_begins d.id h.a h.invite h.status h.response h.begins;
    is_number = h.is_number;
    had_request = later_request d.id d.since h.had_request;
    was_accepted = λ is. accepted (h.was_accepted is);
    are_addresses = all_weaker (IsAddressOf server history d.id) (IsAddressOf server (link ∷ history) d.id) d.addresses (later_address d.id) h.are_addresses;
  } where
    accepted : WasAccepted server history d.id → WasAccepted server (link ∷ history) d.id
    accepted x = record {
      a = x.a;
      invite = x.invite;
      status = x.status;
      response = x.response;
      begins = later_begins d.id x.a x.invite x.status x.response x.begins;
      is_success = x.is_success;
    }

-- ---- every history

-- the newest step of a history, by its configuration
pub taken_now : (server : Server) (link : Link) (history : List Link) → IsTakenIn (under server link.config) (link ∷ history) link
taken_now server link history = record { is_there = Contains-append_left (link ∷ []) history link (0, omega arith, refl); is_by = refl }

module _ (parts : (server : Server) (old : ProxyState) (act : Act) (out : StepOut) (new : ProxyState) → IsStep server old act out new
    → HasParts server old act out new) where
  -- open requests keep failures alone
  chain_fails : (server : Server) (first : ℕ) (history : List Link) (last : ProxyState) → IsChain server (first_state first) history last → AllKeep last.requests
  chain_fails server first [] last h = subst (λ (s : ProxyState). AllKeep s.requests) (sym h) tt
  chain_fails server first (link ∷ history) last h =
      let has = parts (under server link.config) link.before link.act link.out link.after h.1 in
      subst (λ (s : ProxyState). AllKeep s.requests) (sym h.0)
      (parts_fail (under server link.config) link.before link.act link.after.moment link.before.requests link.after.requests (originals link.out.packets) _ has.parts
      (chain_fails server first history link.before h.2))

  -- the state before a step
  pub chain_here : (server : Server) (first : ℕ) (link : Link) (history : List Link) → IsChain server (first_state first) history link.before
      → IsHere (under server link.config) (link ∷ history) link link.before link.act
  chain_here server first link history h = record {
    said = brought_now link history;
    said_now = λ a bytes m short said. refl;
    came = λ a bytes m status reason r b said start is target. (
      record {
        link = link;
        a = a;
        bytes = bytes;
        reason = reason;
        request = r;
        branch = b;
        is_there = Contains-append_left (link ∷ []) history link (0, omega arith, refl);
        is_said = said;
        is_response = start;
        is_for = is;
        is_number = refl;
        is_target = target;
      },
      refl,
      refl,
    );
    requests = all_weaker (HasCome history) (HasCome (link ∷ history)) link.before.requests (later_come link history)
        (chain_come parts server first history link.before h);
    failures = chain_fails server first history link.before h;
  }

  -- the dialogs that a history makes were told
  chain_told : (server : Server) (first : ℕ) (history : List Link) (last : ProxyState) (h : IsChain server (first_state first) history last)
      → AllByRecursion (WasTold server history) (history_dialogs server (first_state first) history last h)
  chain_told server first [] last h = tt
  chain_told server first (link ∷ history) last h =
      let by : Server = under server link.config in
      let dialogs : List Dialog = history_dialogs server (first_state first) history link.before h.2 in
      all_weaker (WasTold by (link ∷ history)) (WasTold server (link ∷ history)) (step_dialogs by link.before link.act link.out link.after h.1 dialogs)
      (told_under by server.config (link ∷ history))
      (step_told by (link ∷ history) link (WasTold by (link ∷ history)) (told_closed by (link ∷ history) link) (taken_now server link history) link.before link.act
      link.out link.after h.1 dialogs
      (chain_here server first link history h.2) (sent_now link [])
      (all_weaker (WasTold server history) (WasTold by (link ∷ history)) dialogs (λ d was.
      told_under server link.config (link ∷ history) d (later_told server link history d was))
      (chain_told server first history link.before h.2)))

  -- each known dialog was
  pub known_told : ((server : Server) (first : ℕ) (history : List Link) (last : ProxyState) (h : IsChain server (first_state first) history last)
      → SameDialogs last.moment last.dialogs (history_dialogs server (first_state first) history last h))
      → (server : Server) (first : ℕ) (history : List Link) (last : ProxyState) → IsChain server (first_state first) history last → (d : Dialog) → Contains last.dialogs d
      → last.moment - d.since < 43200000
      → WasTold server history d
  known_told taught server first history last h d there recent =
      known_in_both (WasTold server history) last.moment last.dialogs (history_dialogs server (first_state first) history last h) (taught server first history last h)
      (chain_told server first history last h) d
      (in_from_contains last.dialogs d there) recent
