-- What a CANCEL does that isn't refused, as the step of the definitions that does it.
use Rattle.std.proofs.Common.{◌≡◌, ◌∙◌, ℕ, ◌+◌, ◌<◌, Bool, false, cond, List, [], ◌∷◌, ◌++◌, length, find, get_or, slice_get, bytes_eq, Option, Some, None, refl, sym, ap}
use Rattle.std.proofs.Common.{subst, unwrap_or, arith}
use Rattle.std.specs.Option.{option_and_then}
use Rattle.std.proofs.lemmas.Option.{slice_get-get_or}
use Rattle.sip_proxy.specs.Drafts.{IsDrafted}
use Rattle.sip_proxy.specs.Proxy.{Becomes, IsCounted}
use Rattle.sip_audit.specs.declared.record.Record.{Record}
use Rattle.sip_proxy.specs.verdict.context_model.Branches.{cancelled}
use Rattle.sip_proxy.specs.verdict.context_model.Opening.{closing}
use Rattle.sip_proxy.specs.verdict.context_model.Sending.{answer_packet}
use Rattle.sip_proxy.specs.declared.drafting.EventDraft.{EventDraft}
use Rattle.sip_dialog.specs.Sameness.{SameDialogs}
use Rattle.sip_dialog.specs.declared.dialog.Dialog.{Dialog}
use Rattle.sip_event.specs.declared.packet.Packet.{Packet}
use Rattle.sip_uas.specs.transactions_model.Fits.{Fits}
use Rattle.sip_uas.specs.transactions_model.Matching.{NoBranch}
use Rattle.sip_message_form.specs.declared.message.Message.{Message}
use Rattle.sip_hops.specs.declared.host_address.HostAddress.{HostAddress}
use Rattle.sip_uri.specs.declared.addr.Addr.{Addr}
use Rattle.sip_proxy.specs.context.declared.input.Input.TheVariants as Input
use Rattle.sip_transaction_table.specs.Key.{key_of}
use Rattle.sip_transaction_table.specs.declared.key.TransactionKey.{TransactionKey}
use Rattle.sip_dialog_updates.specs.DialogUpdates.{after_updates}
use Rattle.sip_dialog_updates.specs.declared.dialog_update.DialogUpdate.{DialogUpdate}
use Rattle.sip_location.specs.Binding.{live}
use Rattle.sip_location.specs.declared.binding.Binding.{Binding}
use Rattle.sip_proxy.specs.steps_model.Effect.{cancelling, counted, dialogs_after, replaced}
use Rattle.sip_proxy.specs.steps_model.Step.{Does, originals, retransmissions}
use Rattle.sip_uas.specs.transactions_model.Near.{IsWithin}
use Rattle.sip_uas.specs.forwarding.Arrivals.{arrival_of}
use Rattle.sip_uas.specs.forwarding.declared.arrival.Arrival.{Arrival}
use Rattle.sip_dialog_updates.specs.state.State.{with_one_more}
use Rattle.sip_dialog_updates.specs.state.declared.open_request.OpenRequest.{OpenRequest}
use Rattle.sip_dialog_updates.specs.state.declared.proxy_state.ProxyState.{ProxyState}
use Rattle.sip_dialog_updates.specs.state.declared.server.Server.{Server}
use Rattle.sip_proxy.specs.verdict.verdict_model.Verdict as Definition
use Rattle.sip_uas.specs.Drafts.{IsOpenable}
use Rattle.sip_uas.proofs.Replying.{text_by}

-- ---- the request that is named

-- a request stands at a place of theirs
pub stands_at : (requests : List OpenRequest) (place : ℕ) → place < length requests → (r : OpenRequest) × (slice_get requests place ≡ Some r)
stands_at [] place lt = absurd (omega (arith, lt))
stands_at (r ∷ rs) place lt = (get_or (r ∷ rs) place r, slice_get-get_or (r ∷ rs) place r lt)

-- a request, if it came from this IP address
abbrev pub from_source : Addr → OpenRequest → Option OpenRequest
from_source from r = cond (bytes_eq r.request.source.ip from.ip) (Some r) None

pub named_by : (requests : List OpenRequest) (key : TransactionKey) (from : Addr) (place : ℕ) (r : OpenRequest) (t : Bool) → slice_get requests place ≡ Some r
    → option_and_then (slice_get requests) (Some place) ≡ find (Definition.is_cancelled_by key) requests → bytes_eq r.request.source.ip from.ip ≡ t
    → option_and_then (from_source from) (find (Definition.is_cancelled_by key) requests) ≡ cond t (Some r) None
named_by requests key from place r t there found same =
    ap (λ (o : Option OpenRequest). option_and_then (from_source from) o) (sym found ∙ there) ∙ ap (λ (b : Bool). cond b (Some r) None) same

-- ---- the 200

pub agreed_opens : (a : Arrival) (key : TransactionKey) (m : Message) (text : List ℕ) (r : OpenRequest) → key_of m ≡ Some key → r ≡ closing (arrival_of a) m 200 text
    → Fits (closing (arrival_of a) m 200 text)
    → IsWithin a.now (closing (arrival_of a) m 200 text) → IsOpenable a key r
agreed_opens a key m text r is same fits within =
    let opens : IsOpenable a key (closing (arrival_of a) m 200 text) =
    record {
      fits = fits;
      within = within;
      branched = NoBranch;
      number_is = refl;
      key_is =
          ap (λ (o : Option TransactionKey). unwrap_or o (record { branch = []; host = []; port = 0; method = [] })) is;
    } in
    subst (IsOpenable a key) (sym same) opens

-- ---- the step

pub cancel_done : (server : Server) (a : Arrival) (m : Message) (rows : List HostAddress) (old mid new : ProxyState) (r opened : OpenRequest) (packet : Packet)
    (draft both : EventDraft) (packets : List Packet)
    (made : List Record) → Definition.is_full old ≡ false → rows ≡ server.config.addresses → a.number ≡ old.next
    → packet ≡ answer_packet false a.number m a.from (text_by server a m 200 []) → opened ≡ closing (arrival_of a) m 200 (text_by server a m 200 [])
    → IsDrafted rows server a.now r Input.Cancel draft → both.change ≡ draft.change → both.drafted.packets ≡ packet ∷ [] ++ draft.drafted.packets
    → both.drafted.updates ≡ draft.drafted.updates
    → packets ≡ both.drafted.packets → Becomes a.now (replaced both.change (with_one_more opened old.requests)) both.drafted.updates old mid → IsCounted mid new
    → made ≡ []
    → Does server old a.now (cancelling server (arrival_of a) m (Some r) (counted (arrival_of a) old)) (record { at = a.now; packets = packets; records = made }) new
cancel_done server a m rows old mid new r opened packet draft both packets made room known number packet_is opened_is d change_is packets_are updates_are sent became
    counts none =
    let answer : Packet = answer_packet false a.number m a.from (text_by server a m 200 []) in
    let agreed : OpenRequest = closing (arrival_of a) m 200 (text_by server a m 200 []) in
    let at : new.moment ≡ a.now = counts.moment_is ∙ became.moment_is in
    let goes : packets ≡ answer ∷ draft.drafted.packets = sent ∙ packets_are ∙ ap (λ (p : Packet). p ∷ draft.drafted.packets) packet_is in
    record {
      at_moment = refl;
      sends = ap originals goes ∙ ap (λ (ps : List Packet). answer ∷ ps) d.drafted.sent.originals;
      repeats = ap retransmissions goes ∙ d.drafted.sent.again;
      records = none;
      leaves =
          record {
            moment = at;
            next = counts.next_is ∙ ap (λ (n : ℕ). n + 1) (became.next_is ∙ sym number);
            bindings = λ aor later late. ap (λ (bs : List Binding). live aor later bs) (counts.bindings_are ∙ became.bindings_are);
            nonces = counts.nonces_are ∙ became.nonces_are;
            requests =
                counts.requests_are ∙ became.requests_are ∙ ap (λ (x : OpenRequest). replaced x (with_one_more opened old.requests)) (change_is ∙ d.request)
                ∙ ap (λ (x : OpenRequest). replaced (cancelled server a.now r).request (with_one_more x old.requests)) opened_is
                ∙ ap (λ (t : Bool). replaced (cancelled server a.now r).request (cond t old.requests (with_one_more agreed old.requests))) (sym room);
            dialogs =
                subst (λ (n : ℕ). SameDialogs n new.dialogs (dialogs_after server a.now (cancelled server a.now r) old.dialogs)) (sym at)
                (subst (SameDialogs a.now new.dialogs) (ap (λ (ls : List DialogUpdate). after_updates a.now ls old.dialogs) updates_are
                ∙ d.drafted.updates (sym known) old.dialogs)
                (subst (λ (ds : List Dialog). SameDialogs a.now ds (after_updates a.now both.drafted.updates old.dialogs)) (sym counts.dialogs_are) became.dialogs_are));
          };
    }
