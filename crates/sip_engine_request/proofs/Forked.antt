-- What was sent on, as the step of the definitions that does it.
use Rattle.std.proofs.Common.{◌≡◌, ◌∙◌, ℕ, Bool, true, false, cond, List, [], ◌∷◌, ◌++◌, length, refl, sym, ap, subst, true≢false}
use Rattle.sip_proxy.specs.Proxy.{Becomes}
use Rattle.sip_audit.specs.declared.record.AuditOutcome.TheVariants.{Sent}
use Rattle.sip_audit.specs.declared.record.Record.{Record}
use Rattle.sip_auth.specs.Proof.{used}
use Rattle.sip_proxy.specs.verdict.context_model.Opening.{opening}
use Rattle.sip_dialog.specs.Sameness.{SameDialogs}
use Rattle.sip_dialog.specs.declared.dialog.Dialog.{Dialog}
use Rattle.sip_dialog.specs.declared.dialog.DialogId.{DialogId}
use Rattle.sip_event.specs.declared.packet.Packet.{Packet}
use Rattle.sip_message_form.specs.declared.message.Message.{Message}
use Rattle.sip_proxy.specs.forwarding.Forwarding.{AreSent, Teach, call_to, call_within}
use Rattle.sip_hops.specs.declared.host_address.HostAddress.{HostAddress}
use Rattle.sip_uri.specs.declared.addr.Addr.{Addr}
use Rattle.sip_dialog_updates.specs.DialogUpdates.{after_updates}
use Rattle.sip_dialog_updates.specs.declared.dialog_update.DialogUpdate.{DialogUpdate}
use Rattle.sip_location.specs.Binding.{live}
use Rattle.sip_proxy.specs.steps_model.Effect.{Effect, ack_packet, asked, counted, dialogs_after, effect_of, forked, opened, opening_packets, record_of, renewing}
use Rattle.sip_proxy.specs.steps_model.Effect.{sending, sent_to}
use Rattle.sip_proxy.specs.steps_model.Step.{Does, originals, retransmissions}
use Rattle.sip_digest.specs.declared.nonces.Nonce.{Nonce}
use Rattle.sip_uas.specs.forwarding.Arrivals.{arrival_of, arrived}
use Rattle.sip_uas.specs.forwarding.declared.arrival.Arrival.{Arrival}
use Rattle.sip_dialog_updates.specs.state.Dialogs.{after_request}
use Rattle.sip_dialog_updates.specs.state.KeptRequest.{KeptRequest}
use Rattle.sip_dialog_updates.specs.state.State.{with_one_more}
use Rattle.sip_dialog_updates.specs.state.declared.open_request.OpenRequest.{OpenRequest}
use Rattle.sip_dialog_updates.specs.state.declared.proxy_state.ProxyState.{ProxyState}
use Rattle.sip_dialog_updates.specs.state.declared.server.Server.{Server}
use Rattle.sip_targets.specs.declared.targets.Targets.{Targets}
use Rattle.sip_targets.specs.declared.targets.Targets.TheVariants.{Bindings, Hop, NotFound, Unavailable}
use Rattle.sip_targets.specs.Targets.{target_list}
use Rattle.sip_proxy.specs.verdict.verdict_model.Verdict as Definition
use Rattle.sip_proxy.specs.verdict.verdict_model.declared.question.Question.{Question}
use Rattle.sip_proxy.specs.verdict.Verdict.{are_somebody}

-- ---- a request

-- with room for it, a request is one more
opened_one : (r : OpenRequest) (state : ProxyState) → Definition.is_full state ≡ false → opened r state ≡ with_one_more r state.requests
opened_one r state is = ap (λ (t : Bool). cond t state.requests (with_one_more r state.requests)) is

-- a request that was opened as what it is, with what was sent and recorded of it, and what the dialogs learnt
forks : (server : Server) (now : ℕ) (call to request : OpenRequest) (records made : List Record) (drafted packets : List Packet) (updates : List DialogUpdate)
    (known : List Dialog) (old before new : ProxyState)
    → call ≡ to → Definition.is_full before ≡ false → AreSent (opening_packets server now call) [] drafted → packets ≡ drafted → made ≡ records
    → request ≡ (opening server now call).request
    → before.moment ≡ now → after_updates now updates known ≡ dialogs_after server now (opening server now call) before.dialogs
    → new.moment ≡ now → new.next ≡ before.next → new.bindings ≡ before.bindings → new.nonces ≡ before.nonces → new.requests ≡ with_one_more request before.requests
    → SameDialogs now new.dialogs (after_updates now updates known)
    → Does server old now (forked server now to records before) (record { at = now; packets = packets; records = made }) new
forks server now call to request records made drafted packets updates known old before new same room sent goes recorded is came learnt moment next bindings nonces
    requests dialogs =
    let done : Does server old now (forked server now call records before) (record { at = now; packets = packets; records = made }) new =
    record {
      at_moment = refl;
      sends = ap originals goes ∙ sent.originals;
      repeats = ap retransmissions goes ∙ sent.again;
      records = recorded;
      leaves =
          record {
            moment = moment ∙ sym came;
            next = next;
            bindings = λ aor later late. ap (live aor later) bindings;
            nonces = nonces;
            requests = requests ∙ ap (λ (r : OpenRequest). with_one_more r before.requests) is ∙ sym (opened_one (opening server now call).request before room);
            dialogs =
                subst (λ (at : ℕ). SameDialogs at new.dialogs (dialogs_after server now (opening server now call) before.dialogs)) (sym moment)
                (subst (SameDialogs now new.dialogs) learnt dialogs);
          };
    } in
    subst (λ (r : OpenRequest). Does server old now (forked server now r records before) (record { at = now; packets = packets; records = made }) new) same done

-- ---- to its targets

-- what is done with a request to somebody
to_somebody : (server : Server) (a : Arrival) (m : Message) (q : Question) (rule : ℕ) (targets : Targets) (state : ProxyState) → are_somebody targets ≡ true
    → sent_to server (arrival_of a) m q rule (target_list targets) state ≡ sending server (arrival_of a) m q rule targets state
to_somebody server a m q rule (Bindings targets) state somebody = refl
to_somebody server a m q rule (Hop uri address) state somebody = refl
to_somebody server a m q rule NotFound state somebody = absurd (true≢false (sym somebody))
to_somebody server a m q rule Unavailable state somebody = absurd (true≢false (sym somebody))

pub sent_does : (rows : List HostAddress) (server : Server) (a : Arrival) (k : KeptRequest) (q : Question) (rule : ℕ) (targets : Targets) (request : OpenRequest)
    (made : List Record) (drafted packets : List Packet)
    (updates : List DialogUpdate) (old mid new : ProxyState) → k.source ≡ a.from → Definition.is_full old ≡ false → are_somebody targets ≡ true
    → rows ≡ server.config.addresses
    → AreSent (opening_packets server a.now (call_to (arrived a k) k.message targets)) [] drafted → packets ≡ drafted
    → made ≡ record_of server (arrival_of a) k.message q (Sent rule (length (target_list targets))) ∷ []
    → request ≡ (opening server a.now (call_to (arrived a k) k.message targets)).request
    → Teach rows server a.now updates (λ dialogs. dialogs_after server a.now (opening server a.now (call_to (arrived a k) k.message targets)) dialogs)
    → Becomes a.now (with_one_more request old.requests) updates (counted (arrival_of a) old) mid → new ≡ asked (arrival_of a) q mid
    → Does server old a.now (effect_of server (arrival_of a) k.message (Definition.Send q rule targets) (counted (arrival_of a) old))
    (record { at = a.now; packets = packets; records = made }) new
sent_does rows server a k q rule targets request made drafted packets updates old mid new from_is room somebody same sent goes recorded is taught became spent =
    subst (λ (effect : Effect). Does server old a.now effect (record { at = a.now; packets = packets; records = made }) new)
    (to_somebody server a k.message q rule targets (counted (arrival_of a) old) somebody)
    (forks server a.now (call_to (arrived a k) k.message targets) (call_to (arrival_of a) k.message targets) request
    (record_of server (arrival_of a) k.message q (Sent rule (length (target_list targets))) ∷ []) made drafted
    packets updates old.dialogs old
    (asked (arrival_of a) q (counted (arrival_of a) old)) new (ap (λ (from : Addr). call_to (record (arrival_of a) { from = from }) k.message targets) from_is)
    room sent goes recorded is refl (taught (sym same) old.dialogs)
    (ap (λ (s : ProxyState). s.moment) spent ∙ became.moment_is) (ap (λ (s : ProxyState). s.next) spent ∙ became.next_is)
    (ap (λ (s : ProxyState). s.bindings) spent ∙ became.bindings_are)
    (ap (λ (s : ProxyState). s.nonces) spent ∙ ap (λ (nonces : List Nonce). used nonces a.now q.proof) became.nonces_are)
    (ap (λ (s : ProxyState). s.requests) spent ∙ became.requests_are)
    (subst (λ (dialogs : List Dialog). SameDialogs a.now dialogs (after_updates a.now updates old.dialogs)) (sym (ap (λ (s : ProxyState). s.dialogs) spent))
    became.dialogs_are))

-- ---- in a dialog

pub within_does : (rows : List HostAddress) (server : Server) (a : Arrival) (k : KeptRequest) (address : Addr) (id : DialogId) (request : OpenRequest)
    (made : List Record) (drafted packets : List Packet)
    (updates : List DialogUpdate) (old new : ProxyState) → k.source ≡ a.from → Definition.is_full old ≡ false → rows ≡ server.config.addresses
    → AreSent (opening_packets server a.now (call_within server (arrived a k) k.message address)) [] drafted → packets ≡ drafted → made ≡ []
    → request ≡ (opening server a.now (call_within server (arrived a k) k.message address)).request
    → Teach rows server a.now updates (λ dialogs. dialogs_after server a.now (opening server a.now (call_within server (arrived a k) k.message address))
    (after_request server a.now id k.message dialogs))
    → Becomes a.now (with_one_more request old.requests) updates (counted (arrival_of a) old) new
    → Does server old a.now (effect_of server (arrival_of a) k.message (Definition.InDialog address id) (counted (arrival_of a) old))
    (record { at = a.now; packets = packets; records = made }) new
within_does rows server a k address id request made drafted packets updates old new from_is room same sent goes none is taught became =
    forks server a.now (call_within server (arrived a k) k.message address) (call_within server (arrival_of a) k.message address) request [] made drafted packets
    updates old.dialogs old
    (renewing server (arrival_of a) k.message id (counted (arrival_of a) old)) new
    (ap (λ (from : Addr). call_within server (record (arrival_of a) { from = from }) k.message address) from_is)
    room sent goes none is refl (taught (sym same) old.dialogs) became.moment_is became.next_is became.bindings_are became.nonces_are became.requests_are
    became.dialogs_are

-- ---- an ACK

pub ack_does : (rows : List HostAddress) (server : Server) (a : Arrival) (m : Message) (address : Addr) (id : DialogId) (packet : Packet) (first packets : List Packet)
    (made : List Record) (updates : List DialogUpdate)
    (old new : ProxyState) → rows ≡ server.config.addresses → packet ≡ ack_packet server (arrival_of a) m address → first ≡ [] → packets ≡ first ++ packet ∷ []
    → made ≡ []
    → Teach rows server a.now updates (λ dialogs. after_request server a.now id m dialogs) → Becomes a.now old.requests updates (counted (arrival_of a) old) new
    → Does server old a.now (effect_of server (arrival_of a) m (Definition.AckOn address id) (counted (arrival_of a) old))
    (record { at = a.now; packets = packets; records = made }) new
ack_does rows server a m address id packet first packets made updates old new same is empty pushed none taught became =
    record {
      at_moment = refl;
      sends = ap originals goes;
      repeats = ap retransmissions goes;
      records = none;
      leaves =
          record {
            moment = became.moment_is;
            next = became.next_is;
            bindings = λ aor later late. ap (live aor later) became.bindings_are;
            nonces = became.nonces_are;
            requests = became.requests_are;
            dialogs =
                subst (λ (at : ℕ). SameDialogs at new.dialogs (after_request server a.now id m old.dialogs)) (sym became.moment_is)
                (subst (SameDialogs a.now new.dialogs) (taught (sym same) old.dialogs) became.dialogs_are);
          };
    } where
      goes : packets ≡ ack_packet server (arrival_of a) m address ∷ []
      goes = pushed ∙ ap (λ (ps : List Packet). ps ++ packet ∷ []) empty ∙ ap (λ (p : Packet). p ∷ []) is
