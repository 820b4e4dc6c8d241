-- What a draft says of its packets and its updates.
use Rattle.std.proofs.Common.{◌≡◌, ◌∙◌, ℕ, ◌+◌, ◌≤◌, ◌<◌, ◌^◌, Bool, true, List, [], ◌++◌, sym, ap, subst, arith}
use Rattle.std.specs.Prelude.{count_by, nat_lt}
use Rattle.std.proofs.lemmas.Bool.Decides.{nat_tests}
use Rattle.sip_message_form.specs.declared.message.Message.{Message}
use Rattle.sip_uri.specs.declared.addr.Addr.{Addr}
use Rattle.sip_transaction_table.specs.declared.key.TransactionKey.{TransactionKey}
use Rattle.sip_hops.specs.declared.host_address.HostAddress.{HostAddress}
use Rattle.sip_dialog.specs.declared.dialog.Dialog.{Dialog}
use Rattle.sip_dialog.specs.declared.dialog.DialogId.{DialogId}
use Rattle.sip_event.specs.declared.packet.Packet.{Packet}
use Rattle.sip_dialog_updates.specs.state.Arrival.{Arrival}
use Rattle.sip_dialog_updates.specs.state.declared.server.Server.{Server}
use Rattle.sip_dialog_updates.specs.state.declared.branch.Branch.{Branch}
use Rattle.sip_dialog_updates.specs.state.declared.open_request.OpenRequest.{OpenRequest}
use Rattle.sip_dialog_updates.specs.state.declared.open_request.Upward.{Upward}
use Rattle.sip_dialog_updates.specs.state.Dialogs.{after_request, after_answers, after_leaving}
use Rattle.sip_forwarding.specs.context_model.Opening.{forking, opening}
use Rattle.model_steps.specs.Effect.{change_packets, opening_packets, dialogs_after}
use Rattle.sip_dialog_updates.specs.declared.dialog_update.DialogUpdate.{DialogUpdate}
use Rattle.sip_dialog_updates.specs.DialogUpdates.{after_updates, beginnings}
use Rattle.sip_dialog_updates.specs.Telling.{Adds, is_early_or_success}
use Rattle.sip_context.specs.declared.input.Input.{Input}
use Rattle.sip_context.specs.declared.sent.Sent.{Sent}
use Rattle.sip_context.specs.Inputs.{Outcome, outcome, outcome_of}
use Rattle.sip_forwarding.specs.declared.changing.Drafted.{Drafted}
use Rattle.sip_forwarding.specs.Forwarding.{AreSent, IsDraft, IsInputTo, IsOpenable, Teach, change_of}
use Rattle.sip_forwarding.proofs.Few.{input_begins_one, opening_begins_none}
use Rattle.sip_forwarding.proofs.Marks.{input_sent, opening_sent}

-- ---- updates

-- what a request tells, to which other words lead
pub renewed_is : (rows : List HostAddress) (id : DialogId) (kept m : Message) (updates : List DialogUpdate) → kept ≡ m
    → Adds rows [] updates (λ server now dialogs. after_request server now id kept dialogs)
    → Adds rows [] updates (λ server now dialogs. after_request server now id m dialogs)
renewed_is rows id kept m updates same told = λ server now dialogs e. told server now dialogs e ∙ ap (λ (x : Message). after_request server now id x dialogs) same

-- and alone
pub renewed_alone : (rows : List HostAddress) (id : DialogId) (m : Message) (first updates : List DialogUpdate) → first ≡ []
    → Adds rows first updates (λ server now dialogs. after_request server now id m dialogs)
    → Adds rows [] updates (λ server now dialogs. after_request server now id m dialogs)
renewed_alone rows id m first updates none told = λ server now dialogs e. told server now dialogs e
    ∙ ap (λ (l : List DialogUpdate). after_request server now id m (after_updates now l dialogs)) none

-- what a change tells
pub change_told : (rows : List HostAddress) (r : OpenRequest) (upward sent : List Upward) (first updates : List DialogUpdate) → first ≡ [] → upward ≡ sent
    → Adds rows first updates (λ server now dialogs. after_leaving now r (after_answers server now r upward dialogs))
    → (server : Server) (now : ℕ) → Teach rows server now updates (λ dialogs. after_leaving now r (after_answers server now r sent dialogs))
change_told rows r upward sent first updates none same told = λ server now e dialogs.
    told server now dialogs e ∙ ap (λ (l : List DialogUpdate). after_leaving now r (after_answers server now r upward (after_updates now l dialogs))) none
    ∙ ap (λ (us : List Upward). after_leaving now r (after_answers server now r us dialogs)) same

-- what an opening tells
pub opening_told : (rows : List HostAddress) (server : Server) (now : ℕ) (call next : OpenRequest) (upward : List Upward) (first updates : List DialogUpdate)
    → next ≡ (opening server now call).request
    → upward ≡ (opening server now call).upward → Adds rows first updates (λ other moment dialogs.
    after_leaving moment next (after_answers other moment next upward dialogs))
    → Adds rows first updates (λ other moment dialogs. dialogs_after other moment (opening server now call) dialogs)
opening_told rows server now call next upward first updates same up told = λ other moment dialogs e.
    told other moment dialogs e ∙ ap (λ (r : OpenRequest). after_leaving moment r (after_answers other moment r upward (after_updates moment first dialogs))) same
    ∙ ap (λ (us : List Upward). after_leaving moment (opening server now call).request
    (after_answers other moment (opening server now call).request us (after_updates moment first dialogs))) up

-- ---- a request that is sent on

pub packets_are : (server : Server) (now : ℕ) (call to : OpenRequest) (packets : List Packet) → call ≡ to → packets ≡ opening_packets server now call
    → packets ≡ opening_packets server now to
packets_are server now call to packets same is = is ∙ ap (opening_packets server now) same

pub sent_are : (server : Server) (now : ℕ) (call to : OpenRequest) (packets : List Packet) → call ≡ to → packets ≡ opening_packets server now call
    → AreSent (opening_packets server now to) [] packets
sent_are server now call to packets same is = subst (AreSent (opening_packets server now to) []) (sym (packets_are server now call to packets same is))
    (opening_sent server now to)

pub request_is : (server : Server) (now : ℕ) (call to request : OpenRequest) → call ≡ to → request ≡ (opening server now call).request
    → request ≡ (opening server now to).request
request_is server now call to request same is = is ∙ ap (λ (r : OpenRequest). (opening server now r).request) same

-- where its datagram came from says nothing of whether a request can be opened
opens_from : (a : Arrival) (from : Addr) (key : TransactionKey) (r : OpenRequest) → IsOpenable (record a { from = from }) key r → IsOpenable a key r
opens_from a from key r opens =
    record {
      number = opens.number;
      key = opens.key;
      fits = opens.fits;
      within = opens.within;
      branched = opens.branched;
    }

pub opens_so : (server : Server) (a : Arrival) (from : Addr) (key : TransactionKey) (call to request : OpenRequest) → call ≡ to
    → request ≡ (opening server a.now call).request
    → IsOpenable (record a { from = from }) key (opening server a.now to).request → IsOpenable a key request
opens_so server a from key call to request same is opens =
    subst (IsOpenable a key) (sym (request_is server a.now call to request same is)) (opens_from a from key (opening server a.now to).request opens)

-- behind updates that do something, what the opening tells
pub told_behind : (rows : List HostAddress) (server : Server) (now : ℕ) (call to : OpenRequest) (first updates : List DialogUpdate) (edit : Server → ℕ → List Dialog
    → List Dialog) → call ≡ to
    → Adds rows [] first edit → Adds rows first updates (λ other moment dialogs. dialogs_after other moment (opening server now call) dialogs)
    → Teach rows server now updates (λ dialogs. dialogs_after server now (opening server now to) (edit server now dialogs))
told_behind rows server now call to first updates edit same before after = λ e dialogs.
    after server now dialogs e ∙ ap (λ (r : OpenRequest). dialogs_after server now (opening server now r) (after_updates now first dialogs)) same
    ∙ ap (dialogs_after server now (opening server now to)) (before server now dialogs e)

-- what the opening alone tells
pub told_alone : (rows : List HostAddress) (server : Server) (now : ℕ) (call to : OpenRequest) (first updates : List DialogUpdate) → call ≡ to → first ≡ []
    → Adds rows first updates (λ other moment dialogs. dialogs_after other moment (opening server now call) dialogs)
    → Teach rows server now updates (λ dialogs. dialogs_after server now (opening server now to) dialogs)
told_alone rows server now call to first updates same none after =
    told_behind rows server now call to first updates (λ other moment dialogs. dialogs) same
    (λ other moment dialogs e. ap (λ (l : List DialogUpdate). after_updates moment l dialogs) none) after

-- no dialog begins
pub none_begins : (server : Server) (now : ℕ) (a : Arrival) (m : Message) (branches : List Branch) (call : OpenRequest) (first updates : List DialogUpdate)
    → call ≡ forking a m branches → beginnings first ≡ 0
    → beginnings updates ≤ beginnings first + count_by is_early_or_success (opening server now call).upward → beginnings updates ≡ 0
none_begins server now a m branches call first updates same none few =
    by_counts (beginnings updates) (beginnings first) (count_by is_early_or_success (opening server now call).upward) none
    (ap (λ (r : OpenRequest). count_by is_early_or_success (opening server now r).upward) same ∙ opening_begins_none server now a m branches) few where
      by_counts : (all before more : ℕ) → before ≡ 0 → more ≡ 0 → all ≤ before + more → all ≡ 0
      by_counts all before more b m few = omega arith

pub no_updates : (updates : List DialogUpdate) → updates ≡ [] → beginnings updates ≡ 0
no_updates updates none = ap beginnings none

-- ---- an event

-- packets behind none
pub behind_none : (old new rest : List Packet) → old ≡ [] → new ≡ old ++ rest → new ≡ rest
behind_none old new rest none is = is ∙ ap (λ (v : List Packet). v ++ rest) none

-- updates behind none
pub few_alone : (first updates : List DialogUpdate) (upward sent : List Upward) → first ≡ [] → upward ≡ sent
    → beginnings updates ≤ beginnings first + count_by is_early_or_success upward
    → beginnings updates ≤ count_by is_early_or_success sent
few_alone first updates upward sent none same few =
    by_counts (beginnings updates) (beginnings first) (count_by is_early_or_success upward) (count_by is_early_or_success sent) (ap beginnings none)
    (ap (count_by is_early_or_success) same) few where
      by_counts : (all before more most : ℕ) → before ≡ 0 → more ≡ most → all ≤ before + more → all ≤ most
      by_counts all before more most b m few = omega arith

pub draft_is : (rows : List HostAddress) (server : Server) (now : ℕ) (before : OpenRequest) (input : Input) (r : OpenRequest) (sent : Sent) (d : Drafted)
    → IsInputTo before input
    → outcome r sent ≡ outcome_of server now before input → d.packets ≡ change_packets (change_of (outcome r sent)) ++ sent.copies
    → Teach rows server now d.updates (λ dialogs. dialogs_after server now (change_of (outcome r sent)) dialogs)
    → beginnings d.updates ≤ count_by is_early_or_success sent.upward
    → IsDraft rows server now (outcome_of server now before input) d
draft_is rows server now before input r sent d there e packets taught few =
    record {
      sent =
          subst (AreSent (change_packets (change_of (outcome_of server now before input))) (outcome_of server now before input).copies)
          (sym (packets ∙ ap (λ (o : Outcome). change_packets (change_of o) ++ o.copies) e)) (input_sent server now before input);
      updates = λ same dialogs. taught same dialogs ∙ ap (λ (o : Outcome). dialogs_after server now (change_of o) dialogs) e;
      few = at_most (beginnings d.updates) _ _ few (ap (λ (o : Outcome). count_by is_early_or_success o.upward) e) (input_begins_one server now before input there);
    } where
      at_most : (all here there : ℕ) → all ≤ here → here ≡ there → there ≤ 1 → all ≤ 1
      at_most all here there a b c = omega arith

-- ---- numbers

pub can_be_numbered : (n : ℕ) (t : Bool) → t ≡ nat_lt n 4294967295 → t ≡ true → n + 1 < 2 ^ 32
can_be_numbered n t is passes = by_test (sym is ∙ passes) where
  by_test : nat_lt n 4294967295 ≡ true → n + 1 < 2 ^ 32
  by_test e = grind (arith, nat_tests)
