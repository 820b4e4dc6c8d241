-- What a history makes of the nonces, of the audit log, and of the known dialogs.
use Rattle.std.specs.Prelude.{◌≡◌, ◌<◌, ◌≤◌, ◌+◌, ℕ, ◌==◌, Contains, if◌then◌else◌, List, [], ◌∷◌, ◌++◌, length, find, option_map, Option, Some, None}
use mathlib.Core.Logic.{inl, inr}
use Rattle.std.specs.Option.{option_map_or, option_to_list}
use Rattle.std.specs.List.{AllByRecursion}
use Rattle.sip_message_form.specs.declared.message.Message.{Message}
use Rattle.sip_digest.specs.declared.nonces.Nonce.{Nonce}
use Rattle.sip_digest.specs.Credential.{count_of}
use Rattle.sip_digest.specs.NonceText.{nonce_text, word_of}
use Rattle.sip_digest.specs.Nonces.{issued}
use Rattle.sip_auth.specs.Proof.{Proof, Right, Stale, Wrong, used}
use Rattle.sip_targets.specs.declared.targets.Targets.{Targets}
use Rattle.sip_targets.specs.Targets.{target_list}
use Rattle.sip_audit.specs.declared.record.AuditOutcome.{AuditOutcome}
use Rattle.sip_audit.specs.declared.record.Record.{Record}
use Rattle.sip_dialog.specs.declared.dialog.Dialog.{Dialog}
use Rattle.sip_event.specs.declared.packet.Ticket.{Ticket}
use Rattle.sip_event.specs.declared.event.StepOut.{StepOut}
use Rattle.sip_event.specs.declared.event.Event.TheVariants.{Datagram, Time, Fault}
use Rattle.model_steps.specs.state.declared.server.Server.{Server}
use Rattle.model_steps.specs.state.declared.branch.Branch.{Branch}
use Rattle.model_steps.specs.state.declared.open_request.OpenRequest.{OpenRequest}
use Rattle.model_steps.specs.state.declared.proxy_state.ProxyState.{ProxyState}
use Rattle.model_steps.specs.state.Dialogs.{after_request}
use Rattle.model_steps.specs.context_model.Branches.{settled, responded, send_failed, cancelled}
use Rattle.model_steps.specs.state.Arrival.{Arrival}
use Rattle.model_steps.specs.verdict_model.declared.question.Question.{Question}
use Rattle.model_steps.specs.verdict_model.Verdict.{Registered, Bound, Refused, Verdict, Drop, Respond, Copy, AckOn, Cancel, Answer}
use Rattle.model_steps.specs.verdict_model.Verdict.{InDialog, Challenge, Deny, Send, Register, verdict_of}
use Rattle.model_steps.specs.context_model.Opening.{forking, branches_from, dialog_branch, tried, trying}
use Rattle.model_steps.specs.Effect.{challenge_status, record_of, dialogs_after}
use Rattle.model_steps.specs.Step.{Act, Given, Passing, IsStep, is_failed, moment_of, arrival_of}
use Rattle.sip_model.specs.Run.{Link, IsChain, under}

-- what policy was asked in a verdict, if it was asked
abbrev pub asked_in : Verdict → Option Question
asked_in (Challenge q) = Some q
asked_in (Deny q id) = Some q
asked_in (Send q id targets) = Some q
asked_in (Register q id outcome) = Some q
asked_in Drop = None
asked_in (Respond r b status) = None
asked_in (Copy r) = None
asked_in (AckOn address id) = None
asked_in (Cancel found) = None
asked_in (Answer status extras) = None
asked_in (InDialog address id) = None

-- a datagram that says a message, and the verdict on that
pub record Judged : Type 0 where
  pub arrival : Arrival
  pub message : Message
  pub verdict : Verdict

-- those of a step, if it is taken for a datagram that says a message
abbrev pub judged_at : Server → ProxyState → Act → Option Judged
judged_at server state (Given (Datagram at word from bytes)) =
    option_map (λ x. record {
      arrival = arrival_of state at word from;
      message = x.0;
      verdict = x.1;
    }) (verdict_of server state (arrival_of state at word from) bytes)
judged_at server state (Given (Time at)) = None
judged_at server state (Given (Fault at ticket)) = None
judged_at server state (Passing at) = None

-- ---- nonces

-- a challenge issues a nonce of this word (RFC 2617 3.2.1)
abbrev pub with_issued : Arrival → Verdict → List Nonce → List Nonce
with_issued a (Challenge q) nonces = issued nonces a.word a.now
with_issued a (Deny q id) nonces = nonces
with_issued a (Send q id targets) nonces = nonces
with_issued a (Register q id outcome) nonces = nonces
with_issued a Drop nonces = nonces
with_issued a (Respond r b status) nonces = nonces
with_issued a (Copy r) nonces = nonces
with_issued a (AckOn address id) nonces = nonces
with_issued a (Cancel found) nonces = nonces
with_issued a (Answer status extras) nonces = nonces
with_issued a (InDialog address id) nonces = nonces

-- the nonces after a datagram: a right credential that policy was asked about counts as used, whatever was decided, and a challenge
-- issues its nonce (RFC 2617 3.2.1, 3.2.2)
abbrev pub nonces_by : List Nonce → Judged → List Nonce
nonces_by nonces j = with_issued j.arrival j.verdict (option_map_or (λ q. used nonces j.arrival.now q.proof) (asked_in j.verdict) nonces)

-- the nonces after a history: what its challenges issued, and its right credentials used
abbrev pub nonces_after : Server → List Link → List Nonce
nonces_after server [] = []
nonces_after server (link ∷ history) = option_map_or (nonces_by (nonces_after server history)) (judged_at (under server link.config) link.before link.act)
    (nonces_after server history)

-- a challenge of a history issued the nonce of this text, less than its life of 300,000 ms before a moment (RFC 2617 3.2.1)
pub record WasChallenged (server : Server) (history : List Link) (now : ℕ) (text : List ℕ) : Type 0 where
  pub link : Link
  pub is_there : Contains history link
  pub challenge : Judged
  pub is_judged : judged_at (under server link.config) link.before link.act ≡ Some challenge
  pub question : Question
  pub is_challenge : challenge.verdict ≡ Challenge question
  pub is_its_nonce : text ≡ nonce_text challenge.arrival.word
  pub is_before : challenge.arrival.now ≤ now
  pub is_recent : now < challenge.arrival.now + 300000

-- ---- the audit log

-- what became of a request that was let through, by its targets
abbrev pub sending_outcome : ℕ → Targets → AuditOutcome
sending_outcome id Targets.NotFound = AuditOutcome.Answer id 404
sending_outcome id Targets.Unavailable = AuditOutcome.Answer id 480
sending_outcome id (Targets.Bindings targets) = AuditOutcome.Sent id (length (target_list (Targets.Bindings targets)))
sending_outcome id (Targets.Hop uri address) = AuditOutcome.Sent id (length (target_list (Targets.Hop uri address)))

-- what became of a REGISTER that was let through
abbrev pub registering_outcome : ℕ → Registered → AuditOutcome
registering_outcome id (Bound rows) = AuditOutcome.Answer id 200
registering_outcome id (Refused status extras) = AuditOutcome.Answer id status

-- one record of each request that policy was asked about, with what became of it, and none of all else (this project's profile)
abbrev pub records_of : Server → Arrival → Message → Verdict → List Record
records_of server a m (Challenge q) = record_of server a m q (AuditOutcome.Challenge (challenge_status q.operation)) ∷ []
records_of server a m (Deny q id) = record_of server a m q (AuditOutcome.Deny id) ∷ []
records_of server a m (Send q id targets) = record_of server a m q (sending_outcome id targets) ∷ []
records_of server a m (Register q id outcome) = record_of server a m q (registering_outcome id outcome) ∷ []
records_of server a m Drop = []
records_of server a m (Respond r b status) = []
records_of server a m (Copy r) = []
records_of server a m (AckOn address id) = []
records_of server a m (Cancel found) = []
records_of server a m (Answer status extras) = []
records_of server a m (InDialog address id) = []

-- those of a step
abbrev pub records_at : Server → ProxyState → Act → List Record
records_at server state act = option_map_or (λ j. records_of server j.arrival j.message j.verdict) (judged_at server state act) []

-- ---- dialogs

-- the dialogs after a request was sent to its branches
abbrev pub forking_dialogs : Server → ℕ → OpenRequest → List Dialog → List Dialog
forking_dialogs server now r dialogs = dialogs_after server now (settled server now [] None (tried now (trying server r) r)) dialogs

-- and after one that was let through, by its targets
abbrev pub sending_dialogs : Server → Arrival → Message → Targets → List Dialog → List Dialog
sending_dialogs server a m Targets.NotFound dialogs = dialogs
sending_dialogs server a m Targets.Unavailable dialogs = dialogs
sending_dialogs server a m (Targets.Bindings targets) dialogs = forking_dialogs server a.now
    (forking a m (branches_from a.now 1 (target_list (Targets.Bindings targets)))) dialogs
sending_dialogs server a m (Targets.Hop uri address) dialogs = forking_dialogs server a.now
    (forking a m (branches_from a.now 1 (target_list (Targets.Hop uri address)))) dialogs

-- The dialogs after a verdict on a message: a request or an ACK of a dialog that is sent on renews it; what goes to the caller tells
-- dialogs, makes them known or ends them; and when an
-- INVITE stays open no longer, its dialogs without a 2xx end (RFC 3261 12, 15).
abbrev pub verdict_dialogs : Server → Arrival → Message → Verdict → List Dialog → List Dialog
verdict_dialogs server a m (Respond r b status) dialogs = dialogs_after server a.now (responded server a.now r b status m) dialogs
verdict_dialogs server a m (AckOn address id) dialogs = after_request server a.now id m dialogs
verdict_dialogs server a m (Cancel None) dialogs = dialogs
verdict_dialogs server a m (Cancel (Some r)) dialogs = dialogs_after server a.now (cancelled server a.now r) dialogs
verdict_dialogs server a m (InDialog address id) dialogs =
    forking_dialogs server a.now (forking a m (dialog_branch server a.now m address ∷ [])) (after_request server a.now id m dialogs)
verdict_dialogs server a m (Send q id targets) dialogs = sending_dialogs server a m targets dialogs
verdict_dialogs server a m Drop dialogs = dialogs
verdict_dialogs server a m (Copy r) dialogs = dialogs
verdict_dialogs server a m (Answer status extras) dialogs = dialogs
verdict_dialogs server a m (Challenge q) dialogs = dialogs
verdict_dialogs server a m (Deny q id) dialogs = dialogs
verdict_dialogs server a m (Register q id outcome) dialogs = dialogs

-- after a send to a branch failed
abbrev pub branch_dialogs : Server → ℕ → OpenRequest → Option Branch → List Dialog → List Dialog
branch_dialogs server now r b dialogs = option_map_or (λ x. dialogs_after server now (send_failed server now r x) dialogs) b dialogs

-- after any send failed
abbrev pub fault_dialogs : Server → ℕ → Ticket → Option OpenRequest → List Dialog → List Dialog
fault_dialogs server now ticket found dialogs = option_map_or
    (λ r. branch_dialogs server now r (find (is_failed ticket.branch) r.branches) dialogs) found dialogs

-- after a step; which of several tied deadlines passes is the step's to say
abbrev pub step_dialogs : (server : Server) (old : ProxyState) (act : Act) (out : StepOut) (new : ProxyState)
    → IsStep server old act out new → List Dialog → List Dialog
step_dialogs server old (Given (Datagram at word from bytes)) out new step dialogs =
    option_map_or (λ x. verdict_dialogs server (arrival_of old at word from) x.0 x.1 dialogs)
    (verdict_of server old (arrival_of old at word from) bytes) dialogs
step_dialogs server old (Given (Time at)) out new step dialogs = dialogs
step_dialogs server old (Given (Fault at ticket)) out new step dialogs =
    fault_dialogs server (moment_of old at) ticket (find (λ (r : OpenRequest). r.number == ticket.datagram) old.requests) dialogs
step_dialogs server old (Passing at) out new (inl quiet) dialogs = dialogs
step_dialogs server old (Passing at) out new (inr (inl passed)) dialogs = dialogs_after server out.at passed.change dialogs
step_dialogs server old (Passing at) out new (inr (inr goes)) dialogs = dialogs

-- The dialogs after a history: what its forwarded messages made known, told, renewed and ended.
abbrev pub history_dialogs : (server : Server) (first : ProxyState) (history : List Link) (last : ProxyState)
    → IsChain server first history last → List Dialog
history_dialogs server first [] last chain = []
history_dialogs server first (link ∷ history) last chain =
    step_dialogs (under server link.config) link.before link.act link.out link.after chain.1 (history_dialogs server first history link.before chain.2)

-- ---- no credential counts twice

-- whether a datagram issues a nonce of a word: how often, 0 or 1
abbrev pub issues_by : ℕ → Arrival → Verdict → ℕ
issues_by word a (Challenge q) = if a.word == word then 1 else 0
issues_by word a (Deny q id) = 0
issues_by word a (Send q id targets) = 0
issues_by word a (Register q id outcome) = 0
issues_by word a Drop = 0
issues_by word a (Respond r b status) = 0
issues_by word a (Copy r) = 0
issues_by word a (AckOn address id) = 0
issues_by word a (Cancel found) = 0
issues_by word a (Answer status extras) = 0
issues_by word a (InDialog address id) = 0

-- how many challenges of a history have a nonce of a word
abbrev pub issues_of : Server → ℕ → List Link → ℕ
issues_of server word [] = 0
issues_of server word (link ∷ history) = option_map_or (λ j. issues_by word j.arrival j.verdict) (judged_at (under server link.config) link.before link.act) 0
    + issues_of server word history

-- the count of a credential, if it is right and names the nonce of a word
abbrev pub right_count : ℕ → Proof → List ℕ
right_count word (Right name credential) =
    option_map_or (λ w. if w == word then option_to_list (count_of credential) else []) (word_of credential.nonce) []
right_count word Stale = []
right_count word Wrong = []

-- the counts with which right credentials used the nonce of a word in a history, the newest first
abbrev pub right_counts : Server → ℕ → List Link → List ℕ
right_counts server word [] = []
right_counts server word (link ∷ history) =
    option_map_or (λ j. option_map_or (λ q. right_count word q.proof) (asked_in j.verdict) []) (judged_at (under server link.config) link.before link.act) []
    ++ right_counts server word history

-- numbers of which each is above all that are behind it
abbrev pub AreFalling : List ℕ → Type 0
AreFalling [] = Unit {0}
AreFalling (n ∷ ns) = AllByRecursion (λ earlier. earlier < n) ns × AreFalling ns
