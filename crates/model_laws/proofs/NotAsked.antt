-- A step in which policy isn't asked is one by each configuration that gives hosts the same addresses.
use Rattle.std.proofs.Common.{◌≡◌, inl, inr, ◌∙◌, ℕ, ◌==◌, Bool, true, false, if◌then◌else◌, List, [], find, codes, bytes_eq, Option, Some, None, option_and_then, refl}
use Rattle.std.proofs.Common.{sym, ap, subst}
use Rattle.std.specs.Option.{option_map_or}
use Rattle.std.specs.Prelude.{option_map}
use Rattle.std.specs.Result.{result_ok}
use Rattle.sip_message_form.specs.declared.message.Start.{Start}
use Rattle.sip_message_form.specs.declared.message.Start.TheVariants.{Request, Status}
use Rattle.sip_message_form.specs.declared.message.Message.{Message}
use Rattle.sip_message.specs.Reading.{reading_of}
use Rattle.sip_header.specs.declared.core_fields.CoreFields.{CoreFields}
use Rattle.sip_header.specs.CoreFields.{core_of}
use Rattle.sip_transaction_table.specs.declared.key.TransactionKey.{TransactionKey}
use Rattle.sip_transaction_table.specs.Key.{key_of}
use Rattle.sip_hops.specs.declared.host_address.HostAddress.{HostAddress}
use Rattle.sip_policy.specs.declared.decision.Decision.{Decision}
use Rattle.sip_targets.specs.declared.targets.Targets.{Targets}
use Rattle.sip_validate.specs.Refusal.{refusal_of}
use Rattle.sip_config_types.specs.declared.config.Config.{Config}
use Rattle.sip_event.specs.declared.packet.Packet.{Packet}
use Rattle.sip_event.specs.declared.packet.Ticket.{Ticket}
use Rattle.sip_event.specs.declared.event.StepOut.{StepOut}
use Rattle.sip_event.specs.declared.event.Event.TheVariants.{Datagram, Time, Fault}
use Rattle.sip_model.specs.state.declared.server.Server.{Server}
use Rattle.sip_model.specs.state.declared.branch.Branch.{Branch}
use Rattle.sip_model.specs.state.declared.open_request.OpenRequest.{OpenRequest}
use Rattle.sip_model.specs.state.declared.proxy_state.ProxyState.{ProxyState}
use Rattle.sip_model.specs.state.SameState.{SameState}
use Rattle.sip_model.specs.state.State.{has_key}
use Rattle.sip_model.specs.state.Arrival.{Arrival}
use Rattle.sip_model.specs.context_model.Branches.{Change}
use Rattle.sip_model.specs.context_model.Retransmission.{IsResent, OfAnswer, OfRequest}
use Rattle.sip_model.specs.verdict_model.declared.question.Question.{Question}
use Rattle.sip_model.specs.verdict_model.Verdict.{Registered, Verdict, Drop, Respond, Copy, AckOn, Cancel, Answer, InDialog, Challenge, Deny, Send, Register, is_full}
use Rattle.sip_model.specs.verdict_model.Verdict.{is_register, is_outside, question_of, answer_of, registration_by, request_targets, decided, policy_verdict, within}
use Rattle.sip_model.specs.verdict_model.Verdict.{ack_verdict, cancel_verdict, core_verdict, checked_verdict, new_verdict, by_open, by_key, by_start, message_verdict}
use Rattle.sip_model.specs.verdict_model.Verdict.{message_in, verdict_in, verdict_of}
use Rattle.sip_model.specs.steps_model.Effect.{Effect, changed, counted, effect_of, nothing, datagram_effect}
use Rattle.sip_model.specs.steps_model.Step.{Act, Given, Passing, IsStep, Does, IsQuiet, IsOverdue, OfSide, OfBranch, resent, arrival_of, moment_of, is_failed}
use Rattle.sip_model.specs.steps_model.Step.{failed_branch, failed_request, fault_effect}
use Rattle.sip_model.specs.Run.{under}
use Rattle.sip_model.specs.Histories.{Judged, judged_at, asked_in}

-- policy isn't asked in a verdict
abbrev IsNotAsked : Verdict → Type 0
IsNotAsked v = asked_in v ≡ None

-- where policy is asked in the first of two verdicts, and isn't in the one that a test takes, this is the second
taken_second : (t : Bool) (asked like rest : Verdict) → (IsNotAsked asked → ⊥) → IsNotAsked (if t then asked else rest)
    → (if t then like else rest) ≡ (if t then asked else rest)
taken_second true asked like rest is e = absurd (is e)
taken_second false asked like rest is e = refl

-- a second one in place of the same
second_same : (t : Bool) (first rest like : Verdict) → (IsNotAsked rest → like ≡ rest) → IsNotAsked (if t then first else rest)
    → (if t then first else like) ≡ (if t then first else rest)
second_same true first rest like same e = refl
second_same false first rest like same e = same e

-- outside a dialog policy is asked
either_asked : (q : Question) (id : ℕ) (t : Bool) (outcome : Registered) (targets : Targets) → IsNotAsked (if t then Register q id outcome else Send q id targets) → ⊥
either_asked q id true outcome targets e = absurd (cc)
either_asked q id false outcome targets e = absurd (cc)

outside_is_asked : (server : Server) (state : ProxyState) (now : ℕ) (m : Message) (method : List ℕ) (core : CoreFields) (q : Question) (decision : Decision)
    → IsNotAsked (decided server state now m method core q decision) → ⊥
outside_is_asked server state now m method core q Decision.Challenge e = absurd (cc)
outside_is_asked server state now m method core q (Decision.Deny id) e = absurd (cc)
outside_is_asked server state now m method core q (Decision.Allow id) e =
    either_asked q id (is_register method) (registration_by server state.bindings now m core) (request_targets server state.bindings now m q (Decision.Allow id)) e
outside_is_asked server state now m method core q (Decision.Via id hop) e =
    either_asked q id (is_register method) (registration_by server state.bindings now m core) (request_targets server state.bindings now m q (Decision.Via id hop)) e

module _ (server : Server) (config : Config) where
  -- the server under another configuration that gives hosts the same addresses
  abbrev other : Server
  other = under server (record config { addresses = server.config.addresses })

  -- ---- verdicts

  -- on a request with these core fields
  core_same : (state : ProxyState) (now : ℕ) (m : Message) (method : List ℕ) (o : Option CoreFields) → IsNotAsked (core_verdict server state now m method o)
      → core_verdict other state now m method o ≡ core_verdict server state now m method o
  core_same state now m method None e = refl
  core_same state now m method (Some core) e =
      taken_second (is_outside method core) (policy_verdict server state now m method core) (policy_verdict other state now m method core)
      (within server state now m InDialog (Answer 481 []))
      (outside_is_asked server state now m method core (question_of server state.nonces now m method core)
      (answer_of server (question_of server state.nonces now m method core))) e

  -- on one that the checks refuse, or don't
  checked_same : (state : ProxyState) (now : ℕ) (m : Message) (method : List ℕ) (o : Option (ℕ × List ℕ)) → IsNotAsked (checked_verdict server state now m method o)
      → checked_verdict other state now m method o ≡ checked_verdict server state now m method o
  checked_same state now m method (Some refusal) e = refl
  checked_same state now m method None e =
      second_same (is_full state) (Answer 503 []) (core_verdict server state now m method (result_ok (core_of m)))
      (core_verdict other state now m method (result_ok (core_of m)))
      (core_same state now m method (result_ok (core_of m))) e

  -- on one whose key isn't open
  new_same : (state : ProxyState) (a : Arrival) (m : Message) (short : Bool) (method : List ℕ) (key : TransactionKey)
      → IsNotAsked (new_verdict server state a m short method key)
      → new_verdict other state a m short method key ≡ new_verdict server state a m short method key
  new_same state a m short method key e =
      second_same (bytes_eq method (codes "ACK")) (ack_verdict server state a.now m short) (cancel_or server) (cancel_or other)
      (second_same (bytes_eq method (codes "CANCEL")) (cancel_verdict server state a m short key)
      (checked_verdict server state a.now m method (refusal_of server.config.own m short))
      (checked_verdict other state a.now m method (refusal_of server.config.own m short)) (checked_same state a.now m method (refusal_of server.config.own m short)))
      e where
        cancel_or : Server → Verdict
        cancel_or x =
            if bytes_eq method (codes "CANCEL") then cancel_verdict x state a m short key
            else checked_verdict x state a.now m method (refusal_of x.config.own m short)

  -- on any
  open_same : (state : ProxyState) (a : Arrival) (m : Message) (short : Bool) (method : List ℕ) (key : TransactionKey) (o : Option OpenRequest)
      → IsNotAsked (by_open server state a m short method key o)
      → by_open other state a m short method key o ≡ by_open server state a m short method key o
  open_same state a m short method key None e = new_same state a m short method key e
  open_same state a m short method key (Some r) e = refl

  key_same : (state : ProxyState) (a : Arrival) (m : Message) (short : Bool) (method : List ℕ) (o : Option TransactionKey)
      → IsNotAsked (by_key server state a m short method o)
      → by_key other state a m short method o ≡ by_key server state a m short method o
  key_same state a m short method None e = refl
  key_same state a m short method (Some key) e = open_same state a m short method key (find (has_key key) state.requests) e

  start_same : (state : ProxyState) (a : Arrival) (m : Message) (short : Bool) (start : Start) → IsNotAsked (by_start server state a m short start)
      → by_start other state a m short start ≡ by_start server state a m short start
  start_same state a m short (Status code reason) e = refl
  start_same state a m short (Request method uri version) e = key_same state a m short method (key_of m) e

  -- ---- what a verdict does

  effect_same : (a : Arrival) (m : Message) (v : Verdict) (state : ProxyState) → IsNotAsked v → effect_of other a m v state ≡ effect_of server a m v state
  effect_same a m Drop state e = refl
  effect_same a m (Respond r b status) state e = refl
  effect_same a m (Copy r) state e = refl
  effect_same a m (AckOn address id) state e = refl
  effect_same a m (Cancel None) state e = refl
  effect_same a m (Cancel (Some r)) state e = refl
  effect_same a m (Answer status extras) state e = refl
  effect_same a m (InDialog address id) state e = refl
  effect_same a m (Challenge q) state e = absurd (cc)
  effect_same a m (Deny q id) state e = absurd (cc)
  effect_same a m (Send q id targets) state e = absurd (cc)
  effect_same a m (Register q id outcome) state e = absurd (cc)

  -- a message, with the verdict on it
  judged_same : (a : Arrival) (m : Message) (short : Bool) (state : ProxyState) → IsNotAsked (message_verdict server state a m short)
      → effect_of other a m (message_verdict other state a m short) (counted a state) ≡ effect_of server a m (message_verdict server state a m short) (counted a state)
  judged_same a m short state e =
      ap (λ (v : Verdict). effect_of other a m v (counted a state)) (start_same state a m short m.start e)
      ∙ effect_same a m (message_verdict server state a m short) (counted a state) e

  -- what bytes say does the same
  said_same : (state : ProxyState) (a : Arrival) (said : Option (Message × Bool)) → option_and_then (λ (x : Message × Verdict). asked_in x.1)
      (verdict_in server state a said) ≡ None
      → option_map_or (λ x. effect_of other a x.0 x.1 (counted a state)) (verdict_in other state a said) (nothing (counted a state))
      ≡ option_map_or (λ x. effect_of server a x.0 x.1 (counted a state)) (verdict_in server state a said) (nothing (counted a state))
  said_same state a None e = refl
  said_same state a (Some x) e = judged_same a x.0 x.1 state e

  -- ---- steps

  -- what is asked in what a datagram says
  asked_said : (state : ProxyState) (a : Arrival) (found : Option (Message × Verdict))
      → option_and_then (λ (j : Judged). asked_in j.verdict) (option_map (λ (x : Message × Verdict). record { arrival = a; message = x.0; verdict = x.1 }) found) ≡ None
      → option_and_then (λ (x : Message × Verdict). asked_in x.1) found ≡ None
  asked_said state a None e = refl
  asked_said state a (Some x) e = e

  -- the same effect is done by either
  does_same : (old : ProxyState) (at : ℕ) (effect like : Effect) (out : StepOut) (new : ProxyState) → like ≡ effect → Does server old at effect out new
      → Does other old at like out new
  does_same old at effect like out new same h = record {
    at_moment = h.at_moment;
    sends = h.sends ∙ ap (λ (e : Effect). e.originals) (sym same);
    repeats = h.repeats ∙ ap (λ (e : Effect). e.again) (sym same);
    records = h.records ∙ ap (λ (e : Effect). e.records) (sym same);
    leaves = subst (λ (e : Effect). SameState new e.state) (sym same) h.leaves;
  }

  overdue_same : (due : ℕ) (r : OpenRequest) (change : Change) → IsOverdue server due r change → IsOverdue other due r change
  overdue_same due r _ (OfSide is) = OfSide is
  overdue_same due r _ (OfBranch b there is) = OfBranch b there is

  resent_same : (due : ℕ) (r : OpenRequest) (packets : List Packet) (next : OpenRequest) → IsResent server due r packets next → IsResent other due r packets next
  resent_same due r _ _ (OfAnswer is) = OfAnswer is
  resent_same due r _ _ (OfRequest b there is) = OfRequest b there is

  quiet_same : (old : ProxyState) (at : ℕ) (out : StepOut) (new : ProxyState) → IsQuiet server old at out new → IsQuiet other old at out new
  quiet_same old at out new h = record {
    no_earlier = h.no_earlier;
    no_later = h.no_later;
    none_passed = h.none_passed;
    none_again_passed = h.none_again_passed;
    does = does_same old out.at (nothing (record old { moment = out.at })) (nothing (record old { moment = out.at })) out new refl h.does;
  }

  -- any step in which policy isn't asked
  step_same : (old : ProxyState) (act : Act) (out : StepOut) (new : ProxyState) → option_and_then (λ (j : Judged). asked_in j.verdict) (judged_at server old act) ≡ None
      → IsStep server old act out new → IsStep other old act out new
  step_same old (Given (Datagram at word from bytes)) out new e h =
      let a : Arrival = arrival_of old at word from in
      record {
        none_due = h.none_due;
        none_again = h.none_again;
        does =
            does_same old (moment_of old at) (datagram_effect server old a bytes) (datagram_effect other old a bytes) out new
            (said_same old a (message_in (reading_of bytes)) (asked_said old a (verdict_of server old a bytes) e)) h.does;
      }
  step_same old (Given (Time at)) out new e h =
      record { none_due = h.none_due; none_again_due = h.none_again_due; at_moment = h.at_moment; quiet = quiet_same old at out new h.quiet }
  step_same old (Given (Fault at ticket)) out new e h =
      let now : ℕ = moment_of old at in
      record {
        none_passed = h.none_passed;
        none_again = h.none_again;
        does =
            does_same old now (fault_effect server now ticket (record old { moment = now })) (fault_effect other now ticket (record old { moment = now })) out new
            (fault_same now ticket (record old { moment = now }) (find (λ (r : OpenRequest). r.number == ticket.datagram) old.requests)) h.does;
      }
    where
      branch_same : (now : ℕ) (state : ProxyState) (r : OpenRequest) (o : Option Branch) → failed_branch other now state r o ≡ failed_branch server now state r o
      branch_same now state r None = refl
      branch_same now state r (Some b) = refl

      fault_same : (now : ℕ) (ticket : Ticket) (state : ProxyState) (o : Option OpenRequest)
          → failed_request other now ticket state o ≡ failed_request server now ticket state o
      fault_same now ticket state None = refl
      fault_same now ticket state (Some r) = branch_same now state r (find (is_failed ticket.branch) r.branches)
  step_same old (Passing at) out new e (inl quiet) = inl (quiet_same old at out new quiet)
  step_same old (Passing at) out new e (inr (inl h)) =
      inr
      (inl (record {
        request = h.request;
        change = h.change;
        is_open = h.is_open;
        passes = overdue_same out.at h.request h.change h.passes;
        is_due = h.is_due;
        is_first = h.is_first;
        none_again = h.none_again;
        does = does_same old out.at (changed server out.at old h.change) (changed other out.at old h.change) out new refl h.does;
      }))
  step_same old (Passing at) out new e (inr (inr h)) =
      inr
      (inr (record {
        request = h.request;
        packets = h.packets;
        next = h.next;
        is_open = h.is_open;
        goes = resent_same out.at h.request h.packets h.next h.goes;
        is_due = h.is_due;
        is_first = h.is_first;
        none_again = h.none_again;
        does = does_same old out.at (resent out.at old h.packets h.next) (resent out.at old h.packets h.next) out new refl h.does;
      }))

-- whose addresses are the same, they are these
pub step_stays : (server : Server) (config : Config) (old new : ProxyState) (act : Act) (out : StepOut) → config.addresses ≡ server.config.addresses
    → option_and_then (λ (j : Judged). asked_in j.verdict) (judged_at server old act) ≡ None → IsStep server old act out new
    → IsStep (under server config) old act out new
step_stays server config old new act out same e h =
    subst (λ (rows : List HostAddress). IsStep (under server (record config { addresses = rows })) old act out new) (sym same)
    (step_same server config old act out new e h)
