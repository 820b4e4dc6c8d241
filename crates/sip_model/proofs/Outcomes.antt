-- What an effect sends for the first time is marked so, and so is what goes again: each effect is what some step does.
use Rattle.std.proofs.Common.{ℕ, ◌+◌, ◌==◌, true, false, ◌&&◌, cond, List, [], ◌∷◌, ◌++◌, find, flat_map, bytes_eq, codes, Option, Some, None, refl}
use Rattle.std.specs.Option.{option_map_or}
use Rattle.sip_message_form.specs.declared.message.Message.{Message}
use Rattle.sip_targets.specs.declared.targets.Targets.{Targets}
use Rattle.sip_targets.specs.Targets.{target_list}
use Rattle.sip_event.specs.declared.packet.Packet.{Packet}
use Rattle.sip_event.specs.declared.packet.Ticket.{Ticket}
use Rattle.sip_event.specs.declared.event.StepOut.{StepOut}
use Rattle.model_steps.specs.state.declared.server.Server.{Server}
use Rattle.model_steps.specs.state.declared.branch.Branch.{Branch}
use Rattle.model_steps.specs.state.declared.open_request.Side.TheVariants.{Closed}
use Rattle.model_steps.specs.state.declared.open_request.OpenRequest.{OpenRequest}
use Rattle.model_steps.specs.state.declared.proxy_state.ProxyState.{ProxyState}
use Rattle.model_steps.specs.state.State.{is_invite, is_answering, is_failure}
use Rattle.model_steps.proofs.of_state.Sameness.{state_self}
use Rattle.model_steps.specs.context_model.Sending.{branch_packets}
use Rattle.model_steps.specs.context_model.Branches.{Change, settled}
use Rattle.model_steps.specs.context_model.Branches.{marked, given_up}
use Rattle.model_steps.specs.context_model.Branches.{branch_overdue}
use Rattle.model_steps.specs.context_model.Retransmission.{answers_again, acks_again, IsResent, OfAnswer, OfRequest}
use Rattle.model_steps.specs.state.Arrival.{Arrival}
use Rattle.model_steps.specs.verdict_model.declared.question.Question.{Question}
use Rattle.model_steps.specs.verdict_model.Verdict.{Registered, Bound, Refused, Verdict, Drop, Respond, Copy, AckOn, Cancel, Answer, InDialog, Challenge, Deny, Send}
use Rattle.model_steps.specs.verdict_model.Verdict.{Register, verdict_of}
use Rattle.model_steps.specs.context_model.Opening.{tried, trying, forking, branches_from, dialog_branch}
use Rattle.model_steps.specs.Effect.{upward_packets, change_packets, Effect, nothing, method_of, sending, registering, counted, effect_of, datagram_effect}
use Rattle.model_steps.specs.Step.{Does, IsOverdue, OfSide, OfBranch, is_failed, failed_branch, failed_request, fault_effect}
use Rattle.model_steps.proofs.Marks.{AreMarked, IsFirst, joined_marked, either_marked, branch_marked, branches_first, upward_first, answers_marked, acks_marked}
use Rattle.model_steps.proofs.Marks.{settled_first, responded_first, firsts_in_front, agains_behind}

-- ---- changes

-- a deadline
pub overdue_first : (server : Server) (due : ℕ) (r : OpenRequest) (change : Change) → IsOverdue server due r change → IsFirst change
overdue_first server due r _ (OfSide is) = settled_first server due [] None (record r { side = Closed }) tt
overdue_first server due r _ (OfBranch b there is) = settled_first server due [] None (branch_overdue r b) tt

-- ---- effects

-- what an effect sends is marked for what it is
pub record IsMarked (effect : Effect) : Type 0 where
  pub firsts : AreMarked false effect.originals
  pub agains : AreMarked true effect.again

-- a request that is sent to its branches
forked_first : (server : Server) (now : ℕ) (r : OpenRequest) → AreMarked false (upward_packets r (trying server r)
    ++ change_packets (settled server now [] None (tried now (trying server r) r)) ++ flat_map (branch_packets server false r) r.branches)
forked_first server now r =
    let change : Change = settled server now [] None (tried now (trying server r) r) in
    joined_marked false (upward_packets r (trying server r) ++ change_packets change) (flat_map (branch_packets server false r) r.branches)
    (joined_marked false (upward_packets r (trying server r)) (change_packets change) (upward_first r (trying server r))
    (settled_first server now [] None (tried now (trying server r) r) tt))
    (branches_first server r r.branches)

-- a request that was let through
sending_marked : (server : Server) (a : Arrival) (m : Message) (q : Question) (id : ℕ) (targets : Targets) (state : ProxyState)
    → IsMarked (sending server a m q id targets state)
sending_marked server a m q id Targets.NotFound state = record { firsts = (refl, tt); agains = tt }
sending_marked server a m q id Targets.Unavailable state = record { firsts = (refl, tt); agains = tt }
sending_marked server a m q id (Targets.Bindings targets) state = record {
  firsts = forked_first server a.now
      (forking a m (branches_from a.now 1 (target_list (Targets.Bindings targets))));
  agains = tt;
}
sending_marked server a m q id (Targets.Hop uri address) state = record {
  firsts = forked_first server a.now
      (forking a m (branches_from a.now 1 (target_list (Targets.Hop uri address))));
  agains = tt;
}

-- a REGISTER that was
registering_marked : (server : Server) (a : Arrival) (m : Message) (q : Question) (id : ℕ) (outcome : Registered) (state : ProxyState)
    → IsMarked (registering server a m q id outcome state)
registering_marked server a m q id (Bound rows) state = record { firsts = (refl, tt); agains = tt }
registering_marked server a m q id (Refused status extras) state = record { firsts = (refl, tt); agains = tt }

-- a verdict on a message
effect_marked : (server : Server) (a : Arrival) (m : Message) (v : Verdict) (state : ProxyState) → IsMarked (effect_of server a m v state)
effect_marked server a m Drop state = record { firsts = tt; agains = tt }
effect_marked server a m (Respond r b status) state =
    record {
      firsts = responded_first server a.now r b status m;
      agains = either_marked true (is_failure status) (acks_again server r b b.phase) []
          (acks_marked server r b b.phase) tt;
    }
effect_marked server a m (Copy r) state = record {
  firsts = tt;
  agains = either_marked true (bytes_eq (method_of m.start) (codes "ACK")) [] (answers_again r r.answer) tt
      (answers_marked r r.answer);
}
effect_marked server a m (AckOn address id) state = record { firsts = (refl, tt); agains = tt }
effect_marked server a m (Cancel None) state = record { firsts = (refl, tt); agains = tt }
effect_marked server a m (Cancel (Some r)) state = record {
  firsts = (
    refl,
    settled_first server a.now [] None (cond (is_invite r && is_answering r.side) (marked r) r)
        tt,
  );
  agains = tt;
}
effect_marked server a m (Answer status extras) state = record { firsts = (refl, tt); agains = tt }
effect_marked server a m (InDialog address id) state = record {
  firsts = forked_first server a.now (forking a m (dialog_branch server a.now m address ∷ []));
  agains = tt;
}
effect_marked server a m (Challenge q) state = record { firsts = (refl, tt); agains = tt }
effect_marked server a m (Deny q id) state = record { firsts = (refl, tt); agains = tt }
effect_marked server a m (Send q id targets) state = sending_marked server a m q id targets state
effect_marked server a m (Register q id outcome) state = registering_marked server a m q id outcome state

-- a datagram
pub datagram_marked : (server : Server) (state : ProxyState) (a : Arrival) (bytes : List ℕ) → IsMarked (datagram_effect server state a bytes)
datagram_marked server state a bytes = by_verdict (verdict_of server state a bytes) where
  by_verdict : (o : Option (Message × Verdict)) → IsMarked (option_map_or (λ x. effect_of server a x.0 x.1 (counted a state)) o (nothing (counted a state)))
  by_verdict None = record { firsts = tt; agains = tt }
  by_verdict (Some x) = effect_marked server a x.0 x.1 (counted a state)

-- a send that failed
failed_branch_marked : (server : Server) (now : ℕ) (state : ProxyState) (r : OpenRequest) (o : Option Branch) → IsMarked (failed_branch server now state r o)
failed_branch_marked server now state r None = record { firsts = tt; agains = tt }
failed_branch_marked server now state r (Some b) = record { firsts = settled_first server now [] None (given_up b 503 r) tt; agains = tt }

failed_request_marked : (server : Server) (now : ℕ) (ticket : Ticket) (state : ProxyState) (o : Option OpenRequest) → IsMarked (failed_request server now ticket state o)
failed_request_marked server now ticket state None = record { firsts = tt; agains = tt }
failed_request_marked server now ticket state (Some r) = failed_branch_marked server now state r (find (is_failed ticket.branch) r.branches)

pub fault_marked : (server : Server) (now : ℕ) (ticket : Ticket) (state : ProxyState) → IsMarked (fault_effect server now ticket state)
fault_marked server now ticket state = failed_request_marked server now ticket state (find (λ (r : OpenRequest). r.number == ticket.datagram) state.requests)

-- what goes again at a moment
pub resent_marked : (server : Server) (due : ℕ) (r : OpenRequest) (packets : List Packet) (next : OpenRequest) → IsResent server due r packets next
    → AreMarked true packets
resent_marked server due r _ _ (OfAnswer is) = answers_marked r r.answer
resent_marked server due r _ _ (OfRequest b there is) = branch_marked server true r b

-- ---- what a step does

-- what a step puts out that does what an effect says
abbrev pub out_of : ℕ → Effect → StepOut
out_of at effect = record { at = at; packets = effect.originals ++ effect.again; records = effect.records }

-- it does so
pub does_say : (server : Server) (old : ProxyState) (at : ℕ) (effect : Effect) → IsMarked effect → Does server old at effect (out_of at effect) effect.state
does_say server old at effect marked = record {
  at_moment = refl;
  sends = firsts_in_front effect.originals effect.again marked.firsts marked.agains;
  repeats = agains_behind effect.originals effect.again marked.firsts marked.agains;
  records = refl;
  leaves = state_self effect.state effect.state refl;
}
