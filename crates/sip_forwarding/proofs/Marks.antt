-- What is sent for the first time is marked so, and so is what goes again, of each input (`Marks` of `model_steps` has what steps send).
use Rattle.std.proofs.Common.{ℕ, true, false, ◌&&◌, cond, [], ◌++◌, flat_map, None}
use Rattle.sip_dialog_updates.specs.state.declared.server.Server.{Server}
use Rattle.sip_dialog_updates.specs.state.declared.open_request.Side.TheVariants.{Closed}
use Rattle.sip_dialog_updates.specs.state.declared.open_request.OpenRequest.{OpenRequest}
use Rattle.sip_dialog_updates.specs.state.State.{is_invite, is_answering, is_failure}
use Rattle.sip_forwarding.specs.context_model.Sending.{branch_packets}
use Rattle.sip_forwarding.specs.context_model.Branches.{marked, given_up, branch_overdue}
use Rattle.sip_forwarding.specs.context_model.Opening.{opening, tried, trying}
use Rattle.sip_forwarding.specs.context_model.Retransmission.{acks_again}
use Rattle.model_steps.specs.Effect.{upward_packets, change_packets, opening_packets}
use Rattle.model_steps.proofs.Marks.{AreMarked, IsFirst, joined_marked, either_marked, branch_marked, branches_first, upward_first, answers_marked, acks_marked}
use Rattle.model_steps.proofs.Marks.{settled_first, responded_first, firsts_in_front, agains_behind, alone_first, none_again}
use Rattle.sip_context.specs.declared.input.Input.{Input}
use Rattle.sip_context.specs.declared.input.Input.TheVariants.{Response, BranchDeadline, SideDeadline, SendFault, Cancel, Ack, BranchAgain, AnswerAgain}
use Rattle.sip_context.specs.Inputs.{outcome_of}
use Rattle.sip_forwarding.specs.Forwarding.{AreSent, change_of}

-- the packets of a request that is sent to its branches
pub opening_sent : (server : Server) (now : ℕ) (r : OpenRequest) → AreSent (opening_packets server now r) [] (opening_packets server now r)
opening_sent server now r = record { originals = alone_first (opening_packets server now r) first; again = none_again (opening_packets server now r) first } where
  first : AreMarked false (opening_packets server now r)
  first =
      joined_marked false (upward_packets r (trying server r) ++ change_packets (opening server now r)) (flat_map (branch_packets server false r) r.branches)
      (joined_marked false (upward_packets r (trying server r)) (change_packets (opening server now r)) (upward_first r (trying server r))
      (settled_first server now [] None (tried now (trying server r) r) tt))
      (branches_first server r r.branches)

-- what an input sends for the first time
input_first : (server : Server) (now : ℕ) (r : OpenRequest) (input : Input) → IsFirst (change_of (outcome_of server now r input))
input_first server now r (Response branch status response) = responded_first server now r branch.now status response.now
input_first server now r (BranchDeadline branch) = settled_first server now [] None (branch_overdue r branch.now) tt
input_first server now r SideDeadline = settled_first server now [] None (record r { side = Closed }) tt
input_first server now r (SendFault branch) = settled_first server now [] None (given_up branch.now 503 r) tt
input_first server now r Cancel = settled_first server now [] None (cond (is_invite r && is_answering r.side) (marked r) r) tt
input_first server now r Ack = tt
input_first server now r (BranchAgain branch) = tt
input_first server now r AnswerAgain = tt

-- and what goes again by it
input_again : (server : Server) (now : ℕ) (r : OpenRequest) (input : Input) → AreMarked true (outcome_of server now r input).copies
input_again server now r (Response branch status response) =
    either_marked true (is_failure status) (acks_again server r branch.now branch.now.phase) [] (acks_marked server r branch.now branch.now.phase) tt
input_again server now r (BranchDeadline branch) = tt
input_again server now r SideDeadline = tt
input_again server now r (SendFault branch) = tt
input_again server now r Cancel = tt
input_again server now r Ack = tt
input_again server now r (BranchAgain branch) = branch_marked server true r branch.now
input_again server now r AnswerAgain = answers_marked r r.answer

pub input_sent : (server : Server) (now : ℕ) (r : OpenRequest) (input : Input)
    → AreSent (change_packets (change_of (outcome_of server now r input))) (outcome_of server now r input).copies
    (change_packets (change_of (outcome_of server now r input)) ++ (outcome_of server now r input).copies)
input_sent server now r input =
    record {
      originals = firsts_in_front _ _ (input_first server now r input) (input_again server now r input);
      again = agains_behind _ _ (input_first server now r input) (input_again server now r input);
    }
