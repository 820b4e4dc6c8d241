-- Each thing that goes again in a step has its cause.
use Rattle.std.proofs.Common.{◌≡◌, ℕ, List, [], sym, subst}
use Rattle.sip_event.specs.declared.packet.Packet.{Packet}
use Rattle.sip_event.specs.declared.event.StepOut.{StepOut}
use Rattle.model_steps.specs.state.declared.server.Server.{Server}
use Rattle.model_steps.specs.state.declared.open_request.OpenRequest.{OpenRequest}
use Rattle.model_steps.specs.state.declared.proxy_state.ProxyState.{ProxyState}
use Rattle.model_steps.specs.context_model.Branches.{Change}
use Rattle.model_steps.specs.Step.{Act, IsStep, retransmissions}
use Rattle.sip_model.specs.Parts.{IsChangeAt, ByResponse, ByDeadline, ByFault, ByCancel, IsPart, Stays, Passes, Copies, TurnsAway, Opens, Changes, Resends, Acknowledges}
use Rattle.sip_model.specs.Parts.{AreParts, One, Two, HasParts}
use Rattle.sip_model.specs.Access.{GoesAgain, Nothing, ByCopy, ByFinal, ByTime}
use Rattle.sip_model.proofs.StepParts.{step_parts}

module _ (server : Server) (state : ProxyState) (act : Act) (now : ℕ) where
  -- where nothing goes again
  none_again : (again : List Packet) → again ≡ [] → GoesAgain server state act now again
  none_again again e = subst (GoesAgain server state act now) (sym e) Nothing

  -- with a change of an open request
  change_again : (r : OpenRequest) (change : Change) (again : List Packet) → IsChangeAt server state act now r change again → GoesAgain server state act now again
  change_again r _ _ (ByResponse a bytes m status reason b said is_response is_for in_it) = ByFinal a bytes m status reason r b said is_response is_for
  change_again r change _ (ByDeadline _ is) = Nothing
  change_again r _ _ (ByFault at ticket b is_act is_number found) = Nothing
  change_again r _ _ (ByCancel a bytes m short key said is_cancel key_is named) = Nothing

  -- in a part
  part_again : (after : List OpenRequest) (firsts again : List Packet) → IsPart server state act now state.requests after firsts again
      → GoesAgain server state act now again
  part_again after firsts again (Stays e f g) = none_again again g
  part_again after firsts again (Passes a m address within ack e f g) = none_again again g
  part_again after firsts again (Copies a bytes m short key r said no_ack key_is is_open e f g) =
      subst (GoesAgain server state act now) (sym g) (ByCopy a bytes m short key r said no_ack key_is is_open)
  part_again after firsts again (TurnsAway a bytes m short r said key no_ack begins full e g) = none_again again g
  part_again after firsts again (Opens a bytes m short r said key no_ack at begins room is_new e g) = none_again again g
  part_again after firsts again (Changes r change there is e f) = change_again r change again is
  part_again after firsts again (Resends r later there goes e f) = ByTime r later again there goes
  part_again after firsts again (Acknowledges r there e f g) = none_again again g

  -- in one or two
  parts_again : (after : List OpenRequest) (firsts again : List Packet) → AreParts server state act now state.requests after firsts again
      → GoesAgain server state act now again
  parts_again after firsts again (One part) = part_again after firsts again part
  parts_again after firsts again (Two middle earlier r change first there still is e f g) = none_again again g

-- in a step
pub step_causes : (server : Server) (old : ProxyState) (act : Act) (out : StepOut) (new : ProxyState) → IsStep server old act out new
    → GoesAgain server old act out.at (retransmissions out.packets)
step_causes server old act out new step =
    let h : HasParts server old act out new = step_parts server old act out new step in
    subst (λ (moment : ℕ). GoesAgain server old act moment (retransmissions out.packets)) (sym h.is_at)
    (parts_again server old act new.moment new.requests _ (retransmissions out.packets) h.parts)
