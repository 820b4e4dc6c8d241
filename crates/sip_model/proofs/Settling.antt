-- What settling makes of an open request, after every event of it.
use Rattle.std.proofs.Common.{◌≡◌, ℕ, ◌+◌, ◌≤◌, Bool, true, false, not, ◌&&◌, cond, List, [], ◌∷◌, ◌++◌, Option, Some, None, refl, sym, ap, subst, ◌∙◌, arith}
use Rattle.std.specs.List.{AllByRecursion}
use Rattle.sip_event.specs.declared.packet.Packet.{Packet}
use Rattle.model_steps.specs.state.declared.server.Server.{Server}
use Rattle.model_steps.specs.state.declared.open_request.Side.{Side}
use Rattle.model_steps.specs.state.declared.open_request.OpenRequest.{OpenRequest}
use Rattle.model_steps.specs.state.declared.open_request.Side.TheVariants.{Closing}
use Rattle.model_steps.specs.state.State.{is_answering, phase_deadline, side_deadline, is_provisional}
use Rattle.model_steps.specs.state.declared.open_request.Upward.{Upward}
use Rattle.model_steps.specs.context_model.Branches.{Change, best_upward, with_cancels, after_upward, settled}
use Rattle.sip_model.proofs.Cancels.{all_with_cancels}
use Rattle.sip_model.proofs.Resending.{DueFrom, IsAgain, settled_again}
use Rattle.sip_model.proofs.Events.{IsDue, IsEvent}

-- ---- the name of a request

-- an answer leaves the key
pub upward_key : (now : ℕ) (o : Option Upward) (r : OpenRequest) → (after_upward now o r).key ≡ r.key
upward_key now None r = refl
upward_key now (Some u) r = refl

-- and the number
pub upward_number : (now : ℕ) (o : Option Upward) (r : OpenRequest) → (after_upward now o r).number ≡ r.number
upward_number now None r = refl
upward_number now (Some u) r = refl

-- settling leaves the key
pub settled_key : (server : Server) (now : ℕ) (acks : List Packet) (relayed : Option Upward) (r : OpenRequest) → (settled server now acks relayed r).request.key ≡ r.key
settled_key server now acks relayed r =
    let told : OpenRequest = after_upward now relayed r in
    upward_key now (best_upward server told) told ∙ upward_key now relayed r

-- and the number
pub settled_number : (server : Server) (now : ℕ) (acks : List Packet) (relayed : Option Upward) (r : OpenRequest)
    → (settled server now acks relayed r).request.number ≡ r.number
settled_number server now acks relayed r =
    let told : OpenRequest = after_upward now relayed r in
    upward_number now (best_upward server told) told ∙ upward_number now relayed r

-- so an event leaves the key
pub event_key : (server : Server) (now : ℕ) (r : OpenRequest) (change : Change) → IsEvent server now r change → change.request.key ≡ r.key
event_key server now r change e = ap (λ (c : Change). c.request.key) e.is_change ∙ settled_key server now e.acks e.relayed e.between ∙ e.key_is

-- and the number
pub event_number : (server : Server) (now : ℕ) (r : OpenRequest) (change : Change) → IsEvent server now r change → change.request.number ≡ r.number
event_number server now r change e = ap (λ (c : Change). c.request.number) e.is_change ∙ settled_number server now e.acks e.relayed e.between ∙ e.number_is

-- ---- deadlines

-- a side that closes does so later
closing_due : (floor now : ℕ) (side : Side) (t : Bool) → floor ≤ now + 1 → DueFrom floor (side_deadline side)
    → DueFrom floor (side_deadline (cond t (Closing (now + 32000)) side))
closing_due floor now side true low h = omega arith
closing_due floor now side false low h = h

-- an answer arms nothing before
pub upward_due : (floor now : ℕ) (o : Option Upward) (r : OpenRequest) → floor ≤ now + 1 → IsDue floor r → IsDue floor (after_upward now o r)
upward_due floor now None r low h = h
upward_due floor now (Some u) r low h = record {
  side_due = closing_due floor now r.side (is_answering r.side && not (is_provisional u.status)) low h.side_due;
  branches_due = h.branches_due;
}

-- what holds of two lists holds of both together
pub all_append : {X : Type 0} (P : X → Type 0) (xs ys : List X) → AllByRecursion P xs → AllByRecursion P ys → AllByRecursion P (xs ++ ys)
all_append P [] ys first second = second
all_append P (x ∷ xs) ys first second = (first.0, all_append P xs ys first.1 second)

-- CANCELs arm nothing before
cancels_due : (floor now : ℕ) (r : OpenRequest) → floor ≤ now + 1 → IsDue floor r → IsDue floor (with_cancels now r)
cancels_due floor now r low h = record {
  side_due = h.side_due;
  branches_due = all_with_cancels (λ b. DueFrom floor (phase_deadline b.phase)) (λ b. DueFrom floor (phase_deadline b.phase)) now r.branches (λ x before. before)
      (λ x before. let due : floor ≤ now + 32000 = omega arith in due) (λ x before. let due : floor ≤ now + 32000 = omega arith in due) h.branches_due;
}

-- nor does settling
pub settled_due : (server : Server) (floor now : ℕ) (acks : List Packet) (relayed : Option Upward) (r : OpenRequest) → floor ≤ now + 1 → IsDue floor r
    → IsDue floor (settled server now acks relayed r).request
settled_due server floor now acks relayed r low h =
    let told : OpenRequest = after_upward now relayed r in
    let best : Option Upward = best_upward server told in
    cancels_due floor now (after_upward now best told) low (upward_due floor now best told low (upward_due floor now relayed r low h))

-- no new deadline is before a moment that the event stands at, or one after it
pub event_due : (server : Server) (floor now : ℕ) (r : OpenRequest) (change : Change) → IsEvent server now r change → floor ≤ now + 1 → IsDue floor r
    → IsDue floor change.request
event_due server floor now r change e low h =
    subst (λ (c : Change). IsDue floor c.request) (sym e.is_change) (settled_due server floor now e.acks e.relayed e.between low (e.due floor low h))

-- nor does anything go again before it that didn't
pub event_again : (server : Server) (floor now : ℕ) (r : OpenRequest) (change : Change) → IsEvent server now r change → floor ≤ now + 1 → IsAgain floor r
    → IsAgain floor change.request
event_again server floor now r change e low h =
    subst (λ (c : Change). IsAgain floor c.request) (sym e.is_change) (settled_again server floor now e.acks e.relayed e.between low (e.again floor h))
