-- A request as it is opened: its name, its deadlines and its final answers.
use Rattle.std.proofs.Common.{◌≡◌, ℕ, ◌+◌, ◌≤◌, Bool, true, false, cond, List, [], ◌∷◌, Option, Some, None, refl, sym, ap, subst, ◌∙◌, arith, is_some}
use Rattle.std.specs.List.{AllByRecursion}
use Rattle.sip_message_form.specs.declared.message.Message.{Message}
use Rattle.model_steps.specs.state.declared.server.Server.{Server}
use Rattle.model_steps.specs.state.declared.branch.Phase.{Phase}
use Rattle.model_steps.specs.state.declared.branch.Branch.{Branch}
use Rattle.model_steps.specs.state.declared.open_request.OpenRequest.{OpenRequest}
use Rattle.model_steps.specs.state.declared.branch.Phase.TheVariants.{Unheard, Ended}
use Rattle.model_steps.specs.state.State.{first_resend, is_invite, phase_deadline}
use Rattle.model_steps.specs.context_model.Sending.{made_answer}
use Rattle.model_steps.specs.state.declared.open_request.Upward.{Upward}
use Rattle.model_steps.specs.state.declared.resend.Resend.{Resend}
use Rattle.model_steps.specs.context_model.Branches.{after_upward}
use Rattle.model_steps.specs.context_model.Retransmission.{insists}
use Rattle.model_steps.specs.state.Arrival.{Arrival}
use Rattle.model_steps.specs.context_model.Opening.{closing, forking, is_tried, tried, trying}
use Rattle.sip_model.specs.Order.{FinalAnswer}
use Rattle.sip_model.proofs.Moves.{IsStarted, sent_request, IsOpening, Answered, Sent}
use Rattle.sip_model.proofs.Resending.{DueFrom, due_if, goes, IsBranchAgain, IsAgain, upward_again, settled_again}
use Rattle.sip_model.proofs.Events.{IsDue}
use Rattle.sip_model.proofs.Settling.{settled_key, settled_number, settled_due, upward_key, upward_number, upward_due}

-- the 100 that goes up first, if one does
abbrev pub tried_first : Server → OpenRequest → Option Upward
tried_first server r = cond (is_tried r) (Some (record { status = 100; message = made_answer server r.number r.request.message r.request.source 100 []; target = None }))
    None

-- a 100 that goes up is an answer that goes up
pub tried_is : (server : Server) (now : ℕ) (r : OpenRequest) → tried now (trying server r) r ≡ after_upward now (tried_first server r) r
tried_is server now r = by_test (is_tried r) (record {
  status = 100;
  message = made_answer server r.number r.request.message r.request.source 100 [];
  target = None;
}) where
  by_test : (t : Bool) (u : Upward) → tried now (cond t (u ∷ []) []) r ≡ after_upward now (cond t (Some u) None) r
  by_test true u = refl
  by_test false u = refl

-- ---- its name

-- its key stays with a 100
tried_key : (server : Server) (now : ℕ) (r : OpenRequest) → (tried now (trying server r) r).key ≡ r.key
tried_key server now r = ap (λ (x : OpenRequest). x.key) (tried_is server now r) ∙ upward_key now (tried_first server r) r

-- and its number
tried_number : (server : Server) (now : ℕ) (r : OpenRequest) → (tried now (trying server r) r).number ≡ r.number
tried_number server now r = ap (λ (x : OpenRequest). x.number) (tried_is server now r) ∙ upward_number now (tried_first server r) r

-- a request that was sent has the key of its datagram
pub sent_key : (server : Server) (a : Arrival) (m : Message) (branches : List Branch) → (sent_request server a m branches).key ≡ (forking a m branches).key
sent_key server a m branches =
    settled_key server a.now [] None (tried a.now (trying server (forking a m branches)) (forking a m branches)) ∙ tried_key server a.now (forking a m branches)

-- and the number
sent_number : (server : Server) (a : Arrival) (m : Message) (branches : List Branch) → (sent_request server a m branches).number ≡ a.number
sent_number server a m branches =
    settled_number server a.now [] None (tried a.now (trying server (forking a m branches)) (forking a m branches)) ∙ tried_number server a.now (forking a m branches)

-- an opened request has the number of its datagram
pub opening_number : (server : Server) (a : Arrival) (m : Message) (r : OpenRequest) (finals : List FinalAnswer) → IsOpening server a m r finals → r.number ≡ a.number
opening_number server a m r finals (Answered status text e up) = ap (λ (x : OpenRequest). x.number) e
opening_number server a m r finals (Sent first others started e up) = ap (λ (x : OpenRequest). x.number) e ∙ sent_number server a m (first ∷ others)

-- ---- its deadlines

-- the deadline of a branch that was just sent
started_due_by : (floor now : ℕ) (t : Bool) → floor ≤ now + 1 → DueFrom floor (phase_deadline (cond t (Unheard (now + 32000)) Ended))
started_due_by floor now true low = omega arith
started_due_by floor now false low = tt

-- those of all of them
started_due : (floor now : ℕ) (bs : List Branch) → floor ≤ now + 1 → AllByRecursion (IsStarted now) bs
    → AllByRecursion (λ (b : Branch). DueFrom floor (phase_deadline b.phase)) bs
started_due floor now [] low all = tt
started_due floor now (b ∷ bs) low all = (
  subst (λ (p : Phase). DueFrom floor (phase_deadline p)) (sym all.0.is_due) (started_due_by floor now (is_some b.address) low),
  started_due floor now bs low all.1,
)

-- those of the request
forking_due : (floor : ℕ) (a : Arrival) (m : Message) (bs : List Branch) → floor ≤ a.now + 1 → AllByRecursion (IsStarted a.now) bs → IsDue floor (forking a m bs)
forking_due floor a m bs low all = record { side_due = tt; branches_due = started_due floor a.now bs low all }

-- each deadline of a request is later than its arrival
pub opening_due : (server : Server) (floor : ℕ) (a : Arrival) (m : Message) (r : OpenRequest) (finals : List FinalAnswer) → IsOpening server a m r finals
    → floor ≤ a.now + 1 → IsDue floor r
opening_due server floor a m r finals (Answered status text e up) low =
    let due : floor ≤ a.now + 32000 = omega arith in
    subst (IsDue floor) (sym e) (record { side_due = due; branches_due = tt })
opening_due server floor a m r finals (Sent first others started e up) low =
    let fork : OpenRequest = forking a m (first ∷ others) in
    let tried_due : IsDue floor (tried a.now (trying server fork) fork) =
    subst (IsDue floor) (sym (tried_is server a.now fork)) (upward_due floor a.now (tried_first server fork) fork low
    (forking_due floor a m (first ∷ others) low started)) in
    subst (IsDue floor) (sym e) (settled_due server floor a.now [] None (tried a.now (trying server fork) fork) low tried_due)

-- ---- when it goes again

-- a branch that was just sent goes again later
started_again_by : (floor now : ℕ) (invite : Bool) (b : Branch) → floor ≤ now + 1 → b.again ≡ first_resend now → IsBranchAgain floor invite b
started_again_by floor now invite b low same =
    let later : floor ≤ now + 500 = omega arith in
    let some : 1 ≤ 500 = omega arith in
    record {
      due_from = subst (λ (y : Resend). DueFrom floor (cond (goes b.is_cancel invite b.phase) (Some y.due) None)) (sym same)
          (due_if floor (now + 500) (goes b.is_cancel invite b.phase) later);
      waits = subst (λ (y : Resend). 1 ≤ y.wait) (sym same) some;
    }

-- so do all of them
started_again : (floor now : ℕ) (invite : Bool) (bs : List Branch) → floor ≤ now + 1 → AllByRecursion (IsStarted now) bs → AllByRecursion (IsBranchAgain floor invite) bs
started_again floor now invite [] low all = tt
started_again floor now invite (b ∷ bs) low all = (started_again_by floor now invite b low all.0.goes_next, started_again floor now invite bs low all.1)

-- and the request
forking_again : (floor : ℕ) (a : Arrival) (m : Message) (bs : List Branch) → floor ≤ a.now + 1 → AllByRecursion (IsStarted a.now) bs → IsAgain floor (forking a m bs)
forking_again floor a m bs low all =
    let later : floor ≤ a.now + 500 = omega arith in
    let some : 1 ≤ 500 = omega arith in
    record {
      answer_from = due_if floor (a.now + 500) (insists (forking a m bs)) later;
      answer_waits = some;
      branches_again = started_again floor a.now (is_invite (forking a m bs)) bs low all;
    }

-- nothing of a request goes again before its arrival, or at it
pub opening_again : (server : Server) (floor : ℕ) (a : Arrival) (m : Message) (r : OpenRequest) (finals : List FinalAnswer) → IsOpening server a m r finals
    → floor ≤ a.now + 1 → IsAgain floor r
opening_again server floor a m r finals (Answered status text e up) low =
    let later : floor ≤ a.now + 500 = omega arith in
    let some : 1 ≤ 500 = omega arith in
    subst (IsAgain floor) (sym e) (record {
      answer_from = due_if floor (a.now + 500) (insists (closing a m status text)) later;
      answer_waits = some;
      branches_again = tt;
    })
opening_again server floor a m r finals (Sent first others started e up) low =
    let fork : OpenRequest = forking a m (first ∷ others) in
    let tried_again : IsAgain floor (tried a.now (trying server fork) fork) =
    subst (IsAgain floor) (sym (tried_is server a.now fork)) (upward_again floor a.now (tried_first server fork) fork low
    (forking_again floor a m (first ∷ others) low started)) in
    subst (IsAgain floor) (sym e) (settled_again server floor a.now [] None (tried a.now (trying server fork) fork) low tried_again)
