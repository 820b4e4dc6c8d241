-- What a step makes of the list of open requests: it stays, one more is opened, or one that is open changes.
use Rattle.std.proofs.Common.{◌≡◌, ℕ, ◌+◌, ◌≤◌, false, cond, List, [], ◌∷◌, ◌++◌, None, sym, ap, subst, ◌∙◌, append_assoc, count_by, is_some}
use Rattle.std.specs.List.{AllByRecursion}
use Rattle.sip_message_form.specs.declared.message.Message.{Message}
use Rattle.sip_event.specs.declared.packet.Packet.{Packet}
use Rattle.model_steps.specs.state.declared.server.Server.{Server}
use Rattle.model_steps.specs.state.declared.branch.Branch.{Branch}
use Rattle.model_steps.specs.state.declared.open_request.OpenRequest.{OpenRequest}
use Rattle.model_steps.specs.state.declared.branch.Phase.TheVariants.{Unheard, Ended}
use Rattle.model_steps.specs.state.State.{first_resend, has_key}
use Rattle.model_steps.specs.context_model.Retransmission.{IsResent}
use Rattle.model_steps.specs.context_model.Branches.{Change, settled, acknowledged}
use Rattle.model_steps.specs.state.Arrival.{Arrival}
use Rattle.model_steps.specs.context_model.Opening.{closing, forking, tried, trying}
use Rattle.model_steps.specs.Effect.{replaced}
use Rattle.sip_model.specs.Order.{IsChangeOf, FinalAnswer, change_finals, reply_finals, forked_finals}
use Rattle.sip_model.proofs.Places.{IsIn}

-- a branch to a target, before anything was heard of it
pub record IsStarted (now : ℕ) (b : Branch) : Type 0 where
  pub is_target : b.is_cancel ≡ false
  pub is_due : b.phase ≡ cond (is_some b.address) (Unheard (now + 32000)) Ended
  pub goes_next : b.again ≡ first_resend now

-- a request that was sent to its branches
abbrev pub sent_request : Server → Arrival → Message → List Branch → OpenRequest
sent_request server a m branches = (settled server a.now [] None (tried a.now (trying server (forking a m branches)) (forking a m branches))).request

-- a request as it is opened, and the final answers that go up with it: it is answered at once, or sent to at least one branch
pub data IsOpening (server : Server) (a : Arrival) (m : Message) (r : OpenRequest) (finals : List FinalAnswer) : Type 0 where
  Answered : (status : ℕ) (text : List ℕ) → r ≡ closing a m status text → finals ≡ reply_finals a m status → IsOpening server a m r finals
  Sent : (first : Branch) (others : List Branch) → AllByRecursion (IsStarted a.now) (first ∷ others) → r ≡ sent_request server a m (first ∷ others)
      → finals ≡ forked_finals server a.now (forking a m (first ∷ others)) → IsOpening server a m r finals

-- what may become of open requests at a moment, of the number of the next datagram, and the final answers that go up
pub data IsMove (server : Server) (now : ℕ) (requests : List OpenRequest) (next : ℕ) (after : List OpenRequest) (after_next : ℕ) (finals : List FinalAnswer) : Type
    0 where
  Stays : after ≡ requests → next ≤ after_next → finals ≡ [] → IsMove server now requests next after after_next finals
  TurnsAway : (a : Arrival) (m : Message) (r : OpenRequest) → IsOpening server a m r finals → a.number ≡ next → next + 1 ≤ after_next → after ≡ requests
      → IsMove server now requests next after after_next finals
  Opens : (a : Arrival) (m : Message) (r : OpenRequest) → IsOpening server a m r finals → a.now ≡ now → a.number ≡ next → next + 1 ≤ after_next
      → count_by (has_key r.key) requests ≡ 0
      → after ≡ requests ++ r ∷ [] → IsMove server now requests next after after_next finals
  Changes : (r : OpenRequest) (change : Change) → IsIn r requests → IsChangeOf server now r change → next ≤ after_next → after ≡ replaced change.request requests
      → finals ≡ change_finals change
      → IsMove server now requests next after after_next finals
  Resends : (r : OpenRequest) (packets : List Packet) (later : OpenRequest) → IsIn r requests → IsResent server now r packets later → next ≤ after_next
      → after ≡ replaced later requests → finals ≡ []
      → IsMove server now requests next after after_next finals
  Acknowledges : (r : OpenRequest) → IsIn r requests → next ≤ after_next → after ≡ replaced (acknowledged now r) requests → finals ≡ []
      → IsMove server now requests next after after_next finals

-- one move, or two
pub data AreMoves (server : Server) (now : ℕ) (requests : List OpenRequest) (next : ℕ) (after : List OpenRequest) (after_next : ℕ) (finals : List FinalAnswer) : Type
    0 where
  One : IsMove server now requests next after after_next finals → AreMoves server now requests next after after_next finals
  Two : (middle : List OpenRequest) (middle_next : ℕ) (earlier later : List FinalAnswer) → IsMove server now requests next middle middle_next earlier
      → IsMove server now middle middle_next after after_next later → finals ≡ later ++ earlier → AreMoves server now requests next after after_next finals

-- what every move keeps, moves keep
pub kept_by_moves : (server : Server) (now : ℕ) (P : List OpenRequest → ℕ → Type 0)
    → ((requests : List OpenRequest) (next : ℕ) (after : List OpenRequest) (after_next : ℕ) (finals : List FinalAnswer)
    → IsMove server now requests next after after_next finals → P requests next → P after after_next)
    → (requests : List OpenRequest) (next : ℕ) (after : List OpenRequest) (after_next : ℕ) (finals : List FinalAnswer)
    → AreMoves server now requests next after after_next finals → P requests next → P after after_next
kept_by_moves server now P keeps requests next after after_next finals (One move) h = keeps requests next after after_next finals move h
kept_by_moves server now P keeps requests next after after_next finals (Two middle middle_next earlier later first second e) h =
    keeps middle middle_next after after_next later second (keeps requests next middle middle_next earlier first h)

-- the same of what tells of final answers, too
pub finals_by_moves : (server : Server) (now : ℕ) (P : List OpenRequest → ℕ → List FinalAnswer → Type 0)
    → ((requests : List OpenRequest) (next : ℕ) (after : List OpenRequest) (after_next : ℕ) (finals sent : List FinalAnswer)
    → IsMove server now requests next after after_next finals → P requests next sent → P after after_next (finals ++ sent))
    → (requests : List OpenRequest) (next : ℕ) (after : List OpenRequest) (after_next : ℕ) (finals sent : List FinalAnswer)
    → AreMoves server now requests next after after_next finals → P requests next sent
    → P after after_next (finals ++ sent)
finals_by_moves server now P keeps requests next after after_next finals sent (One move) h = keeps requests next after after_next finals sent move h
finals_by_moves server now P keeps requests next after after_next finals sent (Two middle middle_next earlier later first second e) h =
    subst (λ (fs : List FinalAnswer). P after after_next fs) (sym (ap (λ (fs : List FinalAnswer). fs ++ sent) e ∙ append_assoc later earlier sent))
    (keeps middle middle_next after after_next later (earlier ++ sent) second (keeps requests next middle middle_next earlier sent first h))
