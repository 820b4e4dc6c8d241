-- Every open request of every history has a deadline.
use Rattle.std.proofs.Common.{◌≡◌, inl, inr, ℕ, ◌+◌, Bool, true, false, not, ◌&&◌, ◌||◌, cond, List, [], ◌∷◌, ◌++◌, map, filter, filter_map, option_to_list, Option, Some}
use Rattle.std.proofs.Common.{None, refl, sym, ap, subst, ◌∙◌, is_some}
use Rattle.std.specs.List.{AllByRecursion, list_any, list_all, cons_option}
use Rattle.sip_message_form.specs.declared.message.Message.{Message}
use Rattle.sip_best.specs.declared.final_answer.Final.{Final}
use Rattle.sip_event.specs.declared.packet.Packet.{Packet}
use Rattle.model_steps.specs.state.declared.resend.Resend.{Resend}
use Rattle.model_steps.specs.state.declared.server.Server.{Server}
use Rattle.model_steps.specs.state.declared.branch.Phase.{Phase}
use Rattle.model_steps.specs.state.declared.open_request.Side.{Side}
use Rattle.model_steps.specs.state.declared.branch.Branch.{Branch}
use Rattle.model_steps.specs.state.declared.open_request.OpenRequest.{OpenRequest}
use Rattle.model_steps.specs.state.declared.proxy_state.ProxyState.{ProxyState}
use Rattle.model_steps.specs.state.declared.branch.Phase.TheVariants.{Unheard, Heard, Cancelled, Done, Ended}
use Rattle.model_steps.specs.state.declared.open_request.Side.TheVariants.{Answering, Closing, Acknowledged, Closed}
use Rattle.model_steps.specs.state.State.{first_state, is_invite, is_final, is_ended, is_answering, is_closed, phase_deadline, side_deadline, deadlines_of, has_left}
use Rattle.model_steps.specs.state.State.{is_provisional}
use Rattle.model_steps.specs.state.declared.open_request.Upward.{Upward}
use Rattle.model_steps.specs.context_model.Retransmission.{IsResent, OfAnswer, OfRequest, branch_next}
use Rattle.model_steps.specs.context_model.Branches.{is_same_branch, all_final, best_upward, after_upward, settled, acknowledged, acknowledged_side, was_refused}
use Rattle.model_steps.specs.state.Arrival.{Arrival}
use Rattle.model_steps.specs.context_model.Opening.{forking, unsent, tried, trying}
use Rattle.sip_model.specs.Run.{Link, under, IsChain}
use Rattle.sip_model.specs.Order.{CanEnd, FinalAnswer}
use Rattle.sip_model.proofs.Places.{IsIn, all_in, all_push, all_weaker, all_replaced, contains_from_in}
use Rattle.sip_model.proofs.Moves.{Resends, IsStarted, IsOpening, Answered, Sent, IsMove, Stays, TurnsAway, Opens, Changes, Acknowledges, kept_by_moves}
use Rattle.sip_model.proofs.Events.{resent_counted, IsSome, IsSeen, IsFinalStatus, is_target, IsCounted, change_event}
use Rattle.sip_model.proofs.Openings.{tried_first, tried_is}
use Rattle.sip_model.proofs.Waits.{IsSound, upward_counted, settled_counted, settled_waits, event_sound}
use Rattle.sip_model.proofs.Steps.{stands_at, step_taken}
use Rattle.sip_model.proofs.Edits.{targets_final}

-- ---- a request as it is opened

-- what holds of each element of a list holds of all
all_from_in : (P : Branch → Type 0) (xs : List Branch) → ((x : Branch) → IsIn x xs → P x) → AllByRecursion P xs
all_from_in P [] each = tt
all_from_in P (x ∷ xs) each = (each x (inl refl), all_from_in P xs (λ y there. each y (inr there)))

-- a branch without an address has left a 503
some_unsent : (bs : List Branch) (b : Branch) → IsIn b bs → is_some b.address ≡ false → IsSome (unsent bs)
some_unsent [] b there e = absurd there
some_unsent (x ∷ xs) b there e = by_test (is_some x.address) refl (λ later. some_unsent xs b later e) there where
  by_test : (t : Bool) → is_some x.address ≡ t → (IsIn b xs → IsSome (unsent xs)) → IsIn b (x ∷ xs)
      → IsSome {X = Final} (map (λ (y : Branch). record { status = 503; message = None })
      (cond (not t) (x ∷ filter (λ (y : Branch). not (is_some y.address)) xs) (filter (λ (y : Branch). not (is_some y.address)) xs)))
  by_test true is rest (inl same) = absurd (cc (is, ap (λ (y : Branch). is_some y.address) same, e))
  by_test true is rest (inr later) = rest later
  by_test false is rest there = tt

-- a branch that ended at once has no address
ended_without : (now : ℕ) (t : Bool) → is_final (cond t (Unheard (now + 32000)) Ended) ≡ true → t ≡ false
ended_without now true e = absurd (cc)
ended_without now false e = refl

-- so the first branches are all accounted for
started_seen : (now : ℕ) (bs : List Branch) → AllByRecursion (IsStarted now) bs → AllByRecursion (IsSeen (unsent bs)) bs
started_seen now bs all = all_from_in (IsSeen (unsent bs)) bs (λ b there target final.
    let s = all_in (IsStarted now) bs b all there in
    some_unsent bs b there (ended_without now (is_some b.address) (sym (ap is_final s.is_due) ∙ final)))

-- a 503 is a final answer
unsent_final : (bs : List Branch) → AllByRecursion IsFinalStatus (map (λ (b : Branch). record { status = 503; message = None }) bs)
unsent_final [] = tt
unsent_final (b ∷ bs) = (refl, unsent_final bs)

-- a request that is sent to at least one branch
forking_counted : (a : Arrival) (m : Message) (first : Branch) (others : List Branch) → AllByRecursion (IsStarted a.now) (first ∷ others)
    → IsCounted (forking a m (first ∷ others))
forking_counted a m first others all = record {
  seen = λ owes. started_seen a.now (first ∷ others) all;
  none_kept = λ had. absurd (cc);
  final = unsent_final (filter (λ (b : Branch). not (is_some b.address)) (first ∷ others));
  has_target = λ answering. ap (λ (t : Bool). not t || list_any is_target others) all.0.is_target;
}

-- a side that isn't closed isn't closed by an answer
closed_by : (t : Bool) (side : Side) (due : ℕ) → is_closed side ≡ false → is_closed (cond t (Closing due) side) ≡ false
closed_by true side due e = refl
closed_by false side due e = e

-- nor by one that goes up or not
upward_not_closed : (now : ℕ) (o : Option Upward) (r : OpenRequest) → is_closed r.side ≡ false → is_closed (after_upward now o r).side ≡ false
upward_not_closed now None r e = e
upward_not_closed now (Some u) r e = closed_by (is_answering r.side && not (is_provisional u.status)) r.side (now + 32000) e

-- so the request stays open
settled_stays : (server : Server) (now : ℕ) (r : OpenRequest) → is_closed r.side ≡ false → has_left (settled server now [] None r).request ≡ false
settled_stays server now r e =
    let best : Option Upward = best_upward server r in
    ap (λ (t : Bool). t && list_all (λ (b : Branch). is_ended b.phase) (settled server now [] None r).request.branches) (upward_not_closed now best r e)

-- a request that is answered at once owes nothing, and one that is sent waits for a branch, unless it could be sent to none
opening_sound : (server : Server) (a : Arrival) (m : Message) (r : OpenRequest) (finals : List FinalAnswer) → IsOpening server a m r finals → IsSound r
opening_sound server a m r finals (Answered status text e up) =
    subst IsSound (sym e) (record {
      counted = record { seen = λ owes. absurd (cc); none_kept = λ had. refl; final = tt; has_target = λ owes. absurd (cc) };
      waits = λ owes. absurd (cc);
      stays = refl;
    })
opening_sound server a m r finals (Sent first others started e up) =
    let fork : OpenRequest = forking a m (first ∷ others) in
    let tried_request : OpenRequest = tried a.now (trying server fork) fork in
    let counted : IsCounted tried_request = subst IsCounted (sym (tried_is server a.now fork))
    (upward_counted a.now (tried_first server fork) fork (forking_counted a m first others started)) in
    subst IsSound (sym e) (record {
      counted = settled_counted server a.now [] None tried_request counted;
      waits = settled_waits server a.now [] None tried_request counted;
      stays = settled_stays server a.now tried_request (ap (λ (x : OpenRequest). is_closed x.side) (tried_is server a.now fork)
          ∙ upward_not_closed a.now (tried_first server fork) fork refl);
    })

-- ---- moves

-- an ACK changes nothing of whether an answer is owed
pub acknowledged_answering : (now : ℕ) (side : Side) → is_answering (acknowledged_side now side) ≡ is_answering side
acknowledged_answering now Answering = refl
acknowledged_answering now (Closing due) = refl
acknowledged_answering now (Acknowledged due) = refl
acknowledged_answering now Closed = refl

-- what goes again makes no branch final
again_final : (again : Resend) (test : Branch → Bool) (bs : List Branch) → targets_final (map (λ (x : Branch). cond (test x) (record x { again = again }) x) bs)
    ≡ targets_final bs
again_final again test [] = refl
again_final again test (x ∷ xs) = by_test (again_final again test xs) (test x) where
  by_cancel : targets_final (map (λ (y : Branch). cond (test y) (record y { again = again }) y) xs) ≡ targets_final xs → (t : Bool)
      → list_all (λ (b : Branch). is_final b.phase) (cond (not t) (x ∷ filter (λ (b : Branch). not b.is_cancel)
      (map (λ (y : Branch). cond (test y) (record y { again = again }) y) xs)) (filter (λ (b : Branch). not b.is_cancel)
      (map (λ (y : Branch). cond (test y) (record y { again = again }) y) xs)))
      ≡ list_all (λ (b : Branch). is_final b.phase) (cond (not t) (x ∷ filter (λ (b : Branch). not b.is_cancel) xs) (filter (λ (b : Branch). not b.is_cancel) xs))
  by_cancel rest true = rest
  by_cancel rest false = ap (λ (v : Bool). is_final x.phase && v) rest

  by_again : targets_final (map (λ (y : Branch). cond (test y) (record y { again = again }) y) xs) ≡ targets_final xs → (t : Bool)
      → list_all (λ (b : Branch). is_final b.phase) (cond (not t) (record x { again = again }
      ∷ filter (λ (b : Branch). not b.is_cancel) (map (λ (y : Branch). cond (test y) (record y { again = again }) y) xs))
      (filter (λ (b : Branch). not b.is_cancel) (map (λ (y : Branch). cond (test y) (record y { again = again }) y) xs)))
      ≡ list_all (λ (b : Branch). is_final b.phase) (cond (not t) (x ∷ filter (λ (b : Branch). not b.is_cancel) xs) (filter (λ (b : Branch). not b.is_cancel) xs))
  by_again rest true = rest
  by_again rest false = ap (λ (v : Bool). is_final x.phase && v) rest

  by_test : targets_final (map (λ (y : Branch). cond (test y) (record y { again = again }) y) xs) ≡ targets_final xs → (t : Bool)
      → targets_final (cond t (record x { again = again }) x ∷ map (λ (y : Branch). cond (test y) (record y { again = again }) y) xs) ≡ targets_final (x ∷ xs)
  by_test rest true = by_again rest x.is_cancel
  by_test rest false = by_cancel rest x.is_cancel

-- a request of which something went again
resent_sound : (server : Server) (now : ℕ) (r : OpenRequest) (packets : List Packet) (next : OpenRequest) → IsResent server now r packets next → IsSound r
    → has_left next ≡ false → IsSound next
resent_sound server now r _ _ (OfAnswer is) h stays = record { counted = resent_counted server now r _ _ (OfAnswer is) h.counted; waits = h.waits; stays = stays }
resent_sound server now r _ _ (OfRequest b there is) h stays =
    record {
      counted = resent_counted server now r _ _ (OfRequest b there is) h.counted;
      waits = λ owes. again_final (branch_next r b) (λ x. is_same_branch x b) r.branches ∙ h.waits owes;
      stays = stays;
    }

-- an acknowledged request that stays open
acknowledged_sound : (now : ℕ) (r : OpenRequest) → IsSound r → has_left (acknowledged now r) ≡ false → IsSound (acknowledged now r)
acknowledged_sound now r h stays = by_test (is_invite r && was_refused r.answer) stays where
  by_test : (t : Bool) → has_left (cond t (record r { side = acknowledged_side now r.side }) r) ≡ false
      → IsSound (cond t (record r { side = acknowledged_side now r.side }) r)
  by_test true e = record {
    counted = record {
      seen = λ owes. h.counted.seen (sym (acknowledged_answering now r.side) ∙ owes);
      none_kept = λ had. h.counted.none_kept (sym (acknowledged_answering now r.side) ∙ had);
      final = h.counted.final;
      has_target = λ owes. h.counted.has_target (sym (acknowledged_answering now r.side) ∙ owes);
    };
    waits = λ owes. h.waits (sym (acknowledged_answering now r.side) ∙ owes);
    stays = e;
  }
  by_test false e = h

-- what a move makes of the open requests
move_sound : (server : Server) (now : ℕ) (requests : List OpenRequest) (next : ℕ) (after : List OpenRequest) (after_next : ℕ) (finals : List FinalAnswer)
    → IsMove server now requests next after after_next finals
    → AllByRecursion IsSound requests → AllByRecursion IsSound after
move_sound server now requests next after after_next finals (Stays e more up) h = subst (AllByRecursion IsSound) (sym e) h
move_sound server now requests next after after_next finals (TurnsAway a m r opening number more e) h = subst (AllByRecursion IsSound) (sym e) h
move_sound server now requests next after after_next finals (Opens a m r opening at number more is_new e) h =
    subst (AllByRecursion IsSound) (sym e) (all_push IsSound requests r h (opening_sound server a m r finals opening))
move_sound server now requests next after after_next finals (Changes r change there is more e up) h =
    let event = change_event server now r change is in
    subst (AllByRecursion IsSound) (sym e) (all_replaced IsSound change.request requests h
    (λ stays. event_sound server now r change event (all_in IsSound requests r h there) stays))
move_sound server now requests next after after_next finals (Resends r packets later there goes more e up) h =
    subst (AllByRecursion IsSound) (sym e) (all_replaced IsSound later requests h (λ stays.
    resent_sound server now r packets later goes (all_in IsSound requests r h there) stays))
move_sound server now requests next after after_next finals (Acknowledges r there more e up) h =
    subst (AllByRecursion IsSound) (sym e) (all_replaced IsSound (acknowledged now r) requests h
    (λ stays. acknowledged_sound now r (all_in IsSound requests r h there) stays))

-- all open requests of a history
chain_sound : (server : Server) (first : ℕ) (history : List Link) (last : ProxyState) → IsChain server (first_state first) history last
    → AllByRecursion IsSound last.requests
chain_sound server first [] last h = subst (λ (s : ProxyState). AllByRecursion IsSound s.requests) (sym h) tt
chain_sound server first (link ∷ history) last h =
    let now = stands_at link.before link.act link.out in
    let taken = step_taken (under server link.config) link.before link.act link.out link.after h.1 in
    subst (λ (s : ProxyState). AllByRecursion IsSound s.requests) (sym h.0)
    (kept_by_moves (under server link.config) now (λ requests next. AllByRecursion IsSound requests)
    (λ requests next after after_next finals. move_sound (under server link.config) now requests next after after_next finals)
    link.before.requests link.before.next link.after.requests link.after.next _ taken.moves (chain_sound server first history link.before h.2))

-- ---- a deadline of each

-- a deadline of one of these branches
abbrev HasDue : List Branch → Type 0
HasDue bs = (due : ℕ) × IsIn due (filter_map (λ (b : Branch). phase_deadline b.phase) bs)

-- of branches of which one hasn't ended
open_due : (bs : List Branch) → list_all (λ (b : Branch). is_ended b.phase) bs ≡ false → HasDue bs
open_due [] e = absurd (cc)
open_due (b ∷ bs) e = by_phase b.phase (λ rest. open_due bs rest) e where
  by_phase : (phase : Phase) → (list_all (λ (x : Branch). is_ended x.phase) bs ≡ false → HasDue bs)
      → (is_ended phase && list_all (λ (x : Branch). is_ended x.phase) bs) ≡ false
      → (due : ℕ) × IsIn due (cons_option (phase_deadline phase) (filter_map (λ (x : Branch). phase_deadline x.phase) bs))
  by_phase (Unheard due) rest is = (due, inl refl)
  by_phase (Heard due) rest is = (due, inl refl)
  by_phase (Cancelled due) rest is = (due, inl refl)
  by_phase (Done due f) rest is = (due, inl refl)
  by_phase Ended rest is = rest is

-- a branch that ended counts as final
ended_final : (phase : Phase) → is_ended phase ≡ true → is_final phase ≡ true
ended_final (Unheard due) e = absurd (cc)
ended_final (Heard due) e = absurd (cc)
ended_final (Cancelled due) e = absurd (cc)
ended_final (Done due f) e = refl
ended_final Ended e = refl

-- where all branches have ended, all are final
all_ended_final : (bs : List Branch) → list_all (λ (b : Branch). is_ended b.phase) bs ≡ true → targets_final bs ≡ true
all_ended_final [] e = refl
all_ended_final (b ∷ bs) e = by_tests (is_ended b.phase) refl b.is_cancel (λ rest. all_ended_final bs rest) e where
  by_tests : (t : Bool) → is_ended b.phase ≡ t → (c : Bool) → (list_all (λ (x : Branch). is_ended x.phase) bs ≡ true → targets_final bs ≡ true)
      → (t && list_all (λ (x : Branch). is_ended x.phase) bs) ≡ true
      → list_all (λ (x : Branch). is_final x.phase) (cond (not c) (b ∷ filter (λ (x : Branch). not x.is_cancel) bs) (filter (λ (x : Branch). not x.is_cancel) bs)) ≡ true
  by_tests true is true rest all = rest all
  by_tests true is false rest all = ap (λ (v : Bool). v && targets_final bs) (ended_final b.phase is) ∙ rest all
  by_tests false is c rest all = absurd (cc)

-- of branches of which one isn't final
waiting_due : (r : OpenRequest) → all_final r ≡ false → HasDue r.branches
waiting_due r e = by_ended (list_all (λ (b : Branch). is_ended b.phase) r.branches) refl where
  by_ended : (t : Bool) → list_all (λ (b : Branch). is_ended b.phase) r.branches ≡ t → HasDue r.branches
  by_ended true is = absurd (cc (e, all_ended_final r.branches is))
  by_ended false is = open_due r.branches is

-- a deadline of a request, by its side
sound_due : (r : OpenRequest) (side : Side) → r.side ≡ side → IsSound r → (due : ℕ) × IsIn due
    (option_to_list (side_deadline side) ++ filter_map (λ (b : Branch). phase_deadline b.phase) r.branches)
sound_due r Answering is h = waiting_due r (h.waits (ap is_answering is))
sound_due r (Closing due) is h = (due, inl refl)
sound_due r (Acknowledged due) is h = (due, inl refl)
sound_due r Closed is h = open_due r.branches (sym (ap (λ (s : Side). is_closed s && list_all (λ (b : Branch). is_ended b.phase) r.branches) is) ∙ h.stays)

-- so it can end
sound_ends : (r : OpenRequest) → IsSound r → CanEnd r
sound_ends r h =
    let due = sound_due r r.side refl h in
    record { stays_open = h.stays; due = due.0; has_deadline = contains_from_in (deadlines_of r) due.0 due.1 }

-- each open request of a history has a deadline
pub chain_ends : (server : Server) (first : ℕ) (history : List Link) (last : ProxyState) → IsChain server (first_state first) history last
    → AllByRecursion CanEnd last.requests
chain_ends server first history last h = all_weaker IsSound CanEnd last.requests sound_ends (chain_sound server first history last h)

-- once a request had its final answer, no final answers of its branches are kept
pub chain_keeps : (server : Server) (first : ℕ) (history : List Link) (last : ProxyState) → IsChain server (first_state first) history last
    → AllByRecursion (λ (r : OpenRequest). is_answering r.side ≡ false → r.finals ≡ []) last.requests
chain_keeps server first history last h =
    all_weaker IsSound (λ r. is_answering r.side ≡ false → r.finals ≡ []) last.requests (λ r sound. sound.counted.none_kept) (chain_sound server first history last h)

-- a request that owes its final answer waits for a branch
pub chain_waits : (server : Server) (first : ℕ) (history : List Link) (last : ProxyState) → IsChain server (first_state first) history last
    → AllByRecursion (λ (r : OpenRequest). is_answering r.side ≡ true → all_final r ≡ false) last.requests
chain_waits server first history last h =
    all_weaker IsSound (λ r. is_answering r.side ≡ true → all_final r ≡ false) last.requests (λ r sound. sound.waits) (chain_sound server first history last h)
