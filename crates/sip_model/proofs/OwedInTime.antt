-- As time passes: what is owed at a deadline is among what the step sends, and what doesn't happen in a step stays as it was.
use Rattle.std.proofs.Common.{◌≡◌, ◌⊎◌, inl, inr, ℕ, ◌+◌, ◌==◌, Bool, true, false, not, ◌&&◌, cond, List, [], ◌∷◌, ◌++◌, map, flat_map, Contains, Option, Some, None}
use Rattle.std.proofs.Common.{option_map, refl, sym, ap, subst, ◌∙◌, arith}
use Rattle.std.proofs.lemmas.Bool.Decides.{nat_tests}
use Rattle.std.specs.List.{list_all}
use Rattle.sip_message_form.specs.Text.{text_of}
use Rattle.sip_best.specs.declared.final_answer.Final.{Final}
use Rattle.sip_best.specs.Best.{best_of}
use Rattle.sip_event.specs.declared.packet.Packet.{Packet}
use Rattle.model_steps.specs.state.declared.server.Server.{Server}
use Rattle.model_steps.specs.state.declared.branch.Branch.{Branch}
use Rattle.model_steps.specs.state.declared.branch.Phase.{Phase}
use Rattle.model_steps.specs.state.declared.branch.Phase.TheVariants.{Unheard, Heard, Cancelled, Done, Ended}
use Rattle.model_steps.specs.state.declared.open_request.Side.{Side}
use Rattle.model_steps.specs.state.declared.open_request.Side.TheVariants.{Answering, Closing, Acknowledged, Closed}
use Rattle.model_steps.specs.state.declared.open_request.OpenRequest.{OpenRequest}
use Rattle.model_steps.specs.state.declared.open_request.Upward.{Upward}
use Rattle.model_steps.specs.state.declared.proxy_state.ProxyState.{ProxyState}
use Rattle.model_steps.specs.state.State.{is_invite, is_answering, is_ended, is_closed, has_left, phase_deadline, side_deadline}
use Rattle.model_steps.specs.context_model.Branches.{Change, all_final, best_upward, is_closing, with_cancels, upward_of, after_upward, is_cancellable, is_ready}
use Rattle.model_steps.specs.context_model.Branches.{is_same_branch, with_cancel, settled, turned, phased, with_phase, given_up, target_overdue, branch_overdue, overdue}
use Rattle.model_steps.specs.context_model.Sending.{answer_to, branch_packets}
use Rattle.model_steps.specs.context_model.Retransmission.{IsResent, OfAnswer, OfRequest, answers_again, answer_next, branch_next, resent_branch, with_resend}
use Rattle.model_steps.specs.Effect.{replaced, change_packets}
use Rattle.model_steps.specs.Step.{IsOverdue, OfSide, OfBranch}
use Rattle.sip_model.specs.Access.{StaysInPhase, KeepsMoment, KeepsAnswer, IsOnly, OthersEnded}
use Rattle.sip_model.proofs.Places.{IsIn, in_from_contains, contains_from_in, same_number}
use Rattle.sip_model.proofs.Later.{bare_branch}
use Rattle.sip_model.proofs.Settled.{IsBetween, cancel_packets}
use Rattle.sip_model.proofs.Settling.{settled_number}
use Rattle.sip_model.proofs.SettledSends.{sends_cancel}
use Rattle.sip_model.proofs.Edits.{Edits, phased_edits, map_same}
use Rattle.sip_model.proofs.Found.{other_stays, new_there}
use Rattle.sip_model.proofs.OwedChanges.{same_itself, unchanged, with_phase_between, given_up_pays, wanted_ready}

-- ---- a branch that stays

-- a request of which a branch hasn't ended stays open
going_stays : (r : OpenRequest) (b : Branch) → IsIn b r.branches → is_ended b.phase ≡ false → has_left r ≡ false
going_stays r b there going = by_side (is_closed r.side) (list_all (λ (x : Branch). is_ended x.phase) r.branches) (some r.branches there) where
  some : (bs : List Branch) → IsIn b bs → list_all (λ (x : Branch). is_ended x.phase) bs ≡ false
  some [] at = absurd at
  some (x ∷ xs) (inl here) = by_head (is_ended x.phase) (list_all (λ (y : Branch). is_ended y.phase) xs) (ap (λ (y : Branch). is_ended y.phase) here ∙ going) where
    by_head : (t u : Bool) → t ≡ false → (t && u) ≡ false
    by_head false u e = refl
    by_head true u e = absurd (cc)
  some (x ∷ xs) (inr later) = by_tail (is_ended x.phase) (list_all (λ (y : Branch). is_ended y.phase) xs) (some xs later) where
    by_tail : (t u : Bool) → u ≡ false → (t && u) ≡ false
    by_tail true u e = e
    by_tail false u e = refl

  by_side : (t u : Bool) → u ≡ false → (t && u) ≡ false
  by_side true u e = e
  by_side false u e = refl

-- a branch in a request that is open after a step
abbrev stands : (after : ProxyState) (r : OpenRequest) (b : Branch) (request : OpenRequest) (branch : Branch) → IsIn request after.requests → request.number ≡ r.number
    → IsIn branch request.branches → is_same_branch branch b ≡ true
    → branch.phase ≡ b.phase → StaysInPhase after r b
stands after r b request branch there number inside one phase =
    record {
      request = request;
      branch = branch;
      is_open = contains_from_in after.requests request there;
      is_number = number;
      is_there = contains_from_in request.branches branch inside;
      is_one = one;
      is_phase = phase;
    }

-- the same branch, in such a request
keeps : (after : ProxyState) (r : OpenRequest) (b : Branch) (request : OpenRequest) → IsIn request after.requests → request.number ≡ r.number → IsIn b request.branches
    → KeepsMoment after r b
keeps after r b request there number inside = record { stays = stands after r b request b there number inside (same_itself b) refl; goes_then = refl }

-- where nothing changes
pub all_stay : (after : ProxyState) (requests : List OpenRequest) → after.requests ≡ requests → (r : OpenRequest) (b : Branch) → Contains requests r
    → Contains r.branches b → KeepsMoment after r b
all_stay after requests same r b there inside =
    keeps after r b r (in_from_contains after.requests r (subst (λ (rs : List OpenRequest). Contains rs r) (sym same) there)) refl (in_from_contains r.branches b inside)

-- where another request is replaced
pub others_stay : (after : ProxyState) (requests : List OpenRequest) (new : OpenRequest) → after.requests ≡ replaced new requests → (r : OpenRequest) (b : Branch)
    → Contains requests r → Contains r.branches b
    → (r.number == new.number) ≡ false → KeepsMoment after r b
others_stay after requests new same r b there inside other =
    keeps after r b r (subst (IsIn r) (sym same) (other_stays new requests r (in_from_contains requests r there) other)) refl (in_from_contains r.branches b inside)

-- the request that replaces one is open, where a branch of it hasn't ended
new_stays : (after : ProxyState) (requests : List OpenRequest) (new : OpenRequest) → after.requests ≡ replaced new requests → (r : OpenRequest) (branch : Branch)
    → Contains requests r → new.number ≡ r.number
    → IsIn branch new.branches → is_ended branch.phase ≡ false → IsIn new after.requests
new_stays after requests new same r branch there number inside going =
    subst (IsIn new) (sym same) (new_there new requests r (in_from_contains requests r there) (sym number) (going_stays new branch inside going))

-- two branches are the same both ways
same_back : (b c : Branch) → is_same_branch b c ≡ true → is_same_branch c b ≡ true
same_back b c same = by_tests (b.number == c.number) refl b.is_cancel c.is_cancel same where
  by_tests : (t : Bool) → (b.number == c.number) ≡ t → (x y : Bool) → (t && cond x y (not y)) ≡ true → ((c.number == b.number) && cond y x (not x)) ≡ true
  by_tests false is x y e = absurd (cc)
  by_tests true is true true e = ap (λ (t : Bool). t && true) (same_number c.number b.number number) where
    number : c.number ≡ b.number
    number = grind (arith, nat_tests)
  by_tests true is false false e = ap (λ (t : Bool). t && true) (same_number c.number b.number number) where
    number : c.number ≡ b.number
    number = grind (arith, nat_tests)
  by_tests true is true false e = absurd (cc)
  by_tests true is false true e = absurd (cc)

-- a branch that has a deadline hasn't ended
pub due_going : (phase : Phase) (due : ℕ) → phase_deadline phase ≡ Some due → is_ended phase ≡ false
due_going (Unheard until) due e = refl
due_going (Heard until) due e = refl
due_going (Cancelled until) due e = refl
due_going (Done until status) due e = refl
due_going Ended due e = absurd (cc)

-- ---- what goes again

-- a branch in a list, edited
mapped_in : (edit : Branch → Branch) (bs : List Branch) (b : Branch) → IsIn b bs → IsIn (edit b) (map edit bs)
mapped_in edit [] b there = absurd there
mapped_in edit (x ∷ xs) b (inl here) = inl (ap edit here)
mapped_in edit (x ∷ xs) b (inr later) = inr (mapped_in edit xs b later)

-- no branch leaves its phase where something goes again, and one alone has another moment then
pub resent_stays : (server : Server) (now : ℕ) (after : ProxyState) (requests : List OpenRequest) (r later : OpenRequest) (packets : List Packet)
    → IsResent server now r packets later → after.requests ≡ replaced later requests
    → (b : Branch) → Contains requests r → Contains r.branches b → IsOnly r b → is_ended b.phase ≡ false
    → StaysInPhase after r b × (KeepsMoment after r b ⊎ (packets ≡ branch_packets server true r b))
resent_stays server now after requests r _ _ (OfAnswer is) same b there inside only going =
    let in_it = in_from_contains r.branches b inside in
    let own : KeepsMoment after r b = keeps after r b (record r { again = answer_next r })
    (new_stays after requests (record r { again = answer_next r }) same r b there refl in_it going) refl in_it in
    (own.stays, inl own)
resent_stays server now after requests r _ _ (OfRequest c at is) same b there inside only going =
    by_test (is_same_branch b c) refl (mapped_in (resent_branch c (branch_next r c)) r.branches b (in_from_contains r.branches b inside)) where
      later : OpenRequest
      later = record r { branches = map (resent_branch c (branch_next r c)) r.branches }

      by_test : (t : Bool) → is_same_branch b c ≡ t → IsIn (cond t (record b { again = branch_next r c }) b) later.branches
          → StaysInPhase after r b × (KeepsMoment after r b ⊎ (branch_packets server true r c ≡ branch_packets server true r b))
      by_test true one in_it =
          let is_it : c ≡ b = only c at (same_back b c one) in (
            stands after r b later (record b { again = branch_next r c }) (new_stays after requests later same r (record b { again = branch_next r c }) there refl in_it
                going) refl in_it (same_itself b) refl,
            inr (ap (λ (x : Branch). branch_packets server true r x) is_it),
          )
      by_test false other in_it =
          let own : KeepsMoment after r b = keeps after r b later (new_stays after requests later same r b there refl in_it going) refl in_it in
          (own.stays, inl own)

-- ---- a deadline

module _ (server : Server) (now : ℕ) (r s : OpenRequest) (edit : Branch → Branch) (between : IsBetween r s edit) where
  -- what stays of the branches
  after_branches : (o : Option Upward) (q : OpenRequest) → (after_upward now o q).branches ≡ q.branches
  after_branches None q = refl
  after_branches (Some u) q = refl

  -- a branch that isn't sent its CANCEL stays
  kept_with_cancels : (bs : List Branch) (x : Branch) → IsIn x bs → is_cancellable x ≡ false → IsIn x (flat_map (with_cancel now) bs)
  kept_with_cancels [] x there waits = absurd there
  kept_with_cancels (y ∷ ys) x (inl here) waits = subst (λ (z : Branch). IsIn x (with_cancel now z ++ flat_map (with_cancel now) ys)) (sym here)
      (by_test (is_cancellable x) waits) where
        by_test : (t : Bool) → t ≡ false → IsIn x (cond t (record x { phase = Cancelled (now + 32000) }
            ∷ record x { is_cancel = true; wants_cancel = false; phase = Unheard (now + 32000); again = record { due = now + 500; wait = 500 } } ∷ []) (x ∷ [])
            ++ flat_map (with_cancel now) ys)
        by_test false e = inl refl
        by_test true e = absurd (cc)
  kept_with_cancels (y ∷ ys) x (inr later) waits = by_test (is_cancellable y) (kept_with_cancels ys x later waits) where
    by_test : (t : Bool) → IsIn x (flat_map (with_cancel now) ys)
        → IsIn x (cond t (record y { phase = Cancelled (now + 32000) } ∷ record y {
          is_cancel = true;
          wants_cancel = false;
          phase = Unheard (now + 32000);
          again = record { due = now + 500; wait = 500 };
        } ∷ []) (y ∷ []) ++ flat_map (with_cancel now) ys)
    by_test true rest = inr (inr rest)
    by_test false rest = inr rest

  -- so a branch of the request that stays as it was, and gets no CANCEL, stays
  pub settled_stays : (after : ProxyState) (requests : List OpenRequest) → after.requests ≡ replaced (settled server now [] None s).request requests → (b : Branch)
      → Contains requests r → Contains r.branches b → edit b ≡ b
      → is_cancellable b ≡ false → is_ended b.phase ≡ false → KeepsMoment after r b
  settled_stays after requests same b there inside stays waits going =
      keeps after r b (settled server now [] None s).request (new_stays after requests (settled server now [] None s).request same r b there number still going) number
      still where
        number : (settled server now [] None s).request.number ≡ r.number
        number = settled_number server now [] None s ∙ ap (λ (q : OpenRequest). q.number) between.is_same

        told : (after_upward now (best_upward server s) s).branches ≡ map edit r.branches
        told = after_branches (best_upward server s) s ∙ between.branches

        still : IsIn b (settled server now [] None s).request.branches
        still =
            subst (λ (bs : List Branch). IsIn b (flat_map (with_cancel now) bs)) (sym told)
            (kept_with_cancels (map edit r.branches) b (subst (λ (x : Branch). IsIn x (map edit r.branches)) stays
            (mapped_in edit r.branches b (in_from_contains r.branches b inside))) waits)

-- ---- what becomes of a branch

-- What is known of a branch where time passes: it stays as it was; or what it sends goes again, and it stays in its phase; or it is sent its CANCEL; or its own deadline
-- passes.
pub data Becomes (server : Server) (now : ℕ) (after : ProxyState) (r : OpenRequest) (b : Branch) (packets again : List Packet) : Type 0 where
  AsItWas : KeepsMoment after r b → Becomes server now after r b packets again
  GoesOn : StaysInPhase after r b → again ≡ branch_packets server true r b → Becomes server now after r b packets again
  WithCancel : is_cancellable b ≡ true → ((p : Packet) → Contains (cancel_packets server r b) p → Contains packets p) → Becomes server now after r b packets again
  Overdue : phase_deadline b.phase ≡ Some now → packets ≡ change_packets (overdue server now r b) → Becomes server now after r b packets again

module _ (server : Server) (now : ℕ) (after : ProxyState) (requests : List OpenRequest) (r : OpenRequest) (b : Branch) (there : Contains requests r)
    (inside : Contains r.branches b) (only : IsOnly r b) (going : is_ended b.phase ≡ false)
    (again : List Packet) where
  -- a change that leaves a branch
  elsewhere : (s : OpenRequest) (edit : Branch → Branch) → IsBetween r s edit → edit b ≡ b → after.requests ≡ replaced (settled server now [] None s).request requests
      → Becomes server now after r b (change_packets (settled server now [] None s)) again
  elsewhere s edit between same is_after = by_test (is_cancellable b) refl where
    by_test : (t : Bool) → is_cancellable b ≡ t → Becomes server now after r b (change_packets (settled server now [] None s)) again
    by_test true ready = WithCancel ready (λ p has. sends_cancel server now r s [] None edit between b inside (ap is_cancellable same ∙ ready) p has)
    by_test false waits = AsItWas (settled_stays server now r s edit between after requests is_after b there inside same waits going)

  -- a branch of another name stays as it is
  abbrev Goes : OpenRequest → Type 0
  Goes s = after.requests ≡ replaced (settled server now [] None s).request requests → Becomes server now after r b (change_packets (settled server now [] None s)) again

  module _ (c : Branch) (other : is_same_branch b c ≡ false) where
    phased_other : (phase : Phase) → phased c phase b ≡ b
    phased_other phase = by_test (is_same_branch b c) other where
      by_test : (t : Bool) → t ≡ false → cond t (turned c phase b) b ≡ b
      by_test false e = refl
      by_test true e = absurd (cc)

    phase_goes : (phase : Phase) → Goes (with_phase c phase r)
    phase_goes phase = elsewhere (with_phase c phase r) (phased c phase) (with_phase_between c phase r) (phased_other phase)

    given_up_goes : (status : ℕ) → Goes (given_up c status r)
    given_up_goes status =
        let edits : Edits c (phased c Ended) = phased_edits c c Ended (λ x. refl) in
        elsewhere (given_up c status r) (phased c Ended) (record { is_same = refl; branches = refl; goes = edits.goes; keeps = edits.keeps }) (phased_other Ended)

    abbrev wanting : Branch → Branch
    wanting x = cond (is_same_branch x c) (record x { wants_cancel = true }) x

    wanting_goes : Goes (record r { branches = map wanting r.branches })
    wanting_goes =
        elsewhere (record r { branches = map wanting r.branches }) wanting (record {
          is_same = refl;
          branches = refl;
          goes = λ x. goes x (is_same_branch x c);
          keeps = λ x. keeps x (is_same_branch x c);
        })
        (by_test (is_same_branch b c) other) where
          goes : (x : Branch) (t : Bool) → bare_branch (cond t (record x { wants_cancel = true }) x) ≡ bare_branch x
          goes x true = refl
          goes x false = refl

          keeps : (x : Branch) (t : Bool) → (cond t (record x { wants_cancel = true }) x).is_cancel ≡ x.is_cancel
          keeps x true = refl
          keeps x false = refl

          by_test : (t : Bool) → t ≡ false → cond t (record b { wants_cancel = true }) b ≡ b
          by_test false e = refl
          by_test true e = absurd (cc)

    unchanged_goes : Goes r
    unchanged_goes = elsewhere r (λ (x : Branch). x) (unchanged r) refl

    target_goes : (phase : Phase) → Goes (target_overdue r c phase)
    target_goes (Unheard due) = given_up_goes 408
    target_goes (Heard due) = by_test (is_invite r) where
      by_test : (t : Bool) → Goes (cond t (record r { branches = map wanting r.branches }) (given_up c 408 r))
      by_test true = wanting_goes
      by_test false = given_up_goes 408
    target_goes (Cancelled due) = given_up_goes 487
    target_goes (Done due status) = phase_goes Ended
    target_goes Ended = unchanged_goes

    branch_goes : Goes (branch_overdue r c)
    branch_goes = by_test c.is_cancel where
      by_test : (t : Bool) → Goes (cond t (with_phase c Ended r) (target_overdue r c c.phase))
      by_test true = phase_goes Ended
      by_test false = target_goes c.phase

  -- the deadline of its request, or of a branch of it
  pub becomes_by : (change : Change) → IsOverdue server now r change → after.requests ≡ replaced change.request requests
      → Becomes server now after r b (change_packets change) again
  becomes_by _ (OfSide is) is_after =
      elsewhere (record r { side = Closed }) (λ (x : Branch). x) (record { is_same = refl; branches = map_same r.branches; goes = λ x. refl; keeps = λ x. refl }) refl
      is_after
  becomes_by _ (OfBranch c here is) is_after = by_test (is_same_branch b c) refl where
    by_test : (t : Bool) → is_same_branch b c ≡ t → Becomes server now after r b (change_packets (overdue server now r c)) again
    by_test true same =
        let is_it : c ≡ b = only c here (same_back b c same) in
        Overdue (ap (λ (x : Branch). phase_deadline x.phase) (sym is_it) ∙ is) (ap (λ (x : Branch). change_packets (overdue server now r x)) is_it)
    by_test false other = branch_goes c other is_after

-- ---- its own deadline

module _ (server : Server) (now : ℕ) (r : OpenRequest) (b : Branch) (inside : Contains r.branches b) (target : b.is_cancel ≡ false) where
  -- what it makes of the request
  abbrev Sends : OpenRequest → Packet → Type 0
  Sends s p = Contains (change_packets (settled server now [] None s)) p

  by_phase : (phase : Phase) → b.phase ≡ phase → (p : Packet) → Sends (target_overdue r b phase) p → Contains (change_packets (overdue server now r b)) p
  by_phase phase is p has = by_kind b.is_cancel target where
    by_kind : (t : Bool) → t ≡ false → Sends (cond t (with_phase b Ended r) (target_overdue r b b.phase)) p
    by_kind false e = subst (λ (x : Phase). Sends (target_overdue r b x) p) (sym is) has
    by_kind true e = absurd (cc)

  -- the best answer goes as the last branch ends
  silence_pays : (phase : Phase) → b.phase ≡ phase → (status : ℕ) → target_overdue r b phase ≡ given_up b status r → (best : Final) → OthersEnded r b
      → is_answering r.side ≡ true
      → best_of (r.finals ++ record { status = status; message = None } ∷ []) ≡ Some best
      → Contains (change_packets (overdue server now r b)) (answer_to false r (text_of (upward_of server r best).message))
  silence_pays phase is status same best others answering found =
      by_phase phase is (answer_to false r (text_of (upward_of server r best).message))
      (subst (λ (s : OpenRequest). Sends s (answer_to false r (text_of (upward_of server r best).message))) (sym same)
      (given_up_pays server now r b status best others answering found))

  -- at Timer C its CANCEL goes
  pub timer_c_pays : (due : ℕ) → b.phase ≡ Heard due → is_invite r ≡ true → (p : Packet) → Contains (cancel_packets server r b) p
      → Contains (change_packets (overdue server now r b)) p
  timer_c_pays due is invite p has = by_phase (Heard due) is p (by_invite (is_invite r) invite) where
    wanting : Branch → Branch
    wanting x = cond (is_same_branch x b) (record x { wants_cancel = true }) x

    goes : (x : Branch) (t : Bool) → bare_branch (cond t (record x { wants_cancel = true }) x) ≡ bare_branch x
    goes x true = refl
    goes x false = refl

    keeps : (x : Branch) (t : Bool) → (cond t (record x { wants_cancel = true }) x).is_cancel ≡ x.is_cancel
    keeps x true = refl
    keeps x false = refl

    ready : (t : Bool) → t ≡ true → is_cancellable (cond t (record b { wants_cancel = true }) b) ≡ true
    ready true e = wanted_ready b target (ap is_ready is)
    ready false e = absurd (cc)

    by_invite : (t : Bool) → t ≡ true → Sends (cond t (record r { branches = map wanting r.branches }) (given_up b 408 r)) p
    by_invite true e =
        sends_cancel server now r (record r { branches = map wanting r.branches }) [] None wanting
        (record { is_same = refl; branches = refl; goes = λ x. goes x (is_same_branch x b); keeps = λ x. keeps x (is_same_branch x b) }) b inside
        (ready (is_same_branch b b) (same_itself b)) p has
    by_invite false e = absurd (cc)

  -- whatever it ends with
  pub unheard_pays : b.phase ≡ Unheard now → (best : Final) → OthersEnded r b → is_answering r.side ≡ true
      → best_of (r.finals ++ record { status = 408; message = None } ∷ []) ≡ Some best
      → Contains (change_packets (overdue server now r b)) (answer_to false r (text_of (upward_of server r best).message))
  unheard_pays is best others answering found = silence_pays (Unheard now) is 408 refl best others answering found

  pub heard_pays : b.phase ≡ Heard now → is_invite r ≡ false → (best : Final) → OthersEnded r b → is_answering r.side ≡ true
      → best_of (r.finals ++ record { status = 408; message = None } ∷ []) ≡ Some best
      → Contains (change_packets (overdue server now r b)) (answer_to false r (text_of (upward_of server r best).message))
  heard_pays is other best others answering found = silence_pays (Heard now) is 408 (by_invite (is_invite r) other) best others answering found where
    by_invite : (t : Bool) → t ≡ false → cond t (record r { branches = map (λ (x : Branch). cond (is_same_branch x b) (record x { wants_cancel = true }) x) r.branches })
        (given_up b 408 r) ≡ given_up b 408 r
    by_invite false e = refl
    by_invite true e = absurd (cc)

  pub cancelled_pays : b.phase ≡ Cancelled now → (best : Final) → OthersEnded r b → is_answering r.side ≡ true
      → best_of (r.finals ++ record { status = 487; message = None } ∷ []) ≡ Some best
      → Contains (change_packets (overdue server now r b)) (answer_to false r (text_of (upward_of server r best).message))
  cancelled_pays is best others answering found = silence_pays (Cancelled now) is 487 refl best others answering found

-- ---- the last answer

-- A request keeps its last answer, and when that goes again, where its answering side is closing and no deadline of that passes.
module _ (server : Server) (now : ℕ) (r : OpenRequest) (closing : is_closing r.side ≡ true) where
  -- it owes none
  owes_none : (side : Side) → is_closing side ≡ true → is_answering side ≡ false
  owes_none Answering e = absurd (cc)
  owes_none (Closing due) e = refl
  owes_none (Acknowledged due) e = absurd (cc)
  owes_none Closed e = absurd (cc)

  -- a request of which a branch changed has the same side
  record HasSide (s : OpenRequest) : Type 0 where
    number : s.number ≡ r.number
    side : s.side ≡ r.side
    goes_then : s.again ≡ r.again

  settled_side : (s : OpenRequest) → HasSide s → HasSide (settled server now [] None s).request
  settled_side s h = by_best (best_upward server s) none where
    none : best_upward server s ≡ None
    none = by_test (is_answering s.side) (all_final s) (ap is_answering h.side ∙ owes_none r.side closing) where
      by_test : (t u : Bool) → t ≡ false → cond (t && u) (option_map (upward_of server s) (best_of s.finals)) None ≡ None
      by_test false u e = refl
      by_test true u e = absurd (cc)

    by_best : (o : Option Upward) → o ≡ None → HasSide (with_cancels now (after_upward now o s))
    by_best None e = record { number = h.number; side = h.side; goes_then = h.goes_then }
    by_best (Some u) e = absurd (cc)

  overdue_side : (c : Branch) (phase : Phase) → HasSide (target_overdue r c phase)
  overdue_side c (Unheard due) = record { number = refl; side = refl; goes_then = refl }
  overdue_side c (Heard due) = by_test (is_invite r) where
    by_test : (t : Bool) → HasSide (cond t (record r { branches = map (λ (x : Branch). cond (is_same_branch x c) (record x { wants_cancel = true }) x) r.branches })
        (given_up c 408 r))
    by_test true = record { number = refl; side = refl; goes_then = refl }
    by_test false = record { number = refl; side = refl; goes_then = refl }
  overdue_side c (Cancelled due) = record { number = refl; side = refl; goes_then = refl }
  overdue_side c (Done due status) = record { number = refl; side = refl; goes_then = refl }
  overdue_side c Ended = record { number = refl; side = refl; goes_then = refl }

  branch_side : (c : Branch) → HasSide (branch_overdue r c)
  branch_side c = by_test c.is_cancel where
    by_test : (t : Bool) → HasSide (cond t (with_phase c Ended r) (target_overdue r c c.phase))
    by_test true = record { number = refl; side = refl; goes_then = refl }
    by_test false = overdue_side c c.phase

  module _ (after : ProxyState) (requests : List OpenRequest) (there : Contains requests r) where
    -- such a request is open after a step
    side_stays : (new : OpenRequest) → HasSide new → after.requests ≡ replaced new requests → KeepsAnswer after r
    side_stays new h same =
        record {
          request = new;
          is_open = contains_from_in after.requests new (subst (IsIn new) (sym same) (new_there new requests r (in_from_contains requests r there) (sym h.number) stays));
          is_number = h.number;
          is_side = h.side;
          goes_then = h.goes_then;
        } where
          by_side : (side : Side) → is_closing side ≡ true → is_closed side ≡ false
          by_side Answering e = absurd (cc)
          by_side (Closing due) e = refl
          by_side (Acknowledged due) e = absurd (cc)
          by_side Closed e = absurd (cc)

          stays : has_left new ≡ false
          stays = ap (λ (t : Bool). t && list_all (λ (x : Branch). is_ended x.phase) new.branches) (ap is_closed h.side ∙ by_side r.side closing)

    -- after a deadline of it
    pub answer_overdue : (change : Change) → IsOverdue server now r change → (side_deadline r.side ≡ Some now → ⊥) → after.requests ≡ replaced change.request requests
        → KeepsAnswer after r
    answer_overdue _ (OfSide is) never same = absurd (never is)
    answer_overdue _ (OfBranch c here is) never same = side_stays (settled server now [] None (branch_overdue r c)).request
        (settled_side (branch_overdue r c) (branch_side c)) same

    -- after something of it went again
    pub answer_resent : (packets : List Packet) (later : OpenRequest) → IsResent server now r packets later → after.requests ≡ replaced later requests
        → KeepsAnswer after r ⊎ (packets ≡ answers_again r r.answer)
    answer_resent _ _ (OfAnswer is) same = inr refl
    answer_resent _ _ (OfRequest c here is) same = inl (side_stays (with_resend c r) (record { number = refl; side = refl; goes_then = refl }) same)

-- where nothing of it changes
pub answer_stays : (after : ProxyState) (r : OpenRequest) → IsIn r after.requests → KeepsAnswer after r
answer_stays after r there = record { request = r; is_open = contains_from_in after.requests r there; is_number = refl; is_side = refl; goes_then = refl }
