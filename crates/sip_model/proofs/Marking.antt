-- A branch that is to be cancelled, and has neither its CANCEL nor a final answer: its request was given up, or Timer C passes (RFC 3261 16.7 step 10, 16.8, 16.10).
use Rattle.std.proofs.Common.{◌≡◌, ◌⊎◌, inl, inr, ⊎_elim, ℕ, ◌+◌, ◌==◌, not, ◌&&◌, ◌||◌, Bool, true, false, cond, List, [], ◌∷◌, ◌++◌, map, flat_map, refl, sym, ap, ap₂}
use Rattle.std.proofs.Common.{subst, ◌∙◌, true≢false, Contains, Option, Some, None}
use Rattle.std.specs.List.{AllByRecursion}
use Rattle.std.proofs.lemmas.List.{map-id}
use Rattle.sip_message_form.specs.declared.message.Start.TheVariants.{Status}
use Rattle.sip_message_form.specs.declared.message.Message.{Message}
use Rattle.sip_best.specs.declared.final_answer.Final.{Final}
use Rattle.sip_event.specs.declared.packet.Packet.{Packet}
use Rattle.model_steps.specs.state.declared.server.Server.{Server}
use Rattle.model_steps.specs.state.declared.branch.Phase.{Phase}
use Rattle.model_steps.specs.state.declared.branch.Branch.{Branch}
use Rattle.model_steps.specs.state.declared.open_request.OpenRequest.{OpenRequest}
use Rattle.model_steps.specs.state.declared.branch.Phase.TheVariants.{Unheard, Heard, Cancelled, Done, Ended}
use Rattle.model_steps.specs.state.declared.open_request.Side.TheVariants.{Closed}
use Rattle.model_steps.specs.state.State.{is_invite, is_final, is_answering, phase_deadline, is_success, is_decline, is_provisional}
use Rattle.model_steps.specs.state.declared.open_request.Upward.{Upward}
use Rattle.model_steps.specs.context_model.Branches.{Change, is_same_branch, turned, with_phase, with_final, marked, given_up, is_ready, is_unheard, is_cancellable}
use Rattle.model_steps.specs.context_model.Branches.{held_branch, cancel_branch, with_cancel, after_upward, best_upward, settled, invite_heard, other_heard, heard}
use Rattle.model_steps.specs.context_model.Branches.{relayed_provisional, relayed_success, final_of, linger, told_to, with_answer, acks_of, further, target_responded}
use Rattle.model_steps.specs.context_model.Branches.{cancel_responded, target_overdue}
use Rattle.model_steps.specs.state.Arrival.{Arrival}
use Rattle.model_steps.specs.verdict_model.Verdict.{responding}
use Rattle.model_steps.specs.Step.{IsOverdue, OfSide, OfBranch}
use Rattle.sip_model.specs.Run.{Link}
use Rattle.sip_model.specs.Access.{CameFor, IsSaidAt, IsHeardNow, WasCancelled, WasGivenUp, ByCaller, ByAnswer}
use Rattle.sip_model.specs.Parts.{IsChangeAt, ByResponse, ByDeadline, ByFault, ByCancel}
use Rattle.sip_model.proofs.Places.{in_from_contains}
use Rattle.sip_model.proofs.Apart.{TargetsDiffer, goes_to, differ_edited, differ_with_cancels, only_target}
use Rattle.sip_model.proofs.Lists.{all_map, all_weaker, all_contains, all_there, head_there, tail_there}
use Rattle.sip_model.proofs.Finals.{came_before}
use Rattle.sip_model.proofs.Later.{bare, bare_branch, same_parts}
use Rattle.sip_model.proofs.Settling.{settled_number}
use Rattle.sip_model.proofs.Waits.{upward_branches}
use Rattle.sip_model.proofs.Edits.{map_both}
use Rattle.sip_model.proofs.Rising.{number_is}

-- whether a branch has neither its CANCEL nor a final answer
abbrev pub is_waiting : Phase → Bool
is_waiting phase = is_unheard phase || is_ready phase

-- ---- a longer history

-- a CANCEL that came in a history came in a longer one
cancelled_before : (server : Server) (link : Link) (history : List Link) (number : ℕ) → WasCancelled server history number → WasCancelled server (link ∷ history) number
cancelled_before server link history number c =
    record {
      link = c.link;
      a = c.a;
      bytes = c.bytes;
      m = c.m;
      short = c.short;
      key = c.key;
      request = c.request;
      is_there = tail_there link c.link history c.is_there;
      is_said = c.is_said;
      is_cancel = c.is_cancel;
      key_is = c.key_is;
      names_it = c.names_it;
      is_number = c.is_number;
    }

-- what was given up in a history was given up in a longer one
pub given_up_before : (server : Server) (link : Link) (history : List Link) (number : ℕ) → WasGivenUp server history number → WasGivenUp server (link ∷ history) number
given_up_before server link history number (ByCaller c) = ByCaller (cancelled_before server link history number c)
given_up_before server link history number (ByAnswer status response came ends) = ByAnswer status response (came_before server link history number status response came)
    ends

-- ---- what is kept of each branch

-- A branch that is to be cancelled goes to a target; and if it has neither its CANCEL nor a final answer, its request was given up.
pub record IsGivenBranch (server : Server) (history : List Link) (number : ℕ) (b : Branch) : Type 0 where
  pub is_target : b.wants_cancel ≡ true → b.is_cancel ≡ false
  pub was_given_up : b.wants_cancel ≡ true → is_waiting b.phase ≡ true → WasGivenUp server history number

-- the same of each branch of a request, no two of which go to one target
pub record IsGivenRequest (server : Server) (history : List Link) (r : OpenRequest) : Type 0 where
  pub branches : AllByRecursion (IsGivenBranch server history r.number) r.branches
  pub differ : TargetsDiffer r.branches

-- A branch before its request settles: the same, or it is ready for the CANCEL that it is sent then.
pub record IsNearlyGiven (server : Server) (history : List Link) (number : ℕ) (b : Branch) : Type 0 where
  pub is_target : b.wants_cancel ≡ true → b.is_cancel ≡ false
  pub was_given_up : b.wants_cancel ≡ true → is_waiting b.phase ≡ true → WasGivenUp server history number ⊎ (is_ready b.phase ≡ true)

-- ---- what settling makes of the branches

-- a branch to a target that is to be cancelled, and is ready, is sent its CANCEL
is_sent : (b : Branch) → b.is_cancel ≡ false → b.wants_cancel ≡ true → is_ready b.phase ≡ true → is_cancellable b ≡ true
is_sent b target wants ready = by_tests b.is_cancel b.wants_cancel (is_ready b.phase) target wants ready where
  by_tests : (t u v : Bool) → t ≡ false → u ≡ true → v ≡ true → (not t && u && v) ≡ true
  by_tests true u v e f g = absurd (true≢false e)
  by_tests false true true e f g = refl
  by_tests false true false e f g = absurd (true≢false (sym g))
  by_tests false false v e f g = absurd (true≢false (sym f))

module _ (server : Server) (history : List Link) (number : ℕ) where
  -- a branch that isn't sent its CANCEL now
  unsent_given : (b : Branch) → is_cancellable b ≡ false → IsNearlyGiven server history number b → IsGivenBranch server history number b
  unsent_given b stays h =
      record {
        is_target = h.is_target;
        was_given_up = λ wants waits. ⊎_elim (λ given. given) (λ ready. absurd (true≢false (sym (is_sent b (h.is_target wants) wants ready) ∙ stays)))
            (h.was_given_up wants waits);
      }

  -- a branch that is
  held_given : (now : ℕ) (b : Branch) → IsNearlyGiven server history number b → IsGivenBranch server history number (held_branch now b)
  held_given now b h = record { is_target = h.is_target; was_given_up = λ wants waits. absurd (true≢false (sym waits)) }

  -- and the CANCEL
  cancel_given : (now : ℕ) (b : Branch) → IsGivenBranch server history number (cancel_branch now b)
  cancel_given now b = record { is_target = λ wants. absurd (true≢false (sym wants)); was_given_up = λ wants waits. absurd (true≢false (sym wants)) }

  -- all of them
  cancels_given : (now : ℕ) (bs : List Branch) → AllByRecursion (IsNearlyGiven server history number) bs
      → AllByRecursion (IsGivenBranch server history number) (flat_map (with_cancel now) bs)
  cancels_given now [] all = tt
  cancels_given now (b ∷ bs) all = by_test (is_cancellable b) refl (cancels_given now bs all.1) where
    by_test : (t : Bool) → is_cancellable b ≡ t → AllByRecursion (IsGivenBranch server history number) (flat_map (with_cancel now) bs)
        → AllByRecursion (IsGivenBranch server history number) (cond t (held_branch now b ∷ cancel_branch now b ∷ []) (b ∷ []) ++ flat_map (with_cancel now) bs)
    by_test true is rest = (held_given now b all.0, (cancel_given now b, rest))
    by_test false is rest = (unsent_given b is all.0, rest)

-- settling gives each branch that is sent its CANCEL that, and leaves the others
settled_branches : (server : Server) (now : ℕ) (acks : List Packet) (relayed : Option Upward) (r : OpenRequest)
    → (settled server now acks relayed r).request.branches ≡ flat_map (with_cancel now) r.branches
settled_branches server now acks relayed r =
    let told : OpenRequest = after_upward now relayed r in
    ap (flat_map (with_cancel now)) (upward_branches now (best_upward server told) told ∙ upward_branches now relayed r)

-- a request that settles
pub settled_given : (server : Server) (history : List Link) (now : ℕ) (acks : List Packet) (relayed : Option Upward) (r : OpenRequest)
    → AllByRecursion (IsNearlyGiven server history r.number) r.branches
    → TargetsDiffer r.branches → IsGivenRequest server history (settled server now acks relayed r).request
settled_given server history now acks relayed r all differ =
    let same = settled_branches server now acks relayed r in
    record {
      branches =
          subst (λ (number : ℕ). AllByRecursion (IsGivenBranch server history number) (settled server now acks relayed r).request.branches)
          (sym (settled_number server now acks relayed r))
          (subst (AllByRecursion (IsGivenBranch server history r.number)) (sym same) (cancels_given server history r.number now r.branches all));
      differ = subst TargetsDiffer (sym same) (differ_with_cancels now r.branches differ);
    }

-- ---- what an event makes of the branches, before the request settles

-- of two tests that fail the first fails
neither : (a b : Bool) → (a || b) ≡ false → a ≡ false
neither true b e = absurd (true≢false e)
neither false b e = refl

-- of two tests one passes
either : (a b : Bool) → (a || b) ≡ true → (b ≡ true) ⊎ (a ≡ true)
either true b e = inr refl
either false b e = inl e

-- a branch that is ready waits
ready_waits : (phase : Phase) → is_ready phase ≡ true → is_waiting phase ≡ true
ready_waits (Unheard due) e = refl
ready_waits (Heard due) e = refl
ready_waits (Cancelled due) e = absurd (true≢false (sym e))
ready_waits (Done due status) e = absurd (true≢false (sym e))
ready_waits Ended e = absurd (true≢false (sym e))

-- a branch that was heard waits, by the status
heard_waits : (t : Bool) (first second : ℕ) → is_waiting (cond t (Heard first) (Heard second)) ≡ true
heard_waits true first second = refl
heard_waits false first second = refl

-- a provisional response to an INVITE leaves it whether a branch waits
invite_waits : (now status : ℕ) (phase : Phase) → is_waiting (invite_heard now status phase) ≡ is_waiting phase
invite_waits now status (Unheard due) = heard_waits (status == 100) (due + 153000) (now + 185000)
invite_waits now status (Heard due) = heard_waits (status == 100) due (now + 185000)
invite_waits now status (Cancelled due) = refl
invite_waits now status (Done due first) = refl
invite_waits now status Ended = refl

-- so does one to another request
other_waits : (phase : Phase) → is_waiting (other_heard phase) ≡ is_waiting phase
other_waits (Unheard due) = refl
other_waits (Heard due) = refl
other_waits (Cancelled due) = refl
other_waits (Done due status) = refl
other_waits Ended = refl

-- and so either
either_waits : (t : Bool) (now status : ℕ) (phase : Phase) → is_waiting (cond t (invite_heard now status phase) (other_heard phase)) ≡ is_waiting phase
either_waits true now status phase = invite_waits now status phase
either_waits false now status phase = other_waits phase

-- a branch in another phase stays the branch
phase_stays : (c : Branch) (phase : Phase) (x : Branch) (t : Bool) → bare_branch (cond t (turned c phase x) x) ≡ bare_branch x
phase_stays c phase x true = refl
phase_stays c phase x false = refl

-- and a CANCEL, or none
phase_kind : (c : Branch) (phase : Phase) (x : Branch) (t : Bool) → (cond t (turned c phase x) x).is_cancel ≡ x.is_cancel
phase_kind c phase x true = refl
phase_kind c phase x false = refl

-- a branch that is to be cancelled stays the branch
wanting_stays : (x : Branch) (t : Bool) → bare_branch (cond t (record x { wants_cancel = true }) x) ≡ bare_branch x
wanting_stays x true = refl
wanting_stays x false = refl

-- and a CANCEL, or none
wanting_kind : (x : Branch) (t : Bool) → (cond t (record x { wants_cancel = true }) x).is_cancel ≡ x.is_cancel
wanting_kind x true = refl
wanting_kind x false = refl

-- the same where the test keeps it as it is
marked_stays : (x : Branch) (t : Bool) → bare_branch (cond t x (record x { wants_cancel = true })) ≡ bare_branch x
marked_stays x true = refl
marked_stays x false = refl

-- and a CANCEL, or none
marked_kind : (x : Branch) (t : Bool) → (cond t x (record x { wants_cancel = true })).is_cancel ≡ x.is_cancel
marked_kind x true = refl
marked_kind x false = refl

module _ (server : Server) (link : Link) (past : List Link) (now : ℕ) (r : OpenRequest) where
  -- a branch was heard before, or is heard now for the first time
  abbrev pub IsHeardBefore : Branch → Type 0
  IsHeardBefore x = (is_ready x.phase ≡ true) ⊎ ((is_unheard x.phase ≡ true) × IsHeardNow server link.before link.act r x)

  -- A branch of the request, and the same once the event came. If it is to be cancelled then, it goes to a target; and if it has neither its CANCEL nor a final answer,
  -- its request was given up,
  -- or its Timer C passes. If it is ready for a CANCEL, it was heard before, or is heard now.
  pub record IsEdited (x y : Branch) : Type 0 where
    pub is_target : y.wants_cancel ≡ true → y.is_cancel ≡ false
    pub was_given_up : y.wants_cancel ≡ true → is_waiting y.phase ≡ true → WasGivenUp server (link ∷ past) r.number ⊎ ((x.phase ≡ Heard now) × (y.phase ≡ Heard now))
    pub was_heard : y.is_cancel ≡ false → is_ready y.phase ≡ true → IsHeardBefore x

  -- A change is a request in between that settles: the request with each of its branches edited.
  pub record IsSettling (change : Change) : Type 0 where
    pub acks : List Packet
    pub relayed : Option Upward
    pub between : OpenRequest
    pub edit : Branch → Branch
    pub is_change : change ≡ settled server now acks relayed between
    pub is_same : bare between ≡ bare r
    pub branches_are : between.branches ≡ map edit r.branches
    pub stays : (x : Branch) → bare_branch (edit x) ≡ bare_branch x
    pub stays_kind : (x : Branch) → (edit x).is_cancel ≡ x.is_cancel
    pub edited : AllByRecursion (λ (x : Branch). IsEdited x (edit x)) r.branches

  -- one of two changes, by a test
  either_settles : (t : Bool) (first second : Change) → (t ≡ true → IsSettling first) → (t ≡ false → IsSettling second) → IsSettling (cond t first second)
  either_settles true first second so not_so = so refl
  either_settles false first second so not_so = not_so refl

  -- ---- one branch

  -- one that stays as it is
  itself : (x : Branch) → IsGivenBranch server (link ∷ past) r.number x → IsEdited x x
  itself x own = record { is_target = own.is_target; was_given_up = λ wants waits. inl (own.was_given_up wants waits); was_heard = λ target ready. inl ready }

  -- one that gets its final answer, or ends
  closed : (c : Branch) (phase : Phase) (x : Branch) (t : Bool) → is_waiting phase ≡ false → IsGivenBranch server (link ∷ past) r.number x
      → IsEdited x (cond t (turned c phase x) x)
  closed c phase x true never own =
      record {
        is_target = own.is_target;
        was_given_up = λ wants waits. absurd (true≢false (sym waits ∙ never));
        was_heard = λ target ready. absurd (true≢false (sym (ready_waits phase ready) ∙ never));
      }
  closed c phase x false never own = itself x own

  -- one that is to be cancelled with its request given up
  marks : WasGivenUp server (link ∷ past) r.number → (x y : Branch) (t : Bool) → (y.is_cancel || is_final y.phase) ≡ t → IsEdited x y
      → IsEdited x (cond t y (record y { wants_cancel = true }))
  marks given x y true is e = e
  marks given x y false is e = record { is_target = λ wants. neither y.is_cancel (is_final y.phase) is; was_given_up = λ wants waits. inl given; was_heard = e.was_heard }

  module _ (own : IsGivenRequest server (link ∷ past) r) where
    -- two branches to one target are one
    is_it : (x b : Branch) → Contains r.branches x → Contains r.branches b → is_same_branch x b ≡ true → x.is_cancel ≡ false → x ≡ b
    is_it x b first second same target =
        let parts : ((x.number == b.number) ≡ true) × (x.is_cancel ≡ b.is_cancel) = same_parts (x.number == b.number) x.is_cancel b.is_cancel same in
        only_target r.branches x b own.differ (in_from_contains r.branches x first) (in_from_contains r.branches b second) target (sym parts.1 ∙ target)
        (number_is x.number b.number parts.0)

    -- one that hears a provisional response
    hears : (b : Branch) (phase : Phase) (x : Branch) (t : Bool) → is_same_branch x b ≡ t → Contains r.branches b → Contains r.branches x
        → is_waiting phase ≡ is_waiting b.phase
        → (b.is_cancel ≡ false → is_ready phase ≡ true → IsHeardBefore b) → IsGivenBranch server (link ∷ past) r.number x → IsEdited x (cond t (turned b phase x) x)
    hears b phase x true same there first only heard_before h =
        let one : x.is_cancel ≡ false → x ≡ b = λ target. is_it x b first there same target in
        let parts : ((x.number == b.number) ≡ true) × (x.is_cancel ≡ b.is_cancel) = same_parts (x.number == b.number) x.is_cancel b.is_cancel same in
        record {
          is_target = h.is_target;
          was_given_up = λ wants waits. inl (h.was_given_up wants (ap (λ (z : Branch). is_waiting z.phase) (one (h.is_target wants)) ∙ sym only ∙ waits));
          was_heard = λ target ready. subst IsHeardBefore (sym (one target)) (heard_before (sym parts.1 ∙ target) ready);
        }
    hears b phase x false same there first only heard_before h = itself x h

    -- one whose Timer C passes
    times_out : (b : Branch) (x : Branch) (t : Bool) → is_same_branch x b ≡ t → Contains r.branches b → Contains r.branches x → b.is_cancel ≡ false → b.phase ≡ Heard now
        → IsGivenBranch server (link ∷ past) r.number x → IsEdited x (cond t (record x { wants_cancel = true }) x)
    times_out b x true same there first target is h =
        let parts : ((x.number == b.number) ≡ true) × (x.is_cancel ≡ b.is_cancel) = same_parts (x.number == b.number) x.is_cancel b.is_cancel same in
        let other : x.is_cancel ≡ false = parts.1 ∙ target in
        let phase_is : x.phase ≡ Heard now = ap (λ (z : Branch). z.phase) (is_it x b first there same other) ∙ is in
        record { is_target = λ wants. other; was_given_up = λ wants waits. inr (phase_is, phase_is); was_heard = λ target ready. inl ready }
    times_out b x false same there first target is h = itself x h

    -- ---- the request

    -- what follows for each branch of the request
    each_edited : (edit : Branch → Branch) → ((x : Branch) → Contains r.branches x → IsGivenBranch server (link ∷ past) r.number x → IsEdited x (edit x))
        → AllByRecursion (λ (x : Branch). IsEdited x (edit x)) r.branches
    each_edited edit each =
        all_weaker (Contains r.branches) (λ (x : Branch). IsEdited x (edit x)) (λ x there.
        each x there (all_contains (IsGivenBranch server (link ∷ past) r.number) r.branches x own.branches there)) r.branches
        (all_there r.branches)

    -- with each branch as it is
    same_settles : (acks : List Packet) (relayed : Option Upward) (between : OpenRequest) → bare between ≡ bare r → between.branches ≡ r.branches
        → IsSettling (settled server now acks relayed between)
    same_settles acks relayed between is_same same =
        record {
          acks = acks;
          relayed = relayed;
          between = between;
          edit = λ x. x;
          is_change = refl;
          is_same = is_same;
          branches_are = same ∙ sym (map-id r.branches);
          stays = λ x. refl;
          stays_kind = λ x. refl;
          edited = each_edited (λ x. x) (λ x there h. itself x h);
        }

    -- with a branch that gets its final answer, or ends
    closed_settles : (acks : List Packet) (relayed : Option Upward) (c : Branch) (phase : Phase) (between : OpenRequest) → is_waiting phase ≡ false
        → bare between ≡ bare r
        → between.branches ≡ (with_phase c phase r).branches → IsSettling (settled server now acks relayed between)
    closed_settles acks relayed c phase between never is_same same =
        let edit : Branch → Branch = λ x. cond (is_same_branch x c) (turned c phase x) x in
        record {
          acks = acks;
          relayed = relayed;
          between = between;
          edit = edit;
          is_change = refl;
          is_same = is_same;
          branches_are = same;
          stays = λ x. phase_stays c phase x (is_same_branch x c);
          stays_kind = λ x. phase_kind c phase x (is_same_branch x c);
          edited = each_edited edit (λ x there h. closed c phase x (is_same_branch x c) never h);
        }

    -- with a branch that hears a provisional response
    hears_settles : (relayed : Option Upward) (b : Branch) (phase : Phase) → Contains r.branches b → is_waiting phase ≡ is_waiting b.phase
        → (b.is_cancel ≡ false → is_ready phase ≡ true → IsHeardBefore b)
        → IsSettling (settled server now [] relayed (with_phase b phase r))
    hears_settles relayed b phase there only heard_before =
        let edit : Branch → Branch = λ x. cond (is_same_branch x b) (turned b phase x) x in
        record {
          acks = [];
          relayed = relayed;
          between = with_phase b phase r;
          edit = edit;
          is_change = refl;
          is_same = refl;
          branches_are = refl;
          stays = λ x. phase_stays b phase x (is_same_branch x b);
          stays_kind = λ x. phase_kind b phase x (is_same_branch x b);
          edited = each_edited edit (λ x first h. hears b phase x (is_same_branch x b) refl there first only heard_before h);
        }

    -- with a branch whose Timer C passes
    times_out_settles : (b : Branch) → Contains r.branches b → b.is_cancel ≡ false → b.phase ≡ Heard now
        → IsSettling (settled server now [] None (record r {
          branches = map (λ (x : Branch). cond (is_same_branch x b) (record x { wants_cancel = true }) x) r.branches;
        }))
    times_out_settles b there target is =
        let edit : Branch → Branch = λ x. cond (is_same_branch x b) (record x { wants_cancel = true }) x in
        record {
          acks = [];
          relayed = None;
          between = record r { branches = map edit r.branches };
          edit = edit;
          is_change = refl;
          is_same = refl;
          branches_are = refl;
          stays = λ x. wanting_stays x (is_same_branch x b);
          stays_kind = λ x. wanting_kind x (is_same_branch x b);
          edited = each_edited edit (λ x first h. times_out b x (is_same_branch x b) refl there first target is h);
        }

    -- with its branches to be cancelled as its caller wants it, or not
    cancelled_settles : (t : Bool) → (t ≡ true → WasGivenUp server (link ∷ past) r.number) → IsSettling (settled server now [] None (cond t (marked r) r))
    cancelled_settles true given =
        let edit : Branch → Branch = λ x. cond (x.is_cancel || is_final x.phase) x (record x { wants_cancel = true }) in
        record {
          acks = [];
          relayed = None;
          between = marked r;
          edit = edit;
          is_change = refl;
          is_same = refl;
          branches_are = refl;
          stays = λ x. marked_stays x (x.is_cancel || is_final x.phase);
          stays_kind = λ x. marked_kind x (x.is_cancel || is_final x.phase);
          edited = each_edited edit (λ x there h. marks (given refl) x x (x.is_cancel || is_final x.phase) refl (itself x h));
        }
    cancelled_settles false given = same_settles [] None r refl refl

    -- with the first final answer of a branch, after which the others are to be cancelled, or not
    answered_settles : (acks : List Packet) (relayed : Option Upward) (f : Final) (c : Branch) (phase : Phase) (t : Bool) → is_waiting phase ≡ false
        → (t ≡ true → WasGivenUp server (link ∷ past) r.number)
        → IsSettling (settled server now acks relayed (cond t (marked (with_final f (with_phase c phase r))) (with_final f (with_phase c phase r))))
    answered_settles acks relayed f c phase true never given =
        let before : Branch → Branch = λ x. cond (is_same_branch x c) (turned c phase x) x in
        let mark : Branch → Branch = λ x. cond (x.is_cancel || is_final x.phase) x (record x { wants_cancel = true }) in
        record {
          acks = acks;
          relayed = relayed;
          between = marked (with_final f (with_phase c phase r));
          edit = λ x. mark (before x);
          is_change = refl;
          is_same = refl;
          branches_are = map_both mark before r.branches;
          stays = λ x. marked_stays (before x) ((before x).is_cancel || is_final (before x).phase) ∙ phase_stays c phase x (is_same_branch x c);
          stays_kind = λ x. marked_kind (before x) ((before x).is_cancel || is_final (before x).phase) ∙ phase_kind c phase x (is_same_branch x c);
          edited =
              each_edited (λ x. mark (before x))
              (λ x there h. marks (given refl) x (before x) ((before x).is_cancel || is_final (before x).phase) refl (closed c phase x (is_same_branch x c) never h));
        }
    answered_settles acks relayed f c phase false never given = closed_settles acks relayed c phase (with_final f (with_phase c phase r)) never refl refl

    -- ---- the events

    -- a response to the request of a branch
    target_settles : (b : Branch) (status : ℕ) (m : Message) → Contains r.branches b → (is_provisional status ≡ true → IsHeardNow server link.before link.act r b)
        → ((is_success status || is_decline status) ≡ true → WasGivenUp server (link ∷ past) r.number) → IsSettling (target_responded server now r b status m)
    target_settles b status m there comes given =
        either_settles (is_provisional status) (settled server now [] (relayed_provisional r b status m) (with_phase b (heard r now status b.phase) r))
        (cond (is_final b.phase) (settled server now [] (further r b b.phase status m) r)
        (settled server now (acks_of server r b status m) (relayed_success r b status m) (with_answer r b now status m)))
        (λ provisional. hears_settles (relayed_provisional r b status m) b (heard r now status b.phase) there waits (λ target ready. heard_before provisional ready))
        (λ final. either_settles (is_final b.phase) (settled server now [] (further r b b.phase status m) r)
        (settled server now (acks_of server r b status m) (relayed_success r b status m) (with_answer r b now status m))
        (λ again. same_settles [] (further r b b.phase status m) r refl refl)
        (λ first. answered_settles (acks_of server r b status m) (relayed_success r b status m) (final_of status m) (told_to r b status m) (Done (now + linger r) status)
        (is_invite r && (is_success status || is_decline status)) refl (λ ends. given (both (is_invite r) (is_success status || is_decline status) ends)))) where
          waits : is_waiting (heard r now status b.phase) ≡ is_waiting b.phase
          waits = either_waits (is_invite r) now status b.phase

          heard_before : is_provisional status ≡ true → is_ready (heard r now status b.phase) ≡ true → IsHeardBefore b
          heard_before provisional ready =
              ⊎_elim (λ was. inl was) (λ unheard. inr (unheard, comes provisional)) (either (is_unheard b.phase) (is_ready b.phase)
              (sym waits ∙ ready_waits (heard r now status b.phase) ready))

          both : (t u : Bool) → (t && u) ≡ true → u ≡ true
          both true u e = e
          both false u e = absurd (true≢false (sym e))

    -- a response to a CANCEL
    cancel_settles : (b : Branch) (status : ℕ) (m : Message) → b.is_cancel ≡ true → Contains r.branches b → IsSettling (cancel_responded server now r b status m)
    cancel_settles b status m is_cancel there =
        either_settles (is_provisional status) (settled server now [] None (with_phase b (other_heard b.phase) r))
        (cond (is_final b.phase) (settled server now [] None r) (settled server now [] None (with_phase b (Done (now + 5000) status) r)))
        (λ provisional. hears_settles None b (other_heard b.phase) there (other_waits b.phase) (λ target ready. absurd (true≢false (sym is_cancel ∙ target))))
        (λ final. either_settles (is_final b.phase) (settled server now [] None r) (settled server now [] None (with_phase b (Done (now + 5000) status) r))
        (λ again. same_settles [] None r refl refl)
        (λ first. closed_settles [] None b (Done (now + 5000) status) (with_phase b (Done (now + 5000) status) r) refl refl refl))

    -- a branch is given up
    given_up_settles : (b : Branch) (status : ℕ) → IsSettling (settled server now [] None (given_up b status r))
    given_up_settles b status = closed_settles [] None b Ended (given_up b status r) refl refl refl

    -- the deadline of a branch to a target
    target_overdue_settles : (b : Branch) (phase : Phase) → b.phase ≡ phase → phase_deadline phase ≡ Some now → b.is_cancel ≡ false → Contains r.branches b
        → IsSettling (settled server now [] None (target_overdue r b phase))
    target_overdue_settles b (Unheard due) is passes target there = given_up_settles b 408
    target_overdue_settles b (Heard due) is passes target there = by_method (is_invite r) where
      due_is : due ≡ now
      due_is = cc

      by_method : (t : Bool)
          → IsSettling (settled server now [] None (cond t (record r {
            branches = map (λ (x : Branch). cond (is_same_branch x b) (record x { wants_cancel = true }) x)
                r.branches;
          }) (given_up b 408 r)))
      by_method true = times_out_settles b there target (is ∙ ap Heard due_is)
      by_method false = given_up_settles b 408
    target_overdue_settles b (Cancelled due) is passes target there = given_up_settles b 487
    target_overdue_settles b (Done due status) is passes target there = closed_settles [] None b Ended (with_phase b Ended r) refl refl refl
    target_overdue_settles b Ended is passes target there = same_settles [] None r refl refl

    -- a deadline
    overdue_settles : (change : Change) → IsOverdue server now r change → IsSettling change
    overdue_settles _ (OfSide passes) = same_settles [] None (record r { side = Closed }) refl refl
    overdue_settles _ (OfBranch b there passes) = by_kind b.is_cancel refl where
      by_kind : (t : Bool) → b.is_cancel ≡ t → IsSettling (settled server now [] None (cond t (with_phase b Ended r) (target_overdue r b b.phase)))
      by_kind true is = closed_settles [] None b Ended (with_phase b Ended r) refl refl refl
      by_kind false is = target_overdue_settles b b.phase refl passes is there

    -- a response that comes in the step's datagram
    came_now : (a : Arrival) (bytes : List ℕ) (m : Message) (status : ℕ) (reason : List ℕ) (b : Branch) → IsSaidAt link.before link.act a bytes m false
        → m.start ≡ Status status reason
        → responding server link.before.requests m.fields ≡ Some (r, b) → b.is_cancel ≡ false → CameFor server (link ∷ past) r.number status m
    came_now a bytes m status reason b said is_response is_for target =
        record {
          link = link;
          a = a;
          bytes = bytes;
          reason = reason;
          request = r;
          branch = b;
          is_there = head_there link past;
          is_said = said;
          is_response = is_response;
          is_for = is_for;
          is_number = refl;
          is_target = target;
        }

    -- each change
    pub given_up_between : (change : Change) (again : List Packet) → IsChangeAt server link.before link.act now r change again → IsSettling change
    given_up_between _ _ (ByResponse a bytes m status reason b said is_response is_for there) =
        either_settles b.is_cancel (cancel_responded server now r b status m) (target_responded server now r b status m)
        (λ is_cancel. cancel_settles b status m is_cancel there)
        (λ target. target_settles b status m there
        (λ provisional. record {
          a = a;
          bytes = bytes;
          status = status;
          reason = reason;
          response = m;
          is_said = said;
          is_response = is_response;
          is_before_final = provisional;
          is_for = is_for;
        })
        (λ ends. ByAnswer status m (came_now a bytes m status reason b said is_response is_for target) ends))
    given_up_between change _ (ByDeadline _ passes) = overdue_settles change passes
    given_up_between _ _ (ByFault at ticket b act_is number_same fails) = given_up_settles b 503
    given_up_between _ _ (ByCancel a bytes m short key said is_cancel key_is found) =
        cancelled_settles (is_invite r && is_answering r.side)
        (λ wants. ByCaller (record {
          link = link;
          a = a;
          bytes = bytes;
          m = m;
          short = short;
          key = key;
          request = r;
          is_there = head_there link past;
          is_said = said;
          is_cancel = is_cancel;
          key_is = key_is;
          names_it = found;
          is_number = refl;
        }))

  -- ---- once it settled

  -- where a branch goes stays
  stays_going : (change : Change) (s : IsSettling change) (number : ℕ) (x : Branch) → goes_to number (s.edit x) ≡ goes_to number x
  stays_going change s number x = ap₂ (λ (n : ℕ) (t : Bool). n == number && not t) (ap (λ (z : Branch). z.number) (s.stays x)) (s.stays_kind x)

  -- a branch is nearly given up
  nearly : (x y : Branch) → IsEdited x y → IsNearlyGiven server (link ∷ past) r.number y
  nearly x y e =
      record { is_target = e.is_target; was_given_up = λ wants waits. ⊎_elim (λ given. inl given) (λ timer. inr (ap is_ready timer.1)) (e.was_given_up wants waits) }

  -- the request is given once it settled
  pub change_given : (change : Change) → IsSettling change → IsGivenRequest server (link ∷ past) r → IsGivenRequest server (link ∷ past) change.request
  change_given change s own =
      subst (λ (c : Change). IsGivenRequest server (link ∷ past) c.request) (sym s.is_change)
      (settled_given server (link ∷ past) now s.acks s.relayed s.between
      (subst (λ (number : ℕ). AllByRecursion (IsNearlyGiven server (link ∷ past) number) s.between.branches) (sym (ap (λ (q : OpenRequest). q.number) s.is_same))
      (subst (AllByRecursion (IsNearlyGiven server (link ∷ past) r.number)) (sym s.branches_are)
      (all_map (IsNearlyGiven server (link ∷ past) r.number) s.edit r.branches
      (all_weaker (λ (x : Branch). IsEdited x (s.edit x)) (λ (x : Branch). IsNearlyGiven server (link ∷ past) r.number (s.edit x)) (λ x e. nearly x (s.edit x) e)
      r.branches s.edited))))
      (subst TargetsDiffer (sym s.branches_are) (differ_edited s.edit (stays_going change s) r.branches own.differ)))
