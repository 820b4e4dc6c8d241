-- What stays of an open request through what happens to it.
use Rattle.std.proofs.Common.{◌≡◌, ◌∙◌, inl, ℕ, ◌+◌, ◌==◌, not, ◌&&◌, ◌||◌, List, [], ◌∷◌, map, cond, Bool, true, false, refl, sym, ap, subst, Contains, Option, Some}
use Rattle.std.proofs.Common.{None, true≢false, arith, ◌++◌}
use Rattle.std.specs.List.{AllByRecursion}
use Rattle.sip_message_form.specs.declared.message.Message.{Message}
use Rattle.sip_best.specs.declared.final_answer.Final.{Final}
use Rattle.sip_event.specs.declared.packet.Packet.{Packet}
use Rattle.model_steps.specs.state.declared.resend.Resend.{Resend}
use Rattle.model_steps.specs.state.declared.server.Server.{Server}
use Rattle.model_steps.specs.state.declared.branch.Phase.{Phase}
use Rattle.model_steps.specs.state.declared.open_request.Side.{Side}
use Rattle.model_steps.specs.state.declared.branch.Branch.{Branch}
use Rattle.model_steps.specs.state.declared.open_request.OpenRequest.{OpenRequest}
use Rattle.model_steps.specs.state.declared.proxy_state.ProxyState.{ProxyState}
use Rattle.model_steps.specs.state.declared.branch.Phase.TheVariants.{Unheard, Heard, Cancelled, Done, Ended}
use Rattle.model_steps.specs.state.declared.open_request.Side.TheVariants.{Closed}
use Rattle.model_steps.specs.state.State.{first_resend, is_invite, is_final, is_answering, is_success, is_decline, is_provisional}
use Rattle.model_steps.specs.state.declared.open_request.Upward.{Upward}
use Rattle.model_steps.specs.context_model.Retransmission.{IsResent, OfAnswer, OfRequest, branch_next}
use Rattle.model_steps.specs.context_model.Branches.{is_same_branch, with_phase, with_final, marked, given_up, answered, after_upward, is_ready, cancel_branch}
use Rattle.model_steps.specs.context_model.Branches.{with_cancels, search_ended, with_answer, final_of, linger, target_overdue, branch_overdue, acknowledged_side}
use Rattle.model_steps.specs.context_model.Branches.{was_refused, acknowledged, turned, told_to}
use Rattle.sip_model.specs.Run.{Link}
use Rattle.model_steps.specs.Step.{Act}
use Rattle.model_steps.specs.context_model.Opening.{tried}
use Rattle.sip_model.specs.Access.{WasHeard}
use Rattle.sip_model.proofs.Lists.{all_append, all_map, all_weaker, all_contains, all_there}
use Rattle.sip_model.proofs.Apart.{TargetsDiffer, goes_to, differ_edited, differ_with_cancels}
use Rattle.sip_model.proofs.Cancels.{all_with_cancels}
use Rattle.sip_model.proofs.Finals.{IsHonest, IsMarked, IsOfSixteen, IsHonestRequest}
use Rattle.sip_model.proofs.Rising.{number_is}

-- what an open request is from its first moment: its key, the request, its source and its number
abbrev pub bare : OpenRequest → OpenRequest
bare r = record r { arrived_at = 0; answer = None; side = Closed; again = first_resend 0; finals = []; branches = [] }

-- what a branch is from its first moment: its number, its Request-URI and its address
abbrev pub bare_branch : Branch → Branch
bare_branch b = record b { is_cancel = false; wants_cancel = false; phase = Ended; final_to = None; again = first_resend 0 }

-- A branch was made from one of a request; one that is no CANCEL was made from one that is none, which was heard if this one is ready for a CANCEL. It is to be cancelled
-- only if the
-- request is an INVITE, and has the number of a target.
pub record IsBranchOf (server : Server) (state : ProxyState) (act : Act) (r : OpenRequest) (x : Branch) : Type 0 where
  pub branch : Branch
  pub there : Contains r.branches branch
  pub is_same : bare_branch x ≡ bare_branch branch
  pub is_target : x.is_cancel ≡ false → branch.is_cancel ≡ false
  pub is_marked : IsMarked r x
  pub is_of_sixteen : IsOfSixteen x
  pub was_heard : x.is_cancel ≡ false → is_ready x.phase ≡ true → WasHeard server state act r branch

-- a request is another one later on: its branches are those of that, or their CANCELs, no two go to one target, and its final answers are honest
pub record IsLater (server : Server) (history : List Link) (state : ProxyState) (act : Act) (r s : OpenRequest) : Type 0 where
  pub is_same : bare s ≡ bare r
  pub branches : AllByRecursion (IsBranchOf server state act r) s.branches
  pub differ : TargetsDiffer s.branches
  pub finals : AllByRecursion (IsHonest server history r.number) s.finals

-- a branch that is given this phase was heard if the phase is ready for a CANCEL
abbrev pub IsHeardIn : Server → ProxyState → Act → OpenRequest → Branch → Phase → Type 0
IsHeardIn server state act r b phase =
    (branch : Branch) → Contains r.branches branch → branch.is_cancel ≡ false → b.is_cancel ≡ false → branch.number ≡ b.number → is_ready phase ≡ true
    → WasHeard server state act r branch

-- of two lists, whichever
pub all_either : {X : Type 0} (P : X → Type 0) (t : Bool) (xs ys : List X) → AllByRecursion P xs → AllByRecursion P ys → AllByRecursion P (cond t xs ys)
all_either P true xs ys first second = first
all_either P false xs ys first second = second

-- two branches are one: their parts
pub same_parts : (s x b : Bool) → (s && cond x b (not b)) ≡ true → (s ≡ true) × (x ≡ b)
same_parts true true true e = (refl, refl)
same_parts true true false e = absurd (cc)
same_parts true false true e = absurd (cc)
same_parts true false false e = (refl, refl)
same_parts false x b e = absurd (cc)

-- of two that go where a branch goes, whichever
pub goes_either : (number : ℕ) (t : Bool) (x y z : Branch) → goes_to number x ≡ goes_to number z → goes_to number y ≡ goes_to number z
    → goes_to number (cond t x y) ≡ goes_to number z
goes_either number true x y z a b = a
goes_either number false x y z a b = b

module _ (server : Server) (state : ProxyState) (act : Act) (r : OpenRequest) where
  -- each branch of a request is one of it
  own_branches : AllByRecursion (IsMarked r) r.branches → AllByRecursion IsOfSixteen r.branches → AllByRecursion (IsBranchOf server state act r) r.branches
  own_branches marks numbers =
      all_weaker (Contains r.branches) (IsBranchOf server state act r)
      (λ b h. record {
        branch = b;
        there = h;
        is_same = refl;
        is_target = λ e. e;
        is_marked = all_contains (IsMarked r) r.branches b marks h;
        is_of_sixteen = all_contains IsOfSixteen r.branches b numbers h;
        was_heard = λ target ready. inl ready;
      }) r.branches (all_there r.branches)

  -- a change of each branch
  kept_branches : (edit : Branch → Branch) → ((x : Branch) → IsBranchOf server state act r x → IsBranchOf server state act r (edit x)) → (xs : List Branch)
      → AllByRecursion (IsBranchOf server state act r) xs
      → AllByRecursion (IsBranchOf server state act r) (map edit xs)
  kept_branches edit keeps xs h = all_map (IsBranchOf server state act r) edit xs (all_weaker (IsBranchOf server state act r)
      (λ x. IsBranchOf server state act r (edit x)) keeps xs h)

  -- a branch in another phase, if it is the one of that phase
  phased_branch : (b : Branch) (phase : Phase) → IsHeardIn server state act r b phase → (x : Branch) (t : Bool) → is_same_branch x b ≡ t → IsBranchOf server state act r x
      → IsBranchOf server state act r (cond t (turned b phase x) x)
  phased_branch b phase heard x true same h =
      let parts : ((x.number == b.number) ≡ true) × (x.is_cancel ≡ b.is_cancel) = same_parts (x.number == b.number) x.is_cancel b.is_cancel same in
      let number : h.branch.number ≡ b.number = ap (λ (y : Branch). y.number) (sym h.is_same) ∙ number_is x.number b.number parts.0 in
      record {
        branch = h.branch;
        there = h.there;
        is_same = h.is_same;
        is_target = h.is_target;
        is_marked = h.is_marked;
        is_of_sixteen = h.is_of_sixteen;
        was_heard = λ target ready. heard h.branch h.there (h.is_target target) (sym parts.1 ∙ target) number ready;
      }
  phased_branch b phase heard x false same h = h

  -- a branch that is to be cancelled, if it is one of several
  wanted_branch : is_invite r ≡ true → (x : Branch) (t : Bool) → IsBranchOf server state act r x
      → IsBranchOf server state act r (cond t (record x { wants_cancel = true }) x)
  wanted_branch invite x true h =
      record {
        branch = h.branch;
        there = h.there;
        is_same = h.is_same;
        is_target = h.is_target;
        is_marked = λ e. invite;
        is_of_sixteen = h.is_of_sixteen;
        was_heard = h.was_heard;
      }
  wanted_branch invite x false h = h

  -- a branch that was sent a CANCEL, if it is one of several
  cancelled_branch : (due : ℕ) (x : Branch) (t : Bool) → IsBranchOf server state act r x → IsBranchOf server state act r (cond t (record x { phase = Cancelled due }) x)
  cancelled_branch due x true h =
      record {
        branch = h.branch;
        there = h.there;
        is_same = h.is_same;
        is_target = h.is_target;
        is_marked = h.is_marked;
        is_of_sixteen = h.is_of_sixteen;
        was_heard = λ target ready. absurd (true≢false (sym ready));
      }
  cancelled_branch due x false h = h

  -- the CANCEL of a branch
  sent_branch : (now : ℕ) (x : Branch) → IsBranchOf server state act r x → IsBranchOf server state act r (cancel_branch now x)
  sent_branch now x h =
      record {
        branch = h.branch;
        there = h.there;
        is_same = h.is_same;
        is_target = λ e. absurd (true≢false e);
        is_marked = λ e. absurd (true≢false (sym e));
        is_of_sixteen = h.is_of_sixteen;
        was_heard = λ e. absurd (true≢false e);
      }

module _ (server : Server) (history : List Link) (state : ProxyState) (act : Act) (r : OpenRequest) where
  -- a request is itself later on
  pub later_itself : IsHonestRequest server history r → IsLater server history state act r r
  later_itself h = record { is_same = refl; branches = own_branches server state act r h.marks h.numbers; differ = h.differ; finals = h.finals }

  -- a branch that has a final answer or ended isn't ready for a CANCEL
  pub never : (b : Branch) (phase : Phase) → is_ready phase ≡ false → IsHeardIn server state act r b phase
  never b phase e = λ branch there target other number ready. absurd (true≢false (sym ready ∙ e))

  -- a request later on is honest
  pub later_honest : (s : OpenRequest) → IsLater server history state act r s → IsHonestRequest server history s
  later_honest s h =
      record {
        finals = subst (λ (q : OpenRequest). AllByRecursion (IsHonest server history q.number) s.finals) (sym h.is_same) h.finals;
        marks =
            all_weaker (IsBranchOf server state act r) (IsMarked s) (λ b own. subst (λ (q : OpenRequest). IsMarked q b) (sym h.is_same) own.is_marked) s.branches
            h.branches;
        differ = h.differ;
        numbers = all_weaker (IsBranchOf server state act r) IsOfSixteen (λ b own. own.is_of_sixteen) s.branches h.branches;
      }

  -- with a branch in another phase
  pub later_with_phase : (b : Branch) (phase : Phase) (s : OpenRequest) → IsHeardIn server state act r b phase → IsLater server history state act r s
      → IsLater server history state act r (with_phase b phase s)
  later_with_phase b phase s heard h =
      let edit : Branch → Branch = λ x. cond (is_same_branch x b) (turned b phase x) x in
      record {
        is_same = h.is_same;
        branches = kept_branches server state act r edit (λ x. phased_branch server state act r b phase heard x (is_same_branch x b) refl) s.branches h.branches;
        differ = differ_edited edit (λ number x. goes_either number (is_same_branch x b) (turned b phase x) x x refl refl) s.branches h.differ;
        finals = h.finals;
      }

  -- with one more honest answer
  later_with_final : (f : Final) (s : OpenRequest) → IsHonest server history r.number f → IsLater server history state act r s
      → IsLater server history state act r (with_final f s)
  later_with_final f s honest h =
      record {
        is_same = h.is_same;
        branches = h.branches;
        differ = h.differ;
        finals =
            all_either (IsHonest server history r.number) (is_answering s.side) (s.finals ++ f ∷ []) s.finals
            (all_append (IsHonest server history r.number) s.finals (f ∷ []) h.finals (honest, tt)) h.finals;
      }

  -- with some branches that are to be cancelled
  later_wanting : (test : Branch → Bool) (s : OpenRequest) → is_invite r ≡ true → IsLater server history state act r s
      → IsLater server history state act r (record s { branches = map (λ (x : Branch). cond (test x) (record x { wants_cancel = true }) x) s.branches })
  later_wanting test s invite h =
      let edit : Branch → Branch = λ x. cond (test x) (record x { wants_cancel = true }) x in
      record {
        is_same = h.is_same;
        branches = kept_branches server state act r edit (λ x. wanted_branch server state act r invite x (test x)) s.branches h.branches;
        differ = differ_edited edit (λ number x. goes_either number (test x) (record x { wants_cancel = true }) x x refl refl) s.branches h.differ;
        finals = h.finals;
      }

  -- a branch that is to be cancelled if a test fails
  unless_branch : is_invite r ≡ true → (x : Branch) (t : Bool) → IsBranchOf server state act r x
      → IsBranchOf server state act r (cond t x (record x { wants_cancel = true }))
  unless_branch invite x true h = h
  unless_branch invite x false h = wanted_branch server state act r invite x true h

  -- with its branches marked
  pub later_marked : (s : OpenRequest) → is_invite r ≡ true → IsLater server history state act r s → IsLater server history state act r (marked s)
  later_marked s invite h =
      let edit : Branch → Branch = λ x. cond (x.is_cancel || is_final x.phase) x (record x { wants_cancel = true }) in
      record {
        is_same = h.is_same;
        branches = kept_branches server state act r edit (λ x. unless_branch invite x (x.is_cancel || is_final x.phase)) s.branches h.branches;
        differ = differ_edited edit (λ number x. goes_either number (x.is_cancel || is_final x.phase) x (record x { wants_cancel = true }) x refl refl) s.branches
            h.differ;
        finals = h.finals;
      }

  -- with a branch given up
  pub later_given_up : (b : Branch) (status : ℕ) (s : OpenRequest) → ((status ≡ 403) → ⊥) → IsLater server history state act r s
      → IsLater server history state act r (given_up b status s)
  later_given_up b status s other h = later_with_final (record { status = status; message = None }) (with_phase b Ended s) other
      (later_with_phase b Ended s (never b Ended refl) h)

  -- with its search ended
  later_search_ended : (q : OpenRequest) (status : ℕ) (s : OpenRequest) → bare q ≡ bare r → IsLater server history state act r s
      → IsLater server history state act r (search_ended q status s)
  later_search_ended q status s same h = by_tests (is_invite q) refl (is_success status || is_decline status) where
    by_tests : (t : Bool) → is_invite q ≡ t → (u : Bool) → IsLater server history state act r (cond (t && u) (marked s) s)
    by_tests true invite true = later_marked s (ap is_invite (sym same) ∙ invite) h
    by_tests true invite false = h
    by_tests false invite u = h

  -- with the first final answer of a branch
  pub later_with_answer : (q : OpenRequest) (b : Branch) (now status : ℕ) (m : Message) → IsHonest server history r.number (final_of status m)
      → IsLater server history state act r q → IsLater server history state act r (with_answer q b now status m)
  later_with_answer q b now status m honest h =
      let phase : Phase = Done (now + linger q) status in
      let told : Branch = told_to q b status m in
      later_search_ended q status (with_final (final_of status m) (with_phase told phase q)) h.is_same
      (later_with_final (final_of status m) (with_phase told phase q) honest (later_with_phase told phase q (never told phase refl) h))

  -- once an answer went to the caller
  later_answered : (now : ℕ) (u : Upward) (s : OpenRequest) → IsLater server history state act r s → IsLater server history state act r (answered now u s)
  later_answered now u s h =
      record {
        is_same = h.is_same;
        branches = h.branches;
        differ = h.differ;
        finals =
            all_either (IsHonest server history r.number) (is_provisional u.status) s.finals [] h.finals tt;
      }

  -- once one went, if one did
  pub later_after_upward : (now : ℕ) (o : Option Upward) (s : OpenRequest) → IsLater server history state act r s
      → IsLater server history state act r (after_upward now o s)
  later_after_upward now None s h = h
  later_after_upward now (Some u) s h = later_answered now u s h

  -- once several went
  pub later_tried : (now : ℕ) (us : List Upward) (s : OpenRequest) → IsLater server history state act r s → IsLater server history state act r (tried now us s)
  later_tried now [] s h = h
  later_tried now (u ∷ us) s h = later_tried now us (answered now u s) (later_answered now u s h)

  -- with its answering side in another phase
  pub later_with_side : (side : Side) (s : OpenRequest) → IsLater server history state act r s → IsLater server history state act r (record s { side = side })
  later_with_side side s h = record { is_same = h.is_same; branches = h.branches; differ = h.differ; finals = h.finals }

  -- once its answer was acknowledged
  pub later_acknowledged : (now : ℕ) (s : OpenRequest) → IsLater server history state act r s → IsLater server history state act r (acknowledged now s)
  later_acknowledged now s h = by_test (is_invite s && was_refused s.answer) where
    by_test : (t : Bool) → IsLater server history state act r (cond t (record s { side = acknowledged_side now s.side }) s)
    by_test true = later_with_side (acknowledged_side now s.side) s h
    by_test false = h

  -- with the CANCELs of its branches
  pub later_with_cancels : (now : ℕ) (s : OpenRequest) → IsLater server history state act r s → IsLater server history state act r (with_cancels now s)
  later_with_cancels now s h =
      record {
        is_same = h.is_same;
        branches =
            all_with_cancels (IsBranchOf server state act r) (IsBranchOf server state act r) now s.branches (λ b own. own)
            (λ b own. cancelled_branch server state act r (now + 32000) b true own)
            (λ b own. sent_branch server state act r now b own) h.branches;
        differ = differ_with_cancels now s.branches h.differ;
        finals = h.finals;
      }

  -- past the deadline of a branch
  pub later_overdue : (b : Branch) (s : OpenRequest) → IsLater server history state act r s → IsLater server history state act r (branch_overdue s b)
  later_overdue b s h = by_test b.is_cancel where
    heard : (t : Bool) → is_invite s ≡ t
        → IsLater server history state act r (cond t (record s {
          branches = map (λ (x : Branch). cond (is_same_branch x b) (record x { wants_cancel = true }) x)
              s.branches;
        }) (given_up b 408 s))
    heard true invite = later_wanting (λ x. is_same_branch x b) s (ap is_invite (sym h.is_same) ∙ invite) h
    heard false invite = later_given_up b 408 s (λ e. omega arith) h

    by_phase : (phase : Phase) → IsLater server history state act r (target_overdue s b phase)
    by_phase (Unheard due) = later_given_up b 408 s (λ e. omega arith) h
    by_phase (Heard due) = heard (is_invite s) refl
    by_phase (Cancelled due) = later_given_up b 487 s (λ e. omega arith) h
    by_phase (Done due f) = later_with_phase b Ended s (never b Ended refl) h
    by_phase Ended = h

    by_test : (t : Bool) → IsLater server history state act r (cond t (with_phase b Ended s) (target_overdue s b b.phase))
    by_test true = later_with_phase b Ended s (never b Ended refl) h
    by_test false = by_phase b.phase

  -- with another moment at which a branch goes again
  resent_branch : (x : Branch) (t : Bool) (again : Resend) → IsBranchOf server state act r x → IsBranchOf server state act r (cond t (record x { again = again }) x)
  resent_branch x true again h = record {
    branch = h.branch;
    there = h.there;
    is_same = h.is_same;
    is_target = h.is_target;
    is_marked = h.is_marked;
    is_of_sixteen = h.is_of_sixteen;
    was_heard = h.was_heard;
  }
  resent_branch x false again h = h

  -- once something of it went again
  pub later_resent : (due : ℕ) (packets : List Packet) (next s : OpenRequest) → IsResent server due s packets next → IsLater server history state act r s
      → IsLater server history state act r next
  later_resent due _ _ s (OfAnswer is) h = record { is_same = h.is_same; branches = h.branches; differ = h.differ; finals = h.finals }
  later_resent due _ _ s (OfRequest b there is) h =
      let edit : Branch → Branch = λ x. cond (is_same_branch x b) (record x { again = branch_next s b }) x in
      record {
        is_same = h.is_same;
        branches = kept_branches server state act r edit (λ x. resent_branch x (is_same_branch x b) (branch_next s b)) s.branches h.branches;
        differ = differ_edited edit (λ number x. goes_either number (is_same_branch x b) (record x { again = branch_next s b }) x x refl refl) s.branches h.differ;
        finals = h.finals;
      }
