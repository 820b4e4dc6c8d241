-- What an open request owes at what happens to it is among what its change sends.
use Rattle.std.proofs.Common.{◌≡◌, ℕ, ◌+◌, ◌==◌, Bool, true, false, not, ◌&&◌, ◌||◌, cond, [], ◌∷◌, ◌++◌, Contains, Some, None, refl, ap, ◌∙◌, arith}
use Rattle.std.proofs.lemmas.Bool.Decides.{nat_tests}
use Rattle.sip_message_fields.specs.declared.field_name.FieldName.TheVariants as Name
use Rattle.sip_message_fields.specs.Values.{first_value}
use Rattle.sip_message_form.specs.declared.message.Message.{Message}
use Rattle.sip_message_form.specs.Text.{text_of}
use Rattle.sip_edit.specs.OwnVia.{without_top_via}
use Rattle.sip_best.specs.declared.final_answer.Final.{Final}
use Rattle.sip_best.specs.Best.{best_of}
use Rattle.sip_event.specs.declared.packet.Packet.{Packet}
use Rattle.model_steps.specs.state.declared.server.Server.{Server}
use Rattle.model_steps.specs.state.declared.branch.Branch.{Branch}
use Rattle.model_steps.specs.state.declared.branch.Phase.{Phase}
use Rattle.model_steps.specs.state.declared.branch.Phase.TheVariants.{Unheard, Heard, Cancelled, Done, Ended}
use Rattle.model_steps.specs.state.declared.open_request.OpenRequest.{OpenRequest}
use Rattle.model_steps.specs.state.State.{is_invite, is_final, is_answering, is_success, is_failure, is_decline, is_provisional}
use Rattle.model_steps.specs.context_model.Branches.{Change, upward_of, is_cancellable, is_ready, is_unheard, is_same_branch, is_accepted, settled, relayed_from}
use Rattle.model_steps.specs.context_model.Branches.{relayed_provisional, relayed_success, further, turned, phased, with_phase, with_final, marked, marked_branch}
use Rattle.model_steps.specs.context_model.Branches.{given_up, heard, invite_heard, other_heard, linger, final_of, acks_of, told_to, with_answer, cancel_responded}
use Rattle.model_steps.specs.context_model.Branches.{responded, cancelled}
use Rattle.model_steps.specs.context_model.Sending.{answer_to, ack_packets}
use Rattle.model_steps.specs.Effect.{change_packets}
use Rattle.sip_model.specs.Access.{IsPassedOn, Early, Accepting, TakesSuccess, OthersEnded}
use Rattle.sip_model.proofs.Later.{bare_branch}
use Rattle.sip_model.proofs.Settled.{IsBetween, cancel_packets}
use Rattle.sip_model.proofs.SettledSends.{sends_ack, sends_relayed, sends_best, sends_cancel}
use Rattle.sip_model.proofs.Edits.{Edits, phased_edits, marked_edits, map_same, map_both, targets_final, all_now}
use Rattle.sip_model.proofs.Sendings.{success_final}
use Rattle.sip_model.proofs.Places.{same_number}

-- ---- tests

-- a status of 300 and above isn't provisional
failure_final : (status : ℕ) → is_failure status ≡ true → is_provisional status ≡ false
failure_final status e = grind (arith, nat_tests)

-- another number
other_number : (m n : ℕ) → ((m ≡ n) → ⊥) → (m == n) ≡ false
other_number m n never = by_test (m == n) refl where
  by_test : (t : Bool) → (m == n) ≡ t → (m == n) ≡ false
  by_test true is = let same : m ≡ n = grind (arith, nat_tests) in absurd (never same)
  by_test false is = is

-- a branch is the same as itself
pub same_itself : (b : Branch) → is_same_branch b b ≡ true
same_itself b = by_tests (b.number == b.number) b.is_cancel (same_number b.number b.number refl) where
  by_tests : (s t : Bool) → s ≡ true → (s && cond t t (not t)) ≡ true
  by_tests true true is = refl
  by_tests true false is = refl
  by_tests false t is = absurd (cc)

-- three tests
three_hold : (x y z : Bool) → x ≡ false → y ≡ true → z ≡ true → (not x && y && z) ≡ true
three_hold false true true e f g = refl
three_hold true y z e f g = absurd (cc)
three_hold false false z e f g = absurd (cc)
three_hold false true false e f g = absurd (cc)

-- one that is ready has no final response
ready_open : (phase : Phase) → is_ready phase ≡ true → is_final phase ≡ false
ready_open (Unheard due) e = absurd (cc)
ready_open (Heard due) e = refl
ready_open (Cancelled due) e = absurd (cc)
ready_open (Done due status) e = absurd (cc)
ready_open Ended e = absurd (cc)

-- one that is heard for the first time is ready
heard_now : (invite : Bool) (now status : ℕ) (phase : Phase) → is_unheard phase ≡ true → is_ready (cond invite (invite_heard now status phase) (other_heard phase)) ≡ true
heard_now true now status (Unheard due) e = by_test (status == 100) where
  by_test : (t : Bool) → is_ready (cond t (Heard (due + 153000)) (Heard (now + 185000))) ≡ true
  by_test true = refl
  by_test false = refl
heard_now false now status (Unheard due) e = refl
heard_now invite now status (Heard due) e = absurd (cc)
heard_now invite now status (Cancelled due) e = absurd (cc)
heard_now invite now status (Done due first) e = absurd (cc)
heard_now invite now status Ended e = absurd (cc)

-- a branch that is to be cancelled is ready for its CANCEL, where it was heard
pub wanted_ready : (b : Branch) → b.is_cancel ≡ false → is_ready b.phase ≡ true → is_cancellable (record b { wants_cancel = true }) ≡ true
wanted_ready b target ready = three_hold b.is_cancel true (is_ready b.phase) target refl ready

pub marked_ready : (b : Branch) → b.is_cancel ≡ false → is_ready b.phase ≡ true → is_cancellable (marked_branch b) ≡ true
marked_ready b target ready = by_tests b.is_cancel (is_final b.phase) target (ready_open b.phase ready) where
  by_tests : (t u : Bool) → t ≡ false → u ≡ false → is_cancellable (cond (t || u) b (record b { wants_cancel = true })) ≡ true
  by_tests false false e f = wanted_ready b target ready
  by_tests true u e f = absurd (cc)
  by_tests false true e f = absurd (cc)

-- marking leaves the phase
marked_phase : (b : Branch) → (marked_branch b).phase ≡ b.phase
marked_phase b = by_test (b.is_cancel || is_final b.phase) where
  by_test : (t : Bool) → (cond t b (record b { wants_cancel = true })).phase ≡ b.phase
  by_test true = refl
  by_test false = refl

-- ---- edits of a request

-- a request that stays as it is
pub unchanged : (r : OpenRequest) → IsBetween r r (λ (x : Branch). x)
unchanged r = record { is_same = refl; branches = map_same r.branches; goes = λ x. refl; keeps = λ x. refl }

-- one with a branch in another phase
pub with_phase_between : (b : Branch) (phase : Phase) (r : OpenRequest) → IsBetween r (with_phase b phase r) (phased b phase)
with_phase_between b phase r = let edits : Edits b (phased b phase) = phased_edits b b phase (λ x. refl) in
    record { is_same = refl; branches = refl; goes = edits.goes; keeps = edits.keeps }

-- one whose branches are all to be cancelled
marked_between : (r : OpenRequest) → IsBetween r (marked r) marked_branch
marked_between r = record {
  is_same = refl;
  branches = refl;
  goes = λ x. goes x (x.is_cancel || is_final x.phase);
  keeps = λ x. keeps x (x.is_cancel || is_final x.phase);
} where
  goes : (x : Branch) (t : Bool) → bare_branch (cond t x (record x { wants_cancel = true })) ≡ bare_branch x
  goes x true = refl
  goes x false = refl

  keeps : (x : Branch) (t : Bool) → (cond t x (record x { wants_cancel = true })).is_cancel ≡ x.is_cancel
  keeps x true = refl
  keeps x false = refl

-- the branch itself, in its new phase
phased_itself : (b : Branch) (phase : Phase) → phased b phase b ≡ turned b phase b
phased_itself b phase = by_test (is_same_branch b b) (same_itself b) where
  by_test : (t : Bool) → t ≡ true → cond t (turned b phase b) b ≡ turned b phase b
  by_test true e = refl
  by_test false e = absurd (cc)

-- ---- one of several changes

module _ (p : Packet) (x y z w : Change) where
  -- the first
  pub first_of : (c t u : Bool) → c ≡ false → t ≡ true → Contains (change_packets y) p → Contains (change_packets (cond c x (cond t y (cond u z w)))) p
  first_of false true u e f has = has
  first_of true t u e f has = absurd (cc)
  first_of false false u e f has = absurd (cc)

  -- the second
  pub second_of : (c t u : Bool) → c ≡ false → t ≡ false → u ≡ true → Contains (change_packets z) p → Contains (change_packets (cond c x (cond t y (cond u z w)))) p
  second_of false false true e f g has = has
  second_of true t u e f g has = absurd (cc)
  second_of false true u e f g has = absurd (cc)
  second_of false false false e f g has = absurd (cc)

  -- the third
  pub third_of : (c t u : Bool) → c ≡ false → t ≡ false → u ≡ false → Contains (change_packets w) p → Contains (change_packets (cond c x (cond t y (cond u z w)))) p
  third_of false false false e f g has = has
  third_of true t u e f g has = absurd (cc)
  third_of false true u e f g has = absurd (cc)
  third_of false false true e f g has = absurd (cc)

-- ---- a branch ends without a response

module _ (server : Server) (now : ℕ) (r : OpenRequest) (b : Branch) (status : ℕ) where
  -- the best answer goes up as the last of them ends
  pub given_up_pays : (best : Final) → OthersEnded r b → is_answering r.side ≡ true → best_of (r.finals ++ record { status = status; message = None } ∷ []) ≡ Some best
      → Contains (change_packets (settled server now [] None (given_up b status r))) (answer_to false r (text_of (upward_of server r best).message))
  given_up_pays best others answering found =
      sends_best server now r (given_up b status r) [] None (phased b Ended) (record { is_same = refl; branches = refl; goes = edits.goes; keeps = edits.keeps }) refl
      best answering
      (all_now b (phased b Ended) edits (λ x same. ends x (is_same_branch x b) same) r.branches others) (ap best_of kept ∙ found) where
        edits : Edits b (phased b Ended)
        edits = phased_edits b b Ended (λ x. refl)

        ends : (x : Branch) (t : Bool) → t ≡ true → is_final (cond t (turned b Ended x) x).phase ≡ true
        ends x true e = refl
        ends x false e = absurd (cc)

        kept : (given_up b status r).finals ≡ r.finals ++ record { status = status; message = None } ∷ []
        kept = ap (λ (t : Bool). cond t (r.finals ++ record { status = status; message = None } ∷ []) r.finals) answering

-- ---- a response is taken

module _ (server : Server) (now : ℕ) (r : OpenRequest) (b : Branch) (status : ℕ) (m : Message) where
  -- what a response to it does
  abbrev Pays : Packet → Type 0
  Pays p = Contains (change_packets (responded server now r b status m)) p

  abbrev early : Change
  early = settled server now [] (relayed_provisional r b status m) (with_phase b (heard r now status b.phase) r)

  abbrev again : Change
  again = settled server now [] (further r b b.phase status m) r

  abbrev answered_first : Change
  answered_first = settled server now (acks_of server r b status m) (relayed_success r b status m) (with_answer r b now status m)

  module _ (target : b.is_cancel ≡ false) where
    early_pays : (p : Packet) → is_provisional status ≡ true → Contains (change_packets early) p → Pays p
    early_pays p is has = first_of p (cancel_responded server now r b status m) early again answered_first b.is_cancel (is_provisional status) (is_final b.phase) target
        is has

    again_pays : (p : Packet) → is_provisional status ≡ false → is_final b.phase ≡ true → Contains (change_packets again) p → Pays p
    again_pays p late final has = second_of p (cancel_responded server now r b status m) early again answered_first b.is_cancel (is_provisional status) (is_final b.phase)
        target late final has

    first_pays : (p : Packet) → is_provisional status ≡ false → is_final b.phase ≡ false → Contains (change_packets answered_first) p → Pays p
    first_pays p late first has = third_of p (cancel_responded server now r b status m) early again answered_first b.is_cancel (is_provisional status) (is_final b.phase)
        target late first has

    -- ---- a provisional one

    -- it goes to the caller
    early_goes : is_provisional status ≡ true → ((status ≡ 100) → ⊥) → is_final b.phase ≡ false → is_answering r.side ≡ true
        → Pays (answer_to false r (text_of (without_top_via m)))
    early_goes is other first answering =
        early_pays (answer_to false r (text_of (without_top_via m))) is
        (sends_relayed server now r (with_phase b (heard r now status b.phase) r) [] (relayed_provisional r b status m) (phased b (heard r now status b.phase))
        (with_phase_between b (heard r now status b.phase) r) (relayed_from b status m)
        (by_tests (status == 100) (is_final b.phase) (is_answering r.side) (other_number status 100 other) first answering)) where
          by_tests : (x y z : Bool) → x ≡ false → y ≡ false → z ≡ true → cond (not x && not y && z) (Some (relayed_from b status m)) None ≡ Some (relayed_from b status m)
          by_tests false false true e f g = refl
          by_tests true y z e f g = absurd (cc)
          by_tests false true z e f g = absurd (cc)
          by_tests false false false e f g = absurd (cc)

    -- the CANCEL that waited goes
    pub heard_cancels : is_provisional status ≡ true → Contains r.branches b → b.wants_cancel ≡ true → is_unheard b.phase ≡ true → (p : Packet)
        → Contains (cancel_packets server r b) p → Pays p
    heard_cancels is there wants unheard p has =
        early_pays p is
        (sends_cancel server now r (with_phase b (heard r now status b.phase) r) [] (relayed_provisional r b status m) (phased b (heard r now status b.phase))
        (with_phase_between b (heard r now status b.phase) r) b there
        (ap is_cancellable (phased_itself b (heard r now status b.phase)) ∙ three_hold b.is_cancel b.wants_cancel (is_ready (heard r now status b.phase)) target wants
        (heard_now (is_invite r) now status b.phase unheard)) p has)

    -- ---- the first final one

    abbrev told : Branch
    told = told_to r b status m

    abbrev phase : Phase
    phase = Done (now + linger r) status

    abbrev between : OpenRequest
    between = with_final (final_of status m) (with_phase told phase r)

    abbrev edit : Bool → Branch → Branch
    edit t x = cond t (marked_branch (phased told phase x)) (phased told phase x)

    abbrev ends_search : Bool
    ends_search = is_invite r && (is_success status || is_decline status)

    edits : (t : Bool) → Edits b (edit t)
    edits t = marked_edits b (phased told phase) t (phased_edits b told phase (λ x. refl))

    is_between : (t : Bool) → IsBetween r (cond t (marked between) between) (edit t)
    is_between true = record { is_same = refl; branches = map_both marked_branch (phased told phase) r.branches; goes = (edits true).goes; keeps = (edits true).keeps }
    is_between false = record { is_same = refl; branches = refl; goes = (edits false).goes; keeps = (edits false).keeps }

    -- its ACK
    pub ack_goes : is_invite r ≡ true → is_failure status ≡ true → is_final b.phase ≡ false → (p : Packet)
        → Contains (ack_packets server false r b (first_value Name.To m.fields)) p → Pays p
    ack_goes invite failure first p has =
        first_pays p (failure_final status failure) first
        (sends_ack server now r (with_answer r b now status m) (acks_of server r b status m) (relayed_success r b status m) (edit ends_search) (is_between ends_search) p
        (by_tests (is_invite r) (is_failure status) invite failure)) where
          by_tests : (x y : Bool) → x ≡ true → y ≡ true → Contains (cond (x && y) (ack_packets server false r b (first_value Name.To m.fields)) []) p
          by_tests true true e f = has
          by_tests true false e f = absurd (cc)
          by_tests false y e f = absurd (cc)

    -- a 2xx goes to the caller
    success_is : is_success status ≡ true → (is_answering r.side || is_accepted r) ≡ true → relayed_success r b status m ≡ Some (relayed_from b status m)
    success_is success owes = by_tests (is_success status) (is_answering r.side || is_accepted r) success owes where
      by_tests : (x y : Bool) → x ≡ true → y ≡ true → cond (x && y) (Some (relayed_from b status m)) None ≡ Some (relayed_from b status m)
      by_tests true true e f = refl
      by_tests true false e f = absurd (cc)
      by_tests false y e f = absurd (cc)

    first_success : is_success status ≡ true → (is_answering r.side || is_accepted r) ≡ true → is_final b.phase ≡ false
        → Pays (answer_to false r (text_of (without_top_via m)))
    first_success success owes first =
        first_pays (answer_to false r (text_of (without_top_via m))) (success_final status success) first
        (sends_relayed server now r (with_answer r b now status m) (acks_of server r b status m) (relayed_success r b status m) (edit ends_search)
        (is_between ends_search) (relayed_from b status m) (success_is success owes))

    further_success : is_success status ≡ true → (is_answering r.side || is_accepted r) ≡ true → (due first : ℕ) → b.phase ≡ Done due first → is_invite r ≡ true
        → is_success first ≡ true
        → Pays (answer_to false r (text_of (without_top_via m)))
    further_success success owes due first is invite well =
        again_pays (answer_to false r (text_of (without_top_via m))) (success_final status success) (ap is_final is)
        (sends_relayed server now r r [] (further r b b.phase status m) (λ (x : Branch). x) (unchanged r) (relayed_from b status m)
        (ap (λ (phase : Phase). further r b phase status m) is ∙ by_tests (is_invite r) (is_success first) invite well ∙ success_is success owes)) where
          by_tests : (x y : Bool) → x ≡ true → y ≡ true → cond (x && y) (relayed_success r b status m) None ≡ relayed_success r b status m
          by_tests true true e f = refl
          by_tests true false e f = absurd (cc)
          by_tests false y e f = absurd (cc)

    success_goes : is_success status ≡ true → (is_answering r.side || is_accepted r) ≡ true → (phase : Phase) → b.phase ≡ phase → TakesSuccess r phase
        → Pays (answer_to false r (text_of (without_top_via m)))
    success_goes success owes (Unheard due) is takes = first_success success owes (ap is_final is)
    success_goes success owes (Heard due) is takes = first_success success owes (ap is_final is)
    success_goes success owes (Cancelled due) is takes = first_success success owes (ap is_final is)
    success_goes success owes (Done due first) is takes = further_success success owes due first is takes.0 takes.1
    success_goes success owes Ended is takes = absurd takes

    -- whatever is passed on at once
    pub passed_goes : IsPassedOn r b status → Pays (answer_to false r (text_of (without_top_via m)))
    passed_goes (Early is other first answering) = early_goes is other first answering
    passed_goes (Accepting success takes owes) = success_goes success owes b.phase refl takes

    -- the best answer, as the last branch ends
    pub best_goes : is_provisional status ≡ false → is_success status ≡ false → is_final b.phase ≡ false → (best : Final) → OthersEnded r b → is_answering r.side ≡ true
        → best_of (r.finals ++ final_of status m ∷ []) ≡ Some best → Pays (answer_to false r (text_of (upward_of server r best).message))
    best_goes late no_success first best others answering found =
        first_pays (answer_to false r (text_of (upward_of server r best).message)) late first
        (sends_best server now r (with_answer r b now status m) (acks_of server r b status m) (relayed_success r b status m) (edit ends_search) (is_between ends_search)
        (by_test (is_success status) no_success) best (side ends_search ∙ answering)
        (ap targets_final (is_between ends_search).branches ∙ all_now b (edit ends_search) (edits ends_search) (λ x same. ends ends_search x (is_same_branch x told) same)
        r.branches others)
        (ap best_of (finals ends_search) ∙ found)) where
          by_test : (x : Bool) → x ≡ false → cond (x && (is_answering r.side || is_accepted r)) (Some (relayed_from b status m)) None ≡ None
          by_test true e = absurd (cc)
          by_test false e = refl

          side : (t : Bool) → is_answering (cond t (marked between) between).side ≡ is_answering r.side
          side true = refl
          side false = refl

          ends : (t : Bool) (x : Branch) (u : Bool) → u ≡ true → is_final (cond t (marked_branch (cond u (turned told phase x) x)) (cond u (turned told phase x) x)).phase
              ≡ true
          ends true x true e = ap is_final (marked_phase (turned told phase x))
          ends false x true e = refl
          ends t x false e = absurd (cc)

          finals : (t : Bool) → (cond t (marked between) between).finals ≡ r.finals ++ final_of status m ∷ []
          finals true = ap (λ (v : Bool). cond v (r.finals ++ final_of status m ∷ []) r.finals) answering
          finals false = ap (λ (v : Bool). cond v (r.finals ++ final_of status m ∷ []) r.finals) answering

    -- the CANCEL of another branch, by a 2xx or 6xx
    pub another_cancels : is_final b.phase ≡ false → is_invite r ≡ true → (is_success status || is_decline status) ≡ true → (x : Branch) → Contains r.branches x
        → x.is_cancel ≡ false → is_same_branch x b ≡ false → is_ready x.phase ≡ true
        → (p : Packet) → Contains (cancel_packets server r x) p → Pays p
    another_cancels first invite ends x there kind other ready p has =
        first_pays p (late (is_success status) refl ends) first
        (sends_cancel server now r (with_answer r b now status m) (acks_of server r b status m) (relayed_success r b status m) (edit ends_search) (is_between ends_search)
        x there
        (by_search ends_search (both (is_invite r) (is_success status || is_decline status) invite ends) (is_same_branch x told) other) p has) where
          late : (t : Bool) → is_success status ≡ t → (t || is_decline status) ≡ true → is_provisional status ≡ false
          late true success e = success_final status success
          late false success e = grind (arith, nat_tests)

          both : (t u : Bool) → t ≡ true → u ≡ true → (t && u) ≡ true
          both true true e f = refl
          both true false e f = absurd (cc)
          both false u e f = absurd (cc)

          by_search : (t : Bool) → t ≡ true → (u : Bool) → u ≡ false → is_cancellable
              (cond t (marked_branch (cond u (turned told phase x) x)) (cond u (turned told phase x) x)) ≡ true
          by_search true e false f = marked_ready x kind ready
          by_search true e true f = absurd (cc)
          by_search false e u f = absurd (cc)

-- ---- the caller's CANCEL

-- it cancels each branch that was heard
pub caller_cancels : (server : Server) (now : ℕ) (r : OpenRequest) (b : Branch) → Contains r.branches b → b.is_cancel ≡ false → is_invite r ≡ true
    → is_answering r.side ≡ true → is_ready b.phase ≡ true
    → (p : Packet) → Contains (cancel_packets server r b) p → Contains (change_packets (cancelled server now r)) p
caller_cancels server now r b there target invite answering ready p has = by_tests (is_invite r) (is_answering r.side) invite answering where
  by_tests : (x y : Bool) → x ≡ true → y ≡ true → Contains (change_packets (settled server now [] None (cond (x && y) (marked r) r))) p
  by_tests true true e f = sends_cancel server now r (marked r) [] None marked_branch (marked_between r) b there (marked_ready b target ready) p has
  by_tests true false e f = absurd (cc)
  by_tests false y e f = absurd (cc)
