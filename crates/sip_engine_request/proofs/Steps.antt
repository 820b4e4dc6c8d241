-- What a step that leaves this does of the model's effect.
use Rattle.std.proofs.Common.{◌≡◌, ◌∙◌, ℕ, ◌≤◌, ◌⊎◌, inl, inr, Bool, true, false, ◌&&◌, cond, List, [], ◌∷◌, map, slice_get, zero, suc, Contains, Option, Some, None}
use Rattle.std.proofs.Common.{refl, sym, ap, subst, arith}
use Rattle.std.specs.List.{list_all}
use Rattle.std.proofs.lemmas.Option.{slice_get-get_or}
use Rattle.sip_event.specs.declared.event.StepOut.{StepOut}
use Rattle.sip_event.specs.declared.packet.Packet.{Packet}
use Rattle.sip_proxy.specs.Drafts.{IsDrafted}
use Rattle.sip_proxy.specs.Proxy.{Becomes}
use Rattle.sip_proxy.specs.context_model.Branches.{Change, is_closing, is_same_branch, overdue, side_overdue, was_refused}
use Rattle.sip_proxy.specs.context_model.Sending.{branch_packets}
use Rattle.sip_proxy.specs.declared.drafting.EventDraft.{EventDraft}
use Rattle.sip_dialog.specs.Sameness.{SameDialogs}
use Rattle.sip_dialog.specs.Dialogs.{after_invite}
use Rattle.sip_dialog.specs.declared.dialog.Dialog.{Dialog}
use Rattle.sip_proxy.specs.fork.Due.{GoesAgainBefore, IsOfOwner}
use Rattle.sip_proxy.specs.fork.declared.first_due.Due.{Due}
use Rattle.sip_proxy.specs.forwarding.Forwarding.{AreSent, Teach}
use Rattle.sip_hops.specs.declared.host_address.HostAddress.{HostAddress}
use Rattle.sip_proxy.specs.context.declared.input.Input.{Input}
use Rattle.sip_proxy.specs.context.declared.input.Input.TheVariants.{Response, BranchDeadline, SideDeadline, SendFault, Cancel, Ack, BranchAgain, AnswerAgain}
use Rattle.sip_dialog_updates.specs.DialogUpdates.{after_updates}
use Rattle.sip_dialog_updates.specs.declared.dialog_update.DialogUpdate.{DialogUpdate}
use Rattle.sip_location.specs.Binding.{live}
use Rattle.sip_location.specs.Sameness.{SameBindings}
use Rattle.sip_location.specs.declared.binding.Binding.{Binding}
use Rattle.sip_proxy.specs.steps_model.Effect.{changed, dialogs_after, nothing, replaced}
use Rattle.sip_proxy.specs.steps_model.Step.{Does, IsDeadline, IsQuiet, IsResend, IsTime, NoneAgainBefore, NoneAgainBy, NoneBefore, NoneBy, moment_of, originals, resent}
use Rattle.sip_proxy.specs.steps_model.Step.{retransmissions, OfSide, OfBranch}
use Rattle.sip_proxy.specs.context_model.Retransmission.{OfAnswer, OfRequest, answer_due, answer_next, answers_again, branch_due, branch_next, goes_again, insists}
use Rattle.sip_proxy.specs.context_model.Retransmission.{is_cancelled_again, is_sent_again, resent_branch, with_resend}
use Rattle.sip_dialog_updates.specs.state.SameState.{SameState}
use Rattle.sip_dialog_updates.specs.state.State.{has_left, is_closed, is_ended, is_invite}
use Rattle.sip_dialog_updates.specs.state.declared.branch.Branch.{Branch}
use Rattle.sip_dialog_updates.specs.state.declared.branch.Phase.{Phase}
use Rattle.sip_dialog_updates.specs.state.declared.branch.Phase.TheVariants.{Unheard, Heard, Cancelled, Done, Ended}
use Rattle.sip_dialog_updates.specs.state.declared.open_request.OpenRequest.{OpenRequest}
use Rattle.sip_dialog_updates.specs.state.declared.open_request.Side.{Side}
use Rattle.sip_dialog_updates.specs.state.declared.open_request.Side.TheVariants.{Answering, Closing, Acknowledged, Closed}
use Rattle.sip_dialog_updates.specs.state.declared.proxy_state.ProxyState.{ProxyState}
use Rattle.sip_dialog_updates.specs.state.declared.resend.Resend.{Resend}
use Rattle.sip_dialog_updates.specs.state.declared.server.Server.{Server}
use Rattle.sip_timers.specs.declared.timer.Timer.{Timer}
use Rattle.sip_engine_request.specs.TimeSteps.{IsDraftOf, IsDueAs, IsFired, IsLastOf, IsOfPart, Leaves}
use Rattle.sip_engine_request.specs.Timers.{IsOfTimer}

-- ---- what goes again stays open

-- a request whose answering side hasn't ended stays open
side_open : (side : Side) (others : Bool) → is_closing side ≡ true → (is_closed side && others) ≡ false
side_open Answering others is = absurd (cc)
side_open (Closing due) others is = refl
side_open (Acknowledged due) others is = absurd (cc)
side_open Closed others is = absurd (cc)

-- a test that a moment hangs on was passed
was_true : (t : Bool) (moment due : ℕ) → cond {A = Option ℕ} t (Some moment) None ≡ Some due → t ≡ true
was_true true moment due is = refl
was_true false moment due is = absurd (cc)

both_true : (s t u : Bool) → (s && t && u) ≡ true → t ≡ true
both_true true true u is = refl
both_true true false u is = absurd (cc)
both_true false t u is = absurd (cc)

-- what is left where neither test lets anything else be
stays_for : (a b : Bool) (x y : List Dialog) → b ≡ false → cond (a && b) x y ≡ y
stays_for true b x y e = ap (λ (t : Bool). cond t x y) e
stays_for false b x y e = refl

pub answer_stays : (r : OpenRequest) (due : ℕ) → answer_due r ≡ Some due → has_left (record r { again = answer_next r }) ≡ false
answer_stays r due is =
    side_open r.side (list_all (λ (b : Branch). is_ended b.phase) r.branches)
    (both_true (is_invite r) (is_closing r.side) (was_refused r.answer) (was_true (insists r) r.again.due due is))

-- what goes again has not ended
cancel_lives : (phase : Phase) → is_cancelled_again phase ≡ true → is_ended phase ≡ false
cancel_lives (Unheard due) is = refl
cancel_lives (Heard due) is = refl
cancel_lives (Cancelled due) is = refl
cancel_lives (Done due status) is = refl
cancel_lives Ended is = absurd (cc)

request_lives : (invite : Bool) (phase : Phase) → is_sent_again invite phase ≡ true → is_ended phase ≡ false
request_lives invite (Unheard due) is = refl
request_lives invite (Heard due) is = refl
request_lives invite (Cancelled due) is = refl
request_lives invite (Done due status) is = refl
request_lives invite Ended is = absurd (cc)

lives : (cancel invite : Bool) (phase : Phase) → cond cancel (is_cancelled_again phase) (is_sent_again invite phase) ≡ true → is_ended phase ≡ false
lives true invite phase is = cancel_lives phase is
lives false invite phase is = request_lives invite phase is

-- where one element fails a test, not all pass it, also after a change that leaves the test of each
module _ {X : Type 0} (test : X → Bool) (f : X → X) (same : (x : X) → test (f x) ≡ test x) where
  head_fails : (t u : Bool) → t ≡ false → (t && u) ≡ false
  head_fails true u is = absurd (cc)
  head_fails false u is = refl

  tail_fails : (t u : Bool) → u ≡ false → (t && u) ≡ false
  tail_fails true u is = is
  tail_fails false u is = refl

  not_all : (xs : List X) (k : ℕ) (x : X) → slice_get xs k ≡ Some x → test x ≡ false → list_all test (map f xs) ≡ false
  not_all [] k x at fails = absurd (cc)
  not_all (y ∷ ys) zero x at fails =
      let here : y ≡ x = cc in
      head_fails (test (f y)) (list_all test (map f ys)) (same y ∙ ap test here ∙ fails)
  not_all (y ∷ ys) (suc k) x at fails = tail_fails (test (f y)) (list_all test (map f ys)) (not_all ys k x at fails)

pub branch_stays : (r : OpenRequest) (b : Branch) (due : ℕ) → Contains r.branches b → branch_due r b ≡ Some due → has_left (with_resend b r) ≡ false
branch_stays r b due there is =
    behind (is_closed r.side) (list_all (λ (x : Branch). is_ended x.phase) (map (resent_branch b (branch_next r b)) r.branches))
    (not_all (λ (x : Branch). is_ended x.phase) (resent_branch b (branch_next r b)) phase_kept r.branches there.0 b here
    (lives b.is_cancel (is_invite r) b.phase (was_true (goes_again r b) b.again.due due is))) where
      here : slice_get r.branches there.0 ≡ Some b
      here = slice_get-get_or r.branches there.0 b there.1 ∙ ap (λ (x : Branch). Some x) there.2

      kept_by : (t : Bool) (next : Resend) (x : Branch) → is_ended (cond {A = Branch} t (record x { again = next }) x).phase ≡ is_ended x.phase
      kept_by true next x = refl
      kept_by false next x = refl

      phase_kept : (x : Branch) → is_ended (resent_branch b (branch_next r b) x).phase ≡ is_ended x.phase
      phase_kept x = kept_by (is_same_branch x b) (branch_next r b) x

      behind : (t u : Bool) → u ≡ false → (t && u) ≡ false
      behind true u is = is
      behind false u is = refl

-- ---- the state after a step

-- the same bindings say the same
bindings_same : (from : ℕ) (left right : List Binding) → left ≡ right → SameBindings from left right
bindings_same from left right same = λ aor moment later. ap (λ (rows : List Binding). live aor moment rows) same

-- a state at a moment, with these open requests and these dialogs
abbrev left_by : ℕ → List OpenRequest → List Dialog → ProxyState → ProxyState
left_by now requests dialogs old = record old { moment = now; requests = requests; dialogs = dialogs }

left_same : (now : ℕ) (requests : List OpenRequest) (updates : List DialogUpdate) (old new : ProxyState) → Becomes now requests updates old new
    → SameState new (left_by now requests (after_updates now updates old.dialogs) old)
left_same now requests updates old new becomes =
    record {
      moment = becomes.moment_is;
      next = becomes.next_is;
      bindings = bindings_same new.moment new.bindings old.bindings becomes.bindings_are;
      nonces = becomes.nonces_are;
      requests = becomes.requests_are;
      dialogs = subst (λ (n : ℕ). SameDialogs n new.dialogs (after_updates now updates old.dialogs)) (sym becomes.moment_is) becomes.dialogs_are;
    }

-- ---- what a step does

module _ (server : Server) (now : ℕ) (old : ProxyState) (out : StepOut) (new : ProxyState) where
  pub nothing_done : Leaves now [] old.requests [] old out new → Does server old now (nothing (record old { moment = now })) out new
  nothing_done l =
      record {
        at_moment = l.at_moment;
        sends = ap originals l.packets_are;
        repeats = ap retransmissions l.packets_are;
        records = l.records_are;
        leaves = left_same now old.requests [] old new l.becomes;
      }

  -- what a draft leaves that is made
  abbrev pub LeavesDraft : EventDraft → Type 0
  LeavesDraft draft = Leaves now draft.drafted.packets (replaced draft.change old.requests) draft.drafted.updates old out new

  pub change_done : (rows : List HostAddress) (change : Change) (draft : EventDraft) → rows ≡ server.config.addresses → IsDraftOf rows server now change draft
      → LeavesDraft draft
      → Does server old now (changed server now old change) out new
  change_done rows change draft known d l =
      record {
        at_moment = l.at_moment;
        sends = ap originals l.packets_are ∙ d.sent.originals;
        repeats = ap retransmissions l.packets_are ∙ d.sent.again;
        records = l.records_are;
        leaves =
            subst (λ (ds : List Dialog). SameState new (left_by now (replaced change.request old.requests) ds old)) (d.updates (sym known) old.dialogs)
            (subst (λ (x : OpenRequest). SameState new (left_by now (replaced x old.requests) (after_updates now draft.drafted.updates old.dialogs) old)) d.request
            (left_same now (replaced draft.change old.requests) draft.drafted.updates old new l.becomes));
      }

  -- what goes again teaches the dialogs nothing, as its request stays
  pub resend_done : (rows : List HostAddress) (packets : List Packet) (next : OpenRequest) (draft : EventDraft) → rows ≡ server.config.addresses → draft.change ≡ next
      → AreSent [] packets draft.drafted.packets → Teach rows server now draft.drafted.updates
      (dialogs_after server now (record { request = next; acks = []; upward = []; cancels = [] }))
      → has_left next ≡ false → LeavesDraft draft → Does server old now (resent now old packets next) out new
  resend_done rows packets next draft known becomes sent teach stays l =
      let none_learnt : after_updates now draft.drafted.updates old.dialogs ≡ old.dialogs =
      teach (sym known) old.dialogs ∙ stays_for (is_invite next) (has_left next) (after_invite now next.number old.dialogs) old.dialogs stays in
      record {
        at_moment = l.at_moment;
        sends = ap originals l.packets_are ∙ sent.originals;
        repeats = ap retransmissions l.packets_are ∙ sent.again;
        records = l.records_are;
        leaves =
            subst (λ (ds : List Dialog). SameState new (left_by now (replaced next old.requests) ds old)) none_learnt
            (subst (λ (x : OpenRequest). SameState new (left_by now (replaced x old.requests) (after_updates now draft.drafted.updates old.dialogs) old)) becomes
            (left_same now (replaced draft.change old.requests) draft.drafted.updates old new l.becomes));
      }

-- ---- the kinds of steps

module _ (server : Server) (due at : ℕ) (old : ProxyState) (out : StepOut) (new : ProxyState) where
  pub quiet_done : Leaves due [] old.requests [] old out new → old.moment ≤ due → due ≤ moment_of old at → NoneBefore due old.requests → NoneAgainBefore due old.requests
      → IsQuiet server old at out new
  quiet_done l later by none again =
      let is : due ≡ out.at = sym l.at_moment in
      record {
        no_earlier = subst (λ (n : ℕ). old.moment ≤ n) is later;
        no_later = subst (λ (n : ℕ). n ≤ moment_of old at) is by;
        none_passed = subst (λ (n : ℕ). NoneBefore n old.requests) is none;
        none_again_passed = subst (λ (n : ℕ). NoneAgainBefore n old.requests) is again;
        does = subst (λ (n : ℕ). Does server old n (nothing (record old { moment = n })) out new) is (nothing_done server due old out new l);
      }

-- what happened of an open request as this of it was due, and that it is of each timer that names the request and the part
abbrev pub IsDone : Server → ProxyState → ℕ → StepOut → ProxyState → OpenRequest → Due → Type 0
IsDone server old at out new r what =
    (happens : IsDeadline server old at out new ⊎ IsResend server old at out new) × ((timer : Timer) → r.number ≡ timer.name.request → IsOfOwner r timer.name.owner what
    → GoesAgainBefore r out.at what → IsOfTimer timer happens)

module _ (server : Server) (at : ℕ) (old : ProxyState) (out : StepOut) (new : ProxyState) (rows : List HostAddress) (known : rows ≡ server.config.addresses) (what : Due)
    (r : OpenRequest) (draft : EventDraft) where
  fired_then : IsFired rows server out.at what r draft → LeavesDraft server out.at old out new draft → Contains old.requests r → out.at ≤ moment_of old at
      → NoneBefore out.at old.requests
      → NoneAgainBefore out.at old.requests → IsDone server old at out new r what
  fired_then fired l there by none again = by_input fired.input fired.is_due fired.is_part fired.is_last fired.drafted where
    by_input : (input : Input) → IsDueAs r out.at input → IsOfPart r what input → (GoesAgainBefore r out.at what → IsLastOf r out.at input)
        → IsDrafted rows server out.at r input draft → IsDone server old at out new r what
    by_input (Response branch status response) is part last d = absurd is
    by_input (BranchDeadline branch) is part last d =
        let passed : IsDeadline server old at out new = record {
          request = r;
          change = overdue server out.at r branch.now;
          is_open = there;
          passes = OfBranch branch.now is.there is.is;
          is_due = by;
          is_first = none;
          none_again = again;
          does = change_done server out.at old out new rows (overdue server out.at r branch.now) draft known
              (record { request = d.request; sent = d.drafted.sent; updates = d.drafted.updates }) l;
        } in
        (inl passed, λ timer number of before. (number, (part timer.name.owner of, last before)))
    by_input SideDeadline is part last d =
        let passed : IsDeadline server old at out new = record {
          request = r;
          change = side_overdue server out.at r;
          is_open = there;
          passes = OfSide is;
          is_due = by;
          is_first = none;
          none_again = again;
          does = change_done server out.at old out new rows (side_overdue server out.at r) draft known
              (record { request = d.request; sent = d.drafted.sent; updates = d.drafted.updates }) l;
        } in
        (inl passed, λ timer number of before. (number, (part timer.name.owner of, last before)))
    by_input (SendFault branch) is part last d = absurd is
    by_input Cancel is part last d = absurd is
    by_input Ack is part last d = absurd is
    by_input (BranchAgain branch) is part last d =
        let gone : IsResend server old at out new = record {
          request = r;
          packets = branch_packets server true r branch.now;
          next = with_resend branch.now r;
          is_open = there;
          goes = OfRequest branch.now is.there is.is;
          is_due = by;
          is_first = none;
          none_again = again;
          does = resend_done server out.at old out new rows (branch_packets server true r branch.now) (with_resend branch.now r) draft known d.request d.drafted.sent
              d.drafted.updates
              (branch_stays r branch.now out.at is.there is.is) l;
        } in
        (inr gone, λ timer number of before. (number, part timer.name.owner of))
    by_input AnswerAgain is part last d =
        let gone : IsResend server old at out new = record {
          request = r;
          packets = answers_again r r.answer;
          next = record r { again = answer_next r };
          is_open = there;
          goes = OfAnswer is;
          is_due = by;
          is_first = none;
          none_again = again;
          does = resend_done server out.at old out new rows (answers_again r r.answer) (record r { again = answer_next r }) draft known d.request d.drafted.sent
              d.drafted.updates
              (answer_stays r out.at is) l;
        } in
        (inr gone, λ timer number of before. (number, part timer.name.owner of))

  pub fired_done : (due : ℕ) → IsFired rows server due what r draft → LeavesDraft server due old out new draft → Contains old.requests r → due ≤ moment_of old at
      → NoneBefore due old.requests
      → NoneAgainBefore due old.requests → IsDone server old at out new r what
  fired_done due fired l =
      subst
      (λ (n : ℕ). IsFired rows server n what r draft → LeavesDraft server n old out new draft → Contains old.requests r → n ≤ moment_of old at → NoneBefore n old.requests
      → NoneAgainBefore n old.requests
      → IsDone server old at out new r what) l.at_moment fired_then fired l

-- time that passed up to a moment by which nothing is due
pub time_done : (server : Server) (now : ℕ) (old : ProxyState) (out : StepOut) (new : ProxyState) → Leaves now [] old.requests [] old out new → old.moment ≤ now
    → NoneBy now old.requests
    → NoneAgainBy now old.requests → NoneBefore now old.requests → NoneAgainBefore now old.requests → IsTime server old now out new
time_done server now old out new l later none_due none_again_due none again =
    let is : now ≡ moment_of old now = omega (arith, later) in
    let by : now ≤ moment_of old now = omega (arith, later) in
    record {
      none_due = subst (λ (n : ℕ). NoneBy n old.requests) is none_due;
      none_again_due = subst (λ (n : ℕ). NoneAgainBy n old.requests) is none_again_due;
      at_moment = l.at_moment ∙ is;
      quiet = quiet_done server now now old out new l later by none again;
    }
