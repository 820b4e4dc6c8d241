-- A change of an open request: it leaves its CANCELs no more copies than before, and ten more for each CANCEL that it sends.
use Rattle.std.proofs.Common.{◌≡◌, ℕ, ◌+◌, ◌*◌, ◌≤◌, Bool, true, false, ◌&&◌, ◌||◌, cond, List, [], ◌++◌, map, filter, Option, Some, None, refl, ◌∙◌, arith, count_by}
use Rattle.std.specs.List.{AllByRecursion, flat_map}
use Rattle.sip_uri.specs.declared.addr.Addr.{Addr}
use Rattle.sip_message_form.specs.declared.message.Message.{Message}
use Rattle.sip_event.specs.declared.packet.Packet.{Packet}
use Rattle.model_steps.specs.state.declared.server.Server.{Server}
use Rattle.model_steps.specs.state.declared.branch.Phase.{Phase}
use Rattle.model_steps.specs.state.declared.branch.Phase.TheVariants.{Unheard, Heard, Cancelled, Done, Ended}
use Rattle.model_steps.specs.state.declared.branch.Branch.{Branch}
use Rattle.model_steps.specs.state.declared.open_request.Side.TheVariants.{Closed}
use Rattle.model_steps.specs.state.declared.open_request.OpenRequest.{OpenRequest}
use Rattle.model_steps.specs.state.declared.open_request.Upward.{Upward}
use Rattle.model_steps.specs.state.declared.proxy_state.ProxyState.{ProxyState}
use Rattle.model_steps.specs.state.State.{is_invite, is_answering, is_final, is_success, is_decline, is_provisional}
use Rattle.model_steps.specs.context_model.Sending.{branch_packets}
use Rattle.model_steps.specs.context_model.Branches.{Change, is_same_branch, phased, with_phase, with_final, marked_branch, marked, given_up, best_upward, is_cancellable}
use Rattle.model_steps.specs.context_model.Branches.{new_cancels, with_cancels, after_upward, upward_list, settled, invite_heard, other_heard, heard, relayed_provisional}
use Rattle.model_steps.specs.context_model.Branches.{relayed_success, linger, final_of, told_to, acked_to, with_answer, acks_of, further, target_responded}
use Rattle.model_steps.specs.context_model.Branches.{cancel_responded, responded, target_overdue, branch_overdue}
use Rattle.model_steps.specs.Effect.{change_packets, upward_packets}
use Rattle.model_steps.specs.Step.{Act, IsOverdue, OfSide, OfBranch, is_failed}
use Rattle.sip_model.specs.Parts.{IsChangeAt, ByResponse, ByDeadline, ByFault, ByCancel}
use Rattle.sip_model.proofs.FinalsKept.{IsKept, IsHonest}
use Rattle.sip_model.proofs.FinalsChanges.{IsSound, change_sound}
use Rattle.sip_model.proofs.SendingLists.{all_before, all_behind, count_joined}
use Rattle.sip_model.proofs.SendingBranches.{AreApart, Succeeds}
use Rattle.sip_model.proofs.SendingTimes.{AreCopyLaws, IsNearEnd}
use Rattle.sip_model.proofs.SendingChanges.{change_succeeds}
use Rattle.sip_model.proofs.CancelBranches.{Asks, copies_left, is_early, is_place, IsSteady, SendsNoMore, sends_the_same, mapped_left, mapped_places, mapped_each}
use Rattle.sip_model.proofs.CancelBranches.{left_alike, alone, LeavesNoMore, phased_no_more, wanted_no_more, cancels_left, cancels_places, cancels_each}
use Rattle.sip_model.proofs.CancelTexts.{IsNoCancel, upward_no, asks, first_cancels}
use Rattle.sip_model.proofs.Places.{IsIn, found_in, in_from_contains}

-- ---- an open request

-- What holds of each open request: its branches are told apart, none is sent two CANCELs, its CANCELs are near their deadlines, and no answer that it keeps is a CANCEL.
pub record IsFine (r : OpenRequest) : Type 0 where
  pub apart : AreApart r.branches
  pub places : (n : ℕ) → count_by (is_place n) r.branches ≤ 1
  pub each : AllByRecursion IsSteady r.branches
  pub answer : IsNoCancel r.answer
  pub keeps : AllByRecursion IsKept r.finals

-- one becomes another, which sends its CANCELs no more often
pub record IsLess (r x : OpenRequest) : Type 0 where
  pub number_is : x.number ≡ r.number
  pub asks_same : (test : Packet → Bool) (server : Server) (number : ℕ) (uri : List ℕ) (address : Option Addr)
      → asks test server x number uri address ≡ asks test server r number uri address
  pub fewer : (g : Asks) → copies_left g x.branches ≤ copies_left g r.branches
  pub places : (n : ℕ) → count_by (is_place n) x.branches ≤ count_by (is_place n) r.branches
  pub each : AllByRecursion IsSteady x.branches

-- one that stays, but for what its CANCELs don't see
pub same_less : (r : OpenRequest) → AllByRecursion IsSteady r.branches → IsLess r r
same_less r all = record { number_is = refl; asks_same = λ test server number uri address. refl; fewer = λ g. omega arith; places = λ n. omega arith; each = all }

-- one whose branches send no more CANCELs
pub mapped_less : (r : OpenRequest) (f : Branch → Branch) → ((x : Branch) → IsIn x r.branches → SendsNoMore x (f x)) → AllByRecursion IsSteady r.branches
    → IsLess r (record r { branches = map f r.branches })
mapped_less r f each all = record {
  number_is = refl;
  asks_same = λ test server number uri address. refl;
  fewer = λ g. mapped_left g f r.branches each;
  places = λ n. mapped_places n f r.branches each;
  each = mapped_each f r.branches each all;
}

-- one behind another
pub less_both : (r x y : OpenRequest) → IsLess r x → IsLess x y → IsLess r y
less_both r x y h later = record {
  number_is = later.number_is ∙ h.number_is;
  asks_same = λ test server number uri address. later.asks_same test server number uri address ∙ h.asks_same test server number uri address;
  fewer = λ g. let first = h.fewer g in let second = later.fewer g in omega (arith, first, second);
  places = λ n. let first = h.places n in let second = later.places n in omega (arith, first, second);
  each = later.each;
}

-- one of which an answer went to the caller
upward_less : (now : ℕ) (o : Option Upward) (x : OpenRequest) → AllByRecursion IsSteady x.branches → IsLess x (after_upward now o x)
upward_less now None x all = same_less x all
upward_less now (Some u) x all = record {
  number_is = refl;
  asks_same = λ test server number uri address. refl;
  fewer = λ g. omega arith;
  places = λ n. omega arith;
  each = all;
}

-- ---- phases

-- a provisional response leaves a branch as early as it was
heard_early : (r : OpenRequest) (now status : ℕ) (phase : Phase) → is_early (heard r now status phase) ≡ true → is_early phase ≡ true
heard_early r now status (Unheard due) h = refl
heard_early r now status (Heard due) h = refl
heard_early r now status (Cancelled due) h = by_test (is_invite r) h where
  by_test : (t : Bool) → is_early (cond t (invite_heard now status (Cancelled due)) (other_heard (Cancelled due))) ≡ true → is_early (Cancelled due) ≡ true
  by_test true is = absurd (cc)
  by_test false is = absurd (cc)
heard_early r now status (Done due first) h = by_test (is_invite r) h where
  by_test : (t : Bool) → is_early (cond t (invite_heard now status (Done due first)) (other_heard (Done due first))) ≡ true → is_early (Done due first) ≡ true
  by_test true is = absurd (cc)
  by_test false is = absurd (cc)
heard_early r now status Ended h = by_test (is_invite r) h where
  by_test : (t : Bool) → is_early (cond t (invite_heard now status Ended) (other_heard Ended)) ≡ true → is_early Ended ≡ true
  by_test true is = absurd (cc)
  by_test false is = absurd (cc)

-- of a branch to a target
heard_leaves : (r : OpenRequest) (now status : ℕ) (b : Branch) → b.is_cancel ≡ false → LeavesNoMore b (heard r now status b.phase)
heard_leaves r now status b target = record { fewer = λ is. absurd (cc); near = λ is h. absurd (cc); early = λ is h. heard_early r now status b.phase h }

-- of a CANCEL
near_heard : (phase : Phase) (b : Branch) → IsNearEnd phase b.again → IsNearEnd (other_heard phase) b.again
near_heard (Unheard due) b h = h
near_heard (Heard due) b h = h
near_heard (Cancelled due) b h = h
near_heard (Done due status) b h = h
near_heard Ended b h = h

other_leaves : AreCopyLaws → (b : Branch) → b.is_cancel ≡ true → LeavesNoMore b (other_heard b.phase)
other_leaves laws b cancel = record { fewer = λ is. laws.no_more b.phase b.again; near = λ is h. near_heard b.phase b h; early = λ is h. absurd (cc) }

-- a final answer
done_leaves : (b : Branch) (until status : ℕ) → LeavesNoMore b (Done until status)
done_leaves b until status = record { fewer = λ is. omega arith; near = λ is h. tt; early = λ is h. absurd (cc) }

-- an end
ended_leaves : (b : Branch) → LeavesNoMore b Ended
ended_leaves b = record { fewer = λ is. omega arith; near = λ is h. tt; early = λ is h. absurd (cc) }

-- a request with a branch in such a phase
phased_less : (r : OpenRequest) (b : Branch) (to : Option (List ℕ)) (phase : Phase) → IsFine r → IsIn b r.branches → LeavesNoMore b phase
    → IsLess r (with_phase (record b { final_to = to }) phase r)
phased_less r b to phase fine there leaves =
    mapped_less r (phased (record b { final_to = to }) phase) (phased_no_more r.branches b to phase (alone r.branches b fine.apart fine.places there) leaves) fine.each

-- one that was given up
given_up_less : (r : OpenRequest) (b : Branch) (status : ℕ) → IsFine r → IsIn b r.branches → IsLess r (given_up b status r)
given_up_less r b status fine there =
    let own : IsLess r (with_phase b Ended r) = phased_less r b b.final_to Ended fine there (ended_leaves b) in
    record { number_is = refl; asks_same = λ test server number uri address. refl; fewer = own.fewer; places = own.places; each = own.each }

-- all that are to be cancelled
marked_no_more : (x : Branch) → SendsNoMore x (marked_branch x)
marked_no_more x = by_test (x.is_cancel || is_final x.phase) where
  by_test : (t : Bool) → SendsNoMore x (cond t x (record x { wants_cancel = true }))
  by_test true = sends_the_same x
  by_test false = wanted_no_more true x

marked_less : (r : OpenRequest) → AllByRecursion IsSteady r.branches → IsLess r (marked r)
marked_less r all = mapped_less r marked_branch (λ x there. marked_no_more x) all

-- ---- what follows

-- What a change makes of an open request: ten more copies of a CANCEL are left for each that it sends, and none else.
pub record IsCounted (test : Packet → Bool) (server : Server) (r : OpenRequest) (change : Change) : Type 0 where
  pub number_is : change.request.number ≡ r.number
  pub fewer : copies_left (asks test server change.request) change.request.branches ≤ copies_left (asks test server r) r.branches + 10 * count_by test
      (change_packets change)
  pub places : (n : ℕ) → count_by (is_place n) change.request.branches ≤ count_by (is_place n) r.branches
  pub each : AllByRecursion IsSteady change.request.branches
  pub answer : IsNoCancel change.request.answer

module _ (laws : AreCopyLaws) (test : Packet → Bool) (server : Server) where
  -- a request in between settles
  pub settled_counted : (now : ℕ) (acks : List Packet) (relayed : Option Upward) (r x : OpenRequest) → IsLess r x → IsNoCancel x.answer
      → AllByRecursion IsHonest (settled server now acks relayed x).upward
      → IsCounted test server r (settled server now acks relayed x)
  settled_counted now acks relayed r x h no_cancel honest = record {
    number_is = less.number_is;
    fewer = omega (
      arith,
      cancels_left laws (asks test server after) now after.branches,
      left_alike (asks test server after) (asks test server r) after.branches (less.asks_same test server),
      less.fewer (asks test server r),
      first_cancels test server now after (filter is_cancellable after.branches),
      count_joined test (acks ++ upward_packets (with_cancels now after) (upward_list relayed ++ upward_list best))
          (flat_map (branch_packets server false after) (new_cancels now after)),
    );
    places = λ n. let own = less.places n in let more = cancels_places n now after.branches in omega (arith, own, more);
    each = cancels_each laws now after.branches less.each;
    answer = upward_no now best told (all_behind IsHonest (upward_list relayed) (upward_list best) honest)
        (upward_no now relayed x (all_before IsHonest (upward_list relayed) (upward_list best) honest) no_cancel);
  } where
    told : OpenRequest
    told = after_upward now relayed x

    best : Option Upward
    best = best_upward server told

    after : OpenRequest
    after = after_upward now best told

    less : IsLess r after
    less = let front : IsLess x told = upward_less now relayed x h.each in less_both r x after h (less_both x told after front (upward_less now best told front.each))

  -- a response to a CANCEL
  cancel_counted : (now : ℕ) (r : OpenRequest) (b : Branch) (status : ℕ) (m : Message) → IsFine r → IsIn b r.branches → b.is_cancel ≡ true
      → AllByRecursion IsHonest (cancel_responded server now r b status m).upward
      → IsCounted test server r (cancel_responded server now r b status m)
  cancel_counted now r b status m fine there cancel honest = by_tests (is_provisional status) (is_final b.phase) honest where
    by_tests : (s t : Bool)
        → AllByRecursion IsHonest (cond s (settled server now [] None (with_phase b (other_heard b.phase) r))
        (cond t (settled server now [] None r) (settled server now [] None (with_phase b (Done (now + 5000) status) r)))).upward
        → IsCounted test server r (cond s (settled server now [] None (with_phase b (other_heard b.phase) r))
        (cond t (settled server now [] None r) (settled server now [] None (with_phase b (Done (now + 5000) status) r))))
    by_tests true t own = settled_counted now [] None r (with_phase b (other_heard b.phase) r)
        (phased_less r b b.final_to (other_heard b.phase) fine there (other_leaves laws b cancel)) fine.answer own
    by_tests false true own = settled_counted now [] None r r (same_less r fine.each) fine.answer own
    by_tests false false own =
        settled_counted now [] None r (with_phase b (Done (now + 5000) status) r) (phased_less r b b.final_to (Done (now + 5000) status) fine there
        (done_leaves b (now + 5000) status)) fine.answer own

  -- the first final answer of a branch to a target
  answer_less : (now : ℕ) (r : OpenRequest) (b : Branch) (status : ℕ) (m : Message) → IsFine r → IsIn b r.branches
      → IsLess r (with_answer r b now status m) × IsNoCancel (with_answer r b now status m).answer
  answer_less now r b status m fine there = by_test (is_invite r && (is_success status || is_decline status)) where
    before : OpenRequest
    before = with_final (final_of status m) (with_phase (told_to r b status m) (Done (now + linger r) status) r)

    less : IsLess r before
    less =
        let own : IsLess r (with_phase (told_to r b status m) (Done (now + linger r) status) r) =
        phased_less r b (acked_to r status m) (Done (now + linger r) status) fine there (done_leaves b (now + linger r) status) in
        record { number_is = refl; asks_same = λ test server number uri address. refl; fewer = own.fewer; places = own.places; each = own.each }

    by_test : (t : Bool) → IsLess r (cond t (marked before) before) × IsNoCancel (cond t (marked before) before).answer
    by_test true = (less_both r before (marked before) less (marked_less before less.each), fine.answer)
    by_test false = (less, fine.answer)

  -- a response to the request to a target
  target_counted : (now : ℕ) (r : OpenRequest) (b : Branch) (status : ℕ) (m : Message) → IsFine r → IsIn b r.branches → b.is_cancel ≡ false
      → AllByRecursion IsHonest (target_responded server now r b status m).upward
      → IsCounted test server r (target_responded server now r b status m)
  target_counted now r b status m fine there target honest = by_tests (is_provisional status) (is_final b.phase) honest where
    chosen : (s t : Bool) → Change
    chosen s t =
        cond s (settled server now [] (relayed_provisional r b status m) (with_phase b (heard r now status b.phase) r))
        (cond t (settled server now [] (further r b b.phase status m) r) (settled server now (acks_of server r b status m) (relayed_success r b status m)
        (with_answer r b now status m)))

    by_tests : (s t : Bool) → AllByRecursion IsHonest (chosen s t).upward → IsCounted test server r (chosen s t)
    by_tests true t own =
        settled_counted now [] (relayed_provisional r b status m) r (with_phase b (heard r now status b.phase) r)
        (phased_less r b b.final_to (heard r now status b.phase) fine there (heard_leaves r now status b target)) fine.answer own
    by_tests false true own = settled_counted now [] (further r b b.phase status m) r r (same_less r fine.each) fine.answer own
    by_tests false false own =
        let less = answer_less now r b status m fine there in
        settled_counted now (acks_of server r b status m) (relayed_success r b status m) r (with_answer r b now status m) less.0 less.1 own

  -- a response
  response_counted : (now : ℕ) (r : OpenRequest) (b : Branch) (status : ℕ) (m : Message) → IsFine r → IsIn b r.branches
      → AllByRecursion IsHonest (responded server now r b status m).upward
      → IsCounted test server r (responded server now r b status m)
  response_counted now r b status m fine there honest = by_kind b.is_cancel refl honest where
    by_kind : (t : Bool) → b.is_cancel ≡ t → AllByRecursion IsHonest (cond t (cancel_responded server now r b status m) (target_responded server now r b status m)).upward
        → IsCounted test server r (cond t (cancel_responded server now r b status m) (target_responded server now r b status m))
    by_kind true is own = cancel_counted now r b status m fine there is own
    by_kind false is own = target_counted now r b status m fine there is own

  -- the deadline of a branch
  overdue_less : (r : OpenRequest) (b : Branch) (phase : Phase) → IsFine r → IsIn b r.branches
      → IsLess r (target_overdue r b phase) × IsNoCancel (target_overdue r b phase).answer
  overdue_less r b (Unheard due) fine there = (given_up_less r b 408 fine there, fine.answer)
  overdue_less r b (Heard due) fine there = by_test (is_invite r) where
    by_test : (t : Bool) → IsLess r (cond t (record r { branches = map (λ (x : Branch). cond (is_same_branch x b) (record x { wants_cancel = true }) x) r.branches })
        (given_up b 408 r))
        × IsNoCancel (cond t (record r { branches = map (λ (x : Branch). cond (is_same_branch x b) (record x { wants_cancel = true }) x) r.branches })
        (given_up b 408 r)).answer
    by_test true = (
      mapped_less r (λ (x : Branch). cond (is_same_branch x b) (record x { wants_cancel = true }) x) (λ x here. wanted_no_more (is_same_branch x b) x)
          fine.each,
      fine.answer,
    )
    by_test false = (given_up_less r b 408 fine there, fine.answer)
  overdue_less r b (Cancelled due) fine there = (given_up_less r b 487 fine there, fine.answer)
  overdue_less r b (Done due status) fine there = (phased_less r b b.final_to Ended fine there (ended_leaves b), fine.answer)
  overdue_less r b Ended fine there = (same_less r fine.each, fine.answer)

  branch_less : (r : OpenRequest) (b : Branch) → IsFine r → IsIn b r.branches → IsLess r (branch_overdue r b) × IsNoCancel (branch_overdue r b).answer
  branch_less r b fine there = by_kind b.is_cancel where
    by_kind : (t : Bool) → IsLess r (cond t (with_phase b Ended r) (target_overdue r b b.phase))
        × IsNoCancel (cond t (with_phase b Ended r) (target_overdue r b b.phase)).answer
    by_kind true = (phased_less r b b.final_to Ended fine there (ended_leaves b), fine.answer)
    by_kind false = overdue_less r b b.phase fine there

  -- a deadline
  deadline_counted : (now : ℕ) (r : OpenRequest) (change : Change) → IsFine r → IsOverdue server now r change → AllByRecursion IsHonest change.upward
      → IsCounted test server r change
  deadline_counted now r _ fine (OfSide is) honest =
      settled_counted now [] None r (record r { side = Closed })
      (record { number_is = refl; asks_same = λ test server number uri address. refl; fewer = λ g. omega arith; places = λ n. omega arith; each = fine.each }) fine.answer
      honest
  deadline_counted now r _ fine (OfBranch b there is) honest =
      let less = branch_less r b fine (in_from_contains r.branches b there) in settled_counted now [] None r (branch_overdue r b) less.0 less.1 honest

  -- the caller's CANCEL
  caller_counted : (now : ℕ) (r : OpenRequest) (t : Bool) → IsFine r → AllByRecursion IsHonest (settled server now [] None (cond t (marked r) r)).upward
      → IsCounted test server r (settled server now [] None (cond t (marked r) r))
  caller_counted now r true fine honest = settled_counted now [] None r (marked r) (marked_less r fine.each) fine.answer honest
  caller_counted now r false fine honest = settled_counted now [] None r r (same_less r fine.each) fine.answer honest

  -- any change
  change_counted : (state : ProxyState) (act : Act) (now : ℕ) (r : OpenRequest) (change : Change) (again : List Packet) → IsChangeAt server state act now r change again
      → IsFine r → AllByRecursion IsHonest change.upward
      → IsCounted test server r change
  change_counted state act now r _ _ (ByResponse a bytes m status reason b said start for there) fine honest =
      response_counted now r b status m fine (in_from_contains r.branches b there) honest
  change_counted state act now r change _ (ByDeadline _ passes) fine honest = deadline_counted now r change fine passes honest
  change_counted state act now r _ _ (ByFault at ticket b is number found) fine honest =
      settled_counted now [] None r (given_up b 503 r) (given_up_less r b 503 fine (found_in (is_failed ticket.branch) r.branches b found).0) fine.answer honest
  change_counted state act now r _ _ (ByCancel a bytes m short key said is key_is found) fine honest =
      caller_counted now r (is_invite r && is_answering r.side) fine honest

  -- Whatever changes a request, it stays fine, and ten more copies of a CANCEL are left for each that is sent with it.
  pub change_leaves : (state : ProxyState) (act : Act) (now : ℕ) (r : OpenRequest) (change : Change) (again : List Packet)
      → IsChangeAt server state act now r change again → IsFine r
      → IsCounted test server r change × IsFine change.request
  change_leaves state act now r change again is fine =
      let sound : IsSound r change = change_sound server state act now r change again is fine.keeps in
      let own : IsCounted test server r change = change_counted state act now r change again is fine sound.honest in
      let follows : Succeeds r change.request = change_succeeds server state act now r change again is fine.apart in (
        own,
        record {
          apart = λ n. let few = fine.apart n in let same = follows.no_more n in omega (arith, few, same);
          places = λ n. let few = fine.places n in let less = own.places n in omega (arith, few, less);
          each = own.each;
          answer = own.answer;
          keeps = sound.is_like.keeps;
        },
      )
