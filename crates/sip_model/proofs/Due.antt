-- What a change of an open request sends is owed.
use Rattle.std.proofs.Common.{◌≡◌, ◌∙◌, inr, ℕ, ◌+◌, ◌&&◌, ◌||◌, ◌==◌, not, List, [], ◌∷◌, ◌++◌, filter, flat_map, cond, Bool, true, false, refl, sym, ap, ap₂, subst}
use Rattle.std.proofs.Common.{Contains, Option, Some, None, IfSome, option_map, true≢false, arith}
use Rattle.std.specs.List.{AllByRecursion}
use Rattle.std.specs.Option.{option_map_or}
use Rattle.sip_message_fields.specs.declared.field.Field.{Field}
use Rattle.sip_message_form.specs.declared.message.Start.TheVariants.{Status}
use Rattle.sip_message_form.specs.declared.message.Message.{Message}
use Rattle.sip_message_fields.specs.declared.field_name.FieldName.TheVariants as Name
use Rattle.sip_message_fields.specs.Values.{first_value}
use Rattle.sip_message_form.specs.Text.{text_of}
use Rattle.sip_edit.specs.OwnVia.{without_top_via}
use Rattle.sip_edit.specs.OwnRequests.{cancel_of}
use Rattle.sip_location.specs.declared.binding.Binding.{Binding}
use Rattle.sip_best.specs.declared.final_answer.Final.{Final}
use Rattle.sip_best.specs.Best.{best_of, is_challenge_status, taking_along}
use Rattle.sip_event.specs.declared.packet.Packet.{Packet}
use Rattle.model_steps.specs.state.declared.server.Server.{Server}
use Rattle.model_steps.specs.state.declared.branch.Phase.{Phase}
use Rattle.model_steps.specs.state.declared.branch.Branch.{Branch}
use Rattle.model_steps.specs.state.declared.open_request.OpenRequest.{OpenRequest}
use Rattle.model_steps.specs.state.declared.proxy_state.ProxyState.{ProxyState}
use Rattle.model_steps.specs.state.declared.branch.Phase.TheVariants.{Unheard, Heard, Cancelled, Done, Ended}
use Rattle.model_steps.specs.state.declared.open_request.Side.TheVariants.{Closed}
use Rattle.model_steps.specs.state.State.{is_invite, is_final, is_answering, has_left, is_success, is_failure, is_provisional}
use Rattle.model_steps.specs.context_model.Sending.{made_answer, answer_to, to_branch, request_of, branch_packets, ack_packets}
use Rattle.model_steps.specs.state.declared.open_request.Upward.{Upward}
use Rattle.model_steps.specs.context_model.Branches.{Change, with_phase, upward_of, all_final, best_upward, is_ready, is_cancellable, cancel_branch, new_cancels}
use Rattle.model_steps.specs.context_model.Branches.{with_cancels, after_upward, upward_list, settled, heard, other_heard, relayed_from, relayed_provisional, is_accepted}
use Rattle.model_steps.specs.context_model.Branches.{relayed_success, final_of, with_answer, acks_of, further, target_responded, cancel_responded, responded}
use Rattle.model_steps.specs.context_model.Branches.{branch_overdue, overdue, side_overdue, given_up, send_failed, marked, cancelled}
use Rattle.model_steps.specs.Effect.{upward_packets, change_packets, replaced}
use Rattle.model_steps.specs.Step.{Act}
use Rattle.sip_model.specs.Run.{Link}
use Rattle.model_steps.specs.state.Arrival.{Arrival}
use Rattle.model_steps.specs.verdict_model.Verdict.{responding}
use Rattle.sip_model.specs.Access.{CameFor, IsTakenAlong, IsSaidAt, IsOpen, IsDenied, IsHeardNow, IsOwed, Answers, Forwards, Acknowledges, Cancels}
use Rattle.sip_model.proofs.Places.{in_from_contains}
use Rattle.sip_model.proofs.Apart.{TargetsDiffer, only_target}
use Rattle.sip_model.proofs.Lists.{all_append, all_map, all_passing, all_flat_map, all_weaker, all_there}
use Rattle.sip_model.proofs.Finals.{IsHonest, IsMarked, IsOfSixteen, IsHonestRequest, AreHonest, IsTaken, IsTakenAs, GoesUp, best_taken, came_never}
use Rattle.sip_model.proofs.Later.{bare, IsBranchOf, IsLater, IsHeardIn, later_itself, later_with_phase, later_with_answer, later_after_upward, later_with_cancels}
use Rattle.sip_model.proofs.Later.{later_overdue, later_with_side, later_given_up, later_marked, all_either}

-- a branch that is sent a CANCEL is none, is to be cancelled, and is ready for it
cancellable_parts : (b : Branch) → is_cancellable b ≡ true → (b.is_cancel ≡ false) × (b.wants_cancel ≡ true) × (is_ready b.phase ≡ true)
cancellable_parts b h = by_tests b.is_cancel b.wants_cancel (is_ready b.phase) h where
  by_tests : (t u v : Bool) → (not t && u && v) ≡ true → (t ≡ false) × (u ≡ true) × (v ≡ true)
  by_tests true u v e = absurd (true≢false (sym e))
  by_tests false false v e = absurd (true≢false (sym e))
  by_tests false true v e = (refl, refl, e)

module _ (server : Server) (history : List Link) (state : ProxyState) (act : Act) (rows : List Binding) where
  -- a packet is owed in the step
  abbrev pub Owed : Packet → Type 0
  Owed p = IsOwed server history state act rows p

  -- An answer to a request: one that is made here, which is a 403 only as a denial; or one that came for a branch of the request, which is open.
  pub data IsAnswer (r : OpenRequest) : Message → Type 0 where
    Made : (status : ℕ) (extras : List Field) → ((status ≡ 403) → IsDenied server state act r.number r.request.message extras)
        → IsAnswer r (made_answer server r.number r.request.message r.request.source status extras)
    Came : (status : ℕ) (response : Message) (challenges : List Field) → Contains state.requests r → CameFor server history r.number status response
        → AllByRecursion (IsTakenAlong server history r.number) challenges → (is_challenge_status status ≡ false → challenges ≡ [])
        → IsAnswer r (taking_along (without_top_via response) challenges)

  -- what goes to the caller of a request is an answer to it
  abbrev pub MayGoUp : OpenRequest → Upward → Type 0
  MayGoUp r u = IsAnswer r u.message

  -- What a change of an open request sends is owed, and the request that it leaves is honest.
  pub record IsDue (r : OpenRequest) (c : Change) : Type 0 where
    pub is_same : bare c.request ≡ bare r
    pub acks : AllByRecursion Owed c.acks
    pub upward : AllByRecursion (MayGoUp r) c.upward
    pub cancels : AllByRecursion Owed c.cancels
    pub finals : AllByRecursion (IsHonest server history r.number) c.request.finals
    pub marks : AllByRecursion (IsMarked r) c.request.branches
    pub differ : TargetsDiffer c.request.branches
    pub numbers : AllByRecursion IsOfSixteen c.request.branches

  -- ---- what goes to the caller

  -- the best of honest answers is an answer to a request, where one that came is
  best_answers : (past : List Link) (r s : OpenRequest) → bare s ≡ bare r → AllByRecursion (IsHonest server past r.number) s.finals
      → ((status : ℕ) (m : Message) → IsTaken server past r.number status m → IsAnswer r m) → IfSome (best_upward server s) (MayGoUp r)
  best_answers past r s same finals came = by_test (is_answering s.side && all_final s) where
    by_message : (status : ℕ) (o : Option Message) → IsTakenAs server past r.number status o
        → IsAnswer r (option_map_or (λ v. v) o (made_answer server r.number r.request.message r.request.source status []))
    by_message status None up = Made status [] (λ e. absurd (up e))
    by_message status (Some m) up = came status m up

    rising : (f : Final) → GoesUp server past r.number f → MayGoUp r (upward_of server s f)
    rising f up =
        subst (λ (q : OpenRequest). IsAnswer r (option_map_or (λ v. v) f.message (made_answer server q.number q.request.message q.request.source f.status [])))
        (sym same) (by_message f.status f.message up)

    by_best : (o : Option Final) → IfSome o (GoesUp server past r.number) → IfSome (option_map (upward_of server s) o) (MayGoUp r)
    by_best None up = tt
    by_best (Some f) up = rising f up

    by_test : (t : Bool) → IfSome (cond t (option_map (upward_of server s) (best_of s.finals)) None) (MayGoUp r)
    by_test true = by_best (best_of s.finals) (best_taken server past r.number s.finals finals)
    by_test false = tt

  -- the best answer of an open request is an answer to it
  open_goes_up : (r s : OpenRequest) → Contains state.requests r → IsLater server history state act r s → IfSome (best_upward server s) (MayGoUp r)
  open_goes_up r s there h =
      best_answers history r s h.is_same h.finals
      (λ status m taken. subst (λ (v : Message). IsAnswer r v) (sym taken.is_same) (Came status taken.response taken.challenges there taken.came taken.along
      taken.only_challenging))

  -- so is that of a request of which nothing has come
  pub new_goes_up : (r s : OpenRequest) → bare s ≡ bare r → AllByRecursion (IsHonest server [] r.number) s.finals → IfSome (best_upward server s) (MayGoUp r)
  new_goes_up r s same finals = best_answers [] r s same finals (λ status m taken. absurd (came_never server r.number status taken.response taken.came))

  -- what may go to the caller, as a list
  listed : (r : OpenRequest) (o : Option Upward) → IfSome o (MayGoUp r) → AllByRecursion (MayGoUp r) (upward_list o)
  listed r None h = tt
  listed r (Some u) h = (h, tt)

  -- ---- CANCELs and ACKs

  -- the CANCEL of a branch to a target of an open request is owed
  cancel_owed : (now : ℕ) (r s : OpenRequest) → Contains state.requests r → bare s ≡ bare r → (x : Branch) → is_cancellable x ≡ true → IsBranchOf server state act r x
      → AllByRecursion Owed (branch_packets server false s (cancel_branch now x))
  cancel_owed now r s there same x passes h =
      let is_one : (x.is_cancel ≡ false) × (x.wants_cancel ≡ true) × (is_ready x.phase ≡ true) = cancellable_parts x passes in
      let sent : List Packet = to_branch r h.branch 0 false (cancel_of (request_of server r h.branch)) in
      let is : branch_packets server false s (cancel_branch now x) ≡ sent = ap₂ (λ q b. to_branch q b 0 false (cancel_of (request_of server q b))) same h.is_same in
      subst (AllByRecursion Owed) (sym is)
      (all_weaker (Contains sent) Owed (λ p it. Cancels r h.branch there h.there (h.is_target is_one.0) (h.is_marked is_one.1) (h.was_heard is_one.0 is_one.2) it) sent
      (all_there sent))

  -- the CANCELs that are sent now are owed
  cancels_owed : (now : ℕ) (r s : OpenRequest) → Contains state.requests r → IsLater server history state act r s
      → AllByRecursion Owed (flat_map (branch_packets server false s) (new_cancels now s))
  cancels_owed now r s there h =
      all_flat_map Owed (branch_packets server false s) (new_cancels now s)
      (all_map (λ b. AllByRecursion Owed (branch_packets server false s b)) (cancel_branch now) (filter is_cancellable s.branches)
      (all_passing (IsBranchOf server state act r) (λ x. AllByRecursion Owed (branch_packets server false s (cancel_branch now x))) is_cancellable
      (λ x passes. cancel_owed now r s there h.is_same x passes) s.branches h.branches))

  -- a response of a status came in the step to a branch of an open request
  pub record IsAcknowledgeable (r : OpenRequest) (b : Branch) (status : ℕ) (m : Message) : Type 0 where
    pub in_it : Contains r.branches b
    pub a : Arrival
    pub bytes : List ℕ
    pub reason : List ℕ
    pub is_said : IsSaidAt state act a bytes m false
    pub is_response : m.start ≡ Status status reason
    pub is_for : responding server state.requests m.fields ≡ Some (r, b)

  -- the ACK of a final answer of a branch is owed
  acks_owed : (r : OpenRequest) (b : Branch) (status : ℕ) (m : Message) → IsAcknowledgeable r b status m → AllByRecursion Owed (acks_of server r b status m)
  acks_owed r b status m ack = by_tests (is_invite r) refl (is_failure status) refl where
    sent : List Packet
    sent = ack_packets server false r b (first_value Name.To m.fields)

    by_tests : (t : Bool) → is_invite r ≡ t → (u : Bool) → is_failure status ≡ u → AllByRecursion Owed (cond (t && u) sent [])
    by_tests true invite true failure =
        all_weaker (Contains sent) Owed (λ p it. Acknowledges ack.a ack.bytes r b status ack.reason m ack.is_said ack.is_response ack.is_for invite failure it) sent
        (all_there sent)
    by_tests true invite false failure = tt
    by_tests false invite u failure = tt

  -- ---- after every event

  -- what follows an event is owed, if its CANCELs are
  pub settled_due : (now : ℕ) (r s : OpenRequest) (acks : List Packet) (relayed : Option Upward) → IsLater server history state act r s → AllByRecursion Owed acks
      → IfSome relayed (MayGoUp r)
      → ((told : OpenRequest) → IsLater server history state act r told → (AllByRecursion (IsHonest server [] r.number) s.finals
      → AllByRecursion (IsHonest server [] r.number) told.finals) → IfSome (best_upward server told) (MayGoUp r))
      → ((after : OpenRequest) → IsLater server history state act r after → after.branches ≡ s.branches
      → AllByRecursion Owed (flat_map (branch_packets server false after) (new_cancels now after)))
      → IsDue r (settled server now acks relayed s)
  settled_due now r s acks relayed h owed up goes_up cancels =
      let told : OpenRequest = after_upward now relayed s in
      let later : IsLater server history state act r told = later_after_upward server history state act r now relayed s h in
      let best : Option Upward = best_upward server told in
      let after : OpenRequest = after_upward now best told in
      let end : IsLater server history state act r after = later_after_upward server history state act r now best told later in
      let whole : IsLater server history state act r (with_cancels now after) = later_with_cancels server history state act r now after end in
      record {
        is_same = whole.is_same;
        acks = owed;
        upward = all_append (MayGoUp r) (upward_list relayed) (upward_list best) (listed r relayed up) (listed r best (goes_up told later (kept_finals relayed s)));
        cancels = cancels after end (same_branches best told ∙ same_branches relayed s);
        finals = whole.finals;
        marks = all_weaker (IsBranchOf server state act r) (IsMarked r) (λ b h. h.is_marked) (settled server now acks relayed s).request.branches whole.branches;
        differ = whole.differ;
        numbers = all_weaker (IsBranchOf server state act r) IsOfSixteen (λ b h. h.is_of_sixteen) (settled server now acks relayed s).request.branches whole.branches;
      } where
        same_branches : (o : Option Upward) (q : OpenRequest) → (after_upward now o q).branches ≡ q.branches
        same_branches None q = refl
        same_branches (Some u) q = refl

        kept_finals : (o : Option Upward) (q : OpenRequest) → AllByRecursion (IsHonest server [] r.number) q.finals
            → AllByRecursion (IsHonest server [] r.number) (after_upward now o q).finals
        kept_finals None q all = all
        kept_finals (Some u) q all = all_either (IsHonest server [] r.number) (is_provisional u.status) q.finals [] all tt

  -- the same of a request that was open before
  open_due : (now : ℕ) (r s : OpenRequest) (acks : List Packet) (relayed : Option Upward) → Contains state.requests r → IsLater server history state act r s
      → AllByRecursion Owed acks → IfSome relayed (MayGoUp r)
      → IsDue r (settled server now acks relayed s)
  open_due now r s acks relayed there h owed up = settled_due now r s acks relayed h owed up (λ told later same. open_goes_up r told there later)
      (λ after end same. cancels_owed now r after there end)

  -- ---- a response

  -- an answer that came goes to the caller
  relayed_answers : (r : OpenRequest) (b : Branch) (status : ℕ) (m : Message) → Contains state.requests r → CameFor server history r.number status m
      → MayGoUp r (relayed_from b status m)
  relayed_answers r b status m there came = Came status m [] there came tt (λ other. refl)

  -- an answer that came goes to the caller by a test
  relayed_if : (t : Bool) (r : OpenRequest) (b : Branch) (status : ℕ) (m : Message) → Contains state.requests r → CameFor server history r.number status m
      → IfSome (cond t (Some (relayed_from b status m)) None) (MayGoUp r)
  relayed_if true r b status m there came = relayed_answers r b status m there came
  relayed_if false r b status m there came = tt

  -- a further answer of a branch goes to the caller only if it came
  further_answers : (r : OpenRequest) (b : Branch) (phase : Phase) (status : ℕ) (m : Message) → Contains state.requests r → CameFor server history r.number status m
      → IfSome (further r b phase status m) (MayGoUp r)
  further_answers r b (Unheard due) status m there came = tt
  further_answers r b (Heard due) status m there came = tt
  further_answers r b (Cancelled due) status m there came = tt
  further_answers r b (Done due first) status m there came = by_test (is_invite r && is_success first) where
    by_test : (t : Bool) → IfSome (cond t (relayed_success r b status m) None) (MayGoUp r)
    by_test true = relayed_if (is_success status && (is_answering r.side || is_accepted r)) r b status m there came
    by_test false = tt
  further_answers r b Ended status m there came = tt

  -- the final answer of a branch is honest
  final_honest : (r : OpenRequest) (status : ℕ) (m : Message) → CameFor server history r.number status m → IsHonest server history r.number (final_of status m)
  final_honest r status m came = record { response = m; came = came; is_same = refl }

  -- what a response to a request that was sent to a target changes is owed
  target_due : (now : ℕ) (r : OpenRequest) (b : Branch) (status : ℕ) (m : Message) → Contains state.requests r → IsAcknowledgeable r b status m
      → CameFor server history r.number status m
      → IsHonestRequest server history r → IsDue r (target_responded server now r b status m)
  target_due now r b status m there ack came own = by_tests (is_provisional status) refl (is_final b.phase) where
    self : IsLater server history state act r r
    self = later_itself server history state act r own

    heard_now : is_provisional status ≡ true → IsHeardIn server state act r b (heard r now status b.phase)
    heard_now early = λ branch in_it target other number ready.
        let here : IsHeardNow server state act r b =
        record {
          a = ack.a;
          bytes = ack.bytes;
          status = status;
          reason = ack.reason;
          response = m;
          is_said = ack.is_said;
          is_response = ack.is_response;
          is_before_final = early;
          is_for = ack.is_for;
        }
        in
        let one : branch ≡ b =
        only_target r.branches branch b own.differ (in_from_contains r.branches branch in_it) (in_from_contains r.branches b ack.in_it) target other number
        in
        inr (subst (λ (x : Branch). IsHeardNow server state act r x) (sym one) here)

    by_tests : (t : Bool) → is_provisional status ≡ t → (u : Bool) → IsDue r (cond t (settled server now [] (relayed_provisional r b status m)
        (with_phase b (heard r now status b.phase) r))
        (cond u (settled server now [] (further r b b.phase status m) r) (settled server now (acks_of server r b status m) (relayed_success r b status m)
        (with_answer r b now status m))))
    by_tests true early u =
        open_due now r (with_phase b (heard r now status b.phase) r) [] (relayed_provisional r b status m) there
        (later_with_phase server history state act r b (heard r now status b.phase) r (heard_now early) self) tt
        (relayed_if (not (status == 100) && not (is_final b.phase) && is_answering r.side) r b status m there came)
    by_tests false early true = open_due now r r [] (further r b b.phase status m) there self tt (further_answers r b b.phase status m there came)
    by_tests false early false =
        open_due now r (with_answer r b now status m) (acks_of server r b status m) (relayed_success r b status m) there
        (later_with_answer server history state act r r b now status m (final_honest r status m came) self) (acks_owed r b status m ack)
        (relayed_if (is_success status && (is_answering r.side || is_accepted r)) r b status m there came)

  -- what a response to a CANCEL of this server changes is owed
  cancel_due : (now : ℕ) (r : OpenRequest) (b : Branch) (status : ℕ) (m : Message) → Contains state.requests r → b.is_cancel ≡ true → IsHonestRequest server history r
      → IsDue r (cancel_responded server now r b status m)
  cancel_due now r b status m there is_cancel own = by_tests (is_provisional status) (is_final b.phase) where
    self : IsLater server history state act r r
    self = later_itself server history state act r own

    in_phase : (phase : Phase) → IsDue r (settled server now [] None (with_phase b phase r))
    in_phase phase =
        open_due now r (with_phase b phase r) [] None there
        (later_with_phase server history state act r b phase r (λ branch in_it target other number ready. absurd (true≢false (sym is_cancel ∙ other))) self) tt tt

    by_tests : (t u : Bool) → IsDue r (cond t (settled server now [] None (with_phase b (other_heard b.phase) r))
        (cond u (settled server now [] None r) (settled server now [] None (with_phase b (Done (now + 5000) status) r))))
    by_tests true u = in_phase (other_heard b.phase)
    by_tests false true = open_due now r r [] None there self tt tt
    by_tests false false = in_phase (Done (now + 5000) status)

  -- what a response makes of an open request is owed
  pub responded_due : (now : ℕ) (r : OpenRequest) (b : Branch) (status : ℕ) (m : Message) → Contains state.requests r → IsAcknowledgeable r b status m
      → (b.is_cancel ≡ false → CameFor server history r.number status m)
      → IsHonestRequest server history r → IsDue r (responded server now r b status m)
  responded_due now r b status m there ack came own = by_test b.is_cancel refl where
    by_test : (t : Bool) → b.is_cancel ≡ t → IsDue r (cond t (cancel_responded server now r b status m) (target_responded server now r b status m))
    by_test true e = cancel_due now r b status m there e own
    by_test false e = target_due now r b status m there ack (came e) own

  -- ---- deadlines, faults, CANCEL

  -- what the deadline of a branch makes of it is owed
  pub overdue_due : (now : ℕ) (r : OpenRequest) (b : Branch) → Contains state.requests r → IsHonestRequest server history r → IsDue r (overdue server now r b)
  overdue_due now r b there own = open_due now r (branch_overdue r b) [] None there (later_overdue server history state act r b r
      (later_itself server history state act r own)) tt tt

  -- so is what the deadline of the answering side does
  pub side_due : (now : ℕ) (r : OpenRequest) → Contains state.requests r → IsHonestRequest server history r → IsDue r (side_overdue server now r)
  side_due now r there own = open_due now r (record r { side = Closed }) [] None there
      (later_with_side server history state act r Closed r (later_itself server history state act r own)) tt tt

  -- so is what a failed send does
  pub failed_due : (now : ℕ) (r : OpenRequest) (b : Branch) → Contains state.requests r → IsHonestRequest server history r → IsDue r (send_failed server now r b)
  failed_due now r b there own = open_due now r (given_up b 503 r) [] None there (later_given_up server history state act r b 503 r (λ e. omega arith)
      (later_itself server history state act r own)) tt tt

  -- so is what a CANCEL of the caller's does
  pub cancelled_due : (now : ℕ) (r : OpenRequest) → Contains state.requests r → IsHonestRequest server history r → IsDue r (cancelled server now r)
  cancelled_due now r there own = open_due now r (cond (is_invite r && is_answering r.side) (marked r) r) [] None there
      (by_tests (is_invite r) refl (is_answering r.side)) tt tt where
        self : IsLater server history state act r r
        self = later_itself server history state act r own

        by_tests : (t : Bool) → is_invite r ≡ t → (u : Bool) → IsLater server history state act r (cond (t && u) (marked r) r)
        by_tests true invite true = later_marked server history state act r r invite self
        by_tests true invite false = self
        by_tests false invite u = self

  -- ---- its effect

  -- an answer to a request that is open is owed
  answer_owed : (r s : OpenRequest) → IsOpen state act r.number r.request.message r.request.source → bare s ≡ bare r → (m : Message) → IsAnswer r m
      → Owed (answer_to false s (text_of m))
  answer_owed r s opened same _ (Made status extras denial) =
      Answers r.number r.request.message r.request.source status extras opened denial (ap (λ q. answer_to false q
      (text_of (made_answer server r.number r.request.message r.request.source status extras))) same)
  answer_owed r s opened same _ (Came status response challenges there came along only) =
      Forwards r status response challenges there came along only (ap (λ q. answer_to false q (text_of (taking_along (without_top_via response) challenges))) same)

  -- what goes to the caller of a request that is open is owed
  pub upward_owed : (r s : OpenRequest) (us : List Upward) → IsOpen state act r.number r.request.message r.request.source → bare s ≡ bare r
      → AllByRecursion (MayGoUp r) us
      → AllByRecursion Owed (upward_packets s us)
  upward_owed r s us opened same h =
      all_map Owed (λ (u : Upward). answer_to false s (text_of u.message)) us
      (all_weaker (MayGoUp r) (λ u. Owed (answer_to false s (text_of u.message))) (λ u a. answer_owed r s opened same u.message a) us h)

  -- all that a change sends is
  pub change_owed : (r : OpenRequest) (c : Change) → IsOpen state act r.number r.request.message r.request.source → IsDue r c → AllByRecursion Owed (change_packets c)
  change_owed r c opened h =
      all_append Owed (c.acks ++ upward_packets c.request c.upward) c.cancels
      (all_append Owed c.acks (upward_packets c.request c.upward) h.acks (upward_owed r c.request c.upward opened h.is_same h.upward)) h.cancels

-- what is kept stays honest where an open request is replaced by an honest one
pub replaced_honest : (server : Server) (history : List Link) (r : OpenRequest) (requests : List OpenRequest) → IsHonestRequest server history r
    → AreHonest server history requests → AreHonest server history (replaced r requests)
replaced_honest server history r [] own h = tt
replaced_honest server history r (x ∷ xs) own h = by_tests (x.number == r.number) (has_left r) (replaced_honest server history r xs own h.1) where
  by_tests : (t u : Bool) → AreHonest server history (replaced r xs) → AreHonest server history (cond t (cond u xs (r ∷ xs)) (x ∷ replaced r xs))
  by_tests true true rest = h.1
  by_tests true false rest = (own, h.1)
  by_tests false u rest = (h.0, rest)
