-- What goes again went out before, as an original.
use Rattle.std.proofs.Common.{◌≡◌, ◌∙◌, inl, inr, ℕ, ◌+◌, Bool, true, false, not, ◌&&◌, ◌||◌, ◌==◌, cond, List, [], ◌∷◌, ◌++◌, map, filter, flat_map, find, codes}
use Rattle.std.proofs.Common.{bytes_eq, Contains, Option, Some, None, refl, sym, subst, is_some, true≢false}
use Rattle.std.specs.List.{AllByRecursion}
use Rattle.std.specs.Option.{option_map_or}
use Rattle.std.proofs.lemmas.List.Elements.{Contains-append_right, Contains-append_left}
use Rattle.sip_uri.specs.declared.addr.Addr.{Addr}
use Rattle.sip_message_fields.specs.declared.field.Field.{Field}
use Rattle.sip_message_fields.specs.declared.field_name.FieldName.TheVariants as Name
use Rattle.sip_message_form.specs.declared.message.Message.{Message}
use Rattle.sip_message_form.specs.Text.{text_of}
use Rattle.sip_message_fields.specs.Values.{first_value}
use Rattle.sip_message.specs.Reading.{reading_of}
use Rattle.sip_edit.specs.OwnRequests.{ack_with}
use Rattle.sip_targets.specs.declared.target.Target.{Target}
use Rattle.sip_targets.specs.declared.targets.Targets.{Targets}
use Rattle.sip_best.specs.declared.final_answer.Final.{Final}
use Rattle.sip_audit.specs.declared.record.Record.{Record}
use Rattle.sip_event.specs.declared.packet.Packet.{Packet}
use Rattle.sip_event.specs.declared.packet.Ticket.{Ticket}
use Rattle.sip_event.specs.declared.event.StepOut.{StepOut}
use Rattle.sip_event.specs.declared.event.Event.TheVariants.{Datagram, Time, Fault}
use Rattle.sip_config_types.specs.declared.config.Config.{Config}
use Rattle.model_steps.specs.state.declared.server.Server.{Server}
use Rattle.model_steps.specs.state.declared.branch.Phase.{Phase}
use Rattle.model_steps.specs.state.declared.branch.Phase.TheVariants.{Unheard, Heard, Cancelled, Done, Ended}
use Rattle.model_steps.specs.state.declared.branch.Branch.{Branch}
use Rattle.model_steps.specs.state.declared.open_request.Side.TheVariants.{Closed}
use Rattle.model_steps.specs.state.declared.open_request.LastAnswer.{LastAnswer}
use Rattle.model_steps.specs.state.declared.open_request.OpenRequest.{OpenRequest}
use Rattle.model_steps.specs.state.declared.open_request.Upward.{Upward}
use Rattle.model_steps.specs.state.declared.proxy_state.ProxyState.{ProxyState}
use Rattle.model_steps.specs.state.State.{first_state, is_invite, is_final, is_success, is_failure, is_decline, is_provisional}
use Rattle.model_steps.specs.context_model.Sending.{answer_to, to_branch, request_of, branch_packets, ack_packets}
use Rattle.model_steps.specs.context_model.Branches.{Change, is_same_branch, turned, with_phase, with_final, marked, given_up, best_upward, is_cancellable, cancel_branch}
use Rattle.model_steps.specs.context_model.Branches.{new_cancels, held_branch, with_cancel, with_cancels, after_upward, upward_list, settled, heard, invite_heard}
use Rattle.model_steps.specs.context_model.Branches.{other_heard, relayed_provisional, relayed_success, final_of, linger, told_to, with_answer, acks_of, further}
use Rattle.model_steps.specs.context_model.Branches.{target_responded, cancel_responded, responded, target_overdue, branch_overdue, send_failed, cancelled}
use Rattle.model_steps.specs.context_model.Branches.{acknowledged_side, was_refused, acknowledged}
use Rattle.model_steps.specs.context_model.Retransmission.{is_lasting, answers_again, goes_again, acks_again, branch_next, IsResent, OfAnswer, OfRequest, branch_again}
use Rattle.model_steps.specs.context_model.Retransmission.{retransmissions_of, IsRetransmission}
use Rattle.model_steps.specs.state.Arrival.{Arrival}
use Rattle.model_steps.specs.verdict_model.declared.question.Question.{Question}
use Rattle.model_steps.specs.verdict_model.Verdict.{Registered, Bound, Refused, Verdict, Drop, Respond, Copy, AckOn, Cancel, Answer, InDialog, Challenge, Deny, Send}
use Rattle.model_steps.specs.verdict_model.Verdict.{Register, is_full, message_verdict, message_in, verdict_in}
use Rattle.model_steps.specs.context_model.Opening.{branches_from, forking, is_tried, trying, tried, dialog_branch}
use Rattle.model_steps.specs.Effect.{upward_packets, change_packets, Effect, replaced, changed, nothing, opened, replied, asked, issuing, registering, forked, sending}
use Rattle.model_steps.specs.Effect.{renewing, counted, method_of, effect_of}
use Rattle.model_steps.specs.Step.{Act, Given, Passing, Does, IsOverdue, OfSide, OfBranch, IsStep, originals, retransmissions, moment_of, arrival_of, is_failed}
use Rattle.model_steps.specs.Step.{failed_branch, failed_request}
use Rattle.sip_model.specs.Run.{Link, under, IsChain}
use Rattle.sip_model.specs.Lives.{first_sending, sent_first}
use Rattle.sip_model.proofs.Lists.{all_append, all_flat_map, all_weaker, all_contains, all_there}
use Rattle.sip_model.proofs.Places.{IsIn, in_from_contains, all_in, all_push, all_replaced, found_in}
use Rattle.sip_model.proofs.Apart.{TargetsDiffer, only_target}
use Rattle.sip_model.proofs.Later.{same_parts}
use Rattle.sip_model.proofs.Moves.{IsStarted}
use Rattle.sip_model.proofs.Finals.{IsHonestRequest, AreHonest}
use Rattle.sip_model.proofs.Verdicts.{Fits, verdict_fits}
use Rattle.sip_model.proofs.Repeats.{step_repeats}
use Rattle.sip_model.proofs.Under.{honest_under}
use Rattle.sip_model.proofs.Owing.{honest_of_chain}
use Rattle.sip_model.proofs.Rising.{number_is}

-- ---- lists

-- what holds of each of two lists together holds of each of the first
pub all_left : {X : Type 0} (P : X → Type 0) (xs ys : List X) → AllByRecursion P (xs ++ ys) → AllByRecursion P xs
all_left P [] ys h = tt
all_left P (x ∷ xs) ys h = (h.0, all_left P xs ys h.1)

-- and of the second
pub all_right : {X : Type 0} (P : X → Type 0) (xs ys : List X) → AllByRecursion P (xs ++ ys) → AllByRecursion P ys
all_right P [] ys h = h
all_right P (x ∷ xs) ys h = all_right P xs ys h.1

-- what holds of the images holds of each image
pub all_mapped : {X Y : Type 0} (P : Y → Type 0) (f : X → Y) (xs : List X) → AllByRecursion P (map f xs) → AllByRecursion (λ x. P (f x)) xs
all_mapped P f [] h = tt
all_mapped P f (x ∷ xs) h = (h.0, all_mapped P f xs h.1)

module _ (server : Server) (sent : List Packet) where
  -- a packet was sent
  abbrev pub WasSent : Packet → Type 0
  WasSent p = Contains sent p

  -- a packet that goes again was sent for the first time
  abbrev pub WentBefore : Packet → Type 0
  WentBefore p = Contains sent (first_sending p)

  -- what a branch sends was sent, and so was its ACK if it had one
  abbrev pub IsBranchOut : OpenRequest → Branch → Type 0
  IsBranchOut r b = AllByRecursion WasSent (branch_packets server false r b) × AllByRecursion WentBefore (acks_again server r b b.phase)

  -- the last answer was sent, if its bytes are kept
  abbrev pub IsAnswerOut : OpenRequest → Option LastAnswer → Type 0
  IsAnswerOut r None = Unit {0}
  IsAnswerOut r (Some a) = (is_invite r && is_success a.status) ≡ false → WasSent (answer_to false r a.text)

  -- all that may go again of an open request was sent
  pub record IsOut (r : OpenRequest) : Type 0 where
    pub answer : IsAnswerOut r r.answer
    pub branches : AllByRecursion (IsBranchOut r) r.branches

  -- ---- what goes again

  -- a message to a branch
  to_branch_before : (r : OpenRequest) (b : Branch) (target : ℕ) (m : Message) → AllByRecursion WasSent (to_branch r b target false m)
      → AllByRecursion WentBefore (to_branch r b target true m)
  to_branch_before r b target m h = by_address b.address h where
    by_address : (o : Option Addr) → AllByRecursion WasSent (option_map_or (λ to. record {
      to = to;
      bytes = text_of m;
      ticket = record { datagram = r.number; branch = target };
      again = false;
    } ∷ []) o [])
        → AllByRecursion WentBefore (option_map_or (λ to. record { to = to; bytes = text_of m; ticket = record { datagram = r.number; branch = target }; again = true }
        ∷ []) o [])
    by_address None h = tt
    by_address (Some to) h = (h.0, tt)

  -- of either of two lists
  before_either : (t : Bool) (xs ys : List Packet) → AllByRecursion WentBefore xs → AllByRecursion WentBefore ys → AllByRecursion WentBefore (cond t xs ys)
  before_either true xs ys h k = h
  before_either false xs ys h k = k

  -- the last answer
  answer_before : (r : OpenRequest) (o : Option LastAnswer) → IsAnswerOut r o → AllByRecursion WentBefore (answers_again r o)
  answer_before r None h = tt
  answer_before r (Some a) h = by_tests (is_lasting r.side) (is_invite r && is_success a.status) refl where
    by_tests : (t u : Bool) → (is_invite r && is_success a.status) ≡ u → AllByRecursion WentBefore (cond (t && not u) (answer_to true r a.text ∷ []) [])
    by_tests true true e = tt
    by_tests true false e = (h e, tt)
    by_tests false u e = tt

  -- all of it
  pub out_before : (r : OpenRequest) → IsOut r → AllByRecursion WentBefore (retransmissions_of server r)
  out_before r h =
      all_append WentBefore (answers_again r r.answer) (flat_map (branch_again server r) r.branches) (answer_before r r.answer h.answer)
      (all_flat_map WentBefore (branch_again server r) r.branches
      (all_weaker (IsBranchOut r) (λ b. AllByRecursion WentBefore (branch_again server r b))
      (λ b own. all_append WentBefore (cond (goes_again r b) (branch_packets server true r b) []) (acks_again server r b b.phase)
      (before_either (goes_again r b) (branch_packets server true r b) [] (to_branch_before r b _ _ own.0) tt) own.1) r.branches h.branches))

  -- ---- changes of branches

  -- a change of each branch
  branches_edited : (r : OpenRequest) (edit : Branch → Branch) (bs : List Branch) → ((x : Branch) → IsIn x bs → IsBranchOut r x → IsBranchOut r (edit x))
      → AllByRecursion (IsBranchOut r) bs
      → AllByRecursion (IsBranchOut r) (map edit bs)
  branches_edited r edit [] keeps h = tt
  branches_edited r edit (x ∷ xs) keeps h = (keeps x (inl refl) h.0, branches_edited r edit xs (λ y there. keeps y (inr there)) h.1)

  -- a branch in another phase
  phase_out : (told : Branch) (phase : Phase) (r : OpenRequest)
      → ((x : Branch) → IsIn x r.branches → is_same_branch x told ≡ true → AllByRecursion WentBefore (acks_again server r (turned told phase x) phase)) → IsOut r
      → IsOut (with_phase told phase r)
  phase_out told phase r acks h = record {
    answer = h.answer;
    branches = branches_edited r (λ x. cond (is_same_branch x told) (turned told phase x) x) r.branches
        (λ x there own. by_test x own (is_same_branch x told) refl (acks x there)) h.branches;
  } where
    by_test : (x : Branch) → IsBranchOut r x → (t : Bool) → is_same_branch x told ≡ t
        → (is_same_branch x told ≡ true → AllByRecursion WentBefore (acks_again server r (turned told phase x) phase))
        → IsBranchOut r (cond t (turned told phase x) x)
    by_test x own true is ack = (own.0, ack is)
    by_test x own false is ack = own

  -- of either of two branches
  branch_either : (r : OpenRequest) (t : Bool) (x y : Branch) → IsBranchOut r x → IsBranchOut r y → IsBranchOut r (cond t x y)
  branch_either r true x y h k = h
  branch_either r false x y h k = k

  -- with its branches marked
  marked_out : (r : OpenRequest) → IsOut r → IsOut (marked r)
  marked_out r h = record {
    answer = h.answer;
    branches = branches_edited r (λ x. cond (x.is_cancel || is_final x.phase) x (record x { wants_cancel = true })) r.branches
        (λ x there own. branch_either r (x.is_cancel || is_final x.phase) x (record x { wants_cancel = true }) own own) h.branches;
  }

  -- of either of two requests
  out_either : (t : Bool) (r s : OpenRequest) → IsOut r → IsOut s → IsOut (cond t r s)
  out_either true r s h k = h
  out_either false r s h k = k

  -- with one more final answer
  final_out : (f : Final) (r : OpenRequest) → IsOut r → IsOut (with_final f r)
  final_out f r h = record { answer = h.answer; branches = h.branches }

  -- with a branch given up
  given_up_out : (b : Branch) (status : ℕ) (r : OpenRequest) → IsOut r → IsOut (given_up b status r)
  given_up_out b status r h = final_out _ (with_phase b Ended r) (phase_out b Ended r (λ x there same. tt) h)

  -- ---- what follows every event

  -- an answer goes to the caller
  upward_out : (now : ℕ) (o : Option Upward) (s : OpenRequest) → AllByRecursion (λ (u : Upward). WasSent (answer_to false s (text_of u.message))) (upward_list o)
      → IsOut s → IsOut (after_upward now o s)
  upward_out now None s up h = h
  upward_out now (Some u) s up h = record { answer = λ e. by_test (is_invite s && is_success u.status) e; branches = h.branches } where
    by_test : (t : Bool) → t ≡ false → WasSent (answer_to false s (cond t [] (text_of u.message)))
    by_test true e = absurd (true≢false e)
    by_test false e = up.0

  -- it goes to the same address, with the same ticket
  upward_answer : (now : ℕ) (o : Option Upward) (s : OpenRequest) (text : List ℕ) → answer_to false (after_upward now o s) text ≡ answer_to false s text
  upward_answer now None s text = refl
  upward_answer now (Some u) s text = refl

  -- its branches are sent their CANCELs
  cancels_out : (now : ℕ) (s : OpenRequest) → AllByRecursion WasSent (flat_map (branch_packets server false s) (new_cancels now s)) → IsOut s → IsOut (with_cancels now s)
  cancels_out now s cancels h = record { answer = h.answer; branches = by_branch s.branches cancels h.branches } where
    by_branch : (bs : List Branch) → AllByRecursion WasSent (flat_map (branch_packets server false s) (map (cancel_branch now) (filter is_cancellable bs)))
        → AllByRecursion (IsBranchOut s) bs
        → AllByRecursion (IsBranchOut s) (flat_map (with_cancel now) bs)
    by_branch [] sent_now own = tt
    by_branch (b ∷ bs) sent_now own = by_test (is_cancellable b) (λ later. by_branch bs later own.1) sent_now where
      others : List Packet
      others = flat_map (branch_packets server false s) (map (cancel_branch now) (filter is_cancellable bs))

      by_test : (t : Bool) → (AllByRecursion WasSent others → AllByRecursion (IsBranchOut s) (flat_map (with_cancel now) bs))
          → AllByRecursion WasSent (flat_map (branch_packets server false s) (map (cancel_branch now) (cond t (b ∷ filter is_cancellable bs) (filter is_cancellable bs))))
          → AllByRecursion (IsBranchOut s) (cond t (held_branch now b ∷ cancel_branch now b ∷ []) (b ∷ []) ++ flat_map (with_cancel now) bs)
      by_test true rest now_sent = (
        (own.0.0, tt),
        (
          (all_left WasSent (branch_packets server false s (cancel_branch now b)) _ now_sent, tt),
          rest (all_right WasSent (branch_packets server false s (cancel_branch now b)) _ now_sent),
        ),
      )
      by_test false rest now_sent = (own.0, rest now_sent)

  -- the whole of it
  settled_out : (now : ℕ) (acks : List Packet) (relayed : Option Upward) (s : OpenRequest) → IsOut s
      → AllByRecursion WasSent (change_packets (settled server now acks relayed s)) → IsOut (settled server now acks relayed s).request
  settled_out now acks relayed s h packets =
      let told : OpenRequest = after_upward now relayed s in
      let best : Option Upward = best_upward server told in
      let after : OpenRequest = after_upward now best told in
      let change : Change = settled server now acks relayed s in
      let ups : AllByRecursion (λ (u : Upward). WasSent (answer_to false after (text_of u.message))) (upward_list relayed ++ upward_list best) =
      all_mapped WasSent (λ (u : Upward). answer_to false after (text_of u.message)) (upward_list relayed ++ upward_list best)
      (all_right WasSent acks (upward_packets change.request change.upward) (all_left WasSent (acks ++ upward_packets change.request change.upward) change.cancels
      packets)) in
      let first : AllByRecursion (λ (u : Upward). WasSent (answer_to false s (text_of u.message))) (upward_list relayed) =
      all_weaker (λ (u : Upward). WasSent (answer_to false after (text_of u.message))) (λ (u : Upward). WasSent (answer_to false s (text_of u.message)))
      (λ u h. subst WasSent (upward_answer now best told (text_of u.message) ∙ upward_answer now relayed s (text_of u.message)) h) (upward_list relayed)
      (all_left (λ (u : Upward). WasSent (answer_to false after (text_of u.message))) (upward_list relayed) (upward_list best) ups) in
      let second : AllByRecursion (λ (u : Upward). WasSent (answer_to false told (text_of u.message))) (upward_list best) =
      all_weaker (λ (u : Upward). WasSent (answer_to false after (text_of u.message))) (λ (u : Upward). WasSent (answer_to false told (text_of u.message)))
      (λ u h. subst WasSent (upward_answer now best told (text_of u.message)) h) (upward_list best)
      (all_right (λ (u : Upward). WasSent (answer_to false after (text_of u.message))) (upward_list relayed) (upward_list best) ups) in
      cancels_out now after (all_right WasSent (acks ++ upward_packets change.request change.upward) change.cancels packets)
      (upward_out now best told second (upward_out now relayed s first h))

  -- its ACKs were sent
  settled_acks : (now : ℕ) (acks : List Packet) (relayed : Option Upward) (s : OpenRequest) → AllByRecursion WasSent (change_packets (settled server now acks relayed s))
      → AllByRecursion WasSent acks
  settled_acks now acks relayed s packets =
      let change : Change = settled server now acks relayed s in
      all_left WasSent acks (upward_packets change.request change.upward) (all_left WasSent (acks ++ upward_packets change.request change.upward) change.cancels packets)

  -- ---- a response

  -- a branch that was heard has the ACK that it had
  heard_acks : (r : OpenRequest) (b : Branch) (now status : ℕ) (phase : Phase) → AllByRecursion WentBefore (acks_again server r b phase)
      → AllByRecursion WentBefore (acks_again server r b (heard r now status phase))
  heard_acks r b now status phase h = by_invite (is_invite r) phase h where
    by_code : (t : Bool) (left right : ℕ) → AllByRecursion WentBefore (acks_again server r b (cond t (Heard left) (Heard right)))
    by_code true left right = tt
    by_code false left right = tt

    by_invite : (t : Bool) (p : Phase) → AllByRecursion WentBefore (acks_again server r b p)
        → AllByRecursion WentBefore (acks_again server r b (cond t (invite_heard now status p) (other_heard p)))
    by_invite true (Unheard due) h = by_code (status == 100) (due + 153000) (now + 185000)
    by_invite true (Heard due) h = by_code (status == 100) due (now + 185000)
    by_invite true (Cancelled due) h = tt
    by_invite true (Done due first) h = h
    by_invite true Ended h = tt
    by_invite false (Unheard due) h = tt
    by_invite false (Heard due) h = tt
    by_invite false (Cancelled due) h = tt
    by_invite false (Done due first) h = h
    by_invite false Ended h = tt

  -- a CANCEL has no ACK
  cancel_acks : (r : OpenRequest) (x : Branch) (phase : Phase) → x.is_cancel ≡ true → AllByRecursion WentBefore (acks_again server r x phase)
  cancel_acks r x (Unheard due) e = tt
  cancel_acks r x (Heard due) e = tt
  cancel_acks r x (Cancelled due) e = tt
  cancel_acks r x (Done due status) e = by_tests (is_invite r) x.is_cancel (is_failure status) e where
    by_tests : (t u v : Bool) → u ≡ true → AllByRecursion WentBefore (cond (t && not u && v) (ack_packets server true r x x.final_to) [])
    by_tests true true v e = tt
    by_tests true false v e = absurd (true≢false (sym e))
    by_tests false u v e = tt
  cancel_acks r x Ended e = tt

  -- a branch to a target that is this one is this one
  this_one : (r : OpenRequest) (b x : Branch) → TargetsDiffer r.branches → IsIn b r.branches → b.is_cancel ≡ false → IsIn x r.branches → is_same_branch x b ≡ true → b ≡ x
  this_one r b x differ in_it target there same =
      let parts : ((x.number == b.number) ≡ true) × (x.is_cancel ≡ b.is_cancel) = same_parts (x.number == b.number) x.is_cancel b.is_cancel same in
      only_target r.branches b x differ in_it there target (parts.1 ∙ target) (sym (number_is x.number b.number parts.0))

  -- the first final answer of a branch has its ACK
  told_acks : (r : OpenRequest) (b : Branch) (due status : ℕ) (m : Message) → AllByRecursion WasSent (acks_of server r b status m)
      → AllByRecursion WentBefore (acks_again server r (told_to r b status m) (Done due status))
  told_acks r b due status m h = by_tests (is_invite r) b.is_cancel (is_failure status) h where
    by_tests : (t u v : Bool) → AllByRecursion WasSent (cond (t && v) (ack_packets server false r b (first_value Name.To m.fields)) [])
        → AllByRecursion WentBefore (cond (t && not u && v) (ack_packets server true r b (cond (t && v) (first_value Name.To m.fields) None)) [])
    by_tests true false true h = to_branch_before r b 0 (ack_with (first_value Name.To m.fields) (request_of server r b)) h
    by_tests true false false h = tt
    by_tests true true v h = tt
    by_tests false u v h = tt

  -- a response to the request of a branch
  target_out : (now : ℕ) (r : OpenRequest) (b : Branch) (status : ℕ) (m : Message) → TargetsDiffer r.branches → IsIn b r.branches → b.is_cancel ≡ false → IsOut r
      → AllByRecursion WasSent (change_packets (target_responded server now r b status m)) → IsOut (target_responded server now r b status m).request
  target_out now r b status m differ in_it target h packets = by_tests (is_provisional status) (is_final b.phase) packets where
    own : IsBranchOut r b
    own = all_in (IsBranchOut r) r.branches b h.branches in_it

    after_heard : IsOut (with_phase b (heard r now status b.phase) r)
    after_heard =
        phase_out b (heard r now status b.phase) r
        (λ x there same. subst (λ (y : Branch). AllByRecursion WentBefore (acks_again server r (turned b (heard r now status b.phase) y) (heard r now status b.phase)))
        (this_one r b x differ in_it target there same)
        (heard_acks r b now status b.phase own.1)) h

    after_answer : AllByRecursion WasSent (acks_of server r b status m) → IsOut (with_answer r b now status m)
    after_answer acks =
        let told : Branch = told_to r b status m in
        let done : Phase = Done (now + linger r) status in
        let last : IsOut (with_final (final_of status m) (with_phase told done r)) =
        final_out (final_of status m) (with_phase told done r)
        (phase_out told done r
        (λ x there same. subst (λ (y : Branch). AllByRecursion WentBefore (acks_again server r (turned told done y) done)) (this_one r b x differ in_it target there same)
        (told_acks r b (now + linger r) status m acks)) h) in
        out_either (is_invite r && (is_success status || is_decline status)) (marked (with_final (final_of status m) (with_phase told done r)))
        (with_final (final_of status m) (with_phase told done r))
        (marked_out (with_final (final_of status m) (with_phase told done r)) last) last

    by_tests : (t u : Bool)
        → AllByRecursion WasSent (change_packets (cond t (settled server now [] (relayed_provisional r b status m) (with_phase b (heard r now status b.phase) r))
        (cond u (settled server now [] (further r b b.phase status m) r) (settled server now (acks_of server r b status m) (relayed_success r b status m)
        (with_answer r b now status m)))))
        → IsOut (cond t (settled server now [] (relayed_provisional r b status m) (with_phase b (heard r now status b.phase) r))
        (cond u (settled server now [] (further r b b.phase status m) r) (settled server now (acks_of server r b status m) (relayed_success r b status m)
        (with_answer r b now status m)))).request
    by_tests true u packets = settled_out now [] (relayed_provisional r b status m) (with_phase b (heard r now status b.phase) r) after_heard packets
    by_tests false true packets = settled_out now [] (further r b b.phase status m) r h packets
    by_tests false false packets =
        settled_out now (acks_of server r b status m) (relayed_success r b status m) (with_answer r b now status m)
        (after_answer (settled_acks now (acks_of server r b status m) (relayed_success r b status m) (with_answer r b now status m) packets)) packets

  -- a response to a CANCEL
  cancel_out : (now : ℕ) (r : OpenRequest) (b : Branch) (status : ℕ) (m : Message) → b.is_cancel ≡ true → IsOut r
      → AllByRecursion WasSent (change_packets (cancel_responded server now r b status m))
      → IsOut (cancel_responded server now r b status m).request
  cancel_out now r b status m is_one h packets = by_tests (is_provisional status) (is_final b.phase) packets where
    in_phase : (phase : Phase) → IsOut (with_phase b phase r)
    in_phase phase =
        phase_out b phase r
        (λ x there same. cancel_acks r (turned b phase x) phase ((same_parts (x.number == b.number) x.is_cancel b.is_cancel same).1 ∙ is_one)) h

    by_tests : (t u : Bool)
        → AllByRecursion WasSent (change_packets (cond t (settled server now [] None (with_phase b (other_heard b.phase) r))
        (cond u (settled server now [] None r) (settled server now [] None (with_phase b (Done (now + 5000) status) r)))))
        → IsOut (cond t (settled server now [] None (with_phase b (other_heard b.phase) r))
        (cond u (settled server now [] None r) (settled server now [] None (with_phase b (Done (now + 5000) status) r)))).request
    by_tests true u packets = settled_out now [] None (with_phase b (other_heard b.phase) r) (in_phase (other_heard b.phase)) packets
    by_tests false true packets = settled_out now [] None r h packets
    by_tests false false packets = settled_out now [] None (with_phase b (Done (now + 5000) status) r) (in_phase (Done (now + 5000) status)) packets

  -- either
  responded_out : (now : ℕ) (r : OpenRequest) (b : Branch) (status : ℕ) (m : Message) → TargetsDiffer r.branches → IsIn b r.branches → IsOut r
      → AllByRecursion WasSent (change_packets (responded server now r b status m))
      → IsOut (responded server now r b status m).request
  responded_out now r b status m differ in_it h packets = by_test b.is_cancel refl packets where
    by_test : (t : Bool) → b.is_cancel ≡ t → AllByRecursion WasSent (change_packets (cond t (cancel_responded server now r b status m)
        (target_responded server now r b status m)))
        → IsOut (cond t (cancel_responded server now r b status m) (target_responded server now r b status m)).request
    by_test true is packets = cancel_out now r b status m is h packets
    by_test false is packets = target_out now r b status m differ in_it is h packets

  -- ---- deadlines, and what else changes a request

  -- past the deadline of a branch
  branch_overdue_out : (r : OpenRequest) (b : Branch) → IsOut r → IsOut (branch_overdue r b)
  branch_overdue_out r b h = out_either b.is_cancel (with_phase b Ended r) (target_overdue r b b.phase) (phase_out b Ended r (λ x there same. tt) h)
      (by_phase b.phase) where
        wanting_out : IsOut (record r { branches = map (λ (x : Branch). cond (is_same_branch x b) (record x { wants_cancel = true }) x) r.branches })
        wanting_out = record {
          answer = h.answer;
          branches = branches_edited r (λ x. cond (is_same_branch x b) (record x { wants_cancel = true }) x) r.branches
              (λ x there own. branch_either r (is_same_branch x b) (record x { wants_cancel = true }) x own own) h.branches;
        }

        by_phase : (phase : Phase) → IsOut (target_overdue r b phase)
        by_phase (Unheard due) = given_up_out b 408 r h
        by_phase (Heard due) =
            out_either (is_invite r) (record r { branches = map (λ (x : Branch). cond (is_same_branch x b) (record x { wants_cancel = true }) x) r.branches })
            (given_up b 408 r) wanting_out (given_up_out b 408 r h)
        by_phase (Cancelled due) = given_up_out b 487 r h
        by_phase (Done due status) = phase_out b Ended r (λ x there same. tt) h
        by_phase Ended = h

  -- past any deadline
  overdue_out : (due : ℕ) (r : OpenRequest) (change : Change) → IsOverdue server due r change → IsOut r → AllByRecursion WasSent (change_packets change)
      → IsOut change.request
  overdue_out due r _ (OfSide is) h packets = settled_out due [] None (record r { side = Closed }) (record { answer = h.answer; branches = h.branches }) packets
  overdue_out due r _ (OfBranch b there is) h packets = settled_out due [] None (branch_overdue r b) (branch_overdue_out r b h) packets

  -- once its answer was acknowledged
  acknowledged_out : (now : ℕ) (r : OpenRequest) → IsOut r → IsOut (acknowledged now r)
  acknowledged_out now r h = out_either (is_invite r && was_refused r.answer) (record r { side = acknowledged_side now r.side }) r
      (record { answer = h.answer; branches = h.branches }) h

  -- cancelled by the caller
  cancelled_out : (now : ℕ) (r : OpenRequest) → IsOut r → AllByRecursion WasSent (change_packets (cancelled server now r)) → IsOut (cancelled server now r).request
  cancelled_out now r h packets = settled_out now [] None _ (out_either _ (marked r) r (marked_out r h) h) packets

  -- once something of it went again
  resent_out : (due : ℕ) (r : OpenRequest) (packets : List Packet) (next : OpenRequest) → IsResent server due r packets next → IsOut r → IsOut next
  resent_out due r _ _ (OfAnswer is) h = record { answer = h.answer; branches = h.branches }
  resent_out due r _ _ (OfRequest b there is) h = record {
    answer = h.answer;
    branches = branches_edited r (λ x. cond (is_same_branch x b) (record x { again = branch_next r b }) x) r.branches
        (λ x there own. branch_either r (is_same_branch x b) (record x { again = branch_next r b }) x own own) h.branches;
  }

  -- ---- effects

  -- all open requests
  abbrev pub AreOut : List OpenRequest → Type 0
  AreOut requests = AllByRecursion IsOut requests

  -- one more
  opened_out : (r : OpenRequest) (s : ProxyState) → IsOut r → AreOut s.requests → AreOut (opened r s)
  opened_out r s own h = by_test (is_full s) where
    by_test : (t : Bool) → AreOut (cond t s.requests (s.requests ++ r ∷ []))
    by_test true = h
    by_test false = all_push IsOut s.requests r h own

  -- a request that is answered at once
  replied_out : (a : Arrival) (m : Message) (status : ℕ) (extras : List Field) (records : List Record) (s : ProxyState)
      → AllByRecursion WasSent (replied server a m status extras records s).originals → AreOut s.requests
      → AreOut (replied server a m status extras records s).state.requests
  replied_out a m status extras records s packets h = opened_out _ s (record { answer = λ e. packets.0; branches = tt }) h

  -- branches that were just sent
  started_out : (now : ℕ) (r : OpenRequest) (bs : List Branch) → AllByRecursion (IsStarted now) bs → AllByRecursion WasSent (flat_map (branch_packets server false r) bs)
      → AllByRecursion (IsBranchOut r) bs
  started_out now r [] started packets = tt
  started_out now r (b ∷ bs) started packets = (
    (
      all_left WasSent (branch_packets server false r b) _ packets,
      subst (λ (p : Phase). AllByRecursion WentBefore (acks_again server r b p)) (sym started.0.is_due)
          (by_test (is_some b.address)),
    ),
    started_out now r bs started.1 (all_right WasSent (branch_packets server false r b) _ packets),
  ) where
    by_test : (t : Bool) → AllByRecursion WentBefore (acks_again server r b (cond t (Unheard (now + 32000)) Ended))
    by_test true = tt
    by_test false = tt

  -- a request that is sent to branches
  forked_out : (a : Arrival) (m : Message) (branches : List Branch) (records : List Record) (s : ProxyState) → AllByRecursion (IsStarted a.now) branches
      → AllByRecursion WasSent (forked server a.now (forking a m branches) records s).originals → AreOut s.requests
      → AreOut (forked server a.now (forking a m branches) records s).state.requests
  forked_out a m branches records s started packets h =
      let r : OpenRequest = forking a m branches in
      let begun : OpenRequest = tried a.now (trying server r) r in
      let change : Change = settled server a.now [] None begun in
      let front : AllByRecursion WasSent (upward_packets r (trying server r) ++ change_packets change) =
      all_left WasSent (upward_packets r (trying server r) ++ change_packets change) (flat_map (branch_packets server false r) branches) packets in
      let fresh : IsOut r =
      record {
        answer = tt;
        branches = started_out a.now r branches started (all_right WasSent (upward_packets r (trying server r) ++ change_packets change)
            (flat_map (branch_packets server false r) branches) packets);
      } in
      let first : IsOut begun = tried_out r (is_tried r) _ (all_left WasSent (upward_packets r (trying server r)) (change_packets change) front) fresh in
      opened_out change.request s (settled_out a.now [] None begun first (all_right WasSent (upward_packets r (trying server r)) (change_packets change) front)) h where
        tried_out : (r : OpenRequest) (t : Bool) (u : Upward) → AllByRecursion WasSent (upward_packets r (cond t (u ∷ []) [])) → IsOut r
            → IsOut (tried a.now (cond t (u ∷ []) []) r)
        tried_out r true u packets h = upward_out a.now (Some u) r packets h
        tried_out r false u packets h = h

  -- branches to targets
  targets_started : (now number : ℕ) (ts : List Target) → AllByRecursion (IsStarted now) (branches_from now number ts)
  targets_started now number [] = tt
  targets_started now number (t ∷ ts) = (record { is_target = refl; is_due = refl; goes_next = refl }, targets_started now (number + 1) ts)

  -- a request that was let through
  sending_out : (a : Arrival) (m : Message) (q : Question) (id : ℕ) (targets : Targets) (s : ProxyState)
      → AllByRecursion WasSent (sending server a m q id targets s).originals → AreOut s.requests
      → AreOut (sending server a m q id targets s).state.requests
  sending_out a m q id Targets.NotFound s packets h = replied_out a m 404 [] [] (asked a q s) packets h
  sending_out a m q id Targets.Unavailable s packets h = replied_out a m 480 [] [] (asked a q s) packets h
  sending_out a m q id (Targets.Bindings targets) s packets h = forked_out a m (branches_from a.now 1 targets) [] (asked a q s) (targets_started a.now 1 targets) packets
      h
  sending_out a m q id (Targets.Hop uri address) s packets h =
      forked_out a m (branches_from a.now 1 (record { uri = uri; address = Some address } ∷ [])) [] (asked a q s)
      (targets_started a.now 1 (record { uri = uri; address = Some address } ∷ [])) packets h

  -- a REGISTER
  registering_out : (a : Arrival) (m : Message) (q : Question) (id : ℕ) (outcome : Registered) (s : ProxyState)
      → AllByRecursion WasSent (registering server a m q id outcome s).originals → AreOut s.requests
      → AreOut (registering server a m q id outcome s).state.requests
  registering_out a m q id (Bound rows) s packets h = replied_out a m 200 _ [] (asked a q (record s { bindings = rows })) packets h
  registering_out a m q id (Refused status extras) s packets h = replied_out a m status extras [] (asked a q s) packets h

  -- a change of an open request
  changed_out : (now : ℕ) (s : ProxyState) (change : Change) → IsOut change.request → AreOut s.requests → AreOut (changed server now s change).state.requests
  changed_out now s change own h = all_replaced IsOut change.request s.requests h (λ stays. own)

  -- a verdict
  effect_out : (history : List Link) (state : ProxyState) (a : Arrival) (m : Message) (v : Verdict) → Fits state.requests m v → AreHonest server history state.requests
      → AllByRecursion WasSent (effect_of server a m v (counted a state)).originals → AreOut state.requests
      → AreOut (effect_of server a m v (counted a state)).state.requests
  effect_out history state a m Drop fits honest packets h = h
  effect_out history state a m (Respond r b status) fits honest packets h =
      changed_out a.now (counted a state) (responded server a.now r b status m)
      (responded_out a.now r b status m (all_in (IsHonestRequest server history) state.requests r honest fits.0).differ fits.1 (all_in IsOut state.requests r h fits.0)
      packets) h
  effect_out history state a m (Copy r) fits honest packets h = by_test (bytes_eq (method_of m.start) (codes "ACK")) where
    by_test : (t : Bool) → AreOut (cond t (record (counted a state) { requests = replaced (acknowledged a.now r) state.requests }) (counted a state)).requests
    by_test true = all_replaced IsOut (acknowledged a.now r) state.requests h (λ stays. acknowledged_out a.now r (all_in IsOut state.requests r h fits))
    by_test false = h
  effect_out history state a m (AckOn address id) fits honest packets h = h
  effect_out history state a m (Cancel None) fits honest packets h = replied_out a m 481 [] [] (counted a state) packets h
  effect_out history state a m (Cancel (Some r)) fits honest packets h =
      let answer : Effect = replied server a m 200 [] [] (counted a state) in
      changed_out a.now answer.state (cancelled server a.now r)
      (cancelled_out a.now r (all_in IsOut state.requests r h fits.1) (all_right WasSent answer.originals (change_packets (cancelled server a.now r)) packets))
      (replied_out a m 200 [] [] (counted a state) (all_left WasSent answer.originals (change_packets (cancelled server a.now r)) packets) h)
  effect_out history state a m (Answer status extras) fits honest packets h = replied_out a m status extras [] (counted a state) packets h
  effect_out history state a m (InDialog address id) fits honest packets h =
      forked_out a m (dialog_branch server a.now m address ∷ []) [] (renewing server a m id (counted a state))
      (record { is_target = refl; is_due = refl; goes_next = refl }, tt) packets h
  effect_out history state a m (Challenge q) fits honest packets h = replied_out a m _ _ [] (issuing a (asked a q (counted a state))) packets h
  effect_out history state a m (Deny q id) fits honest packets h = replied_out a m 403 _ [] (asked a q (counted a state)) packets h
  effect_out history state a m (Send q id targets) fits honest packets h = sending_out a m q id targets (counted a state) packets h
  effect_out history state a m (Register q id outcome) fits honest packets h = registering_out a m q id outcome (counted a state) packets h

  -- a datagram
  datagram_out : (history : List Link) (state : ProxyState) (a : Arrival) (o : Option (Message × Bool)) → AreHonest server history state.requests
      → AllByRecursion WasSent (option_map_or (λ x. effect_of server a x.0 x.1 (counted a state)) (verdict_in server state a o) (nothing (counted a state))).originals
      → AreOut state.requests
      → AreOut (option_map_or (λ x. effect_of server a x.0 x.1 (counted a state)) (verdict_in server state a o) (nothing (counted a state))).state.requests
  datagram_out history state a None honest packets h = h
  datagram_out history state a (Some x) honest packets h = effect_out history state a x.0 (message_verdict server state a x.0 x.1) (verdict_fits server state a x.0 x.1)
      honest packets h

  -- a send that failed
  fault_out : (now : ℕ) (ticket : Ticket) (state : ProxyState) (o : Option OpenRequest) → ((r : OpenRequest) → o ≡ Some r → IsIn r state.requests)
      → AllByRecursion WasSent (failed_request server now ticket (record state { moment = now }) o).originals → AreOut state.requests
      → AreOut (failed_request server now ticket (record state { moment = now }) o).state.requests
  fault_out now ticket state None there packets h = h
  fault_out now ticket state (Some r) there packets h = by_branch (find (is_failed ticket.branch) r.branches) packets where
    by_branch : (o : Option Branch) → AllByRecursion WasSent (failed_branch server now (record state { moment = now }) r o).originals
        → AreOut (failed_branch server now (record state { moment = now }) r o).state.requests
    by_branch None packets = h
    by_branch (Some b) packets =
        changed_out now (record state { moment = now }) (send_failed server now r b) (settled_out now [] None (given_up b 503 r)
        (given_up_out b 503 r (all_in IsOut state.requests r h (there r refl))) packets) h

  -- ---- a step

  -- where a step does an effect
  does_out : (old : ProxyState) (at : ℕ) (effect : Effect) (out : StepOut) (new : ProxyState) → Does server old at effect out new
      → AllByRecursion WasSent (originals out.packets)
      → (AllByRecursion WasSent effect.originals → AreOut effect.state.requests) → AreOut new.requests
  does_out old at effect out new does packets h = subst AreOut (sym does.leaves.requests) (h (subst (AllByRecursion WasSent) does.sends packets))

  -- what may go again after a step was sent, if what might before it was, and what it sent
  step_out : (history : List Link) (old : ProxyState) (act : Act) (out : StepOut) (new : ProxyState) → IsStep server old act out new
      → AreHonest server history old.requests
      → AllByRecursion WasSent (originals out.packets) → AreOut old.requests → AreOut new.requests
  step_out history old (Given (Datagram at word from bytes)) out new step honest packets h =
      does_out old _ _ out new step.does packets (λ sent_now. datagram_out history old (arrival_of old at word from) (message_in (reading_of bytes)) honest sent_now h)
  step_out history old (Given (Time at)) out new step honest packets h = does_out old _ _ out new step.quiet.does packets (λ sent_now. h)
  step_out history old (Given (Fault at ticket)) out new step honest packets h =
      does_out old _ _ out new step.does packets
      (λ sent_now. fault_out (moment_of old at) ticket old (find (λ (r : OpenRequest). r.number == ticket.datagram) old.requests)
      (λ r e. (found_in (λ (x : OpenRequest). x.number == ticket.datagram) old.requests r e).0) sent_now h)
  step_out history old (Passing at) out new (inl quiet) honest packets h = does_out old _ _ out new quiet.does packets (λ sent_now. h)
  step_out history old (Passing at) out new (inr (inl due)) honest packets h =
      does_out old _ _ out new due.does packets
      (λ sent_now. changed_out out.at old due.change
      (overdue_out out.at due.request due.change due.passes (all_in IsOut old.requests due.request h (in_from_contains old.requests due.request due.is_open)) sent_now) h)
  step_out history old (Passing at) out new (inr (inr goes)) honest packets h =
      does_out old _ _ out new goes.does packets
      (λ sent_now. all_replaced IsOut goes.next old.requests h
      (λ stays. resent_out out.at goes.request goes.packets goes.next goes.goes (all_in IsOut old.requests goes.request h
      (in_from_contains old.requests goes.request goes.is_open))))

-- ---- a history

-- what was sent was sent among more
out_more : (server : Server) (more sent : List Packet) (r : OpenRequest) → IsOut server sent r → IsOut server (more ++ sent) r
out_more server more sent r h = record {
  answer = by_answer r.answer h.answer;
  branches = all_weaker (IsBranchOut server sent r) (IsBranchOut server (more ++ sent) r)
      (λ b own. (
        all_weaker (WasSent server sent) (WasSent server (more ++ sent)) (λ p there. Contains-append_right more sent p there) (branch_packets server false r b) own.0,
        all_weaker (WentBefore server sent) (WentBefore server (more ++ sent)) (λ p there. Contains-append_right more sent (first_sending p) there)
            (acks_again server r b b.phase) own.1,
      )) r.branches h.branches;
} where
  by_answer : (o : Option LastAnswer) → IsAnswerOut server sent r o → IsAnswerOut server (more ++ sent) r o
  by_answer None h = tt
  by_answer (Some a) h = λ e. Contains-append_right more sent (answer_to false r a.text) (h e)

-- which configuration is in force changes nothing of that
out_under : (server : Server) (config : Config) (sent : List Packet) (requests : List OpenRequest) → AreOut server sent requests
    → AreOut (under server config) sent requests
out_under server config sent requests h = all_weaker (IsOut server sent) (IsOut (under server config) sent)
    (λ r own. record { answer = by_answer r r.answer own.answer; branches = own.branches }) requests h where
      by_answer : (r : OpenRequest) (o : Option LastAnswer) → IsAnswerOut server sent r o → IsAnswerOut (under server config) sent r o
      by_answer r None h = tt
      by_answer r (Some a) h = h

out_back : (server : Server) (config : Config) (sent : List Packet) (requests : List OpenRequest) → AreOut (under server config) sent requests
    → AreOut server sent requests
out_back server config sent requests h = all_weaker (IsOut (under server config) sent) (IsOut server sent)
    (λ r own. record { answer = by_answer r r.answer own.answer; branches = own.branches }) requests h where
      by_answer : (r : OpenRequest) (o : Option LastAnswer) → IsAnswerOut (under server config) sent r o → IsAnswerOut server sent r o
      by_answer r None h = tt
      by_answer r (Some a) h = h

-- what may go again of the requests that are open after a history was sent in it
out_of_chain : (server : Server) (first : ℕ) (history : List Link) (last : ProxyState) → IsChain server (first_state first) history last
    → AreOut server (sent_first history) last.requests
out_of_chain server first [] last chain = subst (λ (s : ProxyState). AreOut server [] s.requests) (sym chain) tt
out_of_chain server first (link ∷ history) last chain =
    let now : List Packet = originals link.out.packets in
    subst (λ (s : ProxyState). AreOut server (now ++ sent_first history) s.requests) (sym chain.0)
    (out_back server link.config (now ++ sent_first history) link.after.requests
    (step_out (under server link.config) (now ++ sent_first history) history link.before link.act link.out link.after chain.1
    (honest_under server link.config history link.before.requests (honest_of_chain server first history link.before chain.2))
    (all_weaker (Contains now) (Contains (now ++ sent_first history)) (λ p there. Contains-append_left now (sent_first history) p there) now (all_there now))
    (out_under server link.config (now ++ sent_first history) link.before.requests
    (all_weaker (IsOut server (sent_first history)) (IsOut server (now ++ sent_first history)) (λ r. out_more server now (sent_first history) r) link.before.requests
    (out_of_chain server first history link.before chain.2)))))

-- What goes again in a step was sent in the history before it
pub went_of_chain : (server : Server) (first : ℕ) (link : Link) (history : List Link) (last : ProxyState) → IsChain server (first_state first) (link ∷ history) last
    → AllByRecursion (λ (p : Packet). Contains (sent_first history) (first_sending p)) (retransmissions link.out.packets)
went_of_chain server first link history last chain =
    let before : AreOut server (sent_first history) link.before.requests = out_of_chain server first history link.before chain.2 in
    all_weaker (IsRetransmission (under server link.config) link.before.requests) (WentBefore server (sent_first history))
    (λ p is. all_contains (WentBefore server (sent_first history)) (retransmissions_of (under server link.config) is.request) p
    (out_before server (sent_first history) is.request (all_contains (IsOut server (sent_first history)) link.before.requests is.request before is.is_open)) is.is_one)
    (retransmissions link.out.packets) (step_repeats (under server link.config) link.before link.act link.out link.after chain.1)
