-- The CANCELs that a change of an open request sends are those of its branches, each once.
use Rattle.std.proofs.Common.{◌≡◌, ◌⊎◌, inl, inr, ℕ, ◌+◌, ◌≤◌, Bool, true, false, not, ◌&&◌, ◌||◌, ◌==◌, cond, List, [], ◌∷◌, ◌++◌, map, filter, Contains, Option, Some}
use Rattle.std.proofs.Common.{None, refl, sym, ap, ap₂, subst, ◌∙◌, arith, count_by}
use Rattle.std.specs.Option.{option_map_or}
use Rattle.std.specs.List.{AllByRecursion, flat_map}
use Rattle.sip_uri.specs.declared.addr.Addr.{Addr}
use Rattle.sip_message_fields.specs.declared.field_name.FieldName.TheVariants as Name
use Rattle.sip_message_fields.specs.Values.{first_value}
use Rattle.sip_message_form.specs.declared.message.Message.{Message}
use Rattle.sip_message_form.specs.Text.{text_of}
use Rattle.sip_edit.specs.OwnRequests.{ack_with, cancel_of}
use Rattle.sip_config_types.specs.declared.config.Config.{Config}
use Rattle.sip_event.specs.declared.packet.Packet.{Packet}
use Rattle.model_steps.specs.state.declared.server.Server.{Server}
use Rattle.model_steps.specs.state.declared.branch.Phase.{Phase}
use Rattle.model_steps.specs.state.declared.branch.Phase.TheVariants.{Unheard, Heard, Cancelled, Done, Ended}
use Rattle.model_steps.specs.state.declared.branch.Branch.{Branch}
use Rattle.model_steps.specs.state.declared.open_request.Side.TheVariants.{Closed}
use Rattle.model_steps.specs.state.declared.open_request.OpenRequest.{OpenRequest}
use Rattle.model_steps.specs.state.declared.open_request.Upward.{Upward}
use Rattle.model_steps.specs.state.declared.proxy_state.ProxyState.{ProxyState}
use Rattle.model_steps.specs.state.State.{first_resend, is_invite, is_final, is_answering, is_success, is_failure, is_decline, is_provisional}
use Rattle.model_steps.specs.context_model.Sending.{request_of, to_branch, branch_packets, ack_packets, answer_to}
use Rattle.model_steps.specs.context_model.Branches.{Change, is_same_branch, turned, phased, with_phase, with_final, marked_branch, marked, given_up, after_upward}
use Rattle.model_steps.specs.context_model.Branches.{upward_list, best_upward, is_cancellable, cancel_branch, held_branch, with_cancel, with_cancels, settled, heard}
use Rattle.model_steps.specs.context_model.Branches.{relayed_provisional, further, linger, final_of, acks_of, told_to, relayed_success, with_answer, target_responded}
use Rattle.model_steps.specs.context_model.Branches.{cancel_responded, responded, target_overdue, branch_overdue, other_heard}
use Rattle.model_steps.specs.Effect.{change_packets, upward_packets}
use Rattle.model_steps.specs.Step.{Act, IsOverdue, OfSide, OfBranch, originals}
use Rattle.sip_model.specs.Run.{Link, under}
use Rattle.sip_model.specs.Parts.{IsChangeAt, ByResponse, ByDeadline, ByFault, ByCancel}
use Rattle.sip_model.specs.Cancels.{begins_cancel, BranchName, is_named, is_own_cancel, AreCancelsOf, NoMore, Another, OneMore}
use Rattle.sip_model.proofs.FinalsLists.{contained_behind}
use Rattle.sip_model.proofs.FinalsKept.{IsHonest}
use Rattle.sip_model.proofs.SendingLists.{all_joined}
use Rattle.sip_model.proofs.CancelTexts.{answer_begins}
use Rattle.sip_model.proofs.Lists.{head_there}
use Rattle.sip_model.proofs.Places.{IsIn, contains_from_in, count_cons, none_at, same_number}
use Rattle.sip_model.proofs.Later.{bare}

-- ---- packets

-- a packet is no CANCEL of this server
abbrev pub IsOther : Packet → Type 0
IsOther p = is_own_cancel p ≡ false

-- what doesn't begin as one is none
pub by_text : (t u : Bool) → u ≡ false → (t && u) ≡ false
by_text true u e = e
by_text false u e = refl

-- nor is what is for a branch
pub by_branch : (t u : Bool) → t ≡ false → (t && u) ≡ false
by_branch true u e = absurd (cc)
by_branch false u e = refl

module _ (server : Server) (history : List Link) where
  -- where none is one, no branch has its CANCEL among them
  pub others_named : (packets : List Packet) → AllByRecursion IsOther packets → AreCancelsOf server history [] packets
  others_named [] all = NoMore
  others_named (p ∷ ps) all = Another [] p ps all.0 (others_named ps all.1)

  -- packets behind others
  pub joined_named : (ns ms : List BranchName) (ps qs : List Packet) → AreCancelsOf server history ns ps → AreCancelsOf server history ms qs
      → AreCancelsOf server history (ns ++ ms) (ps ++ qs)
  joined_named _ ms _ qs NoMore back = back
  joined_named _ ms _ qs (Another names p packets other rest) back = Another (names ++ ms) p (packets ++ qs) other (joined_named names ms packets qs rest back)
  joined_named _ ms _ qs (OneMore name names p packets is rest) back = OneMore name (names ++ ms) p (packets ++ qs) is (joined_named names ms packets qs rest back)

-- in a longer history
pub later_named : (server : Server) (link : Link) (history : List Link) (names : List BranchName) (packets : List Packet) → AreCancelsOf server history names packets
    → AreCancelsOf server (link ∷ history) names packets
later_named server link history _ _ NoMore = NoMore
later_named server link history _ _ (Another names p packets other rest) = Another names p packets other (later_named server link history names packets rest)
later_named server link history _ _ (OneMore name names p packets is rest) =
    OneMore name names p packets
    (record {
      link = is.link;
      request = is.request;
      branch = is.branch;
      is_there = contained_behind link history is.link is.is_there;
      is_sent = is.is_sent;
      is_open = is.is_open;
      is_inside = is.is_inside;
      is_target = is.is_target;
      is_request = is.is_request;
      is_branch = is.is_branch;
      is_its = is.is_its;
    })
    (later_named server link history names packets rest)

-- said of the server under another configuration
pub named_back : (server : Server) (config : Config) (history : List Link) (names : List BranchName) (packets : List Packet)
    → AreCancelsOf (under server config) history names packets → AreCancelsOf server history names packets
named_back server config history _ _ NoMore = NoMore
named_back server config history _ _ (Another names p packets other rest) = Another names p packets other (named_back server config history names packets rest)
named_back server config history _ _ (OneMore name names p packets is rest) =
    OneMore name names p packets
    (record {
      link = is.link;
      request = is.request;
      branch = is.branch;
      is_there = is.is_there;
      is_sent = is.is_sent;
      is_open = is.is_open;
      is_inside = is.is_inside;
      is_target = is.is_target;
      is_request = is.is_request;
      is_branch = is.is_branch;
      is_its = is.is_its;
    })
    (named_back server config history names packets rest)

-- ---- branches that are kept

abbrev pub bare_branch : Branch → Branch
bare_branch b = record b { is_cancel = false; wants_cancel = false; phase = Ended; final_to = None; again = first_resend 0 }

-- a branch became another, to the same target
abbrev pub IsKeptBranch : Branch → Branch → Type 0
IsKeptBranch b x = (bare_branch x ≡ bare_branch b) × (x.is_cancel ≡ b.is_cancel)

-- the same of branches, one by one
abbrev pub AreKept : List Branch → List Branch → Type 0
AreKept [] [] = Unit {0}
AreKept [] (x ∷ xs) = ⊥
AreKept (b ∷ bs) [] = ⊥
AreKept (b ∷ bs) (x ∷ xs) = IsKeptBranch b x × AreKept bs xs

kept_map : (edit : Branch → Branch) → ((x : Branch) → IsKeptBranch x (edit x)) → (bs : List Branch) → AreKept bs (map edit bs)
kept_map edit keeps [] = tt
kept_map edit keeps (b ∷ bs) = (keeps b, kept_map edit keeps bs)

kept_same : (bs : List Branch) → AreKept bs bs
kept_same [] = tt
kept_same (b ∷ bs) = ((refl, refl), kept_same bs)

kept_both : (bs xs ys : List Branch) → AreKept bs xs → AreKept xs ys → AreKept bs ys
kept_both [] [] [] h k = tt
kept_both [] [] (y ∷ ys) h k = absurd k
kept_both [] (x ∷ xs) ys h k = absurd h
kept_both (b ∷ bs) [] ys h k = absurd h
kept_both (b ∷ bs) (x ∷ xs) [] h k = absurd k
kept_both (b ∷ bs) (x ∷ xs) (y ∷ ys) h k = ((k.0.0 ∙ h.0.0, k.0.1 ∙ h.0.1), kept_both bs xs ys h.1 k.1)

-- a request whose branches are kept
pub record Keeps (r s : OpenRequest) : Type 0 where
  pub same : bare s ≡ bare r
  pub branches : AreKept r.branches s.branches

-- ---- edits

edited_either : (t : Bool) (x y : Branch) → IsKeptBranch x y → IsKeptBranch x (cond t y x)
edited_either true x y h = h
edited_either false x y h = (refl, refl)

keeps_itself : (r : OpenRequest) → Keeps r r
keeps_itself r = record { same = refl; branches = kept_same r.branches }

keeps_phase : (b : Branch) (phase : Phase) (r : OpenRequest) → Keeps r (with_phase b phase r)
keeps_phase b phase r = record {
  same = refl;
  branches = kept_map (phased b phase) (λ x. edited_either (is_same_branch x b) x (turned b phase x) (refl, refl)) r.branches;
}

keeps_given_up : (b : Branch) (status : ℕ) (r : OpenRequest) → Keeps r (given_up b status r)
keeps_given_up b status r = record { same = refl; branches = (keeps_phase b Ended r).branches }

keeps_wanting : (b : Branch) (r : OpenRequest) → Keeps r (record r {
  branches = map (λ (x : Branch). cond (is_same_branch x b) (record x { wants_cancel = true }) x)
      r.branches;
})
keeps_wanting b r =
    record {
      same = refl;
      branches = kept_map (λ (x : Branch). cond (is_same_branch x b) (record x { wants_cancel = true }) x)
          (λ x. edited_either (is_same_branch x b) x (record x { wants_cancel = true }) (refl, refl)) r.branches;
    }

marked_kept : (x : Branch) → IsKeptBranch x (marked_branch x)
marked_kept x = by_test (x.is_cancel || is_final x.phase) where
  by_test : (t : Bool) → IsKeptBranch x (cond t x (record x { wants_cancel = true }))
  by_test true = (refl, refl)
  by_test false = (refl, refl)

keeps_marked : (r s : OpenRequest) → Keeps r s → Keeps r (marked s)
keeps_marked r s h = record {
  same = h.same;
  branches = kept_both r.branches s.branches (map marked_branch s.branches) h.branches
      (kept_map marked_branch marked_kept s.branches);
}

-- ---- a change is settled

-- A change is what settles from a request that keeps the branches, with ACKs.
pub record IsSettled (server : Server) (now : ℕ) (r : OpenRequest) (change : Change) : Type 0 where
  pub acks : List Packet
  pub relayed : Option Upward
  pub between : OpenRequest
  pub is_change : change ≡ settled server now acks relayed between
  pub others : AllByRecursion IsOther acks
  pub keeps : Keeps r between

module _ (server : Server) (now : ℕ) (r : OpenRequest) where
  -- without ACKs
  settles : (relayed : Option Upward) (s : OpenRequest) → Keeps r s → IsSettled server now r (settled server now [] relayed s)
  settles relayed s keeps = record { acks = []; relayed = relayed; between = s; is_change = refl; others = tt; keeps = keeps }

  -- an ACK
  ack_other : (b : Branch) (to : Option (List ℕ)) → AllByRecursion IsOther (ack_packets server false r b to)
  ack_other b to = by_address b.address (request_of server r b) where
    by_address : (o : Option Addr) (m : Message) → AllByRecursion IsOther (to_branch r (record b { address = o }) 0 false (ack_with to m))
    by_address None m = tt
    by_address (Some address) m = (refl, tt)

  acks_other : (b : Branch) (status : ℕ) (m : Message) → AllByRecursion IsOther (acks_of server r b status m)
  acks_other b status m = by_test (is_invite r && is_failure status) where
    by_test : (t : Bool) → AllByRecursion IsOther (cond t (ack_packets server false r b (first_value Name.To m.fields)) [])
    by_test true = ack_other b (first_value Name.To m.fields)
    by_test false = tt

  -- a response
  answer_keeps : (b : Branch) (status : ℕ) (m : Message) → Keeps r (with_answer r b now status m)
  answer_keeps b status m = by_test (is_invite r && (is_success status || is_decline status)) where
    same : Keeps r (with_final (final_of status m) (with_phase (told_to r b status m) (Done (now + linger r) status) r))
    same = record { same = refl; branches = (keeps_phase (told_to r b status m) (Done (now + linger r) status) r).branches }

    by_test : (t : Bool)
        → Keeps r (cond t (marked (with_final (final_of status m) (with_phase (told_to r b status m) (Done (now + linger r) status) r)))
        (with_final (final_of status m) (with_phase (told_to r b status m) (Done (now + linger r) status) r)))
    by_test true = keeps_marked r (with_final (final_of status m) (with_phase (told_to r b status m) (Done (now + linger r) status) r)) same
    by_test false = same

  target_settles : (b : Branch) (status : ℕ) (m : Message) → IsSettled server now r (target_responded server now r b status m)
  target_settles b status m = by_tests (is_provisional status) (is_final b.phase) where
    by_tests : (s t : Bool)
        → IsSettled server now r (cond s (settled server now [] (relayed_provisional r b status m) (with_phase b (heard r now status b.phase) r))
        (cond t (settled server now [] (further r b b.phase status m) r) (settled server now (acks_of server r b status m) (relayed_success r b status m)
        (with_answer r b now status m))))
    by_tests true t = settles (relayed_provisional r b status m) (with_phase b (heard r now status b.phase) r) (keeps_phase b (heard r now status b.phase) r)
    by_tests false true = settles (further r b b.phase status m) r (keeps_itself r)
    by_tests false false =
        record {
          acks = acks_of server r b status m;
          relayed = relayed_success r b status m;
          between = with_answer r b now status m;
          is_change = refl;
          others = acks_other b status m;
          keeps = answer_keeps b status m;
        }

  cancel_settles : (b : Branch) (status : ℕ) (m : Message) → IsSettled server now r (cancel_responded server now r b status m)
  cancel_settles b status m = by_tests (is_provisional status) (is_final b.phase) where
    by_tests : (s t : Bool)
        → IsSettled server now r (cond s (settled server now [] None (with_phase b (other_heard b.phase) r))
        (cond t (settled server now [] None r) (settled server now [] None (with_phase b (Done (now + 5000) status) r))))
    by_tests true t = settles None (with_phase b (other_heard b.phase) r) (keeps_phase b (other_heard b.phase) r)
    by_tests false true = settles None r (keeps_itself r)
    by_tests false false = settles None (with_phase b (Done (now + 5000) status) r) (keeps_phase b (Done (now + 5000) status) r)

  response_settles : (b : Branch) (status : ℕ) (m : Message) → IsSettled server now r (responded server now r b status m)
  response_settles b status m = by_kind b.is_cancel where
    by_kind : (t : Bool) → IsSettled server now r (cond t (cancel_responded server now r b status m) (target_responded server now r b status m))
    by_kind true = cancel_settles b status m
    by_kind false = target_settles b status m

  -- a deadline
  overdue_keeps : (b : Branch) (phase : Phase) → Keeps r (target_overdue r b phase)
  overdue_keeps b (Unheard due) = keeps_given_up b 408 r
  overdue_keeps b (Heard due) = by_test (is_invite r) where
    by_test : (t : Bool) → Keeps r (cond t (record r { branches = map (λ (x : Branch). cond (is_same_branch x b) (record x { wants_cancel = true }) x) r.branches })
        (given_up b 408 r))
    by_test true = keeps_wanting b r
    by_test false = keeps_given_up b 408 r
  overdue_keeps b (Cancelled due) = keeps_given_up b 487 r
  overdue_keeps b (Done due status) = keeps_phase b Ended r
  overdue_keeps b Ended = keeps_itself r

  branch_keeps : (b : Branch) → Keeps r (branch_overdue r b)
  branch_keeps b = by_kind b.is_cancel where
    by_kind : (t : Bool) → Keeps r (cond t (with_phase b Ended r) (target_overdue r b b.phase))
    by_kind true = keeps_phase b Ended r
    by_kind false = overdue_keeps b b.phase

  deadline_settles : (change : Change) → IsOverdue server now r change → IsSettled server now r change
  deadline_settles _ (OfSide is) = settles None (record r { side = Closed }) (record { same = refl; branches = kept_same r.branches })
  deadline_settles _ (OfBranch b there is) = settles None (branch_overdue r b) (branch_keeps b)

  -- the caller's CANCEL
  caller_settles : (t : Bool) → IsSettled server now r (settled server now [] None (cond t (marked r) r))
  caller_settles true = settles None (marked r) (keeps_marked r r (keeps_itself r))
  caller_settles false = settles None r (keeps_itself r)

  -- any change
  pub change_settles : (state : ProxyState) (act : Act) (change : Change) (again : List Packet) → IsChangeAt server state act now r change again
      → IsSettled server now r change
  change_settles state act _ _ (ByResponse a bytes m status reason b said start for there) = response_settles b status m
  change_settles state act change _ (ByDeadline _ passes) = deadline_settles change passes
  change_settles state act _ _ (ByFault at ticket b is number found) = settles None (given_up b 503 r) (keeps_given_up b 503 r)
  change_settles state act _ _ (ByCancel a bytes m short key said is key_is found) = caller_settles (is_invite r && is_answering r.side)

-- ---- CANCELs among the branches

-- whether a branch is the CANCEL of the target of a number
abbrev pub cancels : ℕ → Branch → Bool
cancels n b = b.is_cancel && b.number == n

-- whether it is to a target of that number, and is sent its CANCEL now
abbrev pub cancelled_now : ℕ → Branch → Bool
cancelled_now n b = is_cancellable b && b.number == n

-- as many as before
kept_count : (n : ℕ) (bs xs : List Branch) → AreKept bs xs → count_by (cancels n) xs ≡ count_by (cancels n) bs
kept_count n [] [] h = refl
kept_count n [] (x ∷ xs) h = absurd h
kept_count n (b ∷ bs) [] h = absurd h
kept_count n (b ∷ bs) (x ∷ xs) h =
    let same : x.number ≡ b.number = ap (λ (y : Branch). y.number) h.0.0 in
    let one : cond {A = ℕ} (cancels n x) 1 0 ≡ cond (cancels n b) 1 0 = ap₂ (λ (c : Bool) (k : ℕ). cond {A = ℕ} (c && k == n) 1 0) h.0.1 same in
    omega (arith, one, count_cons (cancels n) x xs, count_cons (cancels n) b bs, kept_count n bs xs h.1)

-- and one more for each that is sent one now
with_cancels_count : (n now : ℕ) (xs : List Branch) → count_by (cancels n) (flat_map (with_cancel now) xs) ≡ count_by (cancels n) xs + count_by (cancelled_now n) xs
with_cancels_count n now [] = refl
with_cancels_count n now (x ∷ xs) = by_test (is_cancellable x) refl (with_cancels_count n now xs) where
  target : (c w u : Bool) → (not c && w && u) ≡ true → c ≡ false
  target true w u e = absurd (cc)
  target false w u e = refl

  by_test : (t : Bool) → is_cancellable x ≡ t → count_by (cancels n) (flat_map (with_cancel now) xs) ≡ count_by (cancels n) xs + count_by (cancelled_now n) xs
      → count_by (cancels n) (cond t (held_branch now x ∷ cancel_branch now x ∷ []) (x ∷ []) ++ flat_map (with_cancel now) xs)
      ≡ count_by (cancels n) (x ∷ xs) + count_by (cancelled_now n) (x ∷ xs)
  by_test true is rest =
      let kind : x.is_cancel ≡ false = target x.is_cancel x.wants_cancel _ is in
      let held : cond {A = ℕ} (cancels n (held_branch now x)) 1 0 ≡ 0 = none_at (cancels n (held_branch now x)) (by_branch x.is_cancel (x.number == n) kind) in
      let was : cond {A = ℕ} (cancels n x) 1 0 ≡ 0 = none_at (cancels n x) (by_branch x.is_cancel (x.number == n) kind) in
      let sent : cond {A = ℕ} (cancelled_now n x) 1 0 ≡ cond {A = ℕ} (x.number == n) 1 0 = ap (λ (t : Bool). cond {A = ℕ} (t && x.number == n) 1 0) is in
      omega (
        arith,
        rest,
        held,
        was,
        sent,
        count_cons (cancels n) x xs,
        count_cons (cancelled_now n) x xs,
        count_cons (cancels n) (held_branch now x) (cancel_branch now x ∷ flat_map (with_cancel now) xs),
        count_cons (cancels n) (cancel_branch now x) (flat_map (with_cancel now) xs),
      )
  by_test false is rest =
      let sent : cond {A = ℕ} (cancelled_now n x) 1 0 ≡ 0 = none_at (cancelled_now n x) (by_branch (is_cancellable x) (x.number == n) is) in
      omega (arith, rest, sent, count_cons (cancels n) x xs, count_cons (cancelled_now n) x xs, count_cons (cancels n) x (flat_map (with_cancel now) xs))

-- ---- their packets

-- what is made of a value, if there is one
one_or_none : (o : Option Addr) (f : Addr → Packet) → (option_map_or (λ address. f address ∷ []) o [] ≡ [])
    ⊎ ((p : Packet) × (option_map_or (λ address. f address ∷ []) o [] ≡ p ∷ []))
one_or_none None f = inl refl
one_or_none (Some address) f = inr (f address, refl)

-- Packets with the names of the branches whose CANCELs are among them: branches of the request, each no more often than it is sent one now.
pub record IsNamed (server : Server) (history : List Link) (r : OpenRequest) (xs : List Branch) (packets : List Packet) : Type 0 where
  pub names : List BranchName
  pub are_all : AreCancelsOf server history names packets
  pub few : (n : ℕ) → count_by (is_named (r.number, n)) names ≤ count_by (cancelled_now n) xs
  pub own : (d n : ℕ) → (r.number == d) ≡ false → count_by (is_named (d, n)) names ≡ 0

module _ (server : Server) (history : List Link) (link : Link) (there : Contains history link) (r : OpenRequest) (is_open : Contains link.before.requests r)
    (after : OpenRequest) (same : bare after ≡ bare r) (now : ℕ) where
  -- what goes
  abbrev going : List Branch → List Packet
  going xs = flat_map (branch_packets server false after) (map (cancel_branch now) (filter is_cancellable xs))

  -- one behind the others
  named_more : (b x : Branch) (xs : List Branch) (packets : List Packet) → IsKeptBranch b x → is_cancellable x ≡ true → Contains r.branches b
      → ((p : Packet) → IsIn p (to_branch r b 0 false (cancel_of (request_of server r b))) → Contains (originals link.out.packets) p)
      → IsNamed server history r xs packets → IsNamed server history r (x ∷ xs) (to_branch r b 0 false (cancel_of (request_of server r b)) ++ packets)
  named_more b x xs packets kept ready inside sent rest = by_packets (one_or_none b.address
      (λ address. record { to = address; bytes = text_of (cancel_of (request_of server r b)); ticket = record { datagram = r.number; branch = 0 }; again = false })) where
        number : x.number ≡ b.number
        number = ap (λ (y : Branch). y.number) kept.0

        target : (c w u : Bool) → (not c && w && u) ≡ true → c ≡ false
        target true w u e = absurd (cc)
        target false w u e = refl

        by_packets : (to_branch r b 0 false (cancel_of (request_of server r b)) ≡ [])
            ⊎ ((p : Packet) × (to_branch r b 0 false (cancel_of (request_of server r b)) ≡ p ∷ []))
            → IsNamed server history r (x ∷ xs) (to_branch r b 0 false (cancel_of (request_of server r b)) ++ packets)
        by_packets (inl none) =
            record {
              names = rest.names;
              are_all = subst (λ (ps : List Packet). AreCancelsOf server history rest.names (ps ++ packets)) (sym none) rest.are_all;
              few = λ n. let own = rest.few n in omega (arith, own, count_cons (cancelled_now n) x xs);
              own = rest.own;
            }
        by_packets (inr (p, one)) =
            record {
              names = (r.number, b.number) ∷ rest.names;
              are_all =
                  subst (λ (ps : List Packet). AreCancelsOf server history ((r.number, b.number) ∷ rest.names) (ps ++ packets)) (sym one)
                  (OneMore (r.number, b.number) rest.names p packets (record {
                    link = link;
                    request = r;
                    branch = b;
                    is_there = there;
                    is_sent = sent p (subst (IsIn p) (sym one) (inl refl));
                    is_open = is_open;
                    is_inside = inside;
                    is_target = sym kept.1 ∙ target x.is_cancel x.wants_cancel _ ready;
                    is_request = refl;
                    is_branch = refl;
                    is_its = subst (λ (ps : List Packet). Contains ps p) (sym one) (head_there p []);
                  }) rest.are_all);
              few = λ n.
                  let own = rest.few n in
                  let one_now : cond {A = ℕ} (is_named (r.number, n) (r.number, b.number)) 1 0 ≡ cond (cancelled_now n x) 1 0 =
                  ap₂ (λ (s t : Bool). cond {A = ℕ} (s && t) 1 0) (same_number r.number r.number refl ∙ sym ready) (ap (λ (k : ℕ). k == n) (sym number)) in
                  omega (arith, own, one_now, count_cons (is_named (r.number, n)) (r.number, b.number) rest.names, count_cons (cancelled_now n) x xs);
              own = λ d n other.
                  let before = rest.own d n other in
                  omega (
                    arith,
                    before,
                    count_cons (is_named (d, n)) (r.number, b.number) rest.names,
                    none_at (is_named (d, n) (r.number, b.number)) (by_branch (r.number == d) (b.number == n) other),
                  );
            }

  -- all that go
  pub cancels_named : (bs xs : List Branch) → AreKept bs xs → ((b : Branch) → IsIn b bs → Contains r.branches b)
      → ((p : Packet) → IsIn p (going xs) → Contains (originals link.out.packets) p) → IsNamed server history r xs (going xs)
  cancels_named [] [] kept inside sent = record { names = []; are_all = NoMore; few = λ n. omega arith; own = λ d n other. refl }
  cancels_named [] (x ∷ xs) kept inside sent = absurd kept
  cancels_named (b ∷ bs) [] kept inside sent = absurd kept
  cancels_named (b ∷ bs) (x ∷ xs) kept inside sent = by_test (is_cancellable x) refl sent (λ later. cancels_named bs xs kept.1 (λ y at. inside y (inr at)) later) where
    its : branch_packets server false after (cancel_branch now x) ≡ to_branch r b 0 false (cancel_of (request_of server r b))
    its = ap₂ (λ (q : OpenRequest) (y : Branch). to_branch q y 0 false (cancel_of (request_of server q y))) same kept.0.0

    in_front : (ps qs : List Packet) (p : Packet) → IsIn p ps → IsIn p (ps ++ qs)
    in_front [] qs p at = absurd at
    in_front (y ∷ ys) qs p (inl here) = inl here
    in_front (y ∷ ys) qs p (inr at) = inr (in_front ys qs p at)

    in_back : (ps qs : List Packet) (p : Packet) → IsIn p qs → IsIn p (ps ++ qs)
    in_back [] qs p at = at
    in_back (y ∷ ys) qs p at = inr (in_back ys qs p at)

    by_test : (t : Bool) → is_cancellable x ≡ t → ((p : Packet) → IsIn p (flat_map (branch_packets server false after)
        (map (cancel_branch now) (cond t (x ∷ filter is_cancellable xs) (filter is_cancellable xs)))) → Contains (originals link.out.packets) p)
        → (((p : Packet) → IsIn p (going xs) → Contains (originals link.out.packets) p) → IsNamed server history r xs (going xs))
        → IsNamed server history r (x ∷ xs) (flat_map (branch_packets server false after)
        (map (cancel_branch now) (cond t (x ∷ filter is_cancellable xs) (filter is_cancellable xs))))
    by_test true is went rest =
        subst (λ (ps : List Packet). IsNamed server history r (x ∷ xs) (ps ++ going xs)) (sym its)
        (named_more b x xs (going xs) kept.0 is (inside b (inl refl))
        (λ p at. went p (in_front (branch_packets server false after (cancel_branch now x)) (going xs) p (subst (IsIn p) (sym its) at)))
        (rest (λ p at. went p (in_back (branch_packets server false after (cancel_branch now x)) (going xs) p at))))
    by_test false is went rest =
        let own : IsNamed server history r xs (going xs) = rest went in
        record {
          names = own.names;
          are_all = own.are_all;
          few = λ n. let few = own.few n in omega (arith, few, count_cons (cancelled_now n) x xs);
          own = own.own;
        }

-- ---- a change

-- answers are no CANCELs
pub ups_other : (r : OpenRequest) (us : List Upward) → AllByRecursion IsHonest us → AllByRecursion IsOther (upward_packets r us)
ups_other r [] all = tt
ups_other r (u ∷ us) all = (
  by_text ((answer_to false r (text_of u.message)).ticket.branch == 0) (begins_cancel (text_of u.message))
      (answer_begins u.status u.message all.0.is_of),
  ups_other r us all.1,
)

-- What a change sends has names: of branches of its request, and as many CANCELs are among the branches after it more.
pub record IsNamedChange (server : Server) (history : List Link) (r : OpenRequest) (change : Change) : Type 0 where
  pub names : List BranchName
  pub are_all : AreCancelsOf server history names (change_packets change)
  pub few : (n : ℕ) → count_by (cancels n) r.branches + count_by (is_named (r.number, n)) names ≤ count_by (cancels n) change.request.branches
  pub own : (d n : ℕ) → (r.number == d) ≡ false → count_by (is_named (d, n)) names ≡ 0

module _ (server : Server) (history : List Link) (link : Link) (there : Contains history link) (r : OpenRequest) (is_open : Contains link.before.requests r)
    (now : ℕ) where
  -- an answer leaves the branches, and what the request is from its first moment
  told_branches : (o : Option Upward) (q : OpenRequest) → (after_upward now o q).branches ≡ q.branches
  told_branches None q = refl
  told_branches (Some u) q = refl

  told_bare : (o : Option Upward) (q : OpenRequest) → bare (after_upward now o q) ≡ bare q
  told_bare None q = refl
  told_bare (Some u) q = refl

  settled_named : (acks : List Packet) (relayed : Option Upward) (s : OpenRequest) → AllByRecursion IsOther acks → Keeps r s
      → AllByRecursion IsHonest (settled server now acks relayed s).upward
      → ((p : Packet) → IsIn p (settled server now acks relayed s).cancels → Contains (originals link.out.packets) p)
      → IsNamedChange server history r (settled server now acks relayed s)
  settled_named acks relayed s others keeps honest sent = record {
    names = named.names;
    are_all =
        joined_named server history [] named.names (acks ++ upward_packets (with_cancels now after) ups)
        (flat_map (branch_packets server false after) (map (cancel_branch now) (filter is_cancellable after.branches)))
        (others_named server history (acks ++ upward_packets (with_cancels now after) ups)
        (all_joined IsOther acks (upward_packets (with_cancels now after) ups) others (ups_other (with_cancels now after) ups honest)))
        named.are_all;
    few = λ n.
        let few = named.few n in
        omega (arith, few, with_cancels_count n now after.branches, kept_count n r.branches after.branches kept);
    own = named.own;
  } where
    told : OpenRequest
    told = after_upward now relayed s

    after : OpenRequest
    after = after_upward now (best_upward server told) told

    ups : List Upward
    ups = upward_list relayed ++ upward_list (best_upward server told)

    branches : after.branches ≡ s.branches
    branches = told_branches (best_upward server told) told ∙ told_branches relayed s

    kept : AreKept r.branches after.branches
    kept = subst (AreKept r.branches) (sym branches) keeps.branches

    named : IsNamed server history r after.branches (flat_map (branch_packets server false after) (map (cancel_branch now) (filter is_cancellable after.branches)))
    named =
        cancels_named server history link there r is_open after (told_bare (best_upward server told) told ∙ told_bare relayed s ∙ keeps.same) now r.branches
        after.branches kept (λ b at. contains_from_in r.branches b at) sent

  -- any change
  pub change_named : (change : Change) → IsSettled server now r change → AllByRecursion IsHonest change.upward
      → ((p : Packet) → IsIn p change.cancels → Contains (originals link.out.packets) p) → IsNamedChange server history r change
  change_named change h honest sent =
      subst (IsNamedChange server history r) (sym h.is_change)
      (settled_named h.acks h.relayed h.between h.others h.keeps (subst (λ (c : Change). AllByRecursion IsHonest c.upward) h.is_change honest)
      (λ p at. sent p (subst (λ (c : Change). IsIn p c.cancels) (sym h.is_change) at)))
