-- Over every history each branch is sent its CANCEL for the first time once.
use Rattle.std.proofs.Common.{◌≡◌, inl, inr, ℕ, ◌+◌, ◌≤◌, Bool, true, false, ◌&&◌, ◌||◌, ◌==◌, cond, List, [], ◌∷◌, ◌++◌, map, filter, flat_map, Contains, Option, Some}
use Rattle.std.proofs.Common.{None, refl, sym, ap, subst, ◌∙◌, arith, count_by, bytes_eq, codes, true≢false}
use Rattle.std.proofs.lemmas.Slice.Eq.{bytes_eq-Decides}
use Rattle.std.specs.List.{AllByRecursion}
use Rattle.sip_uri.specs.declared.addr.Addr.{Addr}
use Rattle.sip_message_fields.specs.declared.field.Field.{Field}
use Rattle.sip_message_form.specs.declared.message.Start.{Start}
use Rattle.sip_message_form.specs.declared.message.Start.TheVariants.{Request, Status}
use Rattle.sip_message_form.specs.declared.message.Message.{Message}
use Rattle.sip_message_form.specs.Text.{text_of}
use Rattle.sip_edit.specs.Onward.{with_uri, onward_uri}
use Rattle.sip_event.specs.declared.packet.Packet.{Packet}
use Rattle.sip_event.specs.declared.event.Event.TheVariants.{Datagram, Time, Fault}
use Rattle.model_steps.specs.state.declared.server.Server.{Server}
use Rattle.model_steps.specs.state.declared.branch.Branch.{Branch}
use Rattle.model_steps.specs.state.declared.open_request.OpenRequest.{OpenRequest}
use Rattle.model_steps.specs.state.declared.open_request.Upward.{Upward}
use Rattle.model_steps.specs.state.declared.proxy_state.ProxyState.{ProxyState}
use Rattle.model_steps.specs.state.State.{first_state, is_invite}
use Rattle.model_steps.specs.state.Arrival.{Arrival}
use Rattle.model_steps.specs.context_model.Sending.{answer_packet, branch_packets, made_answer, onward_as, sent_of, to_branch}
use Rattle.model_steps.specs.context_model.Branches.{Change, after_upward, best_upward, is_cancellable, cancel_branch, is_same_branch, acknowledged, acknowledged_side}
use Rattle.model_steps.specs.context_model.Branches.{was_refused}
use Rattle.model_steps.specs.context_model.Opening.{forking, opening, tried, trying, is_tried}
use Rattle.model_steps.specs.context_model.Retransmission.{IsResent, OfAnswer, OfRequest, branch_next, resent_branch}
use Rattle.model_steps.specs.Effect.{replaced, change_packets, upward_packets, ack_packet, method_of}
use Rattle.model_steps.specs.Step.{Act, Given, Passing, NoneBefore, originals, retransmissions}
use Rattle.sip_model.specs.Order.{is_numbered, AreNumbered}
use Rattle.sip_model.specs.Run.{Link, IsChain, under}
use Rattle.sip_model.specs.Lives.{sent_first}
use Rattle.sip_model.specs.Parts.{AreBegun, IsOpening, Answered, Sent, IsChangeAt, IsPart, Stays, Passes, Copies, TurnsAway, Opens, Changes, Resends, Acknowledges}
use Rattle.sip_model.specs.Parts.{AreParts, One, Two, HasParts, made_text, next_after}
use Rattle.sip_model.specs.Cancels.{begins_cancel, BranchName, is_named, is_own_cancel, AreCancelsOf, NoMore, HasOneCancelEach}
use Rattle.sip_model.proofs.FinalsHistory.{PartsLaw}
use Rattle.sip_model.proofs.FinalsKept.{made_status}
use Rattle.sip_model.proofs.FinalsLists.{all_replaced}
use Rattle.sip_model.proofs.FinalsChanges.{IsSound, change_sound, settled_sound}
use Rattle.sip_model.proofs.SendingLists.{all_joined, count_joined}
use Rattle.sip_model.proofs.SendingLists.{other_number}
use Rattle.sip_model.proofs.SendingTimes.{AreCopyLaws}
use Rattle.sip_model.proofs.SendingSteps.{said_next}
use Rattle.sip_model.proofs.SendingOpenings.{opening_number}
use Rattle.sip_model.proofs.CancelBranches.{is_place, is_early}
use Rattle.sip_model.proofs.CancelTexts.{IsTest, answer_begins}
use Rattle.sip_model.proofs.CancelChanges.{IsFine, IsCounted, change_leaves}
use Rattle.sip_model.proofs.CancelOpenings.{tried_well, begun_each, unsent_kept}
use Rattle.sip_model.proofs.CancelParts.{Stands, IsWell, part_well, parts_well}
use Rattle.sip_model.proofs.CancelNames.{IsOther, by_branch, others_named, joined_named, later_named, named_back, cancels, IsNamedChange, change_settles, change_named}
use Rattle.sip_model.proofs.CancelNames.{ups_other}
use Rattle.sip_model.proofs.Lists.{head_there}
use Rattle.sip_model.proofs.Places.{IsIn, all_in, all_weaker, contains_from_in, count_cons, counts_in, in_from_contains, same_number}
use Rattle.sip_model.proofs.Rising.{number_is}

-- ---- lists

-- what is in one of two lists is in both together
in_front : {X : Type 0} (ps qs : List X) (p : X) → IsIn p ps → IsIn p (ps ++ qs)
in_front [] qs p at = absurd at
in_front (y ∷ ys) qs p (inl here) = inl here
in_front (y ∷ ys) qs p (inr at) = inr (in_front ys qs p at)

in_back : {X : Type 0} (ps qs : List X) (p : X) → IsIn p qs → IsIn p (ps ++ qs)
in_back [] qs p at = at
in_back (y ∷ ys) qs p at = inr (in_back ys qs p at)

-- ---- the test

-- it is the same of a copy, and only CANCELs of this server pass
own_test : IsTest is_own_cancel
own_test = record { either = λ p again. refl; begins = λ p is. (both p is).1; no_branch = λ p is. number_is p.ticket.branch 0 (both p is).0 } where
  both : (p : Packet) → is_own_cancel p ≡ true → ((p.ticket.branch == 0) ≡ true) × (begins_cancel p.bytes ≡ true)
  both p is = by_tests (p.ticket.branch == 0) (begins_cancel p.bytes) is where
    by_tests : (t u : Bool) → (t && u) ≡ true → (t ≡ true) × (u ≡ true)
    by_tests true true e = (refl, refl)
    by_tests true false e = absurd (cc)
    by_tests false u e = absurd (cc)

-- ---- what is sent beside changes

-- an ACK that goes onward begins with its method
onward_other : (server : Server) (number : ℕ) (m : Message) (from : Addr) (uri : List ℕ) (target : ℕ) → bytes_eq (method_of m.start) (codes "ACK") ≡ true
    → begins_cancel (text_of (onward_as server number m from uri target)) ≡ false
onward_other server number m from uri target e = by_start m.start (onward_as server number m from uri target).fields (onward_as server number m from uri target).body
    e where
      by_start : (s : Start) (fields : List Field) (body : List ℕ) → bytes_eq (method_of s) (codes "ACK") ≡ true
          → begins_cancel (text_of (record { start = with_uri uri s; fields = fields; body = body })) ≡ false
      by_start (Request method old version) fields body is =
          subst (λ (name : List ℕ). begins_cancel (text_of (record { start = Request name uri version; fields = fields; body = body })) ≡ false)
          (sym ((bytes_eq-Decides method (codes "ACK")).0 is)) refl
      by_start (Status code reason) fields body is = absurd (cc)

-- requests to targets have branches on their tickets
requests_other : (server : Server) (r : OpenRequest) (now number : ℕ) (bs : List Branch) → 1 ≤ number → AreBegun now number bs
    → AllByRecursion IsOther (flat_map (branch_packets server false r) bs)
requests_other server r now number [] high begun = tt
requests_other server r now number (b ∷ bs) high begun =
    all_joined IsOther (branch_packets server false r b) (flat_map (branch_packets server false r) bs) (by_address b.address b.is_cancel begun.0.is_target)
    (requests_other server r now (number + 1) bs (omega (arith, high)) begun.1) where
      apart : (b.number == 0) ≡ false
      apart = let numbered = begun.0.is_numbered in other_number b.number 0 (λ none. absurd (omega (arith, numbered, none, high)))

      by_address : (o : Option Addr) (t : Bool) → t ≡ false → AllByRecursion IsOther (to_branch r (record b { address = o }) (cond t 0 b.number) false
          (sent_of server r b))
      by_address None t e = tt
      by_address (Some address) true e = absurd (cc)
      by_address (Some address) false e = (by_branch (b.number == 0) (begins_cancel (text_of (sent_of server r b))) apart, tt)

-- none of them is to be cancelled
none_wanted : (now number : ℕ) (bs : List Branch) → AreBegun now number bs → filter is_cancellable bs ≡ []
none_wanted now number [] begun = refl
none_wanted now number (b ∷ bs) begun = rw (begun.0.is_target, begun.0.is_wanted) (none_wanted now (number + 1) bs begun.1)

-- what opens a request sends no CANCEL
opening_other : (server : Server) (a : Arrival) (m : Message) (r : OpenRequest) (firsts : List Packet) → IsOpening server a m r firsts → AllByRecursion IsOther firsts
opening_other server a m _ _ (Answered status extras final) = (answered, tt) where
  answered : is_own_cancel (answer_packet false a.number m a.from (made_text server a m status extras)) ≡ false
  answered = answer_begins status (made_answer server a.number m a.from status extras) (record { reason = _; start_is = refl })
opening_other server a m _ _ (Sent first others begun) =
    all_joined IsOther (upward_packets fork (trying server fork) ++ change_packets (opening server a.now fork))
    (flat_map (branch_packets server false fork) (first ∷ others))
    (all_joined IsOther (upward_packets fork (trying server fork)) (change_packets (opening server a.now fork)) (hundred (is_tried fork))
    (all_joined IsOther (upward_packets (opening server a.now fork).request (opening server a.now fork).upward) (opening server a.now fork).cancels
    (ups_other (opening server a.now fork).request (opening server a.now fork).upward sound.honest)
    (subst (λ (bs : List Branch). AllByRecursion IsOther (flat_map (branch_packets server false after) (map (cancel_branch a.now) bs)))
    (sym (ap (filter is_cancellable) branches ∙ none_wanted a.now 1 (first ∷ others) begun)) tt)))
    (requests_other server fork a.now 1 (first ∷ others) (omega arith) begun) where
      fork : OpenRequest
      fork = forking a m (first ∷ others)

      start : OpenRequest
      start = tried a.now (trying server fork) fork

      after : OpenRequest
      after = after_upward a.now (best_upward server start) start

      hundred : (t : Bool) → AllByRecursion IsOther (upward_packets fork (cond t (record {
        status = 100;
        message = made_answer server fork.number fork.request.message fork.request.source 100 [];
        target = None;
      } ∷ []) []))
      hundred true = (answer_begins 100 (made_answer server fork.number fork.request.message fork.request.source 100 []) (made_status server fork 100), tt)
      hundred false = tt

      told : (o : Option Upward) (q : OpenRequest) → (after_upward a.now o q).branches ≡ q.branches
      told None q = refl
      told (Some u) q = refl

      tried_same : (t : Bool) → (tried a.now (cond t (record {
        status = 100;
        message = made_answer server fork.number fork.request.message fork.request.source 100 [];
        target = None;
      }
          ∷ []) []) fork).branches ≡ first ∷ others
      tried_same true = refl
      tried_same false = refl

      branches : after.branches ≡ first ∷ others
      branches = told (best_upward server start) start ∙ tried_same (is_tried fork)

      sound : IsSound fork (opening server a.now fork)
      sound = settled_sound server a.now [] None fork (tried a.now (trying server fork) fork) tt tt
          (tried_well server a.now fork (begun_each a.now 1 (first ∷ others) (omega arith) begun) tt (unsent_kept (first ∷ others))).like

-- ---- what holds of the names

-- Each name was given once, none is of a later request, and an open request has a CANCEL among its branches for each of its own.
record HasNames (names : List BranchName) (next : ℕ) (requests : List OpenRequest) : Type 0 where
  differ : (d n : ℕ) → count_by (is_named (d, n)) names ≤ 1
  below : (d n : ℕ) → next ≤ d → count_by (is_named (d, n)) names ≡ 0
  used : AllByRecursion (λ (r : OpenRequest). (n : ℕ) → count_by (is_named (r.number, n)) names ≤ count_by (cancels n) r.branches) requests

-- in another order
names_alike : (a b : List BranchName) (next : ℕ) (requests : List OpenRequest) → ((name : BranchName) → count_by (is_named name) a ≡ count_by (is_named name) b)
    → HasNames a next requests → HasNames b next requests
names_alike a b next requests same h = record {
  differ = λ d n. let own = h.differ d n in let alike = same (d, n) in omega (arith, own, alike);
  below = λ d n high. sym (same (d, n)) ∙ h.below d n high;
  used = all_weaker (λ (r : OpenRequest). (n : ℕ) → count_by (is_named (r.number, n)) a ≤ count_by (cancels n) r.branches) (λ (r : OpenRequest). (n : ℕ)
      → count_by (is_named (r.number, n)) b ≤ count_by (cancels n) r.branches) requests
      (λ r own n. let few = own n in let alike = same (r.number, n) in omega (arith, few, alike)) h.used;
}

-- before a later number
names_later : (names : List BranchName) (next later : ℕ) (requests : List OpenRequest) → next ≤ later → HasNames names next requests → HasNames names later requests
names_later names next later requests high h = record { differ = h.differ; below = λ d n above. h.below d n (omega (arith, high, above)); used = h.used }

-- where a request replaces the one of its number, and has as many CANCELs
names_replaced : (names : List BranchName) (next : ℕ) (requests : List OpenRequest) (r new : OpenRequest) → IsIn r requests → new.number ≡ r.number
    → ((n : ℕ) → count_by (cancels n) new.branches ≡ count_by (cancels n) r.branches)
    → AreNumbered next requests → HasNames names next requests → HasNames names next (replaced new requests)
names_replaced names next requests r new there same counts numbered h = record {
  differ = h.differ;
  below = h.below;
  used = all_replaced (λ (x : OpenRequest). (n : ℕ) → count_by (is_named (x.number, n)) names ≤ count_by (cancels n) x.branches) (λ (x : OpenRequest). (n : ℕ)
      → count_by (is_named (x.number, n)) names ≤ count_by (cancels n) x.branches) new requests (numbered.differ new.number)
      (λ x other own. own)
      (λ n. let own = all_in (λ (x : OpenRequest). (k : ℕ) → count_by (is_named (x.number, k)) names ≤ count_by (cancels k) x.branches) requests r h.used there n in
      let alike = counts n in
      let number : count_by (is_named (new.number, n)) names ≡ count_by (is_named (r.number, n)) names = ap (λ (d : ℕ). count_by (is_named (d, n)) names) same in
      omega (arith, own, alike, number)) h.used;
}

-- a CANCEL has its place
cancel_places : (n : ℕ) (bs : List Branch) → count_by (cancels n) bs ≤ count_by (is_place n) bs
cancel_places n [] = omega arith
cancel_places n (b ∷ bs) = omega (
  arith,
  count_cons (cancels n) b bs,
  count_cons (is_place n) b bs,
  less b.is_cancel (b.number == n) (is_early b.phase),
  cancel_places n bs,
) where
  less : (c u e : Bool) → cond {A = ℕ} (c && u) 1 0 ≤ cond {A = ℕ} (u && (c || e)) 1 0
  less true true e = omega arith
  less true false e = omega arith
  less false u e = omega arith

-- ---- the parts of a step

module _ (laws : AreCopyLaws) (server : Server) (link : Link) (past : List Link) where
  abbrev history : List Link
  history = link ∷ past

  -- What a part of a step sends has names, with which all still holds.
  record Goes (old : List BranchName) (next : ℕ) (after : List OpenRequest) (firsts : List Packet) : Type 0 where
    names : List BranchName
    are_all : AreCancelsOf server history names firsts
    holds : HasNames (names ++ old) next after

  -- one without CANCELs
  silent : (old : List BranchName) (next : ℕ) (after : List OpenRequest) (firsts : List Packet) → AllByRecursion IsOther firsts → HasNames old next after
      → Goes old next after firsts
  silent old next after firsts others h = record { names = []; are_all = others_named server history firsts others; holds = h }

  -- what holds of an open request by its names
  abbrev Used : List BranchName → OpenRequest → Type 0
  Used names x = (n : ℕ) → count_by (is_named (x.number, n)) names ≤ count_by (cancels n) x.branches

  -- a change of an open request
  change_goes : (old : List BranchName) (now next : ℕ) (requests : List OpenRequest) (r : OpenRequest) (change : Change) (again : List Packet)
      → Contains link.before.requests r → IsIn r requests
      → IsChangeAt server link.before link.act now r change again → ((p : Packet) → IsIn p change.cancels → Contains (originals link.out.packets) p)
      → Stands next requests → HasNames old next requests
      → Goes old next (replaced change.request requests) (change_packets change)
  change_goes old now next requests r change again is_open there is sent stands h = record {
    names = named.names;
    are_all = named.are_all;
    holds = record {
      differ = λ d n. by_number d n (r.number == d) refl;
      below = λ d n high. later d n high;
      used = all_replaced (Used old) (Used (named.names ++ old)) change.request requests (stands.numbered.differ change.request.number)
          (λ x other own n. lifts x n other (own n)) (λ n. new_used n) h.used;
    };
  } where
    fine : IsFine r
    fine = all_in IsFine requests r stands.fine there

    leaves : IsCounted is_own_cancel server r change × IsFine change.request
    leaves = change_leaves laws is_own_cancel server link.before link.act now r change again is fine

    sound : IsSound r change
    sound = change_sound server link.before link.act now r change again is fine.keeps

    named : IsNamedChange server history r change
    named = change_named server history link (head_there link past) r is_open now change (change_settles server now r link.before link.act change again is)
        sound.honest sent

    joined : (d n : ℕ) → count_by (is_named (d, n)) (named.names ++ old) ≡ count_by (is_named (d, n)) named.names + count_by (is_named (d, n)) old
    joined d n = count_joined (is_named (d, n)) named.names old

    -- of the request itself
    own_used : (n : ℕ) → count_by (is_named (r.number, n)) (named.names ++ old) ≤ count_by (cancels n) change.request.branches
    own_used n =
        let few = named.few n in
        let before = all_in (Used old) requests r h.used there n in
        let all = joined r.number n in
        omega (arith, few, before, all)

    new_used : (n : ℕ) → count_by (is_named (change.request.number, n)) (named.names ++ old) ≤ count_by (cancels n) change.request.branches
    new_used n = subst (λ (d : ℕ). count_by (is_named (d, n)) (named.names ++ old) ≤ count_by (cancels n) change.request.branches) (sym leaves.0.number_is) (own_used n)

    -- of another
    other_names : (d n : ℕ) → (r.number == d) ≡ false → count_by (is_named (d, n)) (named.names ++ old) ≡ count_by (is_named (d, n)) old
    other_names d n other =
        let none = named.own d n other in
        let all = joined d n in
        omega (arith, none, all)

    lifts : (x : OpenRequest) (n : ℕ) → (x.number == change.request.number) ≡ false → count_by (is_named (x.number, n)) old ≤ count_by (cancels n) x.branches
        → count_by (is_named (x.number, n)) (named.names ++ old) ≤ count_by (cancels n) x.branches
    lifts x n other own =
        let apart : (r.number == x.number) ≡ false = other_number r.number x.number (λ same.
        true≢false (sym (same_number x.number change.request.number (sym same ∙ sym leaves.0.number_is)) ∙ other)) in
        let alike = other_names x.number n apart in
        omega (arith, own, alike)

    by_number : (d n : ℕ) (t : Bool) → (r.number == d) ≡ t → count_by (is_named (d, n)) (named.names ++ old) ≤ 1
    by_number d n true is =
        let number : r.number ≡ d = number_is r.number d is in
        let places = leaves.1.places n in
        subst (λ (k : ℕ). count_by (is_named (k, n)) (named.names ++ old) ≤ 1) number (omega (arith, places, own_used n, cancel_places n change.request.branches))
    by_number d n false other =
        let alike = other_names d n other in
        let before = h.differ d n in
        omega (arith, alike, before)

    later : (d n : ℕ) → next ≤ d → count_by (is_named (d, n)) (named.names ++ old) ≡ 0
    later d n high = by_test (r.number == d) refl where
      by_test : (t : Bool) → (r.number == d) ≡ t → count_by (is_named (d, n)) (named.names ++ old) ≡ 0
      by_test true is =
          let none = stands.numbered.are_below d high in
          let one = counts_in (is_numbered d) requests r there is in
          absurd (omega (arith, none, one))
      by_test false other = other_names d n other ∙ h.below d n high

  -- what goes again, and an ACK, leave the CANCELs
  resent_counts : (now : ℕ) (r later : OpenRequest) (again : List Packet) → IsResent server now r again later
      → (later.number ≡ r.number) × ((n : ℕ) → count_by (cancels n) later.branches ≡ count_by (cancels n) r.branches)
  resent_counts now r _ _ (OfAnswer due) = (refl, λ n. refl)
  resent_counts now r _ _ (OfRequest b inside due) = (refl, λ n. mapped n r.branches) where
    mapped : (n : ℕ) (bs : List Branch) → count_by (cancels n) (map (resent_branch b (branch_next r b)) bs) ≡ count_by (cancels n) bs
    mapped n [] = refl
    mapped n (x ∷ xs) = by_test (is_same_branch x b) (mapped n xs) where
      by_test : (t : Bool) → count_by (cancels n) (map (resent_branch b (branch_next r b)) xs) ≡ count_by (cancels n) xs
          → count_by (cancels n) (cond t (record x { again = branch_next r b }) x ∷ map (resent_branch b (branch_next r b)) xs) ≡ count_by (cancels n) (x ∷ xs)
      by_test true rest =
          omega (arith, rest, count_cons (cancels n) x xs, count_cons (cancels n) (record x { again = branch_next r b }) (map (resent_branch b (branch_next r b)) xs))
      by_test false rest = omega (arith, rest, count_cons (cancels n) x xs, count_cons (cancels n) x (map (resent_branch b (branch_next r b)) xs))

  acknowledged_counts : (now : ℕ) (r : OpenRequest) → ((acknowledged now r).number ≡ r.number)
      × ((n : ℕ) → count_by (cancels n) (acknowledged now r).branches ≡ count_by (cancels n) r.branches)
  acknowledged_counts now r = by_test (is_invite r && was_refused r.answer) where
    by_test : (t : Bool)
        → ((cond t (record r { side = acknowledged_side now r.side }) r).number ≡ r.number)
        × ((n : ℕ) → count_by (cancels n) (cond t (record r { side = acknowledged_side now r.side }) r).branches ≡ count_by (cancels n) r.branches)
    by_test true = (refl, λ n. refl)
    by_test false = (refl, λ n. refl)

  -- the number of the next datagram
  abbrev next : ℕ
  next = next_after link.before link.act

  next_high : link.before.next ≤ next_after link.before link.act
  next_high = by_act link.act where
    by_act : (act : Act) → link.before.next ≤ next_after link.before act
    by_act (Given (Datagram at word from bytes)) = omega arith
    by_act (Given (Time at)) = omega arith
    by_act (Given (Fault at ticket)) = omega arith
    by_act (Passing at) = omega arith

  -- a part of a step
  part_goes : (old : List BranchName) (now : ℕ) (after : List OpenRequest) (firsts again : List Packet)
      → IsPart server link.before link.act now link.before.requests after firsts again
      → ((p : Packet) → IsIn p firsts → Contains (originals link.out.packets) p) → Stands link.before.next link.before.requests
      → HasNames old link.before.next link.before.requests → Goes old next after firsts
  part_goes old now after firsts again part sent stands h = by_part part where
    moved : HasNames old (next_after link.before link.act) link.before.requests
    moved = names_later old link.before.next (next_after link.before link.act) link.before.requests next_high h

    numbered : AreNumbered (next_after link.before link.act) link.before.requests
    numbered = record { differ = stands.numbered.differ; are_below = λ n high. stands.numbered.are_below n (omega (arith, high, next_high)) }

    told : (rs : List OpenRequest) (ps : List Packet) → after ≡ rs → firsts ≡ ps → Goes old (next_after link.before link.act) rs ps
        → Goes old (next_after link.before link.act) after firsts
    told rs ps e p goes = subst (λ (os : List OpenRequest). Goes old (next_after link.before link.act) os firsts) (sym e)
        (subst (λ (qs : List Packet). Goes old (next_after link.before link.act) rs qs) (sym p) goes)

    by_part : IsPart server link.before link.act now link.before.requests after firsts again → Goes old (next_after link.before link.act) after firsts
    by_part (Stays e p q) = told link.before.requests [] e p (silent old (next_after link.before link.act) link.before.requests [] tt moved)
    by_part (Passes a m address within ack e p q) =
        told link.before.requests (ack_packet server a m address ∷ []) e p
        (silent old (next_after link.before link.act) link.before.requests (ack_packet server a m address ∷ [])
        (onward_other server a.number m a.from (onward_uri server.config.own m) 1 ack, tt) moved)
    by_part (Copies a bytes m short key r said no_ack key_is found e p q) = told link.before.requests [] e p
        (silent old (next_after link.before link.act) link.before.requests [] tt moved)
    by_part (TurnsAway a bytes m short r said key_is no_ack opening full e q) =
        told link.before.requests firsts e refl (silent old (next_after link.before link.act) link.before.requests firsts (opening_other server a m r firsts opening)
        moved)
    by_part (Opens a bytes m short r said key_is no_ack at opening room new e q) =
        let step = said_next link.before link.act a bytes m short said in
        let number : r.number ≡ link.before.next = opening_number server a m r firsts opening ∙ step.1 in
        told (link.before.requests ++ r ∷ []) firsts e refl
        (silent old (next_after link.before link.act) (link.before.requests ++ r ∷ []) firsts (opening_other server a m r firsts opening) (record {
          differ = moved.differ;
          below = moved.below;
          used = all_joined (Used old) link.before.requests (r ∷ []) moved.used ((λ n. let none = h.below r.number n (omega (arith, number)) in omega (arith, none)), tt);
        }))
    by_part (Changes r change there is e p) =
        told (replaced change.request link.before.requests) (change_packets change) e p
        (change_goes old now (next_after link.before link.act) link.before.requests r change again there (in_from_contains link.before.requests r there) is
        (λ x at. sent x (subst (IsIn x) (sym p) (in_back (change.acks ++ upward_packets change.request change.upward) change.cancels x at)))
        (record { numbered = numbered; fine = stands.fine }) moved)
    by_part (Resends r later there goes e p) =
        let same = resent_counts now r later again goes in
        told (replaced later link.before.requests) [] e p
        (silent old (next_after link.before link.act) (replaced later link.before.requests) [] tt
        (names_replaced old (next_after link.before link.act) link.before.requests r later (in_from_contains link.before.requests r there) same.0 same.1 numbered moved))
    by_part (Acknowledges r there e p q) =
        let same = acknowledged_counts now r in
        told (replaced (acknowledged now r) link.before.requests) [] e p
        (silent old (next_after link.before link.act) (replaced (acknowledged now r) link.before.requests) [] tt
        (names_replaced old (next_after link.before link.act) link.before.requests r (acknowledged now r) (in_from_contains link.before.requests r there) same.0 same.1
        numbered
        moved))

  -- a step
  parts_goes : (old : List BranchName) (now : ℕ) (after : List OpenRequest) (firsts again : List Packet) → NoneBefore now link.before.requests
      → AreParts server link.before link.act now link.before.requests after firsts again
      → ((p : Packet) → IsIn p firsts → Contains (originals link.out.packets) p) → Stands link.before.next link.before.requests
      → HasNames old link.before.next link.before.requests → Goes old next after firsts
  parts_goes old now after firsts again none (One part) sent stands h = part_goes old now after firsts again part sent stands h
  parts_goes old now after firsts again none (Two middle earlier r change part was_there there is e p q) sent stands h =
      let front : Goes old (next_after link.before link.act) middle earlier =
      part_goes old now middle earlier [] part (λ x at. sent x (subst (IsIn x) (sym p) (in_front earlier (change_packets change) x at))) stands h in
      let well : IsWell laws is_own_cancel own_test server (next_after link.before link.act) link.before.requests middle earlier [] =
      part_well laws is_own_cancel own_test server link.before link.act now link.before.requests middle earlier [] none part stands in
      let back : Goes (front.names ++ old) (next_after link.before link.act) (replaced change.request middle) (change_packets change) =
      change_goes (front.names ++ old) now (next_after link.before link.act) middle r change [] was_there (in_from_contains middle r there) is
      (λ x at. sent x (subst (IsIn x) (sym p) (in_back earlier (change_packets change) x
      (in_back (change.acks ++ upward_packets change.request change.upward) change.cancels x at)))) well.stands front.holds in
      subst (λ (os : List OpenRequest). Goes old (next_after link.before link.act) os firsts) (sym e)
      (subst (λ (ps : List Packet). Goes old (next_after link.before link.act) (replaced change.request middle) ps) (sym p) (record {
        names = front.names ++ back.names;
        are_all = joined_named server history front.names back.names earlier (change_packets change) front.are_all back.are_all;
        holds = names_alike (back.names ++ (front.names ++ old)) (front.names ++ back.names ++ old) (next_after link.before link.act) (replaced change.request middle)
            (λ name. omega (
              arith,
              count_joined (is_named name) back.names (front.names ++ old),
              count_joined (is_named name) front.names old,
              count_joined (is_named name) (front.names ++ back.names) old,
              count_joined (is_named name) front.names back.names,
            )) back.holds;
      }))

-- ---- a history

-- what holds after a history
record Holds (server : Server) (history : List Link) (next : ℕ) (requests : List OpenRequest) : Type 0 where
  stands : Stands next requests
  names : List BranchName
  are_all : AreCancelsOf server history names (sent_first history)
  has_names : HasNames names next requests

module _ (laws : AreCopyLaws) (parts : PartsLaw) (server : Server) (first : ℕ) where
  chain_holds : (history : List Link) (last : ProxyState) → IsChain server (first_state first) history last → Holds server history last.next last.requests
  chain_holds [] last chain =
      subst (λ (s : ProxyState). Holds server [] s.next s.requests) (sym chain) (record {
        stands = record { numbered = record { differ = λ n. omega arith; are_below = λ n high. refl }; fine = tt };
        names = [];
        are_all = NoMore;
        has_names = record { differ = λ d n. omega arith; below = λ d n high. refl; used = tt };
      })
  chain_holds (link ∷ history) last chain =
      let made : HasParts (under server link.config) link.before link.act link.out link.after =
      parts (under server link.config) link.before link.act link.out link.after chain.1 in
      let before : Holds server history link.before.next link.before.requests = chain_holds history link.before chain.2 in
      let well : IsWell laws is_own_cancel own_test (under server link.config) (next_after link.before link.act) link.before.requests link.after.requests
      (originals link.out.packets) (retransmissions link.out.packets) =
      parts_well laws is_own_cancel own_test (under server link.config) link.before link.act link.after.moment link.before.requests link.after.requests
      (originals link.out.packets) (retransmissions link.out.packets) made.none_passed made.parts before.stands in
      let goes : Goes laws (under server link.config) link history before.names (next_after link.before link.act) link.after.requests (originals link.out.packets) =
      parts_goes laws (under server link.config) link history before.names link.after.moment link.after.requests (originals link.out.packets)
      (retransmissions link.out.packets) made.none_passed made.parts
      (λ p at. contains_from_in (originals link.out.packets) p at) before.stands before.has_names in
      subst (λ (s : ProxyState). Holds server (link ∷ history) s.next s.requests) (sym chain.0) (record {
        stands = subst (λ (n : ℕ). Stands n link.after.requests) (sym made.is_next) well.stands;
        names = goes.names ++ before.names;
        are_all = joined_named server (link ∷ history) goes.names before.names (originals link.out.packets) (sent_first history)
            (named_back server link.config (link ∷ history) goes.names (originals link.out.packets) goes.are_all)
            (later_named server link history before.names (sent_first history) before.are_all);
        has_names = subst (λ (n : ℕ). HasNames (goes.names ++ before.names) n link.after.requests) (sym made.is_next) goes.holds;
      })

-- The law.
pub chain_once : AreCopyLaws → PartsLaw → (server : Server) (first : ℕ) (history : List Link) (last : ProxyState) → IsChain server (first_state first) history last
    → HasOneCancelEach server history
chain_once laws parts server first history last chain =
    let own : Holds server history last.next last.requests = chain_holds laws parts server first history last chain in
    record { names = own.names; are_all = own.are_all; differ = λ name. own.has_names.differ name.0 name.1 }
