-- Each open request of a history came in it.
use Rattle.std.proofs.Common.{◌≡◌, ◌∙◌, inl, inr, append-nil, ℕ, ◌≤◌, ◌+◌, ◌==◌, Bool, true, false, ◌&&◌, cond, List, [], ◌∷◌, ◌++◌, flat_map, Contains, Some, None, refl}
use Rattle.std.proofs.Common.{sym, subst, arith, ap, bytes_eq, codes}
use Rattle.std.specs.List.{AllByRecursion}
use Rattle.std.proofs.lemmas.List.Elements.{Contains-append_left, Contains-append_right}
use Rattle.sip_message_form.specs.declared.message.Message.{Message}
use Rattle.sip_message_form.specs.Text.{text_of}
use Rattle.sip_uri.specs.declared.addr.Addr.{Addr}
use Rattle.sip_transaction_table.specs.Key.{key_of}
use Rattle.sip_best.specs.declared.final_answer.Final.{Final}
use Rattle.sip_event.specs.declared.packet.Packet.{Packet}
use Rattle.sip_event.specs.declared.event.StepOut.{StepOut}
use Rattle.sip_model.specs.state.declared.server.Server.{Server}
use Rattle.sip_model.specs.state.declared.branch.Branch.{Branch}
use Rattle.sip_model.specs.state.declared.resend.Resend.{Resend}
use Rattle.sip_model.specs.state.declared.open_request.Side.{Side}
use Rattle.sip_model.specs.state.declared.open_request.LastAnswer.{LastAnswer}
use Rattle.sip_model.specs.state.declared.open_request.OpenRequest.{OpenRequest}
use Rattle.sip_model.specs.state.declared.open_request.Upward.{Upward}
use Rattle.sip_model.specs.state.declared.proxy_state.ProxyState.{ProxyState}
use Rattle.sip_model.specs.state.State.{first_state, is_invite, is_success, has_left}
use Rattle.sip_model.specs.state.Arrival.{Arrival}
use Rattle.sip_model.specs.context_model.Sending.{answer_packet, answer_to, branch_packets}
use Rattle.sip_model.specs.context_model.Branches.{Change, last_answer, answered, acknowledged}
use Rattle.sip_model.specs.context_model.Opening.{arriving, closing, forking, trying, tried, opening}
use Rattle.sip_model.specs.steps_model.Effect.{method_of, replaced, upward_packets, change_packets, opening_packets}
use Rattle.sip_model.specs.steps_model.Step.{Act, IsStep, originals}
use Rattle.sip_model.specs.Access.{IsSaidAt}
use Rattle.sip_model.specs.Run.{Link, under, IsChain}
use Rattle.sip_model.specs.Lives.{sent_first}
use Rattle.sip_model.specs.Parts.{AreBegun, made_text, IsOpening, Answered, Sent, IsChangeAt, IsPart, Stays, Passes, Copies, TurnsAway, Opens, Changes, Resends}
use Rattle.sip_model.specs.Parts.{Acknowledges, AreParts, One, Two, HasParts}
use Rattle.model_laws.specs.Requests.{IsBrought, WentToCaller, HasCome}
use Rattle.sip_model.proofs.Places.{IsIn, in_from_contains, all_in, all_weaker, contains_from_in}
use Rattle.model_laws.proofs.Lists.{all_left, all_right, all_from_in}
use Rattle.model_laws.proofs.Changes.{KeepNumbers, Tells, settled_kept, change_kept, resent_kept, acknowledged_kept}
use Rattle.sip_model.proofs.Lists.{all_append, all_every}
use Rattle.sip_model.proofs.Went.{all_mapped}

-- ---- lists of open requests

-- what holds of all, and of a request that stays open, holds of all once it replaced another
pub all_replaced : (P : OpenRequest → Type 0) (new : OpenRequest) (rs : List OpenRequest) → AllByRecursion P rs → P new → AllByRecursion P (replaced new rs)
all_replaced P new [] all h = tt
all_replaced P new (x ∷ xs) all h = by_test (x.number == new.number) (has_left new) (all_replaced P new xs all.1 h) where
  by_test : (t left : Bool) → AllByRecursion P (replaced new xs) → AllByRecursion P (cond t (cond left xs (new ∷ xs)) (x ∷ replaced new xs))
  by_test true true rest = all.1
  by_test true false rest = (h, all.1)
  by_test false left rest = (all.0, rest)

-- branches that are first sent have numbers from theirs on
begun_numbered : (now number : ℕ) (bs : List Branch) → 1 ≤ number → AreBegun now number bs → AllByRecursion (λ (b : Branch). 1 ≤ b.number) bs
begun_numbered now number [] from begun = tt
begun_numbered now number (b ∷ bs) from begun = let is = begun.0.is_numbered in (
  omega (arith, is, from),
  begun_numbered now (number + 1) bs (omega (arith, from)) begun.1,
)

-- a request is of a number, says a message, and came from a source
pub record IsAs (number : ℕ) (m : Message) (from : Addr) (s : OpenRequest) : Type 0 where
  pub is_number : s.number ≡ number
  pub is_request : s.request.message ≡ m
  pub is_source : s.request.source ≡ from

-- it stays so
pub as_kept : (number : ℕ) (m : Message) (from : Addr) (r : OpenRequest) (side : Side) (again : Resend) (finals : List Final) (branches : List Branch)
    → KeepNumbers r.branches branches → IsAs number m from r
    → IsAs number m from (record r { side = side; again = again; finals = finals; branches = branches })
as_kept number m from r side again finals branches numbers h = record { is_number = h.is_number; is_request = h.is_request; is_source = h.is_source }

-- and so where any answer goes to the caller
as_told : (number : ℕ) (m : Message) (from : Addr) (now : ℕ) (u : Upward) (r : OpenRequest) → IsAs number m from r → IsAs number m from (answered now u r)
as_told number m from now u r h = record { is_number = h.is_number; is_request = h.is_request; is_source = h.is_source }

-- a change leaves that
pub change_as : (server : Server) (state : ProxyState) (act : Act) (now : ℕ) (r : OpenRequest) (change : Change) (again : List Packet)
    → IsChangeAt server state act now r change again
    → IsAs r.number r.request.message r.request.source change.request
change_as server state act now r change again is =
    change_kept (IsAs r.number r.request.message r.request.source) (as_kept r.number r.request.message r.request.source) server state act now r change again is
    (record { is_number = refl; is_request = refl; is_source = refl })
    (all_every (Tells (IsAs r.number r.request.message r.request.source) (as_kept r.number r.request.message r.request.source) now)
    (as_told r.number r.request.message r.request.source now) change.upward)

-- a message is no ACK
abbrev IsNoAck : Message → Type 0
IsNoAck m = bytes_eq (method_of m.start) (codes "ACK") ≡ false

module _ (history : List Link) where
  -- a packet was sent for the first time
  abbrev pub WasSent : Packet → Type 0
  WasSent p = Contains (sent_first history) p

  -- an answer was sent
  pub answer_went : (number : ℕ) (m : Message) (from : Addr) (text : List ℕ) → WasSent (answer_packet false number m from text) → WentToCaller history number m from text
  answer_went number m from text there = record {
    packet = answer_packet false number m from text;
    is_there = there;
    is_to_caller = refl;
    is_text = refl;
    is_of_datagram = refl;
    is_of_no_branch = refl;
  }

  -- to the caller of a request
  pub at_caller : (number : ℕ) (m : Message) (from : Addr) (s : OpenRequest) (text : List ℕ) → IsAs number m from s → WentToCaller history number m from text
      → WentToCaller history s.number s.request.message s.request.source text
  at_caller number m from s text is went =
      subst (λ (n : ℕ). WentToCaller history n s.request.message s.request.source text) (sym is.is_number)
      (subst (λ (r : Message). WentToCaller history number r s.request.source text) (sym is.is_request)
      (subst (λ (f : Addr). WentToCaller history number m f text) (sym is.is_source) went))

  -- the answers of a change went
  pub upward_went : (change : Change) (number : ℕ) (m : Message) (from : Addr) → IsAs number m from change.request → AllByRecursion WasSent (change_packets change)
      → AllByRecursion (λ (u : Upward). WentToCaller history number m from (text_of u.message)) change.upward
  upward_went change number m from is packets =
      all_weaker (λ (u : Upward). WasSent (answer_to false change.request (text_of u.message))) (λ (u : Upward). WentToCaller history number m from (text_of u.message))
      change.upward (λ u there. from_packet u (answer_went change.request.number change.request.request.message change.request.request.source (text_of u.message) there))
      (all_mapped WasSent (λ (u : Upward). answer_to false change.request (text_of u.message)) change.upward
      (all_right WasSent change.acks (upward_packets change.request change.upward) (all_left WasSent (change.acks ++ upward_packets change.request change.upward)
      change.cancels packets))) where
        from_packet : (u : Upward) → WentToCaller history change.request.number change.request.request.message change.request.request.source (text_of u.message)
            → WentToCaller history number m from (text_of u.message)
        from_packet u went =
            subst (λ (n : ℕ). WentToCaller history n m from (text_of u.message)) is.is_number
            (subst (λ (x : Message). WentToCaller history change.request.number x from (text_of u.message)) is.is_request
            (subst (λ (f : Addr). WentToCaller history change.request.number change.request.request.message f (text_of u.message)) is.is_source went))

  -- ---- a request that came

  -- it came, and is of a number, a message and a source
  record IsCome (number : ℕ) (m : Message) (from : Addr) (s : OpenRequest) : Type 0 where
    come : HasCome history s
    is : IsAs number m from s

  -- that stays so
  come_kept : (number : ℕ) (m : Message) (from : Addr) (r : OpenRequest) (side : Side) (again : Resend) (finals : List Final) (branches : List Branch)
      → KeepNumbers r.branches branches
      → IsCome number m from r → IsCome number m from (record r { side = side; again = again; finals = finals; branches = branches })
  come_kept number m from r side again finals branches numbers h = record {
    come = record {
      a = h.come.a;
      is_brought = h.come.is_brought;
      is_no_ack = h.come.is_no_ack;
      is_key = h.come.is_key;
      is_number = h.come.is_number;
      is_source = h.come.is_source;
      is_arrival = h.come.is_arrival;
      are_numbered = numbers h.come.are_numbered;
      has_gone = h.come.has_gone;
    };
    is = as_kept number m from r side again finals branches numbers h.is;
  }

  -- and so where an answer went to the caller
  come_told : (number : ℕ) (m : Message) (from : Addr) (now : ℕ) (u : Upward) → WentToCaller history number m from (text_of u.message) → (r : OpenRequest)
      → IsCome number m from r
      → IsCome number m from (answered now u r)
  come_told number m from now u went r h = record {
    come = record {
      a = h.come.a;
      is_brought = h.come.is_brought;
      is_no_ack = h.come.is_no_ack;
      is_key = h.come.is_key;
      is_number = h.come.is_number;
      is_source = h.come.is_source;
      is_arrival = h.come.is_arrival;
      are_numbered = h.come.are_numbered;
      has_gone = λ last e other. has_gone last e other;
    };
    is = as_told number m from now u r h.is;
  } where
    kept : (t : Bool) → t ≡ false → WentToCaller history r.number r.request.message r.request.source (cond t [] (text_of u.message))
    kept true e = absurd (cc)
    kept false e = at_caller number m from r (text_of u.message) h.is went

    has_gone : (last : LastAnswer) → Some (last_answer r u.status (text_of u.message)) ≡ Some last → (is_invite r && is_success last.status) ≡ false
        → WentToCaller history r.number r.request.message r.request.source last.text
    has_gone last e other =
        let same : last_answer r u.status (text_of u.message) ≡ last = cc in
        subst (λ (x : LastAnswer). (is_invite r && is_success x.status) ≡ false → WentToCaller history r.number r.request.message r.request.source x.text) same
        (kept (is_invite r && is_success u.status)) other

  -- any answer of a change went
  answers_told : (number : ℕ) (m : Message) (from : Addr) (now : ℕ) (us : List Upward)
      → AllByRecursion (λ (u : Upward). WentToCaller history number m from (text_of u.message)) us
      → AllByRecursion (Tells (IsCome number m from) (come_kept number m from) now) us
  answers_told number m from now us went =
      all_weaker (λ (u : Upward). WentToCaller history number m from (text_of u.message)) (Tells (IsCome number m from) (come_kept number m from) now) us
      (come_told number m from now) went

  -- a request as it is, which came
  come_as : (r : OpenRequest) → HasCome history r → IsCome r.number r.request.message r.request.source r
  come_as r h = record { come = h; is = record { is_number = refl; is_request = refl; is_source = refl } }

  -- a change of it
  change_come : (server : Server) (state : ProxyState) (act : Act) (now : ℕ) (r : OpenRequest) (change : Change) (again : List Packet)
      → IsChangeAt server state act now r change again
      → AllByRecursion WasSent (change_packets change) → HasCome history r → HasCome history change.request
  change_come server state act now r change again is packets h =
      let went = upward_went change r.number r.request.message r.request.source (change_as server state act now r change again is) packets in
      let after : IsCome r.number r.request.message r.request.source change.request =
      change_kept (IsCome r.number r.request.message r.request.source) (come_kept r.number r.request.message r.request.source) server state act now r change again is
      (come_as r h)
      (answers_told r.number r.request.message r.request.source now change.upward went)
      in
      after.come

  -- ---- a request that is opened

  -- its datagram brought it, and nothing was sent for it yet
  arriving_come : (a : Arrival) (m : Message) (finals : List Final) (branches : List Branch) → IsBrought history a m → IsNoAck m → key_of m ≡ Some (arriving a m).key
      → AllByRecursion (λ (b : Branch). 1 ≤ b.number) branches
      → HasCome history (record (arriving a m) { finals = finals; branches = branches })
  arriving_come a m finals branches brought other key numbered = record {
    a = a;
    is_brought = brought;
    is_no_ack = other;
    is_key = key;
    is_number = refl;
    is_source = refl;
    is_arrival = refl;
    are_numbered = numbered;
    has_gone = λ last e kept. absurd (cc);
  }

  -- it is answered at once
  closing_come : (a : Arrival) (m : Message) (status : ℕ) (text : List ℕ) → IsBrought history a m → IsNoAck m → key_of m ≡ Some (arriving a m).key
      → WentToCaller history a.number m a.from text
      → HasCome history (closing a m status text)
  closing_come a m status text brought other key went = record {
    a = a;
    is_brought = brought;
    is_no_ack = other;
    is_key = key;
    is_number = refl;
    is_source = refl;
    is_arrival = refl;
    are_numbered = tt;
    has_gone = λ last e kept. let same : record { status = status; text = text } ≡ last = cc in
        subst (λ (x : LastAnswer). WentToCaller history a.number m a.from x.text) same went;
  }

  -- its 100 goes first
  tried_come : (number : ℕ) (m : Message) (from : Addr) (now : ℕ) (us : List Upward) (r : OpenRequest)
      → AllByRecursion (λ (u : Upward). WentToCaller history number m from (text_of u.message)) us
      → IsCome number m from r → IsCome number m from (tried now us r)
  tried_come number m from now [] r went h = h
  tried_come number m from now (u ∷ us) r went h = tried_come number m from now us (answered now u r) went.1 (come_told number m from now u went.0 r h)

  -- and the request stays of that number
  tried_as : (number : ℕ) (m : Message) (from : Addr) (now : ℕ) (us : List Upward) (r : OpenRequest) → IsAs number m from r → IsAs number m from (tried now us r)
  tried_as number m from now [] r h = h
  tried_as number m from now (u ∷ us) r h = tried_as number m from now us (answered now u r) (as_told number m from now u r h)

  -- it is sent to its branches
  forking_come : (server : Server) (now : ℕ) (r : OpenRequest) → AllByRecursion WasSent (opening_packets server now r) → HasCome history r
      → HasCome history (opening server now r).request
  forking_come server now r packets h =
      let change : Change = opening server now r in
      let first : OpenRequest = tried now (trying server r) r in
      let own : IsAs r.number r.request.message r.request.source r = record { is_number = refl; is_request = refl; is_source = refl } in
      let is : IsAs r.number r.request.message r.request.source change.request =
      settled_kept (IsAs r.number r.request.message r.request.source) (as_kept r.number r.request.message r.request.source) server now [] None first
      (tried_as r.number r.request.message r.request.source now (trying server r) r own)
      (all_every (Tells (IsAs r.number r.request.message r.request.source) (as_kept r.number r.request.message r.request.source) now)
      (as_told r.number r.request.message r.request.source now) change.upward)
      in
      let answers : AllByRecursion WasSent (upward_packets r (trying server r) ++ change_packets change) =
      all_left WasSent (upward_packets r (trying server r) ++ change_packets change) (flat_map (branch_packets server false r) r.branches) packets
      in
      let trying_went : AllByRecursion (λ (u : Upward). WentToCaller history r.number r.request.message r.request.source (text_of u.message)) (trying server r) =
      all_weaker (λ (u : Upward). WasSent (answer_to false r (text_of u.message))) (λ (u : Upward).
      WentToCaller history r.number r.request.message r.request.source (text_of u.message))
      (trying server r) (λ u there. answer_went r.number r.request.message r.request.source (text_of u.message) there)
      (all_mapped WasSent (λ (u : Upward). answer_to false r (text_of u.message)) (trying server r)
      (all_left WasSent (upward_packets r (trying server r)) (change_packets change) answers))
      in
      let went =
      upward_went change r.number r.request.message r.request.source is
      (all_right WasSent (upward_packets r (trying server r)) (change_packets change) answers)
      in
      let after : IsCome r.number r.request.message r.request.source change.request =
      settled_kept (IsCome r.number r.request.message r.request.source) (come_kept r.number r.request.message r.request.source) server now [] None first
      (tried_come r.number r.request.message r.request.source now (trying server r) r trying_went (come_as r h))
      (answers_told r.number r.request.message r.request.source now change.upward went)
      in
      after.come

  -- either
  opening_come : (server : Server) (a : Arrival) (m : Message) (r : OpenRequest) (packets : List Packet) → IsOpening server a m r packets → IsBrought history a m
      → IsNoAck m
      → key_of m ≡ Some (arriving a m).key
      → AllByRecursion WasSent packets → HasCome history r
  opening_come server a m _ _ (Answered status extras final) brought other key packets =
      closing_come a m status (made_text server a m status extras) brought other key (answer_went a.number m a.from (made_text server a m status extras) packets.0)
  opening_come server a m _ _ (Sent first others begun) brought other key packets =
      forking_come server a.now (forking a m (first ∷ others)) packets (arriving_come a m _ (first ∷ others) brought other key
      (begun_numbered a.now 1 (first ∷ others) (omega arith) begun))

  -- the key of a request that is opened
  opening_key : (server : Server) (a : Arrival) (m : Message) (r : OpenRequest) (packets : List Packet) → IsOpening server a m r packets → r.key ≡ (arriving a m).key
  opening_key server a m _ _ (Answered status extras final) = refl
  opening_key server a m _ _ (Sent first others begun) = sent_key server a.now (forking a m (first ∷ others)) where
    tried_key : (now : ℕ) (us : List Upward) (s : OpenRequest) → (tried now us s).key ≡ s.key
    tried_key now [] s = refl
    tried_key now (u ∷ us) s = tried_key now us (answered now u s)

    sent_key : (server : Server) (now : ℕ) (s : OpenRequest) → (opening server now s).request.key ≡ s.key
    sent_key server now s =
        settled_kept (λ x. x.key ≡ s.key) (λ x side again finals branches numbers h. h) server now [] None (tried now (trying server s) s)
        (tried_key now (trying server s) s)
        (all_every (Tells (λ x. x.key ≡ s.key) (λ x side again finals branches numbers h. h) now) (λ u x h. h) (opening server now s).upward)

  -- ---- a step

  -- the requests of a list came
  abbrev pub HaveCome : List OpenRequest → Type 0
  HaveCome requests = AllByRecursion (HasCome history) requests

  module _ (server : Server) (state : ProxyState) (act : Act) (now : ℕ) (said : (a : Arrival) (bytes : List ℕ) (m : Message) (short : Bool)
      → IsSaidAt state act a bytes m short → IsBrought history a m) where
    -- after a part of a step
    part_come : (requests after : List OpenRequest) (firsts again : List Packet) → IsPart server state act now requests after firsts again → AllByRecursion WasSent firsts
        → HaveCome requests → HaveCome after
    part_come requests after firsts again (Stays e f g) sent h = subst HaveCome (sym e) h
    part_come requests after firsts again (Passes a m address within ack e f g) sent h = subst HaveCome (sym e) h
    part_come requests after firsts again (Copies a bytes m short key r is other key_is found e f g) sent h = subst HaveCome (sym e) h
    part_come requests after firsts again (TurnsAway a bytes m short r is key other opens full e g) sent h = subst HaveCome (sym e) h
    part_come requests after firsts again (Opens a bytes m short r is key other at opens room is_new e g) sent h =
        let own : key_of m ≡ Some (arriving a m).key = key ∙ ap Some (opening_key server a m r firsts opens) in
        subst HaveCome (sym e) (all_append (HasCome history) requests (r ∷ []) h (opening_come server a m r firsts opens (said a bytes m short is) other own sent, tt))
    part_come requests after firsts again (Changes r change there is e f) sent h =
        subst HaveCome (sym e)
        (all_replaced (HasCome history) change.request requests h
        (change_come server state act now r change again is (subst (AllByRecursion WasSent) f sent)
        (all_in (HasCome history) requests r h (in_from_contains requests r there))))
    part_come requests after firsts again (Resends r later there goes e f) sent h =
        let own : IsCome r.number r.request.message r.request.source later =
        resent_kept (IsCome r.number r.request.message r.request.source) (come_kept r.number r.request.message r.request.source) server now r again later goes
        (come_as r (all_in (HasCome history) requests r h (in_from_contains requests r there)))
        in
        subst HaveCome (sym e) (all_replaced (HasCome history) later requests h own.come)
    part_come requests after firsts again (Acknowledges r there e f g) sent h =
        let own : IsCome r.number r.request.message r.request.source (acknowledged now r) =
        acknowledged_kept (IsCome r.number r.request.message r.request.source) (come_kept r.number r.request.message r.request.source) now r
        (come_as r (all_in (HasCome history) requests r h (in_from_contains requests r there)))
        in
        subst HaveCome (sym e) (all_replaced (HasCome history) (acknowledged now r) requests h own.come)

    -- after one part, or two
    parts_come : (requests after : List OpenRequest) (firsts again : List Packet) → AreParts server state act now requests after firsts again
        → AllByRecursion WasSent firsts
        → HaveCome requests → HaveCome after
    parts_come requests after firsts again (One part) sent h = part_come requests after firsts again part sent h
    parts_come requests after firsts again (Two middle earlier r change first there still is e f g) sent h =
        let both : AllByRecursion WasSent (earlier ++ change_packets change) = subst (AllByRecursion WasSent) f sent in
        part_come middle after (change_packets change) [] (Changes r change still is e refl) (all_right WasSent earlier (change_packets change) both)
        (part_come requests middle earlier [] first (all_left WasSent earlier (change_packets change) both) h)

-- ---- a history

-- a link of a history is one of a longer one
pub later_there : (link : Link) (history : List Link) (x : Link) → Contains history x → Contains (link ∷ history) x
later_there link history x there = Contains-append_right (link ∷ []) history x there

-- what a history sent a longer one did
pub later_sent : (link : Link) (history : List Link) (p : Packet) → Contains (sent_first history) p → Contains (sent_first (link ∷ history)) p
later_sent link history p there = Contains-append_right (originals link.out.packets) (sent_first history) p there

-- what came in it came in a longer one
abbrev pub later_brought : (link : Link) (history : List Link) (a : Arrival) (m : Message) → IsBrought history a m → IsBrought (link ∷ history) a m
later_brought link history a m h = record { link = h.link; bytes = h.bytes; short = h.short; is_there = later_there link history h.link h.is_there; is_said = h.is_said }

-- what went to a caller did
pub later_went : (link : Link) (history : List Link) (number : ℕ) (m : Message) (from : Addr) (text : List ℕ) → WentToCaller history number m from text
    → WentToCaller (link ∷ history) number m from text
later_went link history number m from text h = record {
  packet = h.packet;
  is_there = later_sent link history h.packet h.is_there;
  is_to_caller = h.is_to_caller;
  is_text = h.is_text;
  is_of_datagram = h.is_of_datagram;
  is_of_no_branch = h.is_of_no_branch;
}

-- what a step of a history sent for the first time, the history did
sent_by_one : (history : List Link) (link : Link) (p : Packet) → IsIn link history → Contains (originals link.out.packets) p → Contains (sent_first history) p
sent_by_one [] link p h there = absurd h
sent_by_one (x ∷ xs) link p (inl e) there =
    Contains-append_left (originals x.out.packets) (sent_first xs) p (subst (λ (l : Link). Contains (originals l.out.packets) p) (sym e) there)
sent_by_one (x ∷ xs) link p (inr h) there = later_sent x xs p (sent_by_one xs link p h there)

pub sent_in : (history : List Link) (link : Link) (p : Packet) → Contains history link → Contains (sent_first (link ∷ [])) p → Contains (sent_first history) p
sent_in history link p is there =
    sent_by_one history link p (in_from_contains history link is) (subst (λ (ps : List Packet). Contains ps p) (append-nil (originals link.out.packets)) there)

-- so what it sent to a caller
pub went_in : (history : List Link) (link : Link) (number : ℕ) (m : Message) (from : Addr) (text : List ℕ)
    → Contains history link → WentToCaller (link ∷ []) number m from text
    → WentToCaller history number m from text
went_in history link number m from text is h = record {
  packet = h.packet;
  is_there = sent_in history link h.packet is h.is_there;
  is_to_caller = h.is_to_caller;
  is_text = h.is_text;
  is_of_datagram = h.is_of_datagram;
  is_of_no_branch = h.is_of_no_branch;
}

-- and so what came and went of a request
pub later_come : (link : Link) (history : List Link) (r : OpenRequest) → HasCome history r → HasCome (link ∷ history) r
later_come link history r h = record {
  a = h.a;
  is_brought = later_brought link history h.a r.request.message h.is_brought;
  is_no_ack = h.is_no_ack;
  is_key = h.is_key;
  is_number = h.is_number;
  is_source = h.is_source;
  is_arrival = h.is_arrival;
  are_numbered = h.are_numbered;
  has_gone = λ last e other. later_went link history r.number r.request.message r.request.source last.text (h.has_gone last e other);
}

-- the message of a step's datagram came in the history that ends with the step
abbrev pub brought_now : (link : Link) (history : List Link) (a : Arrival) (bytes : List ℕ) (m : Message) (short : Bool) → IsSaidAt link.before link.act a bytes m short
    → IsBrought (link ∷ history) a m
brought_now link history a bytes m short said = record {
  link = link;
  bytes = bytes;
  short = short;
  is_there = Contains-append_left (link ∷ []) history link (0, omega arith, refl);
  is_said = said;
}

-- what a step sends for the first time was sent
pub sent_now : (link : Link) (history : List Link) → AllByRecursion (Contains (sent_first (link ∷ history))) (originals link.out.packets)
sent_now link history =
    all_from_in (Contains (sent_first (link ∷ history))) (originals link.out.packets)
    (λ p there. Contains-append_left (originals link.out.packets) (sent_first history) p (contains_from_in (originals link.out.packets) p there))

-- each open request came
pub chain_come : ((server : Server) (old : ProxyState) (act : Act) (out : StepOut) (new : ProxyState) → IsStep server old act out new → HasParts server old act out new)
    → (server : Server) (first : ℕ) (history : List Link) (last : ProxyState) → IsChain server (first_state first) history last
    → AllByRecursion (HasCome history) last.requests
chain_come parts server first [] last h = subst (λ (s : ProxyState). AllByRecursion (HasCome []) s.requests) (sym h) tt
chain_come parts server first (link ∷ history) last h =
    let has = parts (under server link.config) link.before link.act link.out link.after h.1 in
    subst (λ (s : ProxyState). AllByRecursion (HasCome (link ∷ history)) s.requests) (sym h.0)
    (parts_come (link ∷ history) (under server link.config) link.before link.act link.after.moment (brought_now link history) link.before.requests link.after.requests
    (originals link.out.packets) _ has.parts (sent_now link history)
    (all_weaker (HasCome history) (HasCome (link ∷ history)) link.before.requests (later_come link history) (chain_come parts server first history link.before h.2)))
