-- A request as it is opened: its branches are those of its targets, and each that has an address is sent one request.
use Rattle.std.proofs.Common.{◌≡◌, inl, inr, ℕ, ◌+◌, ◌≤◌, ◌<◌, Bool, true, false, not, ◌&&◌, ◌==◌, cond, List, [], ◌∷◌, ◌++◌, Option, Some, None, is_some, refl, sym, ap}
use Rattle.std.proofs.Common.{subst, ◌∙◌, arith, count_by}
use Rattle.std.specs.List.{AllByRecursion, flat_map}
use Rattle.std.specs.Option.{option_map_or}
use Rattle.sip_message_form.specs.declared.message.Message.{Message}
use Rattle.sip_message_form.specs.Text.{text_of}
use Rattle.sip_uri.specs.declared.addr.Addr.{Addr}
use Rattle.sip_event.specs.declared.packet.Packet.{Packet}
use Rattle.model_steps.specs.state.declared.server.Server.{Server}
use Rattle.model_steps.specs.state.declared.branch.Phase.{Phase}
use Rattle.model_steps.specs.state.declared.branch.Phase.TheVariants.{Unheard, Ended}
use Rattle.model_steps.specs.state.declared.branch.Branch.{Branch}
use Rattle.model_steps.specs.state.declared.resend.Resend.{Resend}
use Rattle.model_steps.specs.state.declared.open_request.OpenRequest.{OpenRequest}
use Rattle.model_steps.specs.state.declared.open_request.Upward.{Upward}
use Rattle.model_steps.specs.state.Arrival.{Arrival}
use Rattle.model_steps.specs.state.State.{first_resend, is_invite, is_ended}
use Rattle.model_steps.specs.context_model.Sending.{made_answer, answer_packet, branch_packets, sent_of}
use Rattle.model_steps.specs.context_model.Branches.{answered}
use Rattle.model_steps.specs.context_model.Opening.{forking, is_tried, trying, tried, opening}
use Rattle.model_steps.specs.Effect.{change_packets, upward_packets, opening_packets}
use Rattle.sip_model.specs.Parts.{IsBegun, AreBegun, IsOpening, Answered, Sent, made_text}
use Rattle.sip_model.specs.Sendings.{is_sent_for}
use Rattle.sip_model.proofs.SendingLists.{count_joined, count_none, other_number}
use Rattle.sip_model.proofs.SendingBranches.{is_target, AreApart, Succeeds, succeeds_alike, same_invite}
use Rattle.sip_model.proofs.SendingChanges.{none_sent, upward_other, settled_others, settled_succeeds}
use Rattle.sip_model.proofs.SendingTimes.{AreCopyLaws, WasSent, sent_first, none_are}
use Rattle.sip_model.proofs.SendingRequests.{IsRight, BranchFits, Fits, fits_after}
use Rattle.sip_model.proofs.Places.{IsIn, all_in, all_weaker, count_cons, none_at, one_at, same_number}
use Rattle.sip_model.proofs.Rising.{number_is}

-- ---- branches that are first sent

-- their numbers begin with that of the first
begun_high : (now number : ℕ) (bs : List Branch) → AreBegun now number bs → AllByRecursion (λ (b : Branch). number ≤ b.number) bs
begun_high now number [] h = tt
begun_high now number (b ∷ bs) h =
    let is = h.0.is_numbered in (
      omega (arith, is),
      all_weaker (λ (x : Branch). number + 1 ≤ x.number) (λ (x : Branch). number ≤ x.number) bs (λ x high. omega (arith, high))
          (begun_high now (number + 1) bs h.1),
    )

-- none has a lower number
none_lower : (now number k : ℕ) (bs : List Branch) → k < number → AreBegun now number bs → count_by (is_target k) bs ≡ 0
none_lower now number k bs low h =
    count_none (is_target k) bs (all_weaker (λ (b : Branch). number ≤ b.number) (λ (b : Branch). is_target k b ≡ false) bs (λ b high. fails b high)
    (begun_high now number bs h)) where
      neither : (t : Bool) → (t && false) ≡ false
      neither true = refl
      neither false = refl

      fails : (b : Branch) → number ≤ b.number → is_target k b ≡ false
      fails b high = rw (other_number b.number k (λ is. omega (arith, is, high, low))) (neither (not b.is_cancel))

-- so they are apart
begun_apart : (now number : ℕ) (bs : List Branch) → AreBegun now number bs → AreApart bs
begun_apart now number [] h = λ k. omega arith
begun_apart now number (b ∷ bs) h = λ k. by_test k (is_target k b) refl (begun_apart now (number + 1) bs h.1 k) where
  is_number : (k : ℕ) → is_target k b ≡ true → k ≡ number
  is_number k is = let numbered = h.0.is_numbered in let same = number_is b.number k (second (not b.is_cancel) (b.number == k) is) in omega (arith, numbered, same) where
    second : (s t : Bool) → (s && t) ≡ true → t ≡ true
    second true t e = e
    second false t e = absurd (cc)

  by_test : (k : ℕ) (t : Bool) → is_target k b ≡ t → count_by (is_target k) bs ≤ 1 → count_by (is_target k) (b ∷ bs) ≤ 1
  by_test k true is rest =
      let same = is_number k is in
      omega (arith, count_cons (is_target k) b bs, one_at (is_target k b) is, none_lower now (number + 1) k bs (omega (arith, same)) h.1)
  by_test k false is rest = omega (arith, count_cons (is_target k) b bs, none_at (is_target k b) is, rest)

-- ---- what they are sent

-- a request for each that has an address
pub one_packet : (server : Server) (again : Bool) (r : OpenRequest) (b : Branch) (n k : ℕ) → b.is_cancel ≡ false
    → count_by (is_sent_for n k) (branch_packets server again r b) ≡ cond (is_some b.address && (r.number == n && b.number == k)) 1 0
one_packet server again r b n k target = by_address b.address (sent_of server r b) where
  by_address : (o : Option Addr) (m : Message)
      → count_by (is_sent_for n k) (option_map_or (λ address. record {
        to = address;
        bytes = text_of m;
        ticket = record { datagram = r.number; branch = cond b.is_cancel 0 b.number };
        again = again;
      } ∷ []) o [])
      ≡ cond (is_some o && (r.number == n && b.number == k)) 1 0
  by_address None m = refl
  by_address (Some address) m = rw target (omega (
    arith,
    count_cons (is_sent_for n k)
        (record { to = address; bytes = text_of m; ticket = record { datagram = r.number; branch = b.number }; again = again }) [],
  ))

-- of all
requests_sent : Server → OpenRequest → List Branch → ℕ → ℕ → ℕ
requests_sent server r bs n k = count_by (is_sent_for n k) (flat_map (branch_packets server false r) bs)

-- one by one
sent_cons : (server : Server) (r : OpenRequest) (b : Branch) (bs : List Branch) (n k : ℕ) → b.is_cancel ≡ false
    → requests_sent server r (b ∷ bs) n k ≡ cond (is_some b.address && (r.number == n && b.number == k)) 1 0 + requests_sent server r bs n k
unfolding requests_sent
sent_cons server r b bs n k target =
    let one = one_packet server false r b n k target in omega (
      arith,
      count_joined (is_sent_for n k) (branch_packets server false r b)
          (flat_map (branch_packets server false r) bs),
      one,
    )

-- what fails one test fails both
pub fails_first : (x y z : Bool) → y ≡ false → (x && (y && z)) ≡ false
fails_first true true z e = absurd (cc)
fails_first true false z e = refl
fails_first false y z e = refl

pub fails_second : (x y z : Bool) → z ≡ false → (x && (y && z)) ≡ false
fails_second true true true e = absurd (cc)
fails_second true true false e = refl
fails_second true false z e = refl
fails_second false y z e = refl

pub passes_all : (x y z : Bool) → x ≡ true → y ≡ true → z ≡ true → (x && (y && z)) ≡ true
passes_all true true true e f g = refl
passes_all true true false e f g = absurd (cc)
passes_all true false z e f g = absurd (cc)
passes_all false y z e f g = absurd (cc)

-- none is for another number
none_for_others : (server : Server) (r : OpenRequest) (now number : ℕ) (bs : List Branch) (n k : ℕ) → (r.number ≡ n → ⊥) → AreBegun now number bs
    → requests_sent server r bs n k ≡ 0
unfolding requests_sent
none_for_others server r now number [] n k other h = refl
none_for_others server r now number (b ∷ bs) n k other h =
    let fails = fails_first (is_some b.address) (r.number == n) (b.number == k) (other_number r.number n other) in
    let rest : requests_sent server r bs n k ≡ 0 = none_for_others server r now (number + 1) bs n k other h.1 in
    omega (arith, sent_cons server r b bs n k h.0.is_target, none_at (is_some b.address && (r.number == n && b.number == k)) fails, rest)

-- none to a lower target
none_to_lower : (server : Server) (r : OpenRequest) (now number : ℕ) (bs : List Branch) (n k : ℕ) → k < number → AreBegun now number bs
    → requests_sent server r bs n k ≡ 0
unfolding requests_sent
none_to_lower server r now number [] n k low h = refl
none_to_lower server r now number (b ∷ bs) n k low h =
    let is = h.0.is_numbered in
    let fails = fails_second (is_some b.address) (r.number == n) (b.number == k) (other_number b.number k (λ same. omega (arith, same, is, low))) in
    let rest : requests_sent server r bs n k ≡ 0 = none_to_lower server r now (number + 1) bs n k (omega (arith, low)) h.1 in
    omega (arith, sent_cons server r b bs n k h.0.is_target, none_at (is_some b.address && (r.number == n && b.number == k)) fails, rest)

-- at most one
at_most_one : (server : Server) (r : OpenRequest) (now number : ℕ) (bs : List Branch) (n k : ℕ) → AreBegun now number bs → requests_sent server r bs n k ≤ 1
unfolding requests_sent
at_most_one server r now number [] n k h = omega arith
at_most_one server r now number (b ∷ bs) n k h = by_test (b.number == k) refl (at_most_one server r now (number + 1) bs n k h.1) where
  one : (t : Bool) → cond {A = ℕ} t 1 0 ≤ 1
  one true = omega arith
  one false = omega arith

  by_test : (t : Bool) → (b.number == k) ≡ t → requests_sent server r bs n k ≤ 1 → requests_sent server r (b ∷ bs) n k ≤ 1
  by_test true is rest =
      let numbered = h.0.is_numbered in
      let same = number_is b.number k is in
      let none : requests_sent server r bs n k ≡ 0 = none_to_lower server r now (number + 1) bs n k (omega (arith, numbered, same)) h.1 in
      omega (arith, sent_cons server r b bs n k h.0.is_target, one (is_some b.address && (r.number == n && b.number == k)), none)
  by_test false is rest =
      omega (
        arith,
        sent_cons server r b bs n k h.0.is_target,
        none_at (is_some b.address && (r.number == n && b.number == k))
            (fails_second (is_some b.address) (r.number == n) (b.number == k) is),
        rest,
      )

-- one to each that has an address
own_request : (server : Server) (r : OpenRequest) (now number : ℕ) (bs : List Branch) (b : Branch) → IsIn b bs → AreBegun now number bs
    → requests_sent server r bs r.number b.number ≡ cond (is_some b.address) 1 0
unfolding requests_sent
own_request server r now number [] b there h = absurd there
own_request server r now number (x ∷ xs) b (inl here) h = subst (λ (y : Branch). requests_sent server r (x ∷ xs) r.number y.number ≡ cond (is_some y.address) 1 0) here
    own where
      by_address : (t : Bool) → is_some x.address ≡ t → cond {A = ℕ} (is_some x.address && (r.number == r.number && x.number == x.number)) 1 0
          ≡ cond (is_some x.address) 1 0
      by_address true is =
          one_at (is_some x.address && (r.number == r.number && x.number == x.number)) (passes_all (is_some x.address) (r.number == r.number) (x.number == x.number) is
          (same_number r.number r.number refl) (same_number x.number x.number refl))
          ∙ sym (one_at (is_some x.address) is)
      by_address false is = rw is refl

      own : requests_sent server r (x ∷ xs) r.number x.number ≡ cond (is_some x.address) 1 0
      own =
          let numbered = h.0.is_numbered in
          let none : requests_sent server r xs r.number x.number ≡ 0 = none_to_lower server r now (number + 1) xs r.number x.number (omega (arith, numbered)) h.1 in
          omega (arith, sent_cons server r x xs r.number x.number h.0.is_target, by_address (is_some x.address) refl, none)
own_request server r now number (x ∷ xs) b (inr there) h =
    let numbered = h.0.is_numbered in
    let high : number + 1 ≤ b.number = all_in (λ (y : Branch). number + 1 ≤ y.number) xs b (begun_high now (number + 1) xs h.1) there in
    let fails = fails_second (is_some x.address) (r.number == r.number) (x.number == b.number)
    (other_number x.number b.number (λ same. omega (arith, same, numbered, high))) in
    let rest : requests_sent server r xs r.number b.number ≡ cond (is_some b.address) 1 0 = own_request server r now (number + 1) xs b there h.1 in
    omega (arith, sent_cons server r x xs r.number b.number h.0.is_target, none_at (is_some x.address && (r.number == r.number && x.number == b.number)) fails, rest)

-- ---- the request after it

-- a 100 leaves the branches
tried_succeeds : (server : Server) (now : ℕ) (r : OpenRequest) → Succeeds r (tried now (trying server r) r)
tried_succeeds server now r = by_test (is_tried r) (record {
  status = 100;
  message = made_answer server r.number r.request.message r.request.source 100 [];
  target = None;
}) where
  by_test : (t : Bool) (u : Upward) → Succeeds r (tried now (cond t (u ∷ []) []) r)
  by_test true u = succeeds_alike r (answered now u r) refl refl refl
  by_test false u = succeeds_alike r r refl refl refl

-- what it becomes at once follows it
opening_succeeds : (server : Server) (now : ℕ) (r : OpenRequest) → Succeeds r (opening server now r).request
opening_succeeds server now r = settled_succeeds server now [] None r (tried now (trying server r) r) (tried_succeeds server now r)

-- of what it sends the requests alone are to targets
opening_count : (server : Server) (now : ℕ) (r : OpenRequest) (n k : ℕ) → 1 ≤ k → count_by (is_sent_for n k) (opening_packets server now r)
    ≡ requests_sent server r r.branches n k
unfolding requests_sent
opening_count server now r n k high =
    let hundred = none_sent n k (upward_packets r (trying server r)) high (upward_other r (trying server r)) in
    let change = none_sent n k (change_packets (opening server now r)) high (settled_others server now [] None (tried now (trying server r) r) tt) in
    omega (
      arith,
      count_joined (is_sent_for n k) (upward_packets r (trying server r) ++ change_packets (opening server now r)) (flat_map (branch_packets server false r) r.branches),
      count_joined (is_sent_for n k) (upward_packets r (trying server r)) (change_packets (opening server now r)),
      hundred,
      change,
    )

-- ---- an opening

-- it has the number of its datagram
pub opening_number : (server : Server) (a : Arrival) (m : Message) (r : OpenRequest) (firsts : List Packet) → IsOpening server a m r firsts → r.number ≡ a.number
opening_number server a m _ _ (Answered status extras final) = refl
opening_number server a m _ _ (Sent first others begun) = (opening_succeeds server a.now (forking a m (first ∷ others))).number_is

-- nothing is sent for another number
pub opening_others : (server : Server) (a : Arrival) (m : Message) (r : OpenRequest) (firsts : List Packet) (n k : ℕ) → IsOpening server a m r firsts → 1 ≤ k
    → (n ≡ a.number → ⊥) → count_by (is_sent_for n k) firsts ≡ 0
opening_others server a m _ _ n k (Answered status extras final) high other = none_sent n k
    (answer_packet false a.number m a.from (made_text server a m status extras) ∷ []) high (refl, tt)
opening_others server a m _ _ n k (Sent first others begun) high other =
    opening_count server a.now (forking a m (first ∷ others)) n k high ∙ none_for_others server (forking a m (first ∷ others)) a.now 1 (first ∷ others) n k
    (λ same. other (sym same)) begun

-- and for its own at most once to each target
pub opening_once : (server : Server) (a : Arrival) (m : Message) (r : OpenRequest) (firsts : List Packet) (n k : ℕ) → IsOpening server a m r firsts → 1 ≤ k
    → count_by (is_sent_for n k) firsts ≤ 1
opening_once server a m _ _ n k (Answered status extras final) high = let none = none_sent n k
    (answer_packet false a.number m a.from (made_text server a m status extras) ∷ []) high (refl, tt) in omega (arith, none)
opening_once server a m _ _ n k (Sent first others begun) high =
    let few = at_most_one server (forking a m (first ∷ others)) a.now 1 (first ∷ others) n k begun in
    omega (arith, opening_count server a.now (forking a m (first ∷ others)) n k high, few)

-- an ended branch was never sent anything
ended_sent : (invite : Bool) (again : Resend) → WasSent invite Ended again []
ended_sent true again = none_are
ended_sent false again = record { few = omega arith; near = tt }

-- a branch as it is first sent is right
begun_right : AreCopyLaws → (invite : Bool) (now number : ℕ) (sent : List ℕ) (b : Branch) → IsBegun now number b → 1 ≤ number
    → (is_some b.address ≡ true → sent ≡ now ∷ []) → (is_some b.address ≡ false → sent ≡ []) → IsRight invite sent b
begun_right laws invite now number sent b begun high once never = record {
  was_sent = subst (λ (phase : Phase). WasSent invite phase b.again sent) (sym begun.is_due)
      (subst (λ (again : Resend). WasSent invite (cond (is_some b.address) (Unheard (now + 32000)) Ended) again sent) (sym begun.goes_next)
      (by_address (is_some b.address) refl));
  numbered = let is = begun.is_numbered in omega (arith, is, high);
  reaches = λ lives. reached (is_some b.address) (sym (ap is_ended begun.is_due) ∙ lives);
} where
  by_address : (t : Bool) → is_some b.address ≡ t → WasSent invite (cond t (Unheard (now + 32000)) Ended) (first_resend now) sent
  by_address true is = subst (λ (s : List ℕ). WasSent invite (Unheard (now + 32000)) (first_resend now) s) (sym (once is)) (sent_first laws invite now)
  by_address false is = subst (λ (s : List ℕ). WasSent invite Ended (first_resend now) s) (sym (never is)) (ended_sent invite (first_resend now))

  reached : (t : Bool) → is_ended (cond t (Unheard (now + 32000)) Ended) ≡ false → t ≡ true
  reached true lives = refl
  reached false lives = absurd (cc)

-- and so are all
all_begun : AreCopyLaws → (invite : Bool) (now number : ℕ) (sent : ℕ → List ℕ) (bs : List Branch) → AreBegun now number bs → 1 ≤ number
    → ((b : Branch) → IsIn b bs → (is_some b.address ≡ true → sent b.number ≡ now ∷ []) × (is_some b.address ≡ false → sent b.number ≡ []))
    → AllByRecursion (BranchFits invite sent) bs
all_begun laws invite now number sent [] begun high each = tt
all_begun laws invite now number sent (b ∷ bs) begun high each =
    let own = each b (inl refl) in (
      (λ target. begun_right laws invite now number (sent b.number) b begun.0 high own.0 own.1),
      all_begun laws invite now (number + 1) sent bs begun.1 (omega (arith, high)) (λ x there. each x (inr there)),
    )

-- What was sent fits a request that is opened, where it is what was sent with it, and it is an INVITE if its datagram says one.
pub opening_fits : AreCopyLaws → (was : ℕ → Type 0) (sent : ℕ → ℕ → List ℕ) (server : Server) (a : Arrival) (m : Message) (r : OpenRequest) (firsts : List Packet)
    → IsOpening server a m r firsts
    → ((k : ℕ) → 1 ≤ k → count_by (is_sent_for a.number k) firsts ≡ 0 → sent a.number k ≡ [])
    → ((k : ℕ) → 1 ≤ k → count_by (is_sent_for a.number k) firsts ≡ 1 → sent a.number k ≡ a.now ∷ [])
    → (was a.number → is_invite r ≡ true) → Fits was sent r
opening_fits laws was sent server a m _ _ (Answered status extras final) never once did = record { apart = λ n. omega arith; fit = tt; was_invite = did }
opening_fits laws was sent server a m _ _ (Sent first others begun) never once did =
    fits_after laws was sent (forking a m (first ∷ others)) (opening server a.now (forking a m (first ∷ others))).request follows (record {
      apart = begun_apart a.now 1 (first ∷ others) begun;
      fit = all_begun laws (is_invite (forking a m (first ∷ others))) a.now 1 (sent a.number) (first ∷ others) begun (omega arith) each;
      was_invite = λ was_it. sym (same_invite (forking a m (first ∷ others)) (opening server a.now (forking a m (first ∷ others))).request follows.key_is) ∙ did was_it;
    }) where
      follows : Succeeds (forking a m (first ∷ others)) (opening server a.now (forking a m (first ∷ others))).request
      follows = opening_succeeds server a.now (forking a m (first ∷ others))

      count_is : (b : Branch) → IsIn b (first ∷ others) → 1 ≤ b.number
          → count_by (is_sent_for a.number b.number) (opening_packets server a.now (forking a m (first ∷ others))) ≡ cond (is_some b.address) 1 0
      count_is b there high = opening_count server a.now (forking a m (first ∷ others)) a.number b.number high
          ∙ own_request server (forking a m (first ∷ others)) a.now 1 (first ∷ others) b there begun

      each : (b : Branch) → IsIn b (first ∷ others) → (is_some b.address ≡ true → sent a.number b.number ≡ a.now ∷ [])
          × (is_some b.address ≡ false → sent a.number b.number ≡ [])
      each b there =
          let high : 1 ≤ b.number = all_in (λ (x : Branch). 1 ≤ x.number) (first ∷ others) b (begun_high a.now 1 (first ∷ others) begun) there in (
            (λ has. once b.number high (count_is b there high ∙ one_at (is_some b.address) has)),
            (λ has_not. never b.number high (count_is b there high ∙ none_at (is_some b.address) has_not)),
          )
