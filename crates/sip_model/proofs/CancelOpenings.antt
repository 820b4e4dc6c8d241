-- A request as it is opened: no CANCEL is sent for it yet, but with its best answer.
use Rattle.std.proofs.Common.{◌≡◌, ℕ, ◌+◌, ◌*◌, ◌≤◌, ◌<◌, Bool, true, false, not, ◌&&◌, ◌||◌, ◌==◌, cond, List, [], ◌∷◌, ◌++◌, map, filter, Some, None, is_some, refl}
use Rattle.std.proofs.Common.{arith, count_by}
use Rattle.std.specs.List.{AllByRecursion, flat_map}
use Rattle.sip_message_form.specs.declared.message.Message.{Message}
use Rattle.sip_edit_response.specs.Reasons.{reason_of}
use Rattle.sip_event.specs.declared.packet.Packet.{Packet}
use Rattle.model_steps.specs.state.declared.server.Server.{Server}
use Rattle.model_steps.specs.state.declared.branch.Branch.{Branch}
use Rattle.model_steps.specs.state.declared.open_request.OpenRequest.{OpenRequest}
use Rattle.model_steps.specs.state.declared.open_request.Upward.{Upward}
use Rattle.model_steps.specs.state.Arrival.{Arrival}
use Rattle.model_steps.specs.context_model.Sending.{made_answer, branch_packets}
use Rattle.model_steps.specs.context_model.Branches.{answered}
use Rattle.model_steps.specs.context_model.Opening.{closing, unsent, forking, is_tried, trying, tried, opening}
use Rattle.model_steps.specs.Effect.{change_packets, upward_packets, opening_packets}
use Rattle.sip_model.specs.Parts.{AreBegun, IsOpening, Answered, Sent, made_text}
use Rattle.model_transactions.specs.Copies.{other_copies_left}
use Rattle.sip_model.proofs.FinalsKept.{IsKept, IsHonest, made_kept, made_status}
use Rattle.sip_model.proofs.FinalsChanges.{IsLike, IsSound, settled_sound}
use Rattle.sip_model.proofs.SendingLists.{count_joined, both_pass}
use Rattle.sip_model.proofs.SendingBranches.{is_target, Succeeds, succeeds_alike}
use Rattle.sip_model.proofs.SendingTimes.{AreCopyLaws}
use Rattle.sip_model.proofs.SendingChanges.{settled_succeeds}
use Rattle.sip_model.proofs.CancelBranches.{Asks, copies_left, left_cons, is_early, is_place, IsSteady}
use Rattle.sip_model.proofs.CancelTexts.{IsNoCancel, answer_begins, upward_no, asks}
use Rattle.sip_model.proofs.CancelChanges.{IsFine, IsLess, same_less, IsCounted, settled_counted}
use Rattle.sip_model.proofs.Places.{count_cons, none_at, one_at}
use Rattle.sip_model.proofs.Rising.{number_is}

-- ---- branches that are first sent

-- what only branches of one number pass, none of a later number passes
begun_none : (p : Branch → Bool) (n : ℕ) → ((b : Branch) → p b ≡ true → b.number ≡ n) → (now number : ℕ) (bs : List Branch) → n < number → AreBegun now number bs
    → count_by p bs ≡ 0
begun_none p n own now number [] low h = refl
begun_none p n own now number (b ∷ bs) low h = by_test (p b) refl (begun_none p n own now (number + 1) bs (omega (arith, low)) h.1) where
  by_test : (t : Bool) → p b ≡ t → count_by p bs ≡ 0 → count_by p (b ∷ bs) ≡ 0
  by_test true is rest = let same = own b is in let numbered = h.0.is_numbered in absurd (omega (arith, same, numbered, low))
  by_test false is rest = omega (arith, count_cons p b bs, none_at (p b) is, rest)

-- and at most one passes
begun_one : (p : Branch → Bool) (n : ℕ) → ((b : Branch) → p b ≡ true → b.number ≡ n) → (now number : ℕ) (bs : List Branch) → AreBegun now number bs → count_by p bs ≤ 1
begun_one p n own now number [] h = omega arith
begun_one p n own now number (b ∷ bs) h = by_test (p b) refl (begun_one p n own now (number + 1) bs h.1) where
  by_test : (t : Bool) → p b ≡ t → count_by p bs ≤ 1 → count_by p (b ∷ bs) ≤ 1
  by_test true is rest =
      let same = own b is in
      let numbered = h.0.is_numbered in
      omega (arith, count_cons p b bs, one_at (p b) is, begun_none p n own now (number + 1) bs (omega (arith, same, numbered)) h.1)
  by_test false is rest = omega (arith, count_cons p b bs, none_at (p b) is, rest)

-- those of one number
place_number : (n : ℕ) (b : Branch) → is_place n b ≡ true → b.number ≡ n
place_number n b is = number_is b.number n (both_pass (b.number == n) (b.is_cancel || is_early b.phase) is).0

target_number : (n : ℕ) (b : Branch) → is_target n b ≡ true → b.number ≡ n
target_number n b is = number_is b.number n (both_pass (not b.is_cancel) (b.number == n) is).1

-- none is a CANCEL
begun_left : (g : Asks) (now number : ℕ) (bs : List Branch) → AreBegun now number bs → copies_left g bs ≡ 0
begun_left g now number [] h = refl
begun_left g now number (b ∷ bs) h = omega (
  arith,
  left_cons g b bs,
  none (g b.number b.uri b.address) b.is_cancel (other_copies_left b.phase b.again) h.0.is_target,
  begun_left g now (number + 1) bs h.1,
) where
  none : (s t : Bool) (n : ℕ) → t ≡ false → cond {A = ℕ} (t && s) n 0 ≡ 0
  none s true n is = absurd (cc)
  none s false n is = refl

-- each has a number
pub begun_each : (now number : ℕ) (bs : List Branch) → 1 ≤ number → AreBegun now number bs → AllByRecursion IsSteady bs
begun_each now number [] high h = tt
begun_each now number (b ∷ bs) high h =
    let numbered = h.0.is_numbered in
    let target = h.0.is_target in
    ((omega (arith, numbered, high), λ is. absurd (cc)), begun_each now (number + 1) bs (omega (arith, high)) h.1)

-- ---- a 100

-- a branch without an address has a status
pub unsent_kept : (bs : List Branch) → AllByRecursion IsKept (unsent bs)
unsent_kept bs = each (filter (λ (b : Branch). not (is_some b.address)) bs) where
  each : (xs : List Branch) → AllByRecursion IsKept (map (λ (b : Branch). record { status = 503; message = None }) xs)
  each [] = tt
  each (x ∷ xs) = (made_kept 503 (omega arith), each xs)

-- what a request becomes with its 100
pub record IsTried (r x : OpenRequest) : Type 0 where
  pub less : IsLess r x
  pub answer : IsNoCancel x.answer
  pub like : IsLike r x
  pub succeeds : Succeeds r x

pub tried_well : (server : Server) (now : ℕ) (r : OpenRequest) → AllByRecursion IsSteady r.branches → IsNoCancel r.answer → AllByRecursion IsKept r.finals
    → IsTried r (tried now (trying server r) r)
tried_well server now r each no_cancel keeps = by_test (is_tried r) where
  hundred : Upward
  hundred = record { status = 100; message = made_answer server r.number r.request.message r.request.source 100 []; target = None }

  honest : IsHonest hundred
  honest = record { low = omega arith; is_of = made_status server r 100 }

  by_test : (t : Bool) → IsTried r (tried now (cond t (record {
    status = 100;
    message = made_answer server r.number r.request.message r.request.source 100 [];
    target = None;
  } ∷ []) [])
      r)
  by_test true = record {
    less = record { number_is = refl; asks_same = λ test server number uri address. refl; fewer = λ g. omega arith; places = λ n. omega arith; each = each };
    answer = upward_no now (Some hundred) r (honest, tt) no_cancel;
    like = record { number_is = refl; key_is = refl; keeps = keeps };
    succeeds = succeeds_alike r (answered now hundred r) refl refl refl;
  }
  by_test false = record {
    less = same_less r each;
    answer = no_cancel;
    like = record { number_is = refl; key_is = refl; keeps = keeps };
    succeeds = succeeds_alike r r refl refl refl;
  }

-- ---- an opening

-- What is opened is fine, and has no more copies left than ten for each CANCEL that was sent with it.
pub record IsOpenedWell (test : Packet → Bool) (server : Server) (r : OpenRequest) (firsts : List Packet) : Type 0 where
  pub fewer : copies_left (asks test server r) r.branches ≤ 10 * count_by test firsts
  pub fine : IsFine r

module _ (laws : AreCopyLaws) (test : Packet → Bool) (server : Server) where
  -- one that is answered at once
  answered_well : (a : Arrival) (m : Message) (status : ℕ) (text : List ℕ) (firsts : List Packet) → IsNoCancel (closing a m status text).answer
      → IsOpenedWell test server (closing a m status text) firsts
  answered_well a m status text firsts no_cancel = record {
    fewer = omega arith;
    fine =
        record { apart = λ n. omega arith; places = λ n. omega arith; each = tt; answer = no_cancel; keeps = tt };
  }

  -- one that is sent to its branches
  sent_well : (a : Arrival) (m : Message) (bs : List Branch) → AreBegun a.now 1 bs → IsOpenedWell test server (opening server a.now (forking a m bs)).request
      (opening_packets server a.now (forking a m bs))
  sent_well a m bs begun = record {
    fewer = omega (
      arith,
      change_counted.fewer,
      begun_left (asks test server fork) a.now 1 bs begun,
      count_joined test (upward_packets fork (trying server fork) ++ change_packets (opening server a.now fork)) (flat_map (branch_packets server false fork) bs),
      count_joined test (upward_packets fork (trying server fork)) (change_packets (opening server a.now fork)),
    );
    fine = record {
      apart = λ n. let same = (settled_succeeds server a.now [] None fork (tried a.now (trying server fork) fork) well.succeeds).no_more n in
          let one = begun_one (is_target n) n (target_number n) a.now 1 bs begun in omega (arith, same, one);
      places = λ n. let less = change_counted.places n in let one = begun_one (is_place n) n (place_number n) a.now 1 bs begun in omega (arith, less, one);
      each = change_counted.each;
      answer = change_counted.answer;
      keeps = sound.is_like.keeps;
    };
  } where
    fork : OpenRequest
    fork = forking a m bs

    well : IsTried fork (tried a.now (trying server fork) fork)
    well = tried_well server a.now fork (begun_each a.now 1 bs (omega arith) begun) tt (unsent_kept bs)

    sound : IsSound fork (opening server a.now fork)
    sound = settled_sound server a.now [] None fork (tried a.now (trying server fork) fork) tt tt well.like

    change_counted : IsCounted test server fork (opening server a.now fork)
    change_counted = settled_counted laws test server a.now [] None fork (tried a.now (trying server fork) fork) well.less well.answer sound.honest

  -- either
  pub opening_well : (a : Arrival) (m : Message) (r : OpenRequest) (firsts : List Packet) → IsOpening server a m r firsts → IsOpenedWell test server r firsts
  opening_well a m _ _ (Answered status extras final) =
      answered_well a m status (made_text server a m status extras) _ (answer_begins status (made_answer server a.number m a.from status extras)
      (record { reason = reason_of status; start_is = refl }))
  opening_well a m _ _ (Sent first others begun) = sent_well a m (first ∷ others) begun
