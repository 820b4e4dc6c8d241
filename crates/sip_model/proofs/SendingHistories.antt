-- Over every history: what was sent to targets, and that it was sent on time.
use Rattle.std.proofs.Common.{◌≡◌, ◌⊎◌, inl, inr, ℕ, ◌+◌, ◌≤◌, ◌<◌, Bool, true, false, cond, List, [], ◌∷◌, ◌++◌, Option, Some, None, refl, sym, ap, subst, ◌∙◌, arith}
use Rattle.std.proofs.Common.{count_by, codes, bytes_eq}
use Rattle.std.specs.List.{AllByRecursion, flat_map, filter_map}
use Rattle.std.specs.Option.{option_to_list, option_map_or}
use Rattle.sip_message_form.specs.declared.message.Message.{Message}
use Rattle.sip_message.specs.Reading.{reading_of}
use Rattle.sip_event.specs.declared.packet.Packet.{Packet}
use Rattle.sip_event.specs.declared.event.StepOut.{StepOut}
use Rattle.sip_event.specs.declared.event.Event.TheVariants.{Datagram, Time, Fault}
use Rattle.model_steps.specs.state.declared.server.Server.{Server}
use Rattle.model_steps.specs.state.declared.branch.Phase.{Phase}
use Rattle.model_steps.specs.state.declared.branch.Phase.TheVariants.{Unheard, Heard, Cancelled, Done, Ended}
use Rattle.model_steps.specs.state.declared.branch.Branch.{Branch}
use Rattle.model_steps.specs.state.declared.resend.Resend.{Resend}
use Rattle.model_steps.specs.state.declared.open_request.OpenRequest.{OpenRequest}
use Rattle.model_steps.specs.state.declared.proxy_state.ProxyState.{ProxyState}
use Rattle.model_steps.specs.state.Arrival.{Arrival}
use Rattle.model_steps.specs.state.State.{first_state, is_invite}
use Rattle.model_steps.specs.context_model.Branches.{is_unheard}
use Rattle.model_steps.specs.context_model.Retransmission.{answer_due, branch_due, is_cancelled_again, is_sent_again, resends_of}
use Rattle.model_steps.specs.verdict_model.Verdict.{message_in}
use Rattle.model_steps.specs.Effect.{method_of}
use Rattle.model_steps.specs.Step.{Act, Given, Passing, IsStep, NoneAgainBefore, originals, retransmissions}
use Rattle.sip_model.specs.Run.{Link, under, IsChain}
use Rattle.sip_model.specs.Access.{IsSaidAt}
use Rattle.sip_model.specs.Order.{AreRising, HasFired}
use Rattle.sip_model.specs.Parts.{HasParts, next_after}
use Rattle.sip_model.specs.Invites.{WasInvite}
use Rattle.sip_model.specs.Sendings.{is_sent_for, moments_of, IsAhead, AreOnTime, StayOnTime, GoOutSoOften}
use Rattle.sip_model.proofs.SendingLists.{all_behind, all_flat, all_made, none_kept, one_kept, count_parts}
use Rattle.sip_model.proofs.SendingTimes.{AreCopyLaws, WasSent, IsGoing}
use Rattle.sip_model.proofs.SendingRequests.{IsRight, BranchFits, Fits, Tells, Holds}
use Rattle.sip_model.proofs.SendingSteps.{Adds, said_next, parts_hold}
use Rattle.sip_model.proofs.Places.{IsIn, all_in, contains_from_in, in_from_contains}
use Rattle.sip_model.proofs.FinalsParts.{next_low}

-- ---- what one more step hands out

-- its first sendings and its copies
link_adds : (link : Link) (history : List Link) → Adds link.out.at (originals link.out.packets) (retransmissions link.out.packets) (λ n k. moments_of n k history)
    (λ n k. moments_of n k (link ∷ history))
link_adds link history = record {
  none = λ n k high zero_first zero_again. ap (λ at. at ++ moments_of n k history) (none_kept (is_sent_for n k) link.out.at link.out.packets
      (omega (arith, total n k, zero_first, zero_again)));
  first = λ n k high one zero_again. ap (λ at. at ++ moments_of n k history) (one_kept (is_sent_for n k) link.out.at link.out.packets
      (omega (arith, total n k, one, zero_again)));
  copy = λ n k high zero_first one. ap (λ at. at ++ moments_of n k history) (one_kept (is_sent_for n k) link.out.at link.out.packets
      (omega (arith, total n k, zero_first, one)));
} where
  total : (n k : ℕ) → count_by (is_sent_for n k) link.out.packets ≡ count_by (is_sent_for n k) (originals link.out.packets) + count_by (is_sent_for n k)
      (retransmissions link.out.packets)
  total n k = count_parts (is_sent_for n k) (λ (p : Packet). p.again) link.out.packets

-- ---- what a history says of INVITEs

-- the newest step's datagram has a number, and says an INVITE
record IsInviteNow (number : ℕ) (link : Link) : Type 0 where
  a : Arrival
  bytes : List ℕ
  m : Message
  short : Bool
  is_said : IsSaidAt link.before link.act a bytes m short
  is_number : a.number ≡ number
  is_invite : bytes_eq (method_of m.start) (codes "INVITE") ≡ true

-- an INVITE is that of the newest step, or an earlier one
was_cases : (number : ℕ) (link : Link) (history : List Link) → WasInvite number (link ∷ history) → IsInviteNow number link ⊎ WasInvite number history
was_cases number link history w = by_place (in_from_contains (link ∷ history) w.link w.is_there) where
  by_place : IsIn w.link (link ∷ history) → IsInviteNow number link ⊎ WasInvite number history
  by_place (inl is) = inl (record {
    a = w.a;
    bytes = w.bytes;
    m = w.m;
    short = w.short;
    is_said = subst (λ (l : Link). IsSaidAt l.before l.act w.a w.bytes w.m w.short) (sym is) w.is_said;
    is_number = w.is_number;
    is_invite = w.is_invite;
  })
  by_place (inr there) = inr (record {
    link = w.link;
    a = w.a;
    bytes = w.bytes;
    m = w.m;
    short = w.short;
    is_there = contains_from_in history w.link there;
    is_said = w.is_said;
    is_number = w.is_number;
    is_invite = w.is_invite;
  })

-- an empty history says none
none_was : (number : ℕ) → WasInvite number [] → ⊥
none_was number w = in_from_contains [] w.link w.is_there

-- one datagram says one message
bytes_of : Act → List ℕ
bytes_of (Given (Datagram at word from bytes)) = bytes
bytes_of (Given (Time at)) = []
bytes_of (Given (Fault at ticket)) = []
bytes_of (Passing at) = []

one_message : (state : ProxyState) (act : Act) (a b : Arrival) (xs ys : List ℕ) (m n : Message) (s t : Bool) → IsSaidAt state act a xs m s → IsSaidAt state act b ys n t
    → m ≡ n
unfolding bytes_of
one_message state act a b xs ys m n s t first second =
    let same : xs ≡ ys = sym (ap bytes_of first.is_act) ∙ ap bytes_of second.is_act in
    let says : Some (m, s) ≡ Some (n, t) = sym first.says ∙ ap (λ (bytes : List ℕ). message_in (reading_of bytes)) same ∙ second.says in
    ap (λ (o : Option (Message × Bool)). option_map_or (λ x. x.0) o m) says

-- ---- what is due

-- what goes again of a branch of an open request isn't due before a moment that none is before
branch_ahead : (P : ℕ → Type 0) (requests : List OpenRequest) (r : OpenRequest) (b : Branch) (due : ℕ) → AllByRecursion P (flat_map resends_of requests) → IsIn r requests
    → IsIn b r.branches → branch_due r b ≡ Some due → P due
branch_ahead P requests r b due all there inside is =
    let own : AllByRecursion P (resends_of r) = all_flat P resends_of requests r all there in
    all_made P (branch_due r) r.branches b due (all_behind P (option_to_list (answer_due r)) (filter_map (branch_due r) r.branches) own) inside is

-- an INVITE of which nothing was heard goes again
unheard_goes : (r : OpenRequest) (b : Branch) → b.is_cancel ≡ false → is_unheard b.phase ≡ true → branch_due r b ≡ Some b.again.due
unheard_goes r b target unheard = by_kind b.is_cancel b.phase target unheard where
  by_kind : (t : Bool) (phase : Phase) → t ≡ false → is_unheard phase ≡ true → cond (cond t (is_cancelled_again phase) (is_sent_again (is_invite r) phase))
      (Some b.again.due) None ≡ Some b.again.due
  by_kind true phase target unheard = absurd (cc)
  by_kind false (Unheard until) target unheard = refl
  by_kind false (Heard until) target unheard = absurd (cc)
  by_kind false (Cancelled until) target unheard = absurd (cc)
  by_kind false (Done until status) target unheard = absurd (cc)
  by_kind false Ended target unheard = absurd (cc)

-- what is due is ahead after a step
ahead_of : (act : Act) (state : ProxyState) (r : OpenRequest) (b : Branch) (due : ℕ) → HasFired act state → NoneAgainBefore state.moment state.requests
    → IsIn r state.requests → IsIn b r.branches → branch_due r b ≡ Some due
    → IsAhead act state.moment due
ahead_of (Given (Datagram at word from bytes)) state r b due fired none there inside is =
    branch_ahead (λ (x : ℕ). state.moment < x) state.requests r b due fired.1 there inside is
ahead_of (Given (Time at)) state r b due fired none there inside is = branch_ahead (λ (x : ℕ). state.moment < x) state.requests r b due fired.1 there inside is
ahead_of (Given (Fault at ticket)) state r b due fired none there inside is = branch_ahead (λ (x : ℕ). state.moment ≤ x) state.requests r b due none there inside is
ahead_of (Passing at) state r b due fired none there inside is = branch_ahead (λ (x : ℕ). state.moment ≤ x) state.requests r b due none there inside is

-- an INVITE of which nothing was heard, by its phase
going_of : (phase : Phase) (again : Resend) (sent : List ℕ) → is_unheard phase ≡ true → WasSent true phase again sent → (until : ℕ) × IsGoing until again sent
going_of (Unheard until) again sent unheard h = (until, h)
going_of (Heard until) again sent unheard h = absurd (cc)
going_of (Cancelled until) again sent unheard h = absurd (cc)
going_of (Done until status) again sent unheard h = absurd (cc)
going_of Ended again sent unheard h = absurd (cc)

-- ---- the laws of the model

-- What the laws of the model say, of every history.
pub record AreModelLaws (server : Server) : Type 0 where
  pub parts : (other : Server) (old : ProxyState) (act : Act) (out : StepOut) (new : ProxyState) → IsStep other old act out new → HasParts other old act out new
  pub rising : (first : ℕ) (history : List Link) (last : ProxyState) → IsChain server (first_state first) history last → AreRising last.requests
  pub none_again : (first : ℕ) (history : List Link) (last : ProxyState) → IsChain server (first_state first) history last → NoneAgainBefore last.moment last.requests
  pub has_fired : (first : ℕ) (history : List Link) (last : ProxyState) → IsChain server (first_state first) history last
      → AllByRecursion (λ (link : Link). HasFired link.act link.after) history

module _ (laws : AreCopyLaws) (server : Server) (model : AreModelLaws server) (first : ℕ) where
  -- a datagram that said an INVITE has a lower number than the next
  was_below : (history : List Link) (last : ProxyState) → IsChain server (first_state first) history last → (number : ℕ) → WasInvite number history → number < last.next
  was_below [] last chain number w = absurd (none_was number w)
  was_below (link ∷ history) last chain number w = by_case (was_cases number link history w) (λ before. was_below history link.before chain.2 number before) where
    next : last.next ≡ next_after link.before link.act
    next = ap (λ (s : ProxyState). s.next) chain.0 ∙ (model.parts (under server link.config) link.before link.act link.out link.after chain.1).is_next

    by_case : IsInviteNow number link ⊎ WasInvite number history → (WasInvite number history → number < link.before.next) → number < last.next
    by_case (inl now) earlier =
        let said = said_next link.before link.act now.a now.bytes now.m now.short now.is_said in
        let number_is = now.is_number in
        omega (arith, next, said.0, said.1, number_is)
    by_case (inr before) earlier = let low = earlier before in omega (arith, next, low, next_low link.before link.act)

  -- what one more step says
  link_tells : (link : Link) (history : List Link) → Tells (λ n. WasInvite n history) (λ n. WasInvite n (link ∷ history)) link.before.next
      (next_after link.before link.act)
  link_tells link history = record { rises = next_low link.before link.act; told = λ n low w. by_case n low (was_cases n link history w) } where
    by_case : (n : ℕ) → n < link.before.next → IsInviteNow n link ⊎ WasInvite n history → WasInvite n history
    by_case n low (inl now) =
        let said = said_next link.before link.act now.a now.bytes now.m now.short now.is_said in
        let number_is = now.is_number in
        absurd (omega (arith, low, said.1, number_is))
    by_case n low (inr before) = before

  -- the datagram of a step says an INVITE if the history says so of its number
  link_says : (link : Link) (history : List Link) → IsChain server (first_state first) history link.before → (a : Arrival) (bytes : List ℕ) (m : Message) (short : Bool)
      → IsSaidAt link.before link.act a bytes m short
      → WasInvite a.number (link ∷ history) → bytes_eq (method_of m.start) (codes "INVITE") ≡ true
  link_says link history chain a bytes m short said w = by_case (was_cases a.number link history w) where
    by_case : IsInviteNow a.number link ⊎ WasInvite a.number history → bytes_eq (method_of m.start) (codes "INVITE") ≡ true
    by_case (inl now) = ap (λ (x : Message). bytes_eq (method_of x.start) (codes "INVITE"))
        (one_message link.before link.act a now.a bytes now.bytes m now.m short now.short said now.is_said) ∙ now.is_invite
    by_case (inr before) =
        let low = was_below history link.before chain a.number before in
        let next = said_next link.before link.act a bytes m short said in
        absurd (omega (arith, low, next.1))

  -- What holds after every history.
  chain_holds : (history : List Link) (last : ProxyState) → IsChain server (first_state first) history last
      → Holds (λ n. WasInvite n history) last.next (λ n k. moments_of n k history) last.requests
  chain_holds [] last chain = subst (λ (s : ProxyState). Holds (λ n. WasInvite n []) s.next (λ n k. []) s.requests) (sym chain) (record {
    few = λ n k high. omega arith;
    invites = λ n k high w. absurd (none_was n w);
    none_later = λ n k high late. refl;
    below = tt;
    fit = tt;
  })
  chain_holds (link ∷ history) last chain =
      let parts : HasParts (under server link.config) link.before link.act link.out link.after =
      model.parts (under server link.config) link.before link.act link.out link.after chain.1 in
      let adds : Adds link.after.moment (originals link.out.packets) (retransmissions link.out.packets) (λ n k. moments_of n k history)
      (λ n k. moments_of n k (link ∷ history)) =
      subst (λ (at : ℕ). Adds at (originals link.out.packets) (retransmissions link.out.packets) (λ n k. moments_of n k history) (λ n k. moments_of n k (link ∷ history)))
      parts.is_at (link_adds link history) in
      let holds : Holds (λ n. WasInvite n (link ∷ history)) (next_after link.before link.act) (λ n k. moments_of n k (link ∷ history)) link.after.requests =
      parts_hold laws (under server link.config) link.before link.act link.after.moment (λ n. WasInvite n history) (λ n. WasInvite n (link ∷ history))
      (link_tells link history) (link_says link history chain.2)
      link.before.requests link.after.requests (originals link.out.packets) (retransmissions link.out.packets) (λ n k. moments_of n k history)
      (λ n k. moments_of n k (link ∷ history))
      parts.none_passed (model.rising first history link.before chain.2) parts.parts adds (chain_holds history link.before chain.2) in
      subst (λ (s : ProxyState). Holds (λ n. WasInvite n (link ∷ history)) s.next (λ n k. moments_of n k (link ∷ history)) s.requests) (sym chain.0)
      (subst (λ (n : ℕ). Holds (λ m. WasInvite m (link ∷ history)) n (λ m k. moments_of m k (link ∷ history)) link.after.requests) (sym parts.is_next) holds)

  -- ---- on time

  -- after the newest step
  link_on_time : (link : Link) (history : List Link) → IsChain server (first_state first) (link ∷ history) link.after → AreOnTime link (link ∷ history)
  link_on_time link history chain r b open_then invite inside target unheard =
      let holds : Holds (λ n. WasInvite n (link ∷ history)) link.after.next (λ n k. moments_of n k (link ∷ history)) link.after.requests =
      chain_holds (link ∷ history) link.after chain in
      let there : IsIn r link.after.requests = in_from_contains link.after.requests r open_then in
      let within : IsIn b r.branches = in_from_contains r.branches b inside in
      let fits : Fits (λ n. WasInvite n (link ∷ history)) (λ n k. moments_of n k (link ∷ history)) r =
      all_in (Fits (λ n. WasInvite n (link ∷ history)) (λ n k. moments_of n k (link ∷ history))) link.after.requests r holds.fit there in
      let right : IsRight (is_invite r) (moments_of r.number b.number (link ∷ history)) b =
      all_in (BranchFits (is_invite r) (λ k. moments_of r.number k (link ∷ history))) r.branches b fits.fit within target in
      let going = going_of b.phase b.again (moments_of r.number b.number (link ∷ history)) unheard
      (subst (λ (t : Bool). WasSent t b.phase b.again (moments_of r.number b.number (link ∷ history))) invite right.was_sent) in
      let fired = model.has_fired first (link ∷ history) link.after chain in
      let ahead = ahead_of link.act link.after r b b.again.due fired.0 (model.none_again first (link ∷ history) link.after chain) there within
      (unheard_goes r b target unheard) in
      record {
        first = going.1.first;
        count = going.1.count;
        went = going.1.went;
        are_all = going.1.are_all;
        next = subst (λ (due : ℕ). IsAhead link.act link.after.moment due) going.1.next.due ahead;
      }

  -- after each step
  chain_on_time : (history : List Link) (last : ProxyState) → IsChain server (first_state first) history last → StayOnTime history
  chain_on_time [] last chain = tt
  chain_on_time (link ∷ history) last chain = (link_on_time link history (refl, chain.1, chain.2), chain_on_time history link.before chain.2)

  -- The law.
  pub chain_so_often : (history : List Link) (last : ProxyState) → IsChain server (first_state first) history last → GoOutSoOften history
  chain_so_often history last chain =
      let holds : Holds (λ n. WasInvite n history) last.next (λ n k. moments_of n k history) last.requests = chain_holds history last chain in
      record { few = holds.few; invites = holds.invites; on_time = chain_on_time history last chain }
