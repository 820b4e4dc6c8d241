-- Over every history final answers go again no more often than copies of their request came, and to an INVITE ten times more.
use Rattle.std.proofs.Common.{◌≡◌, inl, inr, ℕ, ◌+◌, ◌<◌, ◌≤◌, Bool, true, false, ◌&&◌, cond, ◌==◌, List, [], ◌∷◌, ◌++◌, refl, sym, ap, subst, ◌∙◌, arith, count_by}
use Rattle.std.proofs.Common.{bytes_eq}
use Rattle.std.proofs.lemmas.Slice.Eq.{bytes_eq-Decides}
use Rattle.sip_event.specs.declared.packet.Packet.{Packet}
use Rattle.model_steps.specs.state.declared.server.Server.{Server}
use Rattle.model_steps.specs.state.declared.open_request.OpenRequest.{OpenRequest}
use Rattle.model_steps.specs.state.declared.proxy_state.ProxyState.{ProxyState}
use Rattle.model_steps.specs.state.State.{first_state, has_key}
use Rattle.model_steps.specs.context_model.Branches.{acknowledged}
use Rattle.model_steps.specs.context_model.Retransmission.{answers_again}
use Rattle.model_steps.specs.Effect.{replaced}
use Rattle.model_steps.specs.Step.{Act, NoneBefore, originals, retransmissions}
use Rattle.sip_model.specs.Run.{Link, under, IsChain}
use Rattle.sip_model.specs.Copies.{is_copy_of, copies_of}
use Rattle.sip_model.specs.Parts.{IsPart, Stays, Passes, Copies, TurnsAway, Opens, Changes, Resends, Acknowledges, AreParts, One, Two, HasParts, next_after}
use Rattle.sip_model.specs.Invites.{WasInvite}
use Rattle.sip_model.specs.FinalAnswers.{begins_final, is_final_to, finals_again, is_copy_at, copies_came, AnswersGoAgain}
use Rattle.sip_model.proofs.FinalsLists.{below_apart, number_below}
use Rattle.sip_model.proofs.FinalsCounts.{finals_in}
use Rattle.sip_model.proofs.FinalsOpenings.{opened_invite}
use Rattle.sip_model.proofs.FinalsParts.{said_next, next_low, ComesAs}
use Rattle.sip_model.proofs.FinalsHistory.{PartsLaw, invite_later, invite_now}
use Rattle.sip_model.proofs.FinalsSpent.{TimerLaws}
use Rattle.sip_model.proofs.FinalsCopies.{answer_few, answer_beside, change_silent, copy_counts, AreSpent, spent_on, spent_weaker, pushed_spent, change_spent}
use Rattle.sip_model.proofs.FinalsCopies.{acknowledged_spent}
use Rattle.sip_model.proofs.FinalsBounds.{resent_spent, opening_spent}
use Rattle.sip_model.proofs.Places.{IsIn, count_cons, found_in, in_from_contains, none_at, one_at}
use Rattle.sip_model.proofs.Rising.{number_is}

-- ---- a step

-- how often final answers went again, with what a step sends again
abbrev went_then : List Packet → (ℕ → ℕ) → ℕ → ℕ
went_then again went n = finals_in n again + went n

-- how many copies came, with the one that a step is taken for, if it is
abbrev came_then : ProxyState → Act → (ℕ → ℕ) → ℕ → ℕ
came_then state act came n = cond (is_copy_at n state act) 1 0 + came n

-- where nothing final goes again
silent_spent : (Invite : ℕ → Type 0) (went came : ℕ → ℕ) (state : ProxyState) (act : Act) (again : List Packet) (next : ℕ) → state.next ≤ next
    → ((n : ℕ) → finals_in n again ≡ 0) → AreSpent Invite state.requests state.next went came
    → AreSpent Invite state.requests next (went_then again went) (came_then state act came)
silent_spent Invite went came state act again next low none h =
    spent_on Invite state.requests state.next next went came (went_then again went) (came_then state act came) low (λ n. omega (arith, none n))
    (λ n high. omega (arith, none n, h.none_later n (omega arith))) h

-- where a copy gets the last answer
copy_spent : (Invite : ℕ → Type 0) (went came : ℕ → ℕ) (state : ProxyState) (act : Act) (r : OpenRequest) (again : List Packet) → IsIn r state.requests
    → is_copy_at r.number state act ≡ true → again ≡ answers_again r r.answer
    → AreSpent Invite state.requests state.next went came → AreSpent Invite state.requests (next_after state act) (went_then again went) (came_then state act came)
copy_spent Invite went came state act r again there copies is h =
    spent_on Invite state.requests state.next (next_after state act) went came (went_then again went) (came_then state act came) (next_low state act)
    (λ n. goes n (r.number == n) refl)
    (λ n high. omega (arith, beside n (below_apart r.number n (omega (arith, below, next_low state act))), h.none_later n (omega (arith, next_low state act)))) h where
      below : r.number < state.next
      below = number_below state.next state.requests r h.numbered there

      few : (n : ℕ) → finals_in n again ≤ 1
      few n = subst (λ (ps : List Packet). finals_in n ps ≤ 1) (sym is) (answer_few n r r.answer)

      beside : (n : ℕ) → (r.number == n) ≡ false → finals_in n again ≡ 0
      beside n apart = ap (finals_in n) is ∙ answer_beside n r r.answer apart

      goes : (n : ℕ) (t : Bool) → (r.number == n) ≡ t → finals_in n again + went n + came n ≤ went n + (cond (is_copy_at n state act) 1 0 + came n)
      goes n true e = omega (arith, few n, one_at (is_copy_at n state act) (ap (λ (k : ℕ). is_copy_at k state act) (sym (number_is r.number n e)) ∙ copies))
      goes n false e = omega (arith, beside n e)

-- what each part leaves
part_spent : TimerLaws
    → (Invite : ℕ → Type 0) (went came : ℕ → ℕ) (server : Server) (state : ProxyState) (act : Act) (now : ℕ) (after : List OpenRequest) (firsts again : List Packet)
    → ComesAs Invite state act → NoneBefore now state.requests
    → IsPart server state act now state.requests after firsts again → AreSpent Invite state.requests state.next went came
    → AreSpent Invite after (next_after state act) (went_then again went) (came_then state act came)
part_spent laws Invite went came server state act now after firsts again comes none part h = by_part part where
  on : ((n : ℕ) → finals_in n again ≡ 0) → AreSpent Invite state.requests (next_after state act) (went_then again went) (came_then state act came)
  on silent = silent_spent Invite went came state act again (next_after state act) (next_low state act) silent h

  empty : again ≡ [] → (n : ℕ) → finals_in n again ≡ 0
  empty q n = ap (finals_in n) q

  is : (rs : List OpenRequest) → after ≡ rs → AreSpent Invite rs (next_after state act) (went_then again went) (came_then state act came)
      → AreSpent Invite after (next_after state act) (went_then again went) (came_then state act came)
  is rs e left = subst (λ (xs : List OpenRequest). AreSpent Invite xs (next_after state act) (went_then again went) (came_then state act came)) (sym e) left

  moved : AreSpent Invite state.requests (next_after state act) went came
  moved = spent_on Invite state.requests state.next (next_after state act) went came went came (next_low state act) (λ n. omega arith)
      (λ n high. h.none_later n (omega (arith, next_low state act))) h

  by_part : IsPart server state act now state.requests after firsts again → AreSpent Invite after (next_after state act) (went_then again went) (came_then state act came)
  by_part (Stays e p q) = is state.requests e (on (empty q))
  by_part (Passes a m address within ack e p q) = is state.requests e (on (empty q))
  by_part (Copies a bytes m short key r said no_ack key_is at_key e p q) =
      is state.requests e
      (copy_spent Invite went came state act r again (found_in (has_key key) state.requests r at_key).0
      (copy_counts state act a bytes m short key r said no_ack key_is at_key) q h)
  by_part (TurnsAway a bytes m short r said key_is no_ack opening full e q) = is state.requests e (on (empty q))
  by_part (Opens a bytes m short r said key_is no_ack at opening room new e q) =
      let number : a.number ≡ state.next = (said_next state act a bytes m short said).0 in
      let later : next_after state act ≡ state.next + 1 = (said_next state act a bytes m short said).1 in
      let before = silent_spent Invite went came state act again state.next (omega arith) (empty q) h in
      let opened = opening_spent laws Invite (went_then again went) (came_then state act came) server a m r firsts opening
      (λ invite. comes a bytes m short said (opened_invite m r.key key_is no_ack invite))
      (ap (went_then again went) number ∙ before.none_later state.next (omega arith)) in
      is (state.requests ++ r ∷ []) e
      (subst (λ (n : ℕ). AreSpent Invite (state.requests ++ r ∷ []) n (went_then again went) (came_then state act came)) (sym later)
      (pushed_spent Invite state.requests state.next (went_then again went) (came_then state act came) r (opened.1 ∙ number) opened.0 before))
  by_part (Changes r change there change_is e p) =
      is (replaced change.request state.requests) e
      (change_spent laws Invite server state act now r change again state.requests (next_after state act) (went_then again went) (came_then state act came)
      (in_from_contains state.requests r there) change_is
      (on (λ n. change_silent server state act now n r change again change_is)))
  by_part (Resends r later there goes e p) =
      is (replaced later state.requests) e
      (resent_spent laws Invite server now r later again state.requests (next_after state act) went came (came_then state act came) goes none
      (in_from_contains state.requests r there)
      (λ n. omega arith) moved)
  by_part (Acknowledges r there e p q) =
      is (replaced (acknowledged now r) state.requests) e
      (acknowledged_spent laws Invite now r state.requests (next_after state act) (went_then again went) (came_then state act came)
      (in_from_contains state.requests r there)
      (on (empty q)))

-- what the parts of a step leave
parts_spent : TimerLaws
    → (Invite : ℕ → Type 0) (went came : ℕ → ℕ) (server : Server) (state : ProxyState) (act : Act) (now : ℕ) (after : List OpenRequest) (firsts again : List Packet)
    → ComesAs Invite state act → NoneBefore now state.requests
    → AreParts server state act now state.requests after firsts again → AreSpent Invite state.requests state.next went came
    → AreSpent Invite after (next_after state act) (went_then again went) (came_then state act came)
parts_spent laws Invite went came server state act now after firsts again comes none
    (One part) h = part_spent laws Invite went came server state act now after firsts again comes none part h
parts_spent laws Invite went came server state act now after firsts again comes none (Two middle earlier r change part there between is e p q) h =
    let one = part_spent laws Invite went came server state act now middle earlier [] comes none part h in
    subst (λ (xs : List OpenRequest). AreSpent Invite xs (next_after state act) (went_then again went) (came_then state act came)) (sym e)
    (subst (λ (ps : List Packet). AreSpent Invite (replaced change.request middle) (next_after state act) (went_then ps went) (came_then state act came)) (sym q)
    (change_spent laws Invite server state act now r change [] middle (next_after state act) (went_then [] went) (came_then state act came)
    (in_from_contains middle r between) is
    one))

-- ---- histories

-- in a whole history
chain_spent : TimerLaws → PartsLaw → (server : Server) (first : ℕ) (history : List Link) (last : ProxyState) → IsChain server (first_state first) history last
    → AreSpent (λ n. WasInvite n history) last.requests last.next (λ n. finals_again n history) (λ n. copies_came n history)
chain_spent laws parts server first [] last chain =
    subst (λ (s : ProxyState). AreSpent (λ n. WasInvite n []) s.requests s.next (λ n. 0) (λ n. 0)) (sym chain)
    (record { numbered = record { differ = λ n. omega arith; are_below = λ n high. refl }; none_later = λ n high. refl; each_one = λ n. inl (omega arith); fit = tt })
chain_spent laws parts server first (link ∷ history) last chain =
    let made : HasParts (under server link.config) link.before link.act link.out link.after =
    parts (under server link.config) link.before link.act link.out link.after chain.1 in
    let before = spent_weaker (λ n. WasInvite n history) (λ n. WasInvite n (link ∷ history)) link.before.requests link.before.next (λ n. finals_again n history)
    (λ n. copies_came n history) (invite_later link history)
    (chain_spent laws parts server first history link.before chain.2) in
    subst (λ (s : ProxyState). AreSpent (λ n. WasInvite n (link ∷ history)) s.requests s.next (λ n. finals_again n (link ∷ history))
    (λ n. copies_came n (link ∷ history)))
    (sym chain.0)
    (subst (λ (k : ℕ). AreSpent (λ n. WasInvite n (link ∷ history)) link.after.requests k (λ n. finals_again n (link ∷ history)) (λ n. copies_came n (link ∷ history)))
    (sym made.is_next)
    (parts_spent laws (λ n. WasInvite n (link ∷ history)) (λ n. finals_again n history)
    (λ n. copies_came n history) (under server link.config) link.before link.act link.after.moment link.after.requests (originals link.out.packets)
    (retransmissions link.out.packets) (invite_now link history) made.none_passed made.parts before))

-- each number of a history is within the bound
pub chain_again : TimerLaws → PartsLaw → (server : Server) (first : ℕ) (history : List Link) (last : ProxyState) → IsChain server (first_state first) history last
    → (number : ℕ) → AnswersGoAgain number history
chain_again laws parts server first history last chain number = (chain_spent laws parts server first history last chain).each_one number

-- ---- one answer

-- a copy of a final answer is one
copy_final : (n : ℕ) (p q : Packet) → is_final_to n p ≡ true → is_copy_of p q ≡ true → (q.again ≡ true) × (is_final_to n q ≡ true)
copy_final n p q final copy =
    by_tests q.again (bytes_eq q.bytes p.bytes) (bytes_eq q.to.ip p.to.ip) (q.to.port == p.to.port) (q.ticket.datagram == p.ticket.datagram)
    (q.ticket.branch == p.ticket.branch) refl refl refl refl copy where
      same : bytes_eq q.bytes p.bytes ≡ true → (q.ticket.datagram == p.ticket.datagram) ≡ true → (q.ticket.branch == p.ticket.branch) ≡ true → is_final_to n q ≡ true
      same bytes datagram branch =
          let whole : q.bytes ≡ p.bytes = (bytes_eq-Decides q.bytes p.bytes).0 bytes in
          let number : q.ticket.datagram ≡ p.ticket.datagram = number_is q.ticket.datagram p.ticket.datagram datagram in
          let target : q.ticket.branch ≡ p.ticket.branch = number_is q.ticket.branch p.ticket.branch branch in
          (λ i. number i == n && target i == 0 && begins_final (whole i)) ∙ final

      by_tests : (s t u v w x : Bool) → q.again ≡ s → bytes_eq q.bytes p.bytes ≡ t → (q.ticket.datagram == p.ticket.datagram) ≡ w
          → (q.ticket.branch == p.ticket.branch) ≡ x
          → (s && t && u && v && w && x) ≡ true
          → (q.again ≡ true) × (is_final_to n q ≡ true)
      by_tests true true true true true true again bytes datagram branch is = (again, same bytes datagram branch)
      by_tests true true true true true false again bytes datagram branch is = absurd (cc)
      by_tests true true true true false x again bytes datagram branch is = absurd (cc)
      by_tests true true true false w x again bytes datagram branch is = absurd (cc)
      by_tests true true false v w x again bytes datagram branch is = absurd (cc)
      by_tests true false u v w x again bytes datagram branch is = absurd (cc)
      by_tests false t u v w x again bytes datagram branch is = absurd (cc)

-- so its copies count among all
copies_few : (n : ℕ) (p : Packet) → is_final_to n p ≡ true → (qs : List Packet) → count_by (is_copy_of p) qs ≤ count_by (is_final_to n) (retransmissions qs)
copies_few n p final [] = omega arith
copies_few n p final (q ∷ qs) = by_tests (is_copy_of p q) q.again refl refl (copies_few n p final qs) where
  by_tests : (t u : Bool) → is_copy_of p q ≡ t → q.again ≡ u → count_by (is_copy_of p) qs ≤ count_by (is_final_to n) (retransmissions qs)
      → count_by (is_copy_of p) (q ∷ qs) ≤ count_by (is_final_to n) (cond u (q ∷ retransmissions qs) (retransmissions qs))
  by_tests true true copy again rest =
      omega (
        arith,
        count_cons (is_copy_of p) q qs,
        one_at (is_copy_of p q) copy,
        count_cons (is_final_to n) q (retransmissions qs),
        one_at (is_final_to n q)
            (copy_final n p q final copy).1,
        rest,
      )
  by_tests true false copy again rest = let goes = (copy_final n p q final copy).0 in absurd (cc)
  by_tests false true copy again rest = omega (
    arith,
    count_cons (is_copy_of p) q qs,
    none_at (is_copy_of p q) copy,
    count_cons (is_final_to n) q (retransmissions qs),
    rest,
  )
  by_tests false false copy again rest = omega (arith, count_cons (is_copy_of p) q qs, none_at (is_copy_of p q) copy, rest)

-- over a history
copies_among : (n : ℕ) (p : Packet) → is_final_to n p ≡ true → (history : List Link) → copies_of p history ≤ finals_again n history
copies_among n p final [] = omega arith
copies_among n p final (link ∷ history) = omega (arith, copies_few n p final link.out.packets, copies_among n p final history)

-- so each final answer goes again at most ten times, and once more for each copy of its request
pub copies_bounded : (n : ℕ) (history : List Link) → AnswersGoAgain n history → (p : Packet) → is_final_to n p ≡ true → copies_of p history ≤ 10 + copies_came n history
copies_bounded n history (inl less) p final = omega (arith, less, copies_among n p final history)
copies_bounded n history (inr all) p final = let less = all.1 in omega (arith, less, copies_among n p final history)
