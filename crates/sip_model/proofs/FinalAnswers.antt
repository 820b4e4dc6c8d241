-- The final answers of a history, request by request.
use Rattle.std.proofs.Common.{◌≡◌, inl, inr, ℕ, zero, suc, ◌≤◌, Bool, true, false, cond, ◌==◌, List, [], ◌∷◌, ◌++◌, length, map, filter, append-nil, refl, sym, ap, subst}
use Rattle.std.proofs.Common.{◌∙◌, arith, count_by}
use Rattle.std.specs.List.{AllByRecursion}
use Rattle.std.proofs.lemmas.List.Elements.{filter-append}
use Rattle.model_steps.specs.state.declared.open_request.OpenRequest.{OpenRequest}
use Rattle.model_steps.specs.state.State.{is_invite, is_answering, is_success}
use Rattle.model_steps.specs.state.declared.open_request.Upward.{Upward}
use Rattle.model_steps.specs.context_model.Branches.{Change, has_success}
use Rattle.sip_model.specs.Order.{is_final_answer, AddsSuccessesAlone, AnswersOnce, FinalAnswer, finals_up, change_finals, finals_to, IsAccepting, AreOneAnswer}
use Rattle.sip_model.proofs.Places.{same_number, count_cons, one_at, none_at}
use Rattle.sip_model.proofs.Settling.{all_append}

-- ---- the final answers to one number

-- of two lists together
finals_append : (n : ℕ) (xs ys : List FinalAnswer) → finals_to n (xs ++ ys) ≡ finals_to n xs ++ finals_to n ys
finals_append n xs ys = filter-append (λ (f : FinalAnswer). f.number == n) xs ys

-- final answers to the request of one number
abbrev pub AreTo : ℕ → List FinalAnswer → Type 0
AreTo n fs = AllByRecursion (λ (f : FinalAnswer). f.number ≡ n) fs

-- a test of a number that is equal
test_is : (a n : ℕ) (t : Bool) → a ≡ n → (n == n) ≡ t → (a == n) ≡ t
test_is a n t e is = ap (λ v. v == n) e ∙ is

-- all of a list are to the number that they are to
finals_own : (n : ℕ) (fs : List FinalAnswer) → AreTo n fs → finals_to n fs ≡ fs
finals_own n [] all = refl
finals_own n (f ∷ fs) all = ap (λ (t : Bool). cond t (f ∷ finals_to n fs) (finals_to n fs)) (test_is f.number n true all.0 (same_number n n refl))
    ∙ ap (λ (xs : List FinalAnswer). f ∷ xs) (finals_own n fs all.1)

-- and none to any other
finals_other : (n k : ℕ) (fs : List FinalAnswer) → (k == n) ≡ false → AreTo k fs → finals_to n fs ≡ []
finals_other n k [] e all = refl
finals_other n k (f ∷ fs) e all = ap (λ (t : Bool). cond t (f ∷ finals_to n fs) (finals_to n fs)) (ap (λ v. v == n) all.0 ∙ e) ∙ finals_other n k fs e all.1

-- those that are added for a request stand with those that it had
pub finals_with : (n : ℕ) (fs sent : List FinalAnswer) → AreTo n fs → finals_to n (fs ++ sent) ≡ fs ++ finals_to n sent
finals_with n fs sent all = finals_append n fs sent ∙ ap (λ (xs : List FinalAnswer). xs ++ finals_to n sent) (finals_own n fs all)

-- and leave those of every other as they are
pub finals_beside : (n k : ℕ) (fs sent : List FinalAnswer) → (k == n) ≡ false → AreTo k fs → finals_to n (fs ++ sent) ≡ finals_to n sent
finals_beside n k fs sent e all = finals_append n fs sent ∙ ap (λ (xs : List FinalAnswer). xs ++ finals_to n sent) (finals_other n k fs e all)

-- ---- of what goes up

-- the final answer in what goes up
abbrev final_from : OpenRequest → Upward → FinalAnswer
final_from r u = record { number = r.number; is_to_invite = is_invite r; status = u.status }

-- what goes up for a request is to its number
pub up_numbered : (r : OpenRequest) (us : List Upward) → AreTo r.number (finals_up r us)
up_numbered r us = each (filter is_final_answer us) where
  each : (vs : List Upward) → AreTo r.number (map (final_from r) vs)
  each [] = tt
  each (v ∷ vs) = (refl, each vs)

-- what holds of the final ones that go up
up_all : (P : Upward → Type 0) (Q : FinalAnswer → Type 0) (r : OpenRequest) (us : List Upward) → ((u : Upward) → P u → Q (final_from r u))
    → AllByRecursion (λ (u : Upward). is_final_answer u ≡ true → P u) us → AllByRecursion Q (finals_up r us)
up_all P Q r [] to all = tt
up_all P Q r (u ∷ us) to all = by_test (is_final_answer u) refl (up_all P Q r us to all.1) where
  by_test : (t : Bool) → is_final_answer u ≡ t → AllByRecursion Q (finals_up r us) → AllByRecursion Q
      (map (final_from r) (cond t (u ∷ filter is_final_answer us) (filter is_final_answer us)))
  by_test true is rest = (to u (all.0 is), rest)
  by_test false is rest = rest

-- how many they are
up_length : (r : OpenRequest) (us : List Upward) → length (finals_up r us) ≡ count_by is_final_answer us
up_length r [] = refl
up_length r (u ∷ us) = by_test (is_final_answer u) refl (up_length r us) where
  by_test : (t : Bool) → is_final_answer u ≡ t → length (finals_up r us) ≡ count_by is_final_answer us
      → length (map (final_from r) (cond t (u ∷ filter is_final_answer us) (filter is_final_answer us))) ≡ count_by is_final_answer (u ∷ us)
  by_test true is rest = omega (arith, count_cons is_final_answer u us, one_at (is_final_answer u) is, rest)
  by_test false is rest = omega (arith, count_cons is_final_answer u us, none_at (is_final_answer u) is, rest)

-- a list of no length is empty
none_long : (fs : List FinalAnswer) → length fs ≡ 0 → fs ≡ []
none_long [] e = refl
none_long (f ∷ fs) e = absurd (omega arith)

-- ---- a request and what it was sent

-- a request that owes an answer had none; of an INVITE whose last answer was a 2xx all were 2xx
pub record IsFit (sent : List FinalAnswer) (r : OpenRequest) : Type 0 where
  pub owes : is_answering r.side ≡ true → finals_to r.number sent ≡ []
  pub accepts : is_invite r ≡ true → has_success r.answer ≡ true → AllByRecursion IsAccepting (finals_to r.number sent)

-- a request fits what was sent to another
pub fit_beside : (k : ℕ) (fs sent : List FinalAnswer) (r : OpenRequest) → (k == r.number) ≡ false → AreTo k fs → IsFit sent r → IsFit (fs ++ sent) r
fit_beside k fs sent r e all h =
    let same = finals_beside r.number k fs sent e all in
    record { owes = λ answering. same ∙ h.owes answering; accepts = λ invite success. subst (AllByRecursion IsAccepting) (sym same) (h.accepts invite success) }

-- what a change that sends at most one final answer leaves, of a request that had none
pub record IsAnswer (finals sent : List FinalAnswer) (r : OpenRequest) : Type 0 where
  pub numbered_so : AreTo r.number finals
  pub one : AreOneAnswer (finals ++ finals_to r.number sent)
  pub fits : IsFit (finals ++ sent) r

-- at most one, and none before it
one_alone : (finals rest : List FinalAnswer) → length finals ≤ 1 → rest ≡ [] → AreOneAnswer (finals ++ rest)
one_alone finals rest few e = inl (subst (λ (fs : List FinalAnswer). length (finals ++ fs) ≤ 1) (sym e)
    (subst (λ (fs : List FinalAnswer). length fs ≤ 1) (sym (append-nil finals)) few))

-- a change that sends at most one, of a request that had none
pub once_answers : (sent : List FinalAnswer) (change : Change) → AnswersOnce change → finals_to change.request.number sent ≡ []
    → IsAnswer (change_finals change) sent change.request
once_answers sent change h none = record {
  numbered_so = own;
  one = one_alone (change_finals change) (finals_to change.request.number sent) (omega (arith, up_length change.request change.upward, h.is_one)) none;
  fits = record {
    owes = λ answering. finals_with change.request.number (change_finals change) sent own
        ∙ ap (λ (xs : List FinalAnswer). xs ++ finals_to change.request.number sent) (nothing answering) ∙ none;
    accepts = λ invite success. subst (AllByRecursion IsAccepting) (sym (finals_with change.request.number (change_finals change) sent own))
        (all_append IsAccepting (change_finals change) (finals_to change.request.number sent)
        (up_all (λ (u : Upward). has_success change.request.answer ≡ is_success u.status) IsAccepting change.request change.upward
        (λ u same. (invite, sym same ∙ success)) h.is_last)
        (subst (AllByRecursion IsAccepting) (sym none) tt));
  };
} where
  own : AreTo change.request.number (change_finals change)
  own = up_numbered change.request change.upward

  nothing : is_answering change.request.side ≡ true → change_finals change ≡ []
  nothing answering = by_count (count_by is_final_answer change.upward) refl where
    by_count : (n : ℕ) → count_by is_final_answer change.upward ≡ n → change_finals change ≡ []
    by_count zero e = none_long (change_finals change) (up_length change.request change.upward ∙ e)
    by_count (suc n) e = absurd (cc (answering, h.is_answered (omega (arith, e))))

-- further 2xx to an INVITE beside 2xx to it
further_one : (finals rest : List FinalAnswer) → AllByRecursion (λ (f : FinalAnswer). IsAccepting f × AllByRecursion IsAccepting rest) finals → AreOneAnswer rest
    → AreOneAnswer (finals ++ rest)
further_one [] rest all one = one
further_one (f ∷ fs) rest all one = inr (all_append IsAccepting (f ∷ fs) rest (each (f ∷ fs) all) all.0.1) where
  each : (gs : List FinalAnswer) → AllByRecursion (λ (g : FinalAnswer). IsAccepting g × AllByRecursion IsAccepting rest) gs → AllByRecursion IsAccepting gs
  each [] h = tt
  each (g ∷ gs) h = (h.0.0, each gs h.1)

-- what a change that sends nothing final but further 2xx leaves
pub further_answers : (sent : List FinalAnswer) (r : OpenRequest) (change : Change) → AddsSuccessesAlone r change → change.request.number ≡ r.number
    → is_invite change.request ≡ is_invite r
    → AreOneAnswer (finals_to r.number sent) → IsFit sent r → IsAnswer (change_finals change) sent change.request
further_answers sent r change h number invites one fit = record {
  numbered_so = own;
  one = further_one (change_finals change) (finals_to change.request.number sent) further (subst (λ (n : ℕ). AreOneAnswer (finals_to n sent)) (sym number) one);
  fits = record {
    owes = λ answering. absurd (cc (answering, h.stays_answered));
    accepts = λ invite success. subst (AllByRecursion IsAccepting) (sym (finals_with change.request.number (change_finals change) sent own))
        (all_append IsAccepting (change_finals change) (finals_to change.request.number sent) accepting
        (subst (λ (n : ℕ). AllByRecursion IsAccepting (finals_to n sent)) (sym number) (fit.accepts (sym invites ∙ invite) (sym h.keeps_success ∙ success))));
  };
} where
  own : AreTo change.request.number (change_finals change)
  own = up_numbered change.request change.upward

  accepting : AllByRecursion IsAccepting (change_finals change)
  accepting = up_all (λ (u : Upward). (is_success u.status ≡ true) × (is_invite r ≡ true) × (has_success r.answer ≡ true)) IsAccepting change.request change.upward
      (λ u is. (invites ∙ is.1, is.0)) h.are_further

  further : AllByRecursion (λ (f : FinalAnswer). IsAccepting f × AllByRecursion IsAccepting (finals_to change.request.number sent)) (change_finals change)
  further = up_all (λ (u : Upward). (is_success u.status ≡ true) × (is_invite r ≡ true) × (has_success r.answer ≡ true))
      (λ (f : FinalAnswer). IsAccepting f × AllByRecursion IsAccepting (finals_to change.request.number sent)) change.request change.upward
      (λ u is. ((invites ∙ is.1, is.0), subst (λ (n : ℕ). AllByRecursion IsAccepting (finals_to n sent)) (sym number) (fit.accepts is.1 is.2))) h.are_further
