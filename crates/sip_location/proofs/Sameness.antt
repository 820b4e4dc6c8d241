-- A REGISTER makes rows that say the same out of rows that do (RFC 3261 10.3).
use Rattle.std.proofs.Common.{◌≡◌, ℕ, ◌≤◌, List, [], ◌∷◌, ◌++◌, length, cond, ltb, Bool, true, false, refl, sym, ◌∙◌, ap, subst, arith, Ok, Err}
use Rattle.std.specs.Prelude.{filter, not, ◌&&◌, Result}
use Rattle.std.proofs.lemmas.Bool.Decides.{nat_tests}
use Rattle.std.proofs.lemmas.List.Elements.{filter-append}
use Rattle.sip_uri.specs.declared.aor.Aor.{Aor}
use Rattle.sip_location.specs.declared.binding.Binding.{Binding}
use Rattle.sip_location.specs.declared.error.LocationError.{LocationError}
use Rattle.sip_location.specs.declared.error.LocationError.TheVariants.{BadStar, TooBrief, OldCSeq, TooMany}
use Rattle.sip_location.specs.declared.registration.Registration.{Registration}
use Rattle.sip_location.specs.Binding.{is_live, is_of, live, of_others}
use Rattle.sip_location.specs.Sameness.{SameBindings, SameOutcome}
use Rattle.sip_location.specs.Registration.{has_bad_star, is_too_brief, has_old_cseq, after_contacts, edited, updated, asks_nothing, registered}
use Rattle.sip_uri.specs.Aor.{is_same_aor}
use Rattle.sip_location.proofs.Updates.{same_is, same_itself, live_edited, live_elsewhere}

-- rows that say the same from a moment on do so from a later one on
pub same_later : (from later : ℕ) (left right : List Binding) → from ≤ later → SameBindings from left right → SameBindings later left right
same_later from later left right le h = λ aor moment after. h aor moment (omega (arith, le, after))

-- each says what it says
pub same_self : (from : ℕ) (left right : List Binding) → left ≡ right → SameBindings from left right
same_self from left right e = λ aor moment after. ap (live aor moment) e

pub same_joined : (from : ℕ) (left middle right : List Binding) → SameBindings from left middle → SameBindings from middle right → SameBindings from left right
same_joined from left middle right h k = λ aor moment after. h aor moment after ∙ k aor moment after

pub same_turned : (from : ℕ) (left right : List Binding) → SameBindings from left right → SameBindings from right left
same_turned from left right h = λ aor moment after. sym (h aor moment after)

-- of two tests either may be made first
filter-swap : {X : Type 0} (p q : X → Bool) (xs : List X) → filter p (filter q xs) ≡ filter q (filter p xs)
filter-swap p q [] = refl
filter-swap p q (x ∷ xs) = by_tests (p x) (q x) refl refl (filter-swap p q xs) where
  by_tests : (one other : Bool) → p x ≡ one → q x ≡ other → filter p (filter q xs) ≡ filter q (filter p xs)
      → filter p (cond other (x ∷ filter q xs) (filter q xs)) ≡ filter q (cond one (x ∷ filter p xs) (filter p xs))
  by_tests true true is so e = rw (is, so) (ap (λ ys. x ∷ ys) e)
  by_tests true false is so e = rw so e
  by_tests false true is so e = rw is e
  by_tests false false is so e = e

-- what lives of an address of record among some rows behind those of others: the test of the others may be made last
live_behind : (aor mine : Aor) (moment : ℕ) (rows edited : List Binding) → live aor moment (of_others mine rows ++ edited) ≡ of_others mine (live aor moment rows)
    ++ live aor moment edited
live_behind aor mine moment rows edited =
    let p : Binding → Bool = λ b. is_of aor b && is_live moment b in
    filter-append p (of_others mine rows) edited ∙ ap (λ others. others ++ filter p edited) (filter-swap p (λ b. not (is_of mine b)) rows)

-- the same rows of one address behind the others of rows that say the same
behind_same : (mine : Aor) (now : ℕ) (left right edited : List Binding) → SameBindings now left right
    → SameBindings now (of_others mine left ++ edited) (of_others mine right ++ edited)
behind_same mine now left right edited h = λ aor moment after.
    live_behind aor mine moment left edited ∙ ap (λ lives. of_others mine lives ++ live aor moment edited) (h aor moment after)
    ∙ sym (live_behind aor mine moment right edited)

-- an update of an address of record whose live bindings are these, beside others
abbrev over : Registration → ℕ → List Binding → List Binding → Result (List Binding) LocationError
over r now others lives =
    cond (has_bad_star r) (Err BadStar)
    (cond (is_too_brief r) (Err TooBrief)
    (cond (has_old_cseq r lives) (Err OldCSeq)
    (cond (ltb 16 (length (after_contacts r now r.contacts lives))) (Err TooMany) (Ok (others ++ after_contacts r now r.contacts lives)))))

updated_same : (left right : List Binding) (r : Registration) (now : ℕ) → SameBindings now left right → SameOutcome now (updated left r now) (updated right r now)
updated_same left right r now h =
    subst (λ (lives : List Binding). SameOutcome now (over r now (of_others r.aor left) lives) (over r now (of_others r.aor right) (live r.aor now right)))
    (sym (h r.aor now (omega arith)))
    (by_tests (has_bad_star r) (is_too_brief r) (has_old_cseq r (live r.aor now right)) (ltb 16 (length edited))) where
      edited : List Binding
      edited = after_contacts r now r.contacts (live r.aor now right)

      by_tests : (star brief old many : Bool)
          → SameOutcome now (cond star (Err BadStar) (cond brief (Err TooBrief) (cond old (Err OldCSeq) (cond many (Err TooMany) (Ok (of_others r.aor left ++ edited))))))
          (cond star (Err BadStar) (cond brief (Err TooBrief) (cond old (Err OldCSeq) (cond many (Err TooMany) (Ok (of_others r.aor right ++ edited))))))
      by_tests true brief old many = refl
      by_tests false true old many = refl
      by_tests false false true many = refl
      by_tests false false false true = refl
      by_tests false false false false = behind_same r.aor now left right edited h

-- A REGISTER gives rows that say the same from its moment on the same outcome
pub registered_same : (left right : List Binding) (r : Registration) (now : ℕ) → SameBindings now left right
    → SameOutcome now (registered left r now) (registered right r now)
registered_same left right r now h = by_contacts (asks_nothing r.contacts) where
  by_contacts : (none : Bool) → SameOutcome now (cond none (Ok left) (updated left r now)) (cond none (Ok right) (updated right r now))
  by_contacts true = h
  by_contacts false = updated_same left right r now h

-- ---- for a body that keeps its rows by address

-- what lives later is what lives now and still lives then
live_later : (aor : Aor) (now later : ℕ) (rows : List Binding) → now ≤ later → live aor later rows ≡ filter (is_live later) (live aor now rows)
live_later aor now later [] le = refl
live_later aor now later (b ∷ bs) le =
    by_tests (is_of aor b) (is_live now b) (is_live later b) refl (lives_before now later b le) (live_later aor now later bs le) where
      lives_before : (now later : ℕ) (b : Binding) → now ≤ later → is_live later b ≡ true → is_live now b ≡ true
      lives_before now later b le e = grind (arith, nat_tests)

      by_tests : (mine at_now at_later : Bool) → is_live later b ≡ at_later → (at_later ≡ true → at_now ≡ true)
          → live aor later bs ≡ filter (is_live later) (live aor now bs)
          → cond (mine && at_later) (b ∷ live aor later bs) (live aor later bs) ≡ filter (is_live later) (cond (mine && at_now) (b ∷ live aor now bs) (live aor now bs))
      by_tests true true true is h e = rw is (ap (λ rest. b ∷ rest) e)
      by_tests true true false is h e = rw is e
      by_tests true false true is h e = let bad = h refl in absurd (cc)
      by_tests true false false is h e = e
      by_tests false at_now at_later is h e = e

-- Rows say the same from a moment on where they do at that moment
pub same_at_once : (now : ℕ) (left right : List Binding) → ((aor : Aor) → live aor now left ≡ live aor now right) → SameBindings now left right
same_at_once now left right h = λ aor later after. live_later aor now later left after ∙ ap (filter (is_live later)) (h aor) ∙ sym (live_later aor now later right after)

-- Rows say the same as those after a REGISTER where its address of record has the edited list, and every other what it had
pub same_as_registered : (rows new after : List Binding) (r : Registration) (now : ℕ) → registered rows r now ≡ Ok after
    → ((other : Aor) → is_same_aor other r.aor ≡ false → live other now new ≡ live other now rows) → live r.aor now new ≡ edited rows r now → SameBindings now new after
same_as_registered rows new after r now e others mine = same_at_once now new after (λ aor. by_test aor (is_same_aor aor r.aor) refl) where
  by_test : (aor : Aor) (t : Bool) → is_same_aor aor r.aor ≡ t → live aor now new ≡ live aor now after
  by_test aor true is = subst (λ (x : Aor). live x now new ≡ live x now after) (sym (same_is aor r.aor is)) (mine ∙ sym (live_edited rows after r now e))
  by_test aor false is = others aor is ∙ sym (live_elsewhere rows after r now now aor e
      (λ same. not_itself (subst (λ (x : Aor). is_same_aor x r.aor ≡ false) same is))) where
        not_itself : is_same_aor r.aor r.aor ≡ false → ⊥
        not_itself f = let t : is_same_aor r.aor r.aor ≡ true = same_itself r.aor in absurd (cc)
