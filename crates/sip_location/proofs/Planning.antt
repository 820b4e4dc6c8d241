-- What is planned for the rows of one address of record, among those of all.
use Rattle.std.proofs.Common.{◌≡◌, ℕ, List, [], ◌∷◌, ◌++◌, length, cond, ltb, Bool, true, false, refl, sym, ◌∙◌, ap, subst, Ok, Err, inl, inr}
use Rattle.std.specs.Prelude.{filter, ◌&&◌, Result, IsOk}
use Rattle.std.specs.List.{AllByRecursion}
use Rattle.sip_uri.specs.declared.aor.Aor.{Aor}
use Rattle.sip_uri.specs.Aor.{is_same_aor}
use Rattle.sip_location.specs.declared.binding.Binding.{Binding}
use Rattle.sip_location.specs.declared.error.LocationError.{LocationError}
use Rattle.sip_location.specs.declared.error.LocationError.TheVariants.{BadStar, TooBrief, OldCSeq, TooMany}
use Rattle.sip_location.specs.declared.registration.Registration.{Registration}
use Rattle.sip_location.specs.Binding.{is_of, is_live, live, of_others}
use Rattle.sip_location.specs.Registration.{has_bad_star, is_too_brief, has_old_cseq, after_contacts, edited, asks_nothing, registered}
use Rattle.sip_location.specs.Sameness.{SameOutcome}
use Rattle.sip_location.specs.Locations.{of_aor, Planned, IsPlan, IsRefusal}
use Rattle.sip_location.proofs.Filters.{all_weaker, filter-all, filter-wider}
use Rattle.sip_location.proofs.Updates.{IsLiveOf, edited_lives}
use Rattle.sip_location.proofs.Sameness.{same_as_registered}

-- the live bindings of an address are the live ones of its own
pub live_of_own : (aor : Aor) (now : ℕ) (rows : List Binding) → live aor now rows ≡ filter (is_live now) (of_aor aor rows)
live_of_own aor now [] = refl
live_of_own aor now (b ∷ bs) = by_test (is_of aor b) (is_live now b) refl (live_of_own aor now bs) where
  by_test : (mine lives : Bool) → is_live now b ≡ lives → live aor now bs ≡ filter (is_live now) (of_aor aor bs)
      → cond (mine && lives) (b ∷ live aor now bs) (live aor now bs) ≡ filter (is_live now) (cond mine (b ∷ of_aor aor bs) (of_aor aor bs))
  by_test true true is e = rw is (ap (λ rest. b ∷ rest) e)
  by_test true false is e = rw is e
  by_test false lives is e = e

-- and those of its own rows alone
pub live_in_own : (aor : Aor) (now : ℕ) (rows : List Binding) → live aor now (of_aor aor rows) ≡ live aor now rows
live_in_own aor now rows = filter-wider (λ b. is_of aor b && is_live now b) (is_of aor) rows (λ b e. both (is_of aor b) (is_live now b) e) where
  both : (mine lives : Bool) → (mine && lives) ≡ true → mine ≡ true
  both true lives e = refl
  both false lives e = e

-- the outcome of a REGISTER by its tests
abbrev pub outcome : Bool → Bool → Bool → Bool → Bool → List Binding → List Binding → Result (List Binding) LocationError
outcome none star brief old many rows after = cond none (Ok rows) (cond star (Err BadStar)
    (cond brief (Err TooBrief) (cond old (Err OldCSeq) (cond many (Err TooMany) (Ok after)))))

still_ok : (none star brief old many : Bool) (rows after others then : List Binding) → IsOk (outcome none star brief old many rows after)
    → IsOk (outcome none star brief old many others then)
still_ok true star brief old many rows after others then h = h
still_ok false true brief old many rows after others then h = h
still_ok false false true old many rows after others then h = h
still_ok false false false true many rows after others then h = h
still_ok false false false false true rows after others then h = h
still_ok false false false false false rows after others then h = h

still_refused : (none star brief old many : Bool) (rows after others then : List Binding) (e : LocationError) → outcome none star brief old many rows after ≡ Err e
    → outcome none star brief old many others then ≡ Err e
still_refused true star brief old many rows after others then e h = absurd (cc)
still_refused false true brief old many rows after others then e h = h
still_refused false false true old many rows after others then e h = h
still_refused false false false true many rows after others then e h = h
still_refused false false false false true rows after others then e h = h
still_refused false false false false false rows after others then e h = absurd (cc)

abbrev over : Registration → ℕ → List Binding → List Binding → List Binding → Result (List Binding) LocationError
over r now rows others lives =
    outcome (asks_nothing r.contacts) (has_bad_star r) (is_too_brief r) (has_old_cseq r lives) (ltb 16 (length (after_contacts r now r.contacts lives))) rows
    (others ++ after_contacts r now r.contacts lives)

pub edited_of_own : (rows : List Binding) (r : Registration) (now : ℕ) → edited (of_aor r.aor rows) r now ≡ edited rows r now
edited_of_own rows r now = ap (after_contacts r now r.contacts) (live_in_own r.aor now rows)

pub ok_of_own : (rows : List Binding) (r : Registration) (now : ℕ) → IsOk (registered (of_aor r.aor rows) r now) → IsOk (registered rows r now)
ok_of_own rows r now h =
    let own = of_aor r.aor rows in
    let lives = live r.aor now rows in
    still_ok (asks_nothing r.contacts) (has_bad_star r) (is_too_brief r) (has_old_cseq r lives) (ltb 16 (length (after_contacts r now r.contacts lives))) own
    (of_others r.aor own ++ after_contacts r now r.contacts lives) rows (of_others r.aor rows ++ after_contacts r now r.contacts lives)
    (subst (λ (x : List Binding). IsOk (over r now own (of_others r.aor own) x)) (live_in_own r.aor now rows) h)

pub refused_of_own : (rows : List Binding) (r : Registration) (now : ℕ) (e : LocationError) → registered (of_aor r.aor rows) r now ≡ Err e → registered rows r now ≡ Err e
refused_of_own rows r now e h =
    let own = of_aor r.aor rows in
    let lives = live r.aor now rows in
    still_refused (asks_nothing r.contacts) (has_bad_star r) (is_too_brief r) (has_old_cseq r lives) (ltb 16 (length (after_contacts r now r.contacts lives))) own
    (of_others r.aor own ++ after_contacts r now r.contacts lives) rows (of_others r.aor rows ++ after_contacts r now r.contacts lives) e
    (subst (λ (x : List Binding). over r now own (of_others r.aor own) x ≡ Err e) (live_in_own r.aor now rows) h)

pub refusal_of_own : (rows : List Binding) (r : Registration) (now : ℕ) (e : LocationError) → IsRefusal (of_aor r.aor rows) r now e → IsRefusal rows r now e
refusal_of_own rows r now e h = elim h [ inl memory ↦ inl memory | inr refused ↦ inr (refused_of_own rows r now e refused) ]

-- the edited bindings are of the address of record
pub edited_are_own : (rows : List Binding) (r : Registration) (now : ℕ) → AllByRecursion (λ b. is_of r.aor b ≡ true) (edited rows r now)
edited_are_own rows r now = all_weaker (IsLiveOf r.aor now) (λ b. is_of r.aor b ≡ true) (edited rows r now) (λ b e. both (is_of r.aor b) (is_live now b) e)
    (edited_lives rows r now) where
      both : (mine lives : Bool) → (mine && lives) ≡ true → mine ≡ true
      both true lives e = refl
      both false lives e = e

-- rows in which a plan was carried out say the same as those after its REGISTER
pub carried_out : (rows new : List Binding) (plan : Planned) (r : Registration) (now : ℕ) → of_aor plan.aor new ≡ plan.bindings
    → ((other : Aor) → is_same_aor other plan.aor ≡ false → of_aor other new ≡ of_aor other rows) → IsPlan rows r now plan
    → SameOutcome now (Ok new) (registered rows r now)
carried_out rows new plan r now own others is = by_outcome (registered rows r now) refl is.0 where
  own_at : of_aor r.aor new ≡ edited rows r now
  own_at = subst (λ (x : Aor). of_aor x new ≡ plan.bindings) is.1 own ∙ is.2

  others_at : (other : Aor) → is_same_aor other r.aor ≡ false → live other now new ≡ live other now rows
  others_at other unlike = live_of_own other now new ∙ ap (filter (is_live now)) (others other (subst (λ (x : Aor). is_same_aor other x ≡ false) (sym is.1) unlike))
      ∙ sym (live_of_own other now rows)

  both : (mine lives : Bool) → (mine && lives) ≡ true → lives ≡ true
  both true lives e = e
  both false lives e = absurd (cc)

  all_live : filter (is_live now) (edited rows r now) ≡ edited rows r now
  all_live = filter-all (is_live now) (edited rows r now) (all_weaker (IsLiveOf r.aor now) (λ b. is_live now b ≡ true) (edited rows r now)
      (λ b e. both (is_of r.aor b) (is_live now b) e) (edited_lives rows r now))

  mine_at : live r.aor now new ≡ edited rows r now
  mine_at = live_of_own r.aor now new ∙ ap (filter (is_live now)) own_at ∙ all_live

  by_outcome : (outcome : Result (List Binding) LocationError) → registered rows r now ≡ outcome → IsOk outcome → SameOutcome now (Ok new) outcome
  by_outcome (Ok after) e ok = same_as_registered rows new after r now e others_at mine_at
  by_outcome (Err x) e ok = absurd (cc)
