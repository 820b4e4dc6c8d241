-- What a REGISTER keeps of the bindings.
use Rattle.std.proofs.Common.{◌≡◌, ◌≢◌, ℕ, ◌<◌, ◌≤◌, List, [], ◌∷◌, ◌++◌, length, cond, eqb, ltb, Bool, true, false, append-nil, refl, sym, ◌∙◌, ap, subst, arith, Option}
use Rattle.std.proofs.Common.{Some, None, Ok, Err}
use Rattle.std.specs.Prelude.{filter, All, ◌&&◌, not}
use Rattle.std.specs.Option.{option_map_or}
use Rattle.std.specs.List.{AllByRecursion}
use Rattle.std.specs.Str.{bytes_eq}
use Rattle.std.proofs.lemmas.Bool.Decides.{nat_tests}
use Rattle.std.proofs.lemmas.Slice.Eq.{bytes_eq-Decides}
use Rattle.std.proofs.lemmas.List.Elements.{filter-append, filter_passes, All-weaker}
use Rattle.sip_uri.specs.declared.aor.Aor.{Aor}
use Rattle.sip_uri.specs.declared.uri.Uri.{Uri}
use Rattle.sip_uri.specs.Aor.{is_same_aor}
use Rattle.sip_uri_equality.specs.Equality.{same}
use Rattle.sip_header.specs.declared.contact_item.ContactItem.{ContactItem}
use Rattle.sip_header.specs.declared.contact_item.ContactItem.TheVariants.{Star, Address}
use Rattle.sip_header.specs.NameAddr.{sip_uri}
use Rattle.sip_location.specs.declared.binding.Binding.{Binding}
use Rattle.sip_location.specs.declared.error.LocationError.TheVariants.{BadStar, TooBrief, OldCSeq, TooMany}
use Rattle.sip_location.specs.declared.registration.Registration.{Registration}
use Rattle.sip_location.specs.Binding.{is_live, is_of, live, of_others, without_contact, put}
use Rattle.sip_location.specs.Registration.{has_bad_star, is_too_brief, has_old_cseq, seconds_for, bound, after_uri, after_contact, after_contacts, edited, updated}
use Rattle.sip_location.specs.Registration.{asks_nothing, registered}
use Rattle.sip_location.proofs.Filters.{all_filtered, all_weaker, each_passes, filter-all, filter-none, filter-wider}

-- ---- addresses of record

pub same_is : (left right : Aor) → is_same_aor left right ≡ true → left ≡ right
same_is left right e =
    let user : bytes_eq left.user right.user ≡ true = grind (arith, nat_tests) in
    let host : bytes_eq left.host right.host ≡ true = grind (arith, nat_tests) in
    let first : left ≡ record { user = right.user; host = left.host } = ap (λ u. record { user = u; host = left.host }) ((bytes_eq-Decides left.user right.user).0 user)
    in
    first ∙ ap (λ h. record { user = right.user; host = h }) ((bytes_eq-Decides left.host right.host).0 host)

pub same_itself : (aor : Aor) → is_same_aor aor aor ≡ true
same_itself aor =
    let user = (bytes_eq-Decides aor.user aor.user).1 refl in
    let host = (bytes_eq-Decides aor.host aor.host).1 refl in
    rw user host

differ : (left right : Aor) → left ≢ right → is_same_aor left right ≡ false
differ left right unlike =
    elim (is_same_aor left right) as (λ b. is_same_aor left right ≡ b → b ≡ false) [
      | true ↦ (λ e. absurd (unlike (same_is left right e)))
      | false ↦ (λ e. refl)
    ] refl

-- ---- edits of live bindings

abbrev pub IsLiveOf : Aor → ℕ → Binding → Type 0
IsLiveOf aor now b = (is_of aor b && is_live now b) ≡ true

bound_lives : (r : Registration) (now : ℕ) (uri : Uri) (seconds : ℕ) → eqb seconds 0 ≡ false → IsLiveOf r.aor now (bound r now uri seconds)
bound_lives r now uri seconds some =
    let later : is_live now (bound r now uri seconds) ≡ true = grind (arith, nat_tests) in
    rw (same_itself r.aor) later

put_lives : (P : Binding → Type 0) (b : Binding) (bs : List Binding) → P b → AllByRecursion P bs → AllByRecursion P (put b bs)
put_lives P b [] new h = (new, tt)
put_lives P b (first ∷ bs) new h =
    elim (same first.uri b.uri) as (λ t. AllByRecursion P (cond t (b ∷ without_contact b.uri bs) (first ∷ put b bs))) [
      | true ↦ (new, all_filtered P (λ x. not (same x.uri b.uri)) bs h.1)
      | false ↦ (h.0, put_lives P b bs new h.1)
    ]

after_uri_lives : (r : Registration) (now seconds : ℕ) (bs : List Binding) (uri : Uri) → AllByRecursion (IsLiveOf r.aor now) bs
    → AllByRecursion (IsLiveOf r.aor now) (after_uri r now seconds bs uri)
after_uri_lives r now seconds bs uri h =
    elim (eqb seconds 0) as (λ t. eqb seconds 0 ≡ t → AllByRecursion (IsLiveOf r.aor now) (cond t (without_contact uri bs) (put (bound r now uri seconds) bs))) [
      | true ↦ (λ e. all_filtered (IsLiveOf r.aor now) (λ x. not (same x.uri uri)) bs h)
      | false ↦ (λ e. put_lives (IsLiveOf r.aor now) (bound r now uri seconds) bs (bound_lives r now uri seconds e) h)
    ] refl

after_contact_lives : (r : Registration) (now : ℕ) (contact : ContactItem) (bs : List Binding) → AllByRecursion (IsLiveOf r.aor now) bs
    → AllByRecursion (IsLiveOf r.aor now) (after_contact r now contact bs)
after_contact_lives r now Star bs h = tt
after_contact_lives r now (Address address) bs h = by_uri (seconds_for (Address address) r.expires) (sip_uri address.uri) where
  by_uri : (seconds : ℕ) (uri : Option Uri) → AllByRecursion (IsLiveOf r.aor now) (option_map_or (after_uri r now seconds bs) uri bs)
  by_uri seconds None = h
  by_uri seconds (Some uri) = after_uri_lives r now seconds bs uri h

after_contacts_lives : (r : Registration) (now : ℕ) (contacts : List ContactItem) (bs : List Binding) → AllByRecursion (IsLiveOf r.aor now) bs
    → AllByRecursion (IsLiveOf r.aor now) (after_contacts r now contacts bs)
after_contacts_lives r now [] bs h = h
after_contacts_lives r now (contact ∷ others) bs h = after_contacts_lives r now others (after_contact r now contact bs) (after_contact_lives r now contact bs h)

pub edited_lives : (rows : List Binding) (r : Registration) (now : ℕ) → AllByRecursion (IsLiveOf r.aor now) (edited rows r now)
edited_lives rows r now = after_contacts_lives r now r.contacts (live r.aor now rows) (each_passes (λ b. is_of r.aor b && is_live now b) rows)

-- ---- the whole

-- what rows are after an update
pub record IsUpdated (rows : List Binding) (r : Registration) (now : ℕ) (after : List Binding) : Type 0 where
  pub parts : of_others r.aor rows ++ edited rows r now ≡ after
  pub few : length (edited rows r now) ≤ 16

updated_is : (rows after : List Binding) (r : Registration) (now : ℕ) → updated rows r now ≡ Ok after → IsUpdated rows r now after
updated_is rows after r now e = by_tests (has_bad_star r) (is_too_brief r) (has_old_cseq r (live r.aor now rows)) (ltb 16 (length (edited rows r now))) refl e where
  by_tests : (star brief old many : Bool) → ltb 16 (length (edited rows r now)) ≡ many
      → cond star (Err BadStar) (cond brief (Err TooBrief) (cond old (Err OldCSeq) (cond many (Err TooMany) (Ok (of_others r.aor rows ++ edited rows r now))))) ≡ Ok after
      → IsUpdated rows r now after
  by_tests true brief old many is e = absurd (cc)
  by_tests false true old many is e = absurd (cc)
  by_tests false false true many is e = absurd (cc)
  by_tests false false false true is e = absurd (cc)
  by_tests false false false false is e = record { parts = cc; few = grind (arith, nat_tests) }

-- the edited list is live, and nothing else is
updated_live : (rows after : List Binding) (r : Registration) (now : ℕ) → IsUpdated rows r now after → live r.aor now after ≡ edited rows r now
updated_live rows after r now h =
    let p : Binding → Bool = λ b. is_of r.aor b && is_live now b in
    let none : filter p (of_others r.aor rows) ≡ [] = filter-none p (of_others r.aor rows)
    (all_weaker (λ b. not (is_of r.aor b) ≡ true) (λ b. p b ≡ false) (of_others r.aor rows) (λ b e. grind (arith, nat_tests))
    (each_passes (λ b. not (is_of r.aor b)) rows)) in
    let all : filter p (edited rows r now) ≡ edited rows r now = filter-all p (edited rows r now) (edited_lives rows r now) in
    rw (← h.parts) (filter-append p (of_others r.aor rows) (edited rows r now) ∙ rw none all)

-- a binding of one address of record is of no other
of_one : (other aor : Aor) (b : Binding) → other ≢ aor → is_of other b ≡ true → is_of aor b ≡ false
of_one other aor b unlike e = subst (λ (a : Aor). is_same_aor a aor ≡ false) (sym (same_is b.aor other e)) (differ other aor unlike)

-- every other address of record has what it had
updated_elsewhere : (rows after : List Binding) (r : Registration) (now moment : ℕ) (other : Aor) → IsUpdated rows r now after → other ≢ r.aor
    → live other moment after ≡ live other moment rows
updated_elsewhere rows after r now moment other h unlike =
    let p : Binding → Bool = λ b. is_of other b && is_live moment b in
    let kept : filter p (of_others r.aor rows) ≡ filter p rows = filter-wider p (λ b. not (is_of r.aor b)) rows
    (λ b e. let mine : is_of other b ≡ true = grind (arith, nat_tests) in rw (of_one other r.aor b unlike mine) refl) in
    let none : filter p (edited rows r now) ≡ [] = filter-none p (edited rows r now) (all_weaker (IsLiveOf r.aor now) (λ b. p b ≡ false) (edited rows r now)
    (λ b e. let mine : is_of r.aor b ≡ true = grind (arith, nat_tests) in rw (of_one r.aor other b (λ same. unlike (sym same)) mine) refl) (edited_lives rows r now))
    in
    rw (← h.parts) (filter-append p (of_others r.aor rows) (edited rows r now) ∙ rw (kept, none) (append-nil (filter p rows)))

-- ---- with queries

-- what holds after a query and after an update holds after each
after_either : (rows after : List Binding) (r : Registration) (now : ℕ) (P : List Binding → Type 0) → (r.contacts ≡ [] → P rows) → (IsUpdated rows r now after → P after)
    → registered rows r now ≡ Ok after → P after
after_either rows after r now P query update e = by_contacts r.contacts refl e where
  by_contacts : (contacts : List ContactItem) → r.contacts ≡ contacts → cond (asks_nothing contacts) (Ok rows) (updated rows r now) ≡ Ok after → P after
  by_contacts [] is e = let same : rows ≡ after = cc in subst P same (query is)
  by_contacts (contact ∷ others) is e = update (updated_is rows after r now e)

pub live_elsewhere : (rows after : List Binding) (r : Registration) (now moment : ℕ) (other : Aor) → registered rows r now ≡ Ok after → other ≢ r.aor
    → live other moment after ≡ live other moment rows
live_elsewhere rows after r now moment other e unlike =
    after_either rows after r now (λ v. live other moment v ≡ live other moment rows) (λ query. refl) (λ h. updated_elsewhere rows after r now moment other h unlike) e

pub live_edited : (rows after : List Binding) (r : Registration) (now : ℕ) → registered rows r now ≡ Ok after → live r.aor now after ≡ edited rows r now
live_edited rows after r now e =
    after_either rows after r now (λ v. live r.aor now v ≡ edited rows r now) (λ query. rw query refl) (λ h. updated_live rows after r now h) e

pub few_live : (rows after : List Binding) (r : Registration) (now : ℕ) → registered rows r now ≡ Ok after → length (live r.aor now rows) ≤ 16
    → length (live r.aor now after) ≤ 16
few_live rows after r now e few =
    after_either rows after r now (λ v. length (live r.aor now v) ≤ 16) (λ query. few) (λ h. rw (updated_live rows after r now h) h.few) e

-- a filtered list is no longer
filter-shorter : {X : Type 0} (p : X → Bool) (xs : List X) → length (filter p xs) ≤ length xs
filter-shorter p [] = omega arith
filter-shorter p (x ∷ xs) = by_test (p x) (filter-shorter p xs) where
  by_test : (t : Bool) → length (filter p xs) ≤ length xs → length (cond t (x ∷ filter p xs) (filter p xs)) ≤ length (x ∷ xs)
  by_test true h = omega (arith, h)
  by_test false h = omega (arith, h)

-- after an update the address of record has at most 16 at any moment
updated_few : (rows after : List Binding) (r : Registration) (now moment : ℕ) → IsUpdated rows r now after → length (live r.aor moment after) ≤ 16
updated_few rows after r now moment h =
    let p : Binding → Bool = λ b. is_of r.aor b && is_live moment b in
    let none : filter p (of_others r.aor rows) ≡ [] = filter-none p (of_others r.aor rows)
    (all_weaker (λ b. not (is_of r.aor b) ≡ true) (λ b. p b ≡ false) (of_others r.aor rows) (λ b e. grind (arith, nat_tests))
    (each_passes (λ b. not (is_of r.aor b)) rows)) in
    let shorter = filter-shorter p (edited rows r now) in
    rw (← h.parts) (rw (filter-append p (of_others r.aor rows) (edited rows r now), none) (omega (arith, shorter, h.few)))

-- where no address of record has more than 16, none has after a REGISTER
pub few_ever : (rows after : List Binding) (r : Registration) (now moment : ℕ) → registered rows r now ≡ Ok after → ((aor : Aor) → length (live aor moment rows) ≤ 16)
    → (aor : Aor) → length (live aor moment after) ≤ 16
few_ever rows after r now moment e few aor =
    after_either rows after r now (λ v. length (live aor moment v) ≤ 16) (λ query. few aor) (λ h. by_test h (is_same_aor aor r.aor) refl) e where
      unlike : is_same_aor aor r.aor ≡ false → aor ≡ r.aor → ⊥
      unlike other same = let one : is_same_aor aor r.aor ≡ true = subst (λ (other : Aor). is_same_aor aor other ≡ true) same (same_itself aor) in absurd (cc)

      by_test : IsUpdated rows r now after → (t : Bool) → is_same_aor aor r.aor ≡ t → length (live aor moment after) ≤ 16
      by_test h true same = subst (λ (a : Aor). length (live a moment after) ≤ 16) (sym (same_is aor r.aor same)) (updated_few rows after r now moment h)
      by_test h false other = subst (λ (lives : List Binding). length lives ≤ 16) (sym (updated_elsewhere rows after r now moment aor h (unlike other))) (few aor)

pub none_expired : (aor : Aor) (now : ℕ) (rows : List Binding) → All (λ b. now < b.expires_at) (live aor now rows)
none_expired aor now rows =
    let p : Binding → Bool = λ b. is_of aor b && is_live now b in
    All-weaker (λ b. p b ≡ true) (λ b. now < b.expires_at) (λ b e. grind (arith, nat_tests)) (live aor now rows) (filter_passes p rows)
