-- A 200 to a REGISTER lists each live binding of its address, in their order.
use Rattle.std.proofs.Common.{◌≡◌, ℕ, ◌+◌, ◌-◌, ◌*◌, ◌/◌, ◌≤◌, ◌<◌, Bool, true, false, cond, ◌&&◌, List, [], ◌∷◌, ◌++◌, codes, decimal, map, refl, sym, ap, ◌∙◌}
use Rattle.std.proofs.Common.{arith, bytes_eq, true≢false}
use Rattle.std.proofs.lemmas.Bool.Decides.{nat_tests}
use Rattle.std.proofs.lemmas.Slice.Eq.{bytes_eq-Decides}
use Rattle.sip_uri.specs.declared.aor.Aor.{Aor}
use Rattle.sip_uri.specs.Aor.{is_same_aor}
use Rattle.sip_uri.specs.Uri.{text_of}
use Rattle.sip_message_fields.specs.declared.field.Field.{Field}
use Rattle.sip_message_fields.specs.declared.field_name.FieldName.TheVariants as Name
use Rattle.sip_location.specs.declared.binding.Binding.{Binding}
use Rattle.sip_location.specs.Binding.{is_live, is_of, live, seconds_left}
use Rattle.sip_model.specs.steps_model.Effect.{contact_field, contact_fields}
use Rattle.model_laws.specs.Lists.{IsLiveOf, SaysBinding, ListsInOrder, NoMore, Lists, LeavesOut}
use Rattle.sip_model.proofs.Listing.{no_more, enough}

-- ---- one binding

-- the test on addresses of record says that they are equal
same_aor : (left right : Aor) → is_same_aor left right ≡ true → left ≡ right
same_aor left right e =
    let user : bytes_eq left.user right.user ≡ true = grind (arith, nat_tests) in
    let host : bytes_eq left.host right.host ≡ true = grind (arith, nat_tests) in
    ap (λ (u : List ℕ). record { user = u; host = left.host }) ((bytes_eq-Decides left.user right.user).0 user)
    ∙ ap (λ (h : List ℕ). record { user = right.user; host = h }) ((bytes_eq-Decides left.host right.host).0 host)

aor_same : (left right : Aor) → left ≡ right → is_same_aor left right ≡ true
aor_same left right e =
    let user : bytes_eq left.user right.user ≡ true = (bytes_eq-Decides left.user right.user).1 (ap (λ (x : Aor). x.user) e) in
    let host : bytes_eq left.host right.host ≡ true = (bytes_eq-Decides left.host right.host).1 (ap (λ (x : Aor). x.host) e) in
    grind (arith, nat_tests)

-- whether a binding is listed
abbrev is_listed : ℕ → Aor → Binding → Bool
is_listed now aor b = is_of aor b && is_live now b

live_by : (now : ℕ) (aor : Aor) (b : Binding) → is_listed now aor b ≡ true → IsLiveOf now aor b
live_by now aor b e =
    let mine : is_same_aor b.aor aor ≡ true = grind (arith, nat_tests) in
    let later : now < b.expires_at = grind (arith, nat_tests) in
    record { is_its = same_aor b.aor aor mine; lives = later }

test_by : (now : ℕ) (aor : Aor) (b : Binding) → IsLiveOf now aor b → is_listed now aor b ≡ true
test_by now aor b h =
    let mine : is_same_aor b.aor aor ≡ true = aor_same b.aor aor h.is_its in
    let later : now < b.expires_at = h.lives in
    grind (arith, nat_tests)

says_it : (now : ℕ) (b : Binding) → now < b.expires_at → SaysBinding now b (contact_field now b)
says_it now b later = record {
  seconds = seconds_left now b;
  are_enough = enough b.expires_at now later;
  are_no_more = no_more b.expires_at now later;
  is_contact = refl;
}

-- and no other does
the_seconds : (expires now seconds : ℕ) → now < expires → expires ≤ now + 1000 * seconds → now + 1000 * seconds < expires + 1000 → seconds ≡ (expires - now + 999) / 1000
the_seconds expires now seconds later some few = omega (arith, later, some, few)

the_field : (now : ℕ) (b : Binding) (f : Field) → now < b.expires_at → SaysBinding now b f → f ≡ contact_field now b
the_field now b f later says =
    says.is_contact
    ∙ ap (λ (n : ℕ). record { name = Name.Contact; value = codes "<" ++ text_of b.uri ++ codes ">;expires=" ++ decimal n })
    (the_seconds b.expires_at now says.seconds later says.are_enough says.are_no_more)

-- ---- all of them

pub listed_in_order : (now : ℕ) (aor : Aor) (rows : List Binding) → ListsInOrder now aor rows (contact_fields now aor rows)
listed_in_order now aor [] = NoMore
listed_in_order now aor (b ∷ rows) = by_test (is_listed now aor b) refl (listed_in_order now aor rows) where
  by_test : (t : Bool) → is_listed now aor b ≡ t → ListsInOrder now aor rows (contact_fields now aor rows)
      → ListsInOrder now aor (b ∷ rows) (map (contact_field now) (cond t (b ∷ live aor now rows) (live aor now rows)))
  by_test true e rest = let h = live_by now aor b e in Lists b (contact_field now b) rows (contact_fields now aor rows) h (says_it now b h.lives) rest
  by_test false e rest = LeavesOut b rows (contact_fields now aor rows) (λ h. true≢false (sym (test_by now aor b h) ∙ e)) rest

pub listed_alone : (now : ℕ) (aor : Aor) (rows : List Binding) (fields : List Field) → ListsInOrder now aor rows fields → fields ≡ contact_fields now aor rows
listed_alone now aor rows fields NoMore = refl
listed_alone now aor rows fields (Lists b f others more h says rest) = by_test (is_listed now aor b) (test_by now aor b h) (listed_alone now aor others more rest) where
  by_test : (t : Bool) → t ≡ true → more ≡ contact_fields now aor others → f ∷ more ≡ map (contact_field now) (cond t (b ∷ live aor now others) (live aor now others))
  by_test true e later = ap (λ (g : Field). g ∷ more) (the_field now b f h.lives says) ∙ ap (λ (gs : List Field). contact_field now b ∷ gs) later
  by_test false e later = absurd (cc)
listed_alone now aor rows fields (LeavesOut b others more none rest) = by_test (is_listed now aor b) refl (listed_alone now aor others more rest) where
  by_test : (t : Bool) → is_listed now aor b ≡ t → more ≡ contact_fields now aor others
      → more ≡ map (contact_field now) (cond t (b ∷ live aor now others) (live aor now others))
  by_test true e later = absurd (none (live_by now aor b e))
  by_test false e later = later
