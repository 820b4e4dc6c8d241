-- A REGISTER is older than a binding, asked contact by contact or binding by binding.
use Rattle.std.proofs.Common.{◌≡◌, ℕ, Bool, true, false, List, [], ◌∷◌, refl, sym, ◌∙◌, ap}
use Rattle.std.specs.Prelude.{◌&&◌, ◌||◌, nat_le}
use Rattle.std.specs.List.{list_any}
use Rattle.std.specs.Str.{bytes_eq}
use Rattle.sip_header.specs.declared.name_addr.NameAddr.{NameAddr}
use Rattle.sip_header.specs.declared.name_addr.AnyUri.TheVariants.{Other}
use Rattle.sip_header.specs.declared.contact_item.ContactItem.{ContactItem}
use Rattle.sip_header.specs.declared.contact_item.ContactItem.TheVariants.{Address}
use Rattle.sip_location.specs.declared.binding.Binding.{Binding}
use Rattle.sip_location.specs.declared.registration.Registration.{Registration}
use Rattle.sip_location.specs.Newer.{is_of_call}
use Rattle.sip_location.specs.Registration.{speaks_of, is_newer, has_old_cseq}

any_same : {X : Type 0} (p q : X → Bool) → ((x : X) → p x ≡ q x) → (xs : List X) → list_any p xs ≡ list_any q xs
any_same p q same [] = refl
any_same p q same (x ∷ xs) = rw (same x, any_same p q same xs) refl

none : {X : Type 0} (xs : List X) → list_any (λ (x : X). false) xs ≡ false
none [] = refl
none (x ∷ xs) = none xs

-- of either of two tests
either_any : {X : Type 0} (p q : X → Bool) (xs : List X) → list_any (λ x. p x || q x) xs ≡ (list_any p xs || list_any q xs)
either_any p q [] = refl
either_any p q (x ∷ xs) = rw (either_any p q xs) (four (p x) (q x) (list_any p xs) (list_any q xs)) where
  four : (a b c d : Bool) → ((a || b) || (c || d)) ≡ ((a || c) || (b || d))
  four true b c d = refl
  four false true true d = refl
  four false true false d = refl
  four false false c d = refl

-- two lists are asked in either order
swapped : {X Y : Type 0} (p : X → Y → Bool) (xs : List X) (ys : List Y) → list_any (λ x. list_any (p x) ys) xs ≡ list_any (λ y. list_any (λ x. p x y) xs) ys
swapped p [] ys = sym (none ys)
swapped p (x ∷ xs) ys = ap (λ (t : Bool). list_any (p x) ys || t) (swapped p xs ys) ∙ sym (either_any (p x) (λ y. list_any (λ x. p x y) xs) ys)

-- a test that doesn't ask of the list
within : {Y : Type 0} (a : Bool) (q : Y → Bool) (ys : List Y) → list_any (λ y. a && q y) ys ≡ (a && list_any q ys)
within true q ys = refl
within false q ys = none ys

-- binding by binding, as it is defined
newer_is : (r : Registration) (b : Binding) → is_newer r b ≡ list_any (λ c. is_of_call r b && speaks_of b c) r.contacts
newer_is r b = both (bytes_eq b.call_id r.call_id) (nat_le r.cseq b.cseq) (list_any (speaks_of b) r.contacts)
    ∙ sym (within (is_of_call r b) (speaks_of b) r.contacts) where
      both : (x y z : Bool) → (x && y && z) ≡ ((x && y) && z)
      both true y z = refl
      both false y z = refl

pub by_contacts : (r : Registration) (bindings : List Binding) → list_any (λ c. list_any (λ b. is_of_call r b && speaks_of b c) bindings) r.contacts
    ≡ has_old_cseq r bindings
by_contacts r bindings =
    sym (any_same (is_newer r) (λ b. list_any (λ c. is_of_call r b && speaks_of b c) r.contacts) (newer_is r) bindings
    ∙ swapped (λ (b : Binding) (c : ContactItem). is_of_call r b && speaks_of b c) bindings r.contacts)

-- where none is of the call, none is newer
pub none_of_call : (r : Registration) (bindings : List Binding) → list_any (is_of_call r) bindings ≡ false → false ≡ has_old_cseq r bindings
none_of_call r [] e = refl
none_of_call r (b ∷ bs) e = by_test (is_of_call r b) refl e (none_of_call r bs) where
  by_test : (t : Bool) → is_of_call r b ≡ t → (t || list_any (is_of_call r) bs) ≡ false → (list_any (is_of_call r) bs ≡ false → false ≡ has_old_cseq r bs)
      → false ≡ has_old_cseq r (b ∷ bs)
  by_test true is e rest = absurd cc
  by_test false is e rest = rw (newer_is r b, is, within false (speaks_of b) r.contacts) (rest e)

-- a contact of another scheme speaks of none
pub other_speaks_of_none : (r : Registration) (bindings : List Binding) (contact : ContactItem) (address : NameAddr) (text : List ℕ) → contact ≡ Address address
    → address.uri ≡ Other text
    → false ≡ list_any (λ b. is_of_call r b && speaks_of b contact) bindings
other_speaks_of_none r bindings contact address text is other = sym (any_same (λ b. is_of_call r b && speaks_of b contact) (λ b. false)
    (λ b. rw (is, other) (never (is_of_call r b))) bindings ∙ none bindings) where
      never : (t : Bool) → (t && false) ≡ false
      never true = refl
      never false = refl
