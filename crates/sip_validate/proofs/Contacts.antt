-- The Contacts of a request, each looked at once.
use Rattle.std.proofs.Common.{◌≡◌, ℕ, Bool, true, false, ◌&&◌, not, is_some, List, [], ◌∷◌, refl, sym, ap, ◌∙◌}
use Rattle.std.specs.List.{list_all}
use Rattle.sip_message_fields.specs.declared.field_name.FieldName.TheVariants as Name
use Rattle.sip_message_fields.specs.Values.{values_of}
use Rattle.sip_header.specs.ContactItem.{contact_of}
use Rattle.sip_validate.specs.UncheckedRequest.{UncheckedRequest, is_register}
use Rattle.sip_validate.specs.Faults.{is_bindable, binds_other_contact}

-- two tests of one value, and both of all
regrouped : (a b A B : Bool) → ((a && b) && (A && B)) ≡ ((a && A) && (b && B))
regrouped false b A B = refl
regrouped true true A B = refl
regrouped true false true B = refl
regrouped true false false B = refl

-- both tests of all are each of all
both_of_all : {X : Type 0} (p q : X → Bool) (xs : List X) → list_all (λ x. p x && q x) xs ≡ (list_all p xs && list_all q xs)
both_of_all p q [] = refl
both_of_all p q (x ∷ xs) = ap (λ t. (p x && q x) && t) (both_of_all p q xs) ∙ regrouped (p x) (q x) (list_all p xs) (list_all q xs)

-- what isn't otherwise is so
twice : (t : Bool) → not (not t) ≡ t
twice true = refl
twice false = refl

by_register : (register bindable readable : Bool) → register ≡ true → (readable && bindable) ≡ (readable && not (register && not bindable))
by_register true bindable readable h = ap (λ t. readable && t) (sym (twice bindable))
by_register false bindable readable h = absurd cc

by_other : (register bindable readable : Bool) → register ≡ false → readable ≡ (readable && not (register && not bindable))
by_other false bindable true h = refl
by_other false bindable false h = refl
by_other true bindable readable h = absurd cc

-- those of a REGISTER
pub of_register : (r : UncheckedRequest) → is_register r ≡ true
    → list_all (λ value. is_some (contact_of value) && is_bindable (contact_of value)) (values_of Name.Contact r.fields)
    ≡ (list_all (λ value. is_some (contact_of value)) (values_of Name.Contact r.fields) && not (binds_other_contact r))
of_register r h =
    both_of_all (λ (value : List ℕ). is_some (contact_of value)) (λ (value : List ℕ). is_bindable (contact_of value)) (values_of Name.Contact r.fields)
    ∙ by_register (is_register r) (list_all (λ value. is_bindable (contact_of value)) (values_of Name.Contact r.fields))
    (list_all (λ value. is_some (contact_of value)) (values_of Name.Contact r.fields)) h

-- those of another request
pub of_other : (r : UncheckedRequest) → is_register r ≡ false
    → list_all (λ value. is_some (contact_of value)) (values_of Name.Contact r.fields)
    ≡ (list_all (λ value. is_some (contact_of value)) (values_of Name.Contact r.fields) && not (binds_other_contact r))
of_other r h =
    by_other (is_register r) (list_all (λ value. is_bindable (contact_of value)) (values_of Name.Contact r.fields))
    (list_all (λ value. is_some (contact_of value)) (values_of Name.Contact r.fields)) h
