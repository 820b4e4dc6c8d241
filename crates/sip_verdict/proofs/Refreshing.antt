-- The only Contact of a REGISTER.
use Rattle.std.proofs.Common.{◌≡◌, ℕ, Bool, true, false, cond, List, [], ◌∷◌, length, map, Option, Some, None, refl, ap, sym, ◌∙◌, arith}
use Rattle.std.specs.Prelude.{option_map}
use Rattle.sip_message_fields.specs.declared.field.Field.{Field}
use Rattle.sip_message_fields.specs.declared.field_name.FieldName.{FieldName}
use Rattle.sip_message_fields.specs.declared.field_name.FieldName.TheVariants as Name
use Rattle.sip_message_fields.specs.FieldName.{is_same_name}
use Rattle.sip_message_fields.specs.Named.{first_named, all_named}
use Rattle.sip_message_fields.specs.Values.{values_of, first_value}

abbrev first : List (List ℕ) → Option (List ℕ)
first [] = None
first (value ∷ values) = Some value

by_test : (t : Bool) (field : Field) (o : Option Field) (fields : List Field) → option_map (λ f. f.value) o ≡ first (map (λ f. f.value) fields)
    → option_map (λ f. f.value) (cond t (Some field) o) ≡ first (map (λ f. f.value) (cond t (field ∷ fields) fields))
by_test true field o fields e = refl
by_test false field o fields e = e

first_is : (name : FieldName) (fields : List Field) → first_value name fields ≡ first (values_of name fields)
first_is name [] = refl
first_is name (field ∷ fields) = by_test (is_same_name field.name name) field (first_named name fields) (all_named name fields) (first_is name fields)

alone : (value : List ℕ) (values : List (List ℕ)) → Some value ≡ first values → length values ≡ 1 → value ∷ [] ≡ values
alone value [] is one = absurd cc
alone value (v ∷ []) is one = let same : value ≡ v = cc in ap (λ (w : List ℕ). w ∷ []) same
alone value (v ∷ w ∷ ws) is one = absurd (omega (arith, one))

-- the first value of a name that stands once
pub only_value : (value : List ℕ) (count : ℕ) (fields : List Field) → Some value ≡ first_value Name.Contact fields → count ≡ length (values_of Name.Contact fields)
    → count ≡ 1 → value ∷ [] ≡ values_of Name.Contact fields
only_value value count fields is counted one = alone value (values_of Name.Contact fields) (is ∙ first_is Name.Contact fields) (sym counted ∙ one)
