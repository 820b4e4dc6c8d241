-- The only CSeq of a message, by its first value and their number.
use Rattle.std.proofs.Common.{◌≡◌, ◌∙◌, ℕ, ◌<◌, ◌≤◌, true, false, cond, Bool, List, [], ◌∷◌, length, Option, Some, None, refl, ap, arith}
use Rattle.std.specs.Prelude.{map, option_map}
use Rattle.std.specs.Option.{ok_or}
use Rattle.std.specs.Result.{result_ok}
use Rattle.sip_message_fields.specs.declared.field.Field.{Field}
use Rattle.sip_message_fields.specs.declared.field_name.FieldName.{FieldName}
use Rattle.sip_message_fields.specs.declared.field_name.FieldName.TheVariants as Name
use Rattle.sip_message_fields.specs.FieldName.{is_same_name}
use Rattle.sip_message_fields.specs.Named.{first_named, all_named}
use Rattle.sip_message_fields.specs.Values.{values_of, first_value}
use Rattle.sip_header.specs.declared.cseq.CSeq.{CSeq}
use Rattle.sip_header.specs.declared.error.HeaderError.{HeaderError}
use Rattle.sip_header.specs.declared.error.HeaderError.TheVariants.{Malformed}
use Rattle.sip_header.specs.CSeq.{cseq_of}
use Rattle.sip_header.specs.CoreFields.{◌>>=◌, the_one, cseq_in}

abbrev pub first : List (List ℕ) → Option (List ℕ)
first [] = None
first (value ∷ values) = Some value

by_test : (t : Bool) (field : Field) (o : Option Field) (fields : List Field) → option_map (λ f. f.value) o ≡ first (map (λ f. f.value) fields)
    → option_map (λ f. f.value) (cond t (Some field) o) ≡ first (map (λ f. f.value) (cond t (field ∷ fields) fields))
by_test true field o fields e = refl
by_test false field o fields e = e

first_is : (name : FieldName) (fields : List Field) → first_value name fields ≡ first (values_of name fields)
first_is name [] = refl
first_is name (field ∷ fields) = by_test (is_same_name field.name name) field (first_named name fields) (all_named name fields) (first_is name fields)

-- what the values of CSeq say
abbrev pub cseq_by : List (List ℕ) → Option CSeq
cseq_by values = result_ok (the_one Name.CSeq values >>= λ value. ok_or (cseq_of value) (Malformed Name.CSeq))

none_by : (values : List (List ℕ)) → None ≡ first values → cseq_by values ≡ None
none_by [] e = refl
none_by (value ∷ values) e = absurd cc

several_by : (values : List (List ℕ)) → 1 < length values → cseq_by values ≡ None
several_by [] lt = absurd (omega arith)
several_by (value ∷ []) lt = absurd (omega arith)
several_by (value ∷ next ∷ values) lt = refl

ok_of : (o : Option CSeq) (e : HeaderError) → result_ok (ok_or o e) ≡ o
ok_of None e = refl
ok_of (Some cseq) e = refl

one_by : (value : List ℕ) (values : List (List ℕ)) → Some value ≡ first values → length values ≤ 1 → cseq_by values ≡ cseq_of value
one_by value [] e le = absurd cc
one_by value (v ∷ []) e le =
    let same : v ≡ value = cc in
    ok_of (cseq_of v) (Malformed Name.CSeq) ∙ ap cseq_of same
one_by value (v ∷ next ∷ values) e le = absurd (omega arith)

-- without a CSeq there is none
pub none_there : (fields : List Field) → None ≡ first_value Name.CSeq fields → result_ok (cseq_in fields) ≡ None
none_there fields e = none_by (values_of Name.CSeq fields) (e ∙ first_is Name.CSeq fields)

-- of several none is the only one
pub several : (fields : List Field) → 1 < length (values_of Name.CSeq fields) → result_ok (cseq_in fields) ≡ None
several fields lt = several_by (values_of Name.CSeq fields) lt

-- what the only one says
pub one : (value : List ℕ) (fields : List Field) → Some value ≡ first_value Name.CSeq fields → length (values_of Name.CSeq fields) ≤ 1
    → result_ok (cseq_in fields) ≡ cseq_of value
one value fields e le = one_by value (values_of Name.CSeq fields) (e ∙ first_is Name.CSeq fields) le
