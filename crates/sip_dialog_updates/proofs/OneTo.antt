-- The one To of some fields, by a list of them.
use Rattle.std.proofs.Common.{◌≡◌, ℕ, ◌<◌, ◌≤◌, List, [], ◌∷◌, length, Option, Some, None, Ok, Err, Result, refl, ap, sym, ◌∙◌, arith}
use Rattle.std.specs.Prelude.{count_by}
use Rattle.std.specs.Option.{ok_or}
use Rattle.std.specs.Result.{result_ok}
use Rattle.sip_message_fields.proofs.Counting.{count_values}
use Rattle.sip_message_fields.specs.FieldName.{is_same_name}
use Rattle.sip_message_fields.specs.declared.field_name.FieldName.{FieldName}
use Rattle.sip_message_fields.specs.declared.field.Field.{Field}
use Rattle.sip_message_fields.specs.Values.{values_of, first_value}
use Rattle.sip_header.specs.declared.error.HeaderError.{HeaderError}
use Rattle.sip_header.specs.declared.error.HeaderError.TheVariants.{Missing, Malformed}
use Rattle.sip_header.specs.declared.name_addr.NameAddr.{NameAddr}
use Rattle.sip_header.specs.NameAddr.{name_addr_of}
use Rattle.sip_header.specs.CoreFields.{◌>>=◌, the_one, only_value, name_addr_in}
use Rattle.sip_header.proofs.OneValue.{first, first_is}

none_by : (name : FieldName) (values : List (List ℕ)) → None ≡ first values → the_one name values ≡ Err (Missing name)
none_by name [] e = refl
none_by name (value ∷ values) e = absurd cc

several_by : (name : FieldName) (values : List (List ℕ)) → 1 < length values → the_one name values ≡ Err (Malformed name)
several_by name [] lt = absurd (omega arith)
several_by name (value ∷ []) lt = absurd (omega arith)
several_by name (value ∷ next ∷ values) lt = refl

one_by : (name : FieldName) (value : List ℕ) (values : List (List ℕ)) → Some value ≡ first values → length values ≤ 1 → the_one name values ≡ Ok value
one_by name value [] e le = absurd cc
one_by name value (v ∷ []) e le =
    let same : v ≡ value = cc in
    rw same refl
one_by name value (v ∷ next ∷ values) e le = absurd (omega arith)

-- the address of what the one value of a field is
addr_is : (name : FieldName) (fields : List Field) (said : Result (List ℕ) HeaderError) → only_value name fields ≡ said
    → name_addr_in name fields ≡ (said >>= λ value. ok_or (name_addr_of value) (Malformed name))
addr_is name fields said is = ap (λ (r : Result (List ℕ) HeaderError). r >>= λ value. ok_or (name_addr_of value) (Malformed name)) is

addr_missing : (name : FieldName) (fields : List Field) → None ≡ first_value name fields → name_addr_in name fields ≡ Err (Missing name)
addr_missing name fields e = addr_is name fields (Err (Missing name)) (none_by name (values_of name fields) (e ∙ first_is name fields))

addr_several : (name : FieldName) (fields : List Field) → 1 < length (values_of name fields) → name_addr_in name fields ≡ Err (Malformed name)
addr_several name fields lt = addr_is name fields (Err (Malformed name)) (several_by name (values_of name fields) lt)

addr_read : (name : FieldName) (value : List ℕ) (fields : List Field) → Some value ≡ first_value name fields → length (values_of name fields) ≤ 1
    → name_addr_in name fields ≡ ok_or (name_addr_of value) (Malformed name)
addr_read name value fields e le = addr_is name fields (Ok value) (one_by name value (values_of name fields) (e ∙ first_is name fields) le)

addr_good : (name : FieldName) (value : List ℕ) (fields : List Field) (address : NameAddr) → Some value ≡ first_value name fields → length (values_of name fields) ≤ 1
    → Some address ≡ name_addr_of value → name_addr_in name fields ≡ Ok address
addr_good name value fields address e le is = addr_read name value fields e le ∙ ap (λ (o : Option NameAddr). ok_or o (Malformed name)) (sym is)

addr_bad : (name : FieldName) (value : List ℕ) (fields : List Field) → Some value ≡ first_value name fields → length (values_of name fields) ≤ 1
    → None ≡ name_addr_of value → name_addr_in name fields ≡ Err (Malformed name)
addr_bad name value fields e le is = addr_read name value fields e le ∙ ap (λ (o : Option NameAddr). ok_or o (Malformed name)) (sym is)

pub none_there : (name : FieldName) (list fields : List Field) → list ≡ fields → None ≡ first_value name list → result_ok (name_addr_in name fields) ≡ None
none_there name list fields same e = ap (λ (fs : List Field). result_ok (name_addr_in name fs)) (sym same)
    ∙ ap (λ (r : Result NameAddr HeaderError). result_ok r) (addr_missing name list e)

pub several_there : (name : FieldName) (list fields : List Field) → list ≡ fields → 1 < count_by (λ field. is_same_name field.name name) list
    → result_ok (name_addr_in name fields) ≡ None
several_there name list fields same lt =
    ap (λ (fs : List Field). result_ok (name_addr_in name fs)) (sym same)
    ∙ ap (λ (r : Result NameAddr HeaderError). result_ok r) (addr_several name list (omega (arith, lt, count_values name list)))

by_reading : (name : FieldName) (value : List ℕ) (fields : List Field) (o : Option NameAddr) → Some value ≡ first_value name fields → length (values_of name fields) ≤ 1
    → o ≡ name_addr_of value → result_ok (name_addr_in name fields) ≡ o
by_reading name value fields (Some address) e le is = ap (λ (r : Result NameAddr HeaderError). result_ok r) (addr_good name value fields address e le is)
by_reading name value fields None e le is = ap (λ (r : Result NameAddr HeaderError). result_ok r) (addr_bad name value fields e le is)

pub one_there : (name : FieldName) (value : List ℕ) (list fields : List Field) → list ≡ fields → Some value ≡ first_value name list
    → count_by (λ field. is_same_name field.name name) list ≤ 1 → result_ok (name_addr_in name fields) ≡ name_addr_of value
one_there name value list fields same e le =
    ap (λ (fs : List Field). result_ok (name_addr_in name fs)) (sym same)
    ∙ by_reading name value list (name_addr_of value) e (omega (arith, le, count_values name list)) refl
