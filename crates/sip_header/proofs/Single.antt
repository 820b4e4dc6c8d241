-- A field that may stand once, by its first value and their number.
use Rattle.std.proofs.Common.{◌≡◌, ℕ, ◌<◌, ◌≤◌, List, [], ◌∷◌, length, Some, None, refl, ◌∙◌, arith}
use Rattle.sip_message_form.specs.fields.declared.field.Field.{Field}
use Rattle.sip_message_form.specs.fields.declared.field_name.FieldName.TheVariants as Name
use Rattle.sip_message_form.specs.fields.Values.{values_of, first_value}
use Rattle.sip_text.specs.Words.{decimal_of}
use Rattle.sip_header.specs.declared.expires.Expires.TheVariants as Expires
use Rattle.sip_header.specs.declared.max_forwards.MaxForwards.TheVariants as MaxForwards
use Rattle.sip_header.specs.Expires.{seconds_of, expires_from, expires_in, expires_of}
use Rattle.sip_header.specs.MaxForwards.{hops_from, hops_in, max_forwards_of}
use Rattle.sip_header.proofs.OneValue.{first, first_is}

-- what is said by no value, by several, and by one
record IsSingle {X : Type 0} (absent repeated : X) (by : List ℕ → X) (whole : List (List ℕ) → X) : Type 0 where
  none : whole [] ≡ absent
  one : (value : List ℕ) → whole (value ∷ []) ≡ by value
  several : (value next : List ℕ) (others : List (List ℕ)) → whole (value ∷ next ∷ others) ≡ repeated

none_there : {X : Type 0} {absent repeated : X} {by : List ℕ → X} {whole : List (List ℕ) → X} (s : IsSingle absent repeated by whole) (values : List (List ℕ))
    → None ≡ first values → whole values ≡ absent
none_there s [] e = s.none
none_there s (value ∷ values) e = absurd cc

several_there : {X : Type 0} {absent repeated : X} {by : List ℕ → X} {whole : List (List ℕ) → X} (s : IsSingle absent repeated by whole) (values : List (List ℕ))
    → 1 < length values → whole values ≡ repeated
several_there s [] lt = absurd (omega arith)
several_there s (value ∷ []) lt = absurd (omega arith)
several_there s (value ∷ next ∷ others) lt = s.several value next others

one_there : {X : Type 0} {absent repeated : X} {by : List ℕ → X} {whole : List (List ℕ) → X} (s : IsSingle absent repeated by whole) (value : List ℕ)
    (values : List (List ℕ))
    → Some value ≡ first values → length values ≤ 1 → whole values ≡ by value
one_there s value [] e le = absurd cc
one_there s value (v ∷ []) e le =
    let same : v ≡ value = cc in
    rw same (s.one value)
one_there s value (v ∷ next ∷ others) e le = absurd (omega arith)

-- ---- Expires

expires_single : IsSingle Expires.Absent Expires.Malformed (λ value. expires_from (seconds_of value)) expires_in
expires_single = record { none = refl; one = λ value. refl; several = λ value next others. refl }

pub no_expires : (fields : List Field) → None ≡ first_value Name.Expires fields → expires_of fields ≡ Expires.Absent
no_expires fields e = none_there expires_single (values_of Name.Expires fields) (e ∙ first_is Name.Expires fields)

pub some_expires : (fields : List Field) → 1 < length (values_of Name.Expires fields) → expires_of fields ≡ Expires.Malformed
some_expires fields lt = several_there expires_single (values_of Name.Expires fields) lt

pub one_expires : (value : List ℕ) (fields : List Field) → Some value ≡ first_value Name.Expires fields → length (values_of Name.Expires fields) ≤ 1
    → expires_of fields ≡ expires_from (seconds_of value)
one_expires value fields e le = one_there expires_single value (values_of Name.Expires fields) (e ∙ first_is Name.Expires fields) le

-- ---- Max-Forwards

hops_single : IsSingle MaxForwards.Absent MaxForwards.Malformed (λ value. hops_from (decimal_of value)) hops_in
hops_single = record { none = refl; one = λ value. refl; several = λ value next others. refl }

pub no_hops : (fields : List Field) → None ≡ first_value Name.MaxForwards fields → max_forwards_of fields ≡ MaxForwards.Absent
no_hops fields e = none_there hops_single (values_of Name.MaxForwards fields) (e ∙ first_is Name.MaxForwards fields)

pub some_hops : (fields : List Field) → 1 < length (values_of Name.MaxForwards fields) → max_forwards_of fields ≡ MaxForwards.Malformed
some_hops fields lt = several_there hops_single (values_of Name.MaxForwards fields) lt

pub one_hops : (value : List ℕ) (fields : List Field) → Some value ≡ first_value Name.MaxForwards fields → length (values_of Name.MaxForwards fields) ≤ 1
    → max_forwards_of fields ≡ hops_from (decimal_of value)
one_hops value fields e le = one_there hops_single value (values_of Name.MaxForwards fields) (e ∙ first_is Name.MaxForwards fields) le
