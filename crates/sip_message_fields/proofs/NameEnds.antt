-- How the ends of names last as fields are added, and what is found before them.
use Rattle.std.proofs.Common.{◌≡◌, ◌≢◌, inl, inr, ℕ, zero, suc, ◌+◌, ◌<◌, Bool, true, false, cond, List, [], ◌∷◌, ◌++◌, length, take, drop, get_or, set}
use Rattle.std.proofs.Common.{Option, Some, None, refl, sym, ap, subst, ◌∙◌, arith, lit<, append-nil, length-append}
use Rattle.std.specs.Prelude.{filter, nat_lt, replicate}
use Rattle.std.proofs.lemmas.Bool.{cases_eq, ne_eqb}
use Rattle.std.proofs.lemmas.List.{get_or-set_same, get_or-set_other, length-set, length-replicate, get_or-replicate, take-append-drop, drop_all}
use Rattle.std.proofs.lemmas.List.Elements.{filter-append}
use Rattle.sip_message_fields.specs.declared.field_name.FieldName.{FieldName}
use Rattle.sip_message_fields.specs.declared.field.Field.{Field}
use Rattle.sip_message_fields.specs.declared.known_names.KnownName.{KnownName}
use Rattle.sip_message_fields.specs.declared.known_names.KnownName.TheVariants.{Via, From, To, CallId, CSeq, Contact, MaxForwards, ContentLength, ContentType}
use Rattle.sip_message_fields.specs.declared.known_names.KnownName.TheVariants.{ContentEncoding}
use Rattle.sip_message_fields.specs.declared.known_names.KnownName.TheVariants.{Subject, Supported, Route, RecordRoute, Expires, Require, ProxyRequire, Unsupported}
use Rattle.sip_message_fields.specs.declared.known_names.KnownName.TheVariants.{Authorization, ProxyAuthorization, WwwAuthenticate, ProxyAuthenticate, Warning}
use Rattle.sip_message_fields.specs.declared.known_names.KnownName.TheVariants.{MinExpires}
use Rattle.sip_message_fields.specs.declared.known_names.KnownName.TheVariants.{Timestamp}
use Rattle.sip_message_fields.specs.FieldName.{is_same_name}
use Rattle.sip_message_fields.specs.KnownName.{field_name_of}
use Rattle.sip_message_fields.specs.Named.{first_named, all_named}
use Rattle.sip_message_fields.specs.NameEnds.{place_of, end_behind, IsEnd, AreEnds}
use Rattle.sip_message_fields.proofs.KnownNames.{same_place}

-- ---- places

place_low : (known : KnownName) → place_of known < 25
place_low Via = lit< tt
place_low From = lit< tt
place_low To = lit< tt
place_low CallId = lit< tt
place_low CSeq = lit< tt
place_low Contact = lit< tt
place_low MaxForwards = lit< tt
place_low ContentLength = lit< tt
place_low ContentType = lit< tt
place_low ContentEncoding = lit< tt
place_low Subject = lit< tt
place_low Supported = lit< tt
place_low Route = lit< tt
place_low RecordRoute = lit< tt
place_low Expires = lit< tt
place_low Require = lit< tt
place_low ProxyRequire = lit< tt
place_low Unsupported = lit< tt
place_low Authorization = lit< tt
place_low ProxyAuthorization = lit< tt
place_low WwwAuthenticate = lit< tt
place_low ProxyAuthenticate = lit< tt
place_low Warning = lit< tt
place_low MinExpires = lit< tt
place_low Timestamp = lit< tt

-- ---- none of a name

none_in_none : (name : FieldName) (end : ℕ) → all_named name (drop end []) ≡ []
none_in_none name zero = refl
none_in_none name (suc end) = refl

none_of_one : (p : Field → Bool) (field : Field) (t : Bool) → p field ≡ t → t ≡ false → filter p (field ∷ []) ≡ []
none_of_one p field true is other = absurd cc
none_of_one p field false is other = rw is refl

none_more : (name : FieldName) (end : ℕ) (fields : List Field) (field : Field) → is_same_name field.name name ≡ false → all_named name (drop end fields) ≡ []
    → all_named name (drop end (fields ++ field ∷ [])) ≡ []
none_more name zero fields field other none =
    filter-append (λ (f : Field). is_same_name f.name name) fields (field ∷ [])
    ∙ ap (λ (w : List Field). w ++ all_named name (field ∷ [])) none
    ∙ none_of_one (λ (f : Field). is_same_name f.name name) field (is_same_name field.name name) refl other
none_more name (suc end) [] field other none = none_in_none name end
none_more name (suc end) (f ∷ fields) field other none = none_more name end fields field other none

end_more : (name : FieldName) (end : ℕ) (fields : List Field) (field : Field) → is_same_name field.name name ≡ false → IsEnd end name fields
    → IsEnd end name (fields ++ field ∷ [])
end_more name end fields field other (inl anywhere) = inl anywhere
end_more name end fields field other (inr none) = inr (none_more name end fields field other none)

-- where all fields stand before an end
end_of_all : (name : FieldName) (count : ℕ) (fields : List Field) (field : Field) (t : Bool) → nat_lt count 254 ≡ t → count ≡ length fields
    → IsEnd (cond t (count + 1) 255) name (fields ++ field ∷ [])
end_of_all name count fields field true is counted =
    inr (ap (λ (w : List Field). all_named name w) (drop_all (count + 1) (fields ++ field ∷ []) (omega (arith, counted, length-append fields (field ∷ [])))))
end_of_all name count fields field false is counted = inl refl

-- ---- one more field

pub none_yet : (ends : List ℕ) (fields : List Field) → length ends ≡ 25 → fields ≡ [] → AreEnds ends fields
none_yet ends fields sized none = subst (λ (w : List Field). AreEnds ends w) (sym none) (record {
  sized = sized;
  each = λ k. inr (none_in_none (field_name_of k) (get_or ends (place_of k) 0));
})

-- it has a known name
noted_at : (ends : List ℕ) (known k : KnownName) (count : ℕ) (fields : List Field) (field : Field) → length ends ≡ 25 → field.name ≡ field_name_of known
    → count ≡ length fields → IsEnd (get_or ends (place_of k) 0) (field_name_of k) fields
    → IsEnd (get_or (set ends (place_of known) (end_behind count)) (place_of k) 0) (field_name_of k) (fields ++ field ∷ [])
noted_at ends known k count fields field sized is counted before = elim (cases_eq (place_of k) (place_of known)) [
  | inl same ↦ here same
  | inr apart ↦ elsewhere apart
] where
  here : place_of k ≡ place_of known
      → IsEnd (get_or (set ends (place_of known) (end_behind count)) (place_of k) 0) (field_name_of k) (fields ++ field ∷ [])
  here same =
      let at : get_or (set ends (place_of known) (end_behind count)) (place_of k) 0 ≡ end_behind count =
      ap (λ (n : ℕ). get_or (set ends (place_of known) (end_behind count)) n 0) same
      ∙ get_or-set_same ends (place_of known) (end_behind count) 0 (omega (arith, sized, place_low known)) in
      subst (λ (n : ℕ). IsEnd n (field_name_of k) (fields ++ field ∷ [])) (sym at)
      (end_of_all (field_name_of k) count fields field (nat_lt count 254) refl counted)

  elsewhere : (place_of k ≡ place_of known → ⊥)
      → IsEnd (get_or (set ends (place_of known) (end_behind count)) (place_of k) 0) (field_name_of k) (fields ++ field ∷ [])
  elsewhere apart =
      let at : get_or (set ends (place_of known) (end_behind count)) (place_of k) 0 ≡ get_or ends (place_of k) 0 =
      get_or-set_other ends (place_of known) (place_of k) (end_behind count) 0 apart in
      let other : is_same_name field.name (field_name_of k) ≡ false =
      ap (λ (n : FieldName). is_same_name n (field_name_of k)) is ∙ sym (same_place known k)
      ∙ ne_eqb (place_of known) (place_of k) (λ e. apart (sym e)) in
      subst (λ (n : ℕ). IsEnd n (field_name_of k) (fields ++ field ∷ [])) (sym at)
      (end_more (field_name_of k) (get_or ends (place_of k) 0) fields field other before)

pub noted_known : (ends : List ℕ) (known : KnownName) (name : FieldName) (place end count : ℕ) (fields : List Field) (field : Field) → place ≡ place_of known
    → end ≡ end_behind count → field_name_of known ≡ name → field.name ≡ name → count ≡ length fields → AreEnds ends fields
    → AreEnds (set ends place end) (fields ++ field ∷ [])
noted_known ends known name place end count fields field at behind is named counted are =
    subst (λ (w : List ℕ). AreEnds w (fields ++ field ∷ []))
    (sym (ap (λ (n : ℕ). set ends n end) at ∙ ap (λ (n : ℕ). set ends (place_of known) n) behind)) (record {
      sized = length-set ends (place_of known) (end_behind count) ∙ are.sized;
      each = λ k. noted_at ends known k count fields field are.sized (named ∙ sym is) counted (are.each k);
    })

-- it has a name that was told to be none of those that are known
pub noted_other : (ends : List ℕ) (name : FieldName) (fields : List Field) (field : Field) → ((k : KnownName) → is_same_name name (field_name_of k) ≡ false)
    → field.name ≡ name → AreEnds ends fields → AreEnds ends (fields ++ field ∷ [])
noted_other ends name fields field other named are = record {
  sized = are.sized;
  each = λ k. end_more (field_name_of k) (get_or ends (place_of k) 0) fields field (ap (λ (n : FieldName). is_same_name n (field_name_of k)) named ∙ other k) (are.each k);
}

-- nothing is said of where any name stands
pub noted_any : (fields : List Field) → AreEnds (replicate 25 255) fields
noted_any fields = record {
  sized = length-replicate {A = ℕ} 25 255;
  each = λ k. inl (get_or-replicate {A = ℕ} 25 (place_of k) 255 0 (place_low k));
}

-- ---- what is found

pub all_before : (name : FieldName) (end : ℕ) (fields : List Field) → all_named name (drop end fields) ≡ []
    → all_named name (take end fields) ≡ all_named name fields
all_before name end fields none =
    sym (append-nil (all_named name (take end fields)))
    ∙ ap (λ (w : List Field). all_named name (take end fields) ++ w) (sym none)
    ∙ sym (filter-append (λ (f : Field). is_same_name f.name name) (take end fields) (drop end fields))
    ∙ ap (λ (w : List Field). all_named name w) (take-append-drop end fields)

abbrev first_in : List Field → Option Field
first_in [] = None
first_in (field ∷ fields) = Some field

first_step : (t : Bool) (field : Field) (named : List Field) (rest : Option Field) → rest ≡ first_in named
    → cond t (Some field) rest ≡ first_in (cond t (field ∷ named) named)
first_step true field named rest e = refl
first_step false field named rest e = e

first_of_all : (name : FieldName) (fields : List Field) → first_named name fields ≡ first_in (all_named name fields)
first_of_all name [] = refl
first_of_all name (field ∷ fields) =
    first_step (is_same_name field.name name) field (all_named name fields) (first_named name fields) (first_of_all name fields)

-- the first of a name is by all of it
pub first_by_all : (name : FieldName) (front fields : List Field) → all_named name front ≡ all_named name fields
    → first_named name front ≡ first_named name fields
first_by_all name front fields same =
    first_of_all name front ∙ ap (λ (w : List Field). first_in w) same ∙ sym (first_of_all name fields)

-- before an end stand all of the name
pub up_to_end : (ends : List ℕ) (known : KnownName) (name : FieldName) (end : ℕ) (fields : List Field) → field_name_of known ≡ name
    → end ≡ get_or ends (place_of known) 0 → end ≢ 255 → AreEnds ends fields → all_named name (take end fields) ≡ all_named name fields
up_to_end ends known name end fields is at some are = elim (are.each known) [
  | inl anywhere ↦ absurd (some (at ∙ anywhere))
  | inr none ↦ all_before name end fields (subst (λ (n : FieldName). all_named n (drop end fields) ≡ []) is
      (ap (λ (n : ℕ). all_named (field_name_of known) (drop n fields)) at ∙ none))
]

-- before the end of a name that no field has stands nothing
pub none_at_all : (ends : List ℕ) (known : KnownName) (name : FieldName) (end : ℕ) (fields : List Field) → field_name_of known ≡ name
    → end ≡ get_or ends (place_of known) 0 → end ≡ 0 → AreEnds ends fields → first_named name fields ≡ None
none_at_all ends known name end fields is at nothing are =
    let some : end ≢ 255 = λ e. absurd (omega (arith, nothing, e)) in
    let all : all_named name (take end fields) ≡ all_named name fields = up_to_end ends known name end fields is at some are in
    let none : all_named name (take end fields) ≡ [] = ap (λ (n : ℕ). all_named name (take n fields)) nothing in
    first_of_all name fields ∙ ap (λ (w : List Field). first_in w) (sym all ∙ none)

-- a field comes behind those that stand
pub pushed : (ends new : List ℕ) (before after : List Field) (field : Field) (name : FieldName) (count : ℕ) → AreEnds ends before → after ≡ before ++ field ∷ []
    → ((fields : List Field) (f : Field) → f.name ≡ name → count ≡ length fields → AreEnds ends fields → AreEnds new (fields ++ f ∷ []))
    → field.name ≡ name → count ≡ length before → AreEnds new after
pushed ends new before after field name count are more noted named counted =
    subst (λ (w : List Field). AreEnds new w) (sym more) (noted before field named counted are)
