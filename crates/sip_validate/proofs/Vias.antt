-- The Vias of a request, of which the one on top was read before.
use Rattle.std.proofs.Common.{◌≡◌, ℕ, Bool, true, false, cond, ◌&&◌, ◌||◌, is_some, List, [], ◌∷◌, drop, Option, Some, None, Result, refl, sym, ap, subst, ◌∙◌}
use Rattle.std.specs.Prelude.{IfOk, IfSome, map, option_map}
use Rattle.std.specs.declared.alloc.AllocError.{AllocError}
use Rattle.std.specs.List.{list_all, list_any}
use Rattle.std.specs.Option.{option_and_then, option_map_or}
use Rattle.sip_message_fields.specs.declared.field.Field.{Field}
use Rattle.sip_message_fields.specs.declared.field_name.FieldName.{FieldName}
use Rattle.sip_message_fields.specs.declared.field_name.FieldName.TheVariants as Name
use Rattle.sip_message_fields.specs.FieldName.{is_same_name}
use Rattle.sip_message_fields.specs.Named.{first_named, all_named}
use Rattle.sip_message_fields.specs.Values.{values_of, first_value}
use Rattle.sip_header.specs.declared.via.Via.{Via}
use Rattle.sip_header.specs.Via.{via_of}
use Rattle.sip_route.specs.declared.own.Own.{Own}
use Rattle.sip_route.specs.Own.{is_own_via}
use Rattle.sip_validate.specs.UncheckedRequest.{UncheckedRequest}
use Rattle.sip_validate.specs.Refusal.{has_own_via}

abbrev first : List (List ℕ) → Option (List ℕ)
first [] = None
first (value ∷ values) = Some value

by_test : (t : Bool) (field : Field) (o : Option Field) (fields : List Field) → option_map (λ f. f.value) o ≡ first (map (λ f. f.value) fields)
    → option_map (λ f. f.value) (cond t (Some field) o) ≡ first (map (λ f. f.value) (cond t (field ∷ fields) fields))
by_test true field o fields e = refl
by_test false field o fields e = e

first_is : (name : FieldName) (fields : List Field) → first_value name fields ≡ first (values_of name fields)
first_is name [] = refl
first_is name (field ∷ fields) = by_test (is_same_name field.name name) field (first_named name fields) (all_named name fields) (first_is name fields)

abbrev is_read : List ℕ → Bool
is_read value = is_some (via_of value)

abbrev is_own : Own → List ℕ → Bool
is_own own value = option_map_or (is_own_via own) (via_of value) false

-- where the first can be read, whether all can be is whether the others can be
all_by : (values : List (List ℕ)) (via : Via) → option_and_then via_of (first values) ≡ Some via → list_all is_read values ≡ list_all is_read (drop 1 values)
all_by [] via is = absurd cc
all_by (value ∷ values) via is = ap (λ (o : Option Via). is_some o && list_all is_read values) is

-- where it is read as this, some is one of this server's where this is, or one of the others
any_by : (own : Own) (values : List (List ℕ)) (via : Via) → option_and_then via_of (first values) ≡ Some via
    → list_any (is_own own) values ≡ (is_own_via own via || list_any (is_own own) (drop 1 values))
any_by own [] via is = absurd cc
any_by own (value ∷ values) via is = ap (λ (o : Option Via). option_map_or (is_own_via own) o false || list_any (is_own own) values) is

on_top : (fields : List Field) (via : Via) → option_and_then via_of (first_value Name.Via fields) ≡ Some via
    → option_and_then via_of (first (values_of Name.Via fields)) ≡ Some via
on_top fields via is = sym (ap (option_and_then via_of) (first_is Name.Via fields)) ∙ is

pub all_read : (fields behind : List Field) (via : Via) → option_and_then via_of (first_value Name.Via fields) ≡ Some via
    → values_of Name.Via behind ≡ drop 1 (values_of Name.Via fields)
    → list_all (λ value. is_some (via_of value)) (values_of Name.Via behind) ≡ list_all (λ value. is_some (via_of value)) (values_of Name.Via fields)
all_read fields behind via is left = ap (list_all is_read) left ∙ sym (all_by (values_of Name.Via fields) via (on_top fields via is))

some_own : (own : Own) (fields : List Field) (via : Via) (t : Bool) → option_and_then via_of (first_value Name.Via fields) ≡ Some via → is_own_via own via ≡ t
    → (t || list_any (is_own own) (drop 1 (values_of Name.Via fields))) ≡ list_any (is_own own) (values_of Name.Via fields)
some_own own fields via t is test =
    ap (λ b. b || list_any (is_own own) (drop 1 (values_of Name.Via fields))) (sym test) ∙ sym (any_by own (values_of Name.Via fields) via (on_top fields via is))

-- the one on top is this server's
pub own_on_top : (own : Own) (fields : List Field) (via : Via) → option_and_then via_of (first_value Name.Via fields) ≡ Some via → is_own_via own via ≡ true
    → true ≡ list_any (λ value. option_map_or (is_own_via own) (via_of value) false) (values_of Name.Via fields)
own_on_top own fields via is test = some_own own fields via true is test

-- it isn't
pub own_behind : (own : Own) (fields behind : List Field) (via : Via) → option_and_then via_of (first_value Name.Via fields) ≡ Some via → is_own_via own via ≡ false
    → values_of Name.Via behind ≡ drop 1 (values_of Name.Via fields)
    → list_any (λ value. option_map_or (is_own_via own) (via_of value) false) (values_of Name.Via behind)
    ≡ list_any (λ value. option_map_or (is_own_via own) (via_of value) false) (values_of Name.Via fields)
own_behind own fields behind via is test left = ap (list_any (is_own own)) left ∙ some_own own fields via false is test

-- what is found of the parts of a request is found of it
pub own_seen : (result : Result (Option Bool) AllocError) (r : UncheckedRequest) (own : Own) (fields : List Field) → own ≡ r.own → fields ≡ r.fields
    → IfOk result (λ (some : Option Bool). IfSome some (λ (t : Bool). t ≡ list_any (λ value. option_map_or (is_own_via own) (via_of value) false)
    (values_of Name.Via fields)))
    → IfOk result (λ (some : Option Bool). IfSome some (λ (t : Bool). t ≡ has_own_via r))
own_seen result r own fields same_own same_fields h =
    subst (λ (list : List Field). IfOk result (λ (some : Option Bool). IfSome some (λ (t : Bool). t ≡ list_any (is_own r.own) (values_of Name.Via list)))) same_fields
    (subst (λ (o : Own). IfOk result (λ (some : Option Bool). IfSome some (λ (t : Bool). t ≡ list_any (is_own o) (values_of Name.Via fields)))) same_own h)
