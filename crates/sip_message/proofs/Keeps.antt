-- Fields with their places that are kept behind others.
use Rattle.std.proofs.Common.{◌≡◌, ℕ, Bool, true, false, List, [], ◌∷◌, ◌++◌, map, Option, Some, refl, sym, ap, subst, ◌∙◌, append_assoc}
use Rattle.std.specs.Prelude.{option_map}
use Rattle.std.specs.Option.{unwrap_or}
use Rattle.std.specs.List.{AllByRecursion}
use Rattle.std.proofs.lemmas.List.{append-nil, map-append}
use denote.Ref.{Bor}
use Rattle.sip_text.specs.declared.span.Span.{Span}
use Rattle.sip_text.specs.Span.{part}
use Rattle.sip_text.specs.Lists.{cut}
use Rattle.sip_message_fields.specs.Piece.{bytes_of}
use Rattle.sip_message_fields.specs.Slice.{IsPieceOf, IsPieceCutFrom, is_joined}
use Rattle.sip_message_fields.specs.declared.field.Field.{Field}
use Rattle.sip_message_fields.specs.FieldName.{is_length, is_list}
use Rattle.sip_message.specs.declared.part_field.PartField.{PartField}
use Rattle.sip_message.specs.Field.{pieces}
use Rattle.sip_message.specs.Parts.{field_seen, fields_seen, joined_values, AreSlicesOf, IsKept, AreItemsKept}

all_join : {X : Type 0} (P : X → Type 0) (xs ys : List X) → AllByRecursion P xs → AllByRecursion P ys → AllByRecursion P (xs ++ ys)
all_join P [] ys are too = too
all_join P (x ∷ xs) ys are too = (are.0, all_join P xs ys are.1 too)

abbrev Stands : Bor (List ℕ) → PartField → Type 0
Stands source field = IsPieceOf source field.value

abbrev joined_value : PartField → Bool
joined_value field = is_joined field.value

-- ---- one more

pub seen_more : (done new : List PartField) (field : PartField) → new ≡ done ++ field ∷ [] → fields_seen new ≡ fields_seen done ++ field_seen field ∷ []
seen_more done new field n = ap (λ (w : List PartField). fields_seen w) n ∙ map-append field_seen done (field ∷ [])

joined_more : (done new : List PartField) (field : PartField) → new ≡ done ++ field ∷ [] → joined_values new ≡ joined_values done ++ is_joined field.value ∷ []
joined_more done new field n = ap (λ (w : List PartField). joined_values w) n ∙ map-append joined_value done (field ∷ [])

stands_more : (source : Bor (List ℕ)) (done new : List PartField) (field : PartField) → new ≡ done ++ field ∷ [] → AreSlicesOf source done → IsPieceOf source field.value
    → AreSlicesOf source new
stands_more source done new field n are is = subst (λ (w : List PartField). AreSlicesOf source w) (sym n) (all_join (Stands source) done (field ∷ []) are (is, tt))

-- ---- the items of a list

pub no_items : (old : List PartField) (field : PartField) → AreItemsKept old field [] old
no_items old field = record { seen = sym (append-nil (fields_seen old)); folds = sym (append-nil (joined_values old)); slices = λ source is are. are }

abbrev item_seen : PartField → Span → Field
item_seen field span = record (field_seen field) { value = part (bytes_of field.value) span }

pub one_item : (old new : List PartField) (field : PartField) (span : Span) (item : PartField) → new ≡ old ++ item ∷ [] → field_seen item ≡ item_seen field span
    → IsPieceCutFrom field.value item.value → AreItemsKept old field (span ∷ []) new
one_item old new field span item n seen here = record {
  seen = seen_more old new item n ∙ ap (λ (w : Field). fields_seen old ++ w ∷ []) seen;
  folds = joined_more old new item n ∙ ap (λ (w : Bool). joined_values old ++ w ∷ []) here.joined;
  slices = λ source stands are. stands_more source old new item n are (here.slice source stands);
}

abbrev flag_of : PartField → Span → Bool
flag_of field span = is_joined field.value

pub items_next : (old mid new : List PartField) (field : PartField) (front : List Span) (span : Span) (all : List Span) → AreItemsKept old field front mid
    → AreItemsKept mid field (span ∷ []) new → all ≡ front ++ span ∷ [] → AreItemsKept old field all new
items_next old mid new field front span all so_far here more = record {
  seen = here.seen ∙ ap (λ (w : List Field). w ++ item_seen field span ∷ []) so_far.seen
      ∙ append_assoc (fields_seen old) (map (item_seen field) front) (item_seen field span ∷ [])
      ∙ ap (λ (w : List Field). fields_seen old ++ w) (sym (map-append (item_seen field) front (span ∷ [])))
      ∙ ap (λ (w : List Span). fields_seen old ++ map (item_seen field) w) (sym more);
  folds = here.folds ∙ ap (λ (w : List Bool). w ++ flag_of field span ∷ []) so_far.folds
      ∙ append_assoc (joined_values old) (map (flag_of field) front) (flag_of field span ∷ [])
      ∙ ap (λ (w : List Bool). joined_values old ++ w) (sym (map-append (flag_of field) front (span ∷ [])))
      ∙ ap (λ (w : List Span). joined_values old ++ map (flag_of field) w) (sym more);
  slices = λ source stands are. here.slices source stands (so_far.slices source stands are);
}

map-map : {A B C : Type 0} (f : B → C) (g : A → B) (xs : List A) → map f (map g xs) ≡ map (λ x. f (g x)) xs
map-map f g [] = refl
map-map f g (x ∷ xs) = ap (λ ys. f (g x) ∷ ys) (map-map f g xs)

pub kept_list : (done new : List Field) (field : Field) (spans : List Span) → is_length field.name ≡ false → is_list field.name ≡ true
    → cut field.value ≡ Some (map (part field.value) spans)
    → new ≡ done ++ map (λ span. record field { value = part field.value span }) spans → option_map (λ items. done ++ items) (pieces field) ≡ Some new
kept_list done new field spans not_length listed is_cut e =
    let one : pieces field ≡ Some (map (λ item. record field { value = item }) (map (part field.value) spans)) = rw (not_length, listed, is_cut) refl in
    ap (λ (o : Option (List Field)). option_map (λ items. done ++ items) o) one ∙ ap (λ (w : List Field). Some w)
    (ap (λ (w : List Field). done ++ w) (map-map (λ item. record field { value = item }) (part field.value) spans) ∙ sym e)

abbrev as_item : Field → List ℕ → Field
as_item field item = record field { value = item }

cut_pieces : (field : Field) (spans : List Span) → is_length field.name ≡ false → is_list field.name ≡ true → cut field.value ≡ Some (map (part field.value) spans)
    → pieces field ≡ Some (map (as_item field) (map (part field.value) spans))
cut_pieces field spans not_length listed is_cut = rw (not_length, listed, is_cut) refl

pub items_kept : (old : List PartField) (field : PartField) (spans : List Span) (new : List PartField) → is_length field.name ≡ false → is_list field.name ≡ true
    → cut (bytes_of field.value) ≡ Some (map (part (bytes_of field.value)) spans)
    → AreItemsKept old field spans new → IsKept old field new
items_kept old field spans new not_length listed is_cut are =
    let j : Bool = is_joined field.value in
    let value : List ℕ = bytes_of field.value in
    let whole : pieces (field_seen field) ≡ Some (map (as_item (field_seen field)) (map (part value) spans)) =
    cut_pieces (field_seen field) spans not_length listed is_cut in
    let flags : map (λ (item : Field). j) (unwrap_or (pieces (field_seen field)) []) ≡ map (λ (s : Span). j) spans =
    ap (λ (w : Option (List Field)). map (λ (item : Field). j) (unwrap_or w [])) whole
    ∙ map-map (λ (item : Field). j) (as_item (field_seen field)) (map (part value) spans) ∙ map-map (λ (item : List ℕ). j) (part value) spans in record {
      seen = kept_list (fields_seen old) (fields_seen new) (field_seen field) spans not_length listed is_cut are.seen;
      folds = are.folds ∙ ap (λ (w : List Bool). joined_values old ++ w) (sym flags);
      slices = are.slices;
    }

-- ---- one field

pub none_kept : (old : List PartField) (field : PartField) → is_length field.name ≡ true → IsKept old field old
none_kept old field is =
    let none : pieces (field_seen field) ≡ Some [] = rw is refl in record {
      seen = ap (λ (w : Option (List Field)). option_map (λ items. fields_seen old ++ items) w) none ∙ ap (λ (w : List Field). Some w) (append-nil (fields_seen old));
      folds = sym (ap (λ (w : Option (List Field)). joined_values old ++ map (λ (item : Field). is_joined field.value) (unwrap_or w [])) none
          ∙ append-nil (joined_values old));
      slices = λ source stands are. are;
    }

one_piece : (old : List PartField) (field : PartField) (new : List PartField) → pieces (field_seen field) ≡ Some (field_seen field ∷ []) → new ≡ old ++ field ∷ []
    → IsKept old field new
one_piece old field new one n = record {
  seen = ap (λ (w : Option (List Field)). option_map (λ items. fields_seen old ++ items) w) one ∙ ap (λ (w : List Field). Some w) (sym (seen_more old new field n));
  folds = joined_more old new field n ∙ sym (ap (λ (w : Option (List Field)). joined_values old ++ map (λ (item : Field). is_joined field.value) (unwrap_or w [])) one);
  slices = λ source stands are. stands_more source old new field n are stands;
}

pub one_kept : (old : List PartField) (field : PartField) (new : List PartField) → is_length field.name ≡ false → is_list field.name ≡ false → new ≡ old ++ field ∷ []
    → IsKept old field new
one_kept old field new not_length not_list n = one_piece old field new (rw (not_length, not_list) refl) n

pub item_kept : (old : List PartField) (field : PartField) (new : List PartField) (value : List ℕ) → is_length field.name ≡ false → is_list field.name ≡ true
    → value ≡ bytes_of field.value → cut value ≡ Some (value ∷ [])
    → new ≡ old ++ field ∷ [] → IsKept old field new
item_kept old field new value not_length listed is one n =
    let whole : cut (bytes_of field.value) ≡ Some (bytes_of field.value ∷ []) = subst (λ (v : List ℕ). cut v ≡ Some (v ∷ [])) is one in
    one_piece old field new (rw (not_length, listed, whole) refl) n
