-- What stands in a store stays as it is where more is put behind it.
use Rattle.std.proofs.Common.{◌≡◌, ℕ, suc, ◌+◌, ◌-◌, ◌<◌, List, [], ◌∷◌, ◌++◌, length, map, take, drop, get_or, Option, refl, sym, ap, subst, ◌∙◌, arith, length-append}
use Rattle.std.proofs.Common.{append-nil, append_assoc, flat_map}
use Rattle.std.specs.Prelude.{All, codes}
use Rattle.std.proofs.Math.Seq.{drop-append_seam}
use Rattle.std.proofs.lemmas.List.{drop-append-le, take-append-le, take_all, length-drop, map-append, take_more, flat_map_more}
use Rattle.std.proofs.lemmas.List.Elements.{All-push}
use Rattle.sip_text.specs.declared.span.Span.{Span}
use Rattle.sip_text.specs.Span.{part, IsWithin}
use Rattle.sip_message_fields.specs.declared.field_name.FieldName.{FieldName}
use Rattle.sip_message_fields.specs.declared.known_names.KnownName.{KnownName}
use Rattle.sip_message_fields.specs.KnownName.{name_seen}
use Rattle.sip_message_fields.specs.declared.field.Field.{Field}
use Rattle.sip_message_fields.specs.declared.kept_field.KeptField.{KeptField}
use Rattle.sip_message_fields.specs.FieldName.{spelling}
use Rattle.sip_message_fields.specs.KeptField.{field_kept, IsStored, Keeps, IsPut, IsFieldPut, AreFieldsPut}
use Rattle.sip_message_fields.specs.Lines.{line_of, IsLineAt, AreLinesAt}

within_more : (span : Span) (xs ys : List ℕ) → IsWithin span xs → IsWithin span (xs ++ ys)
within_more span xs ys w = record { ordered = w.ordered; inside = omega (arith, w.inside, length-append xs ys) }

part_more : (span : Span) (xs ys : List ℕ) → IsWithin span xs → part (xs ++ ys) span ≡ part xs span
part_more span xs ys w =
    let n : ℕ = span.end - span.start in
    ap (λ (d : List ℕ). take n d) (drop-append-le span.start xs ys (omega (arith, w.ordered, w.inside)))
    ∙ take-append-le n (drop span.start xs) ys (omega (arith, length-drop span.start xs, w.ordered, w.inside))

keeps_more : (old more : List ℕ) → Keeps old (old ++ more)
keeps_more old more = record { within = λ span w. within_more span old more w; bytes = λ span w. part_more span old more w }

pub put_is : (old more new : List ℕ) (span : Span) → new ≡ old ++ more → span.start ≡ length old → span.end ≡ length new → IsPut old more new span
put_is old more new span grown begins ends = record {
  bytes = ap (λ (w : List ℕ). part w span) grown
      ∙ ap (λ (n : ℕ). take (span.end - n) (drop n (old ++ more))) begins
      ∙ ap (λ (d : List ℕ). take (span.end - length old) d) (drop-append_seam old more)
      ∙ take_all (span.end - length old) more (omega (arith, ends, ap length grown, length-append old more));
  within = record { ordered = omega (arith, begins, ends, ap length grown, length-append old more); inside = omega (arith, ends) };
  keeps = subst (λ (w : List ℕ). Keeps old w) (sym grown) (keeps_more old more);
}

keeps_again : (a b c : List ℕ) → Keeps a b → Keeps b c → Keeps a c
keeps_again a b c first second = record {
  within = λ span w. second.within span (first.within span w);
  bytes = λ span w. second.bytes span (first.within span w) ∙ first.bytes span w;
}

-- with what marks their end behind them
pub marked_is : (old more mark middle new : List ℕ) (span : Span) → middle ≡ old ++ more → new ≡ middle ++ mark → span.start ≡ length old → span.end ≡ length middle
    → IsPut old more new span
marked_is old more mark middle new span grown marked begins ends =
    let is : IsPut old more middle span = put_is old more middle span grown begins ends in
    let keeps : Keeps middle new = subst (λ (w : List ℕ). Keeps middle w) (sym marked) (keeps_more middle mark) in record {
      bytes = keeps.bytes span is.within ∙ is.bytes;
      within = keeps.within span is.within;
      keeps = keeps_again old middle new is.keeps keeps;
    }

abbrev made : Option KnownName → List ℕ → List ℕ → Field
made known written value = record { name = name_seen known written; value = value }

abbrev whole : FieldName → List ℕ → Field
whole name value = record { name = name; value = value }

field_put : (old written middle new : List ℕ) (field : Field) (kept : KeptField) → name_seen kept.known written ≡ field.name → IsPut old written middle kept.spelling
    → IsPut middle field.value new kept.value → IsFieldPut old field new kept
field_put old written middle new field kept name spelling value = record {
  same = ap (λ w. made kept.known w (part new kept.value)) (value.keeps.bytes kept.spelling spelling.within ∙ spelling.bytes)
      ∙ ap (λ w. made kept.known written w) value.bytes ∙ ap (λ n. whole n field.value) name;
  within = record { spelling = value.keeps.within kept.spelling spelling.within; value = value.within };
  keeps = keeps_again old middle new spelling.keeps value.keeps;
}

-- ---- fields

kept_stays : (old new : List ℕ) (kept : KeptField) → Keeps old new → IsStored old kept → field_kept new kept ≡ field_kept old kept
kept_stays old new kept keeps is =
    ap (λ w. made kept.known w (part new kept.value)) (keeps.bytes kept.spelling is.spelling)
    ∙ ap (λ w. made kept.known (part old kept.spelling) w) (keeps.bytes kept.value is.value)

stored_stays : (old new : List ℕ) (kept : KeptField) → Keeps old new → IsStored old kept → IsStored new kept
stored_stays old new kept keeps is = record { spelling = keeps.within kept.spelling is.spelling; value = keeps.within kept.value is.value }

list_stays : (old new : List ℕ) (list : List KeptField) → Keeps old new → All (IsStored old) list → map (field_kept new) list ≡ map (field_kept old) list
list_stays old new [] keeps are = refl
list_stays old new (kept ∷ list) keeps are =
    ap (λ (w : Field). w ∷ map (field_kept new) list) (kept_stays old new kept keeps (are 0 kept (omega arith)))
    ∙ ap (λ (w : List Field). field_kept old kept ∷ w) (list_stays old new list keeps (λ k d lt. are (suc k) d (omega (arith, lt))))

none_kept : (old more : List ℕ) (list : List KeptField) → list ≡ [] → AreFieldsPut old [] (old ++ more) list
none_kept old more list none = subst (λ (w : List KeptField). AreFieldsPut old [] (old ++ more) w) (sym none) (record {
  same = refl;
  within = λ k d lt. absurd (omega (arith, lt));
  keeps = keeps_more old more;
})

field_next : (start old new : List ℕ) (fields : List Field) (i : ℕ) (field : Field) (list more : List KeptField) (kept : KeptField) → i < length fields
    → field ≡ get_or fields i field → more ≡ list ++ kept ∷ []
    → AreFieldsPut start (take i fields) old list → IsFieldPut old field new kept → AreFieldsPut start (take (i + 1) fields) new more
field_next start old new fields i field list more kept lt is n so_far here =
    let items : take (i + 1) fields ≡ take i fields ++ field ∷ [] = take_more fields i field lt ∙ ap (λ (w : Field). take i fields ++ w ∷ []) (sym is) in record {
      same = ap (λ (w : List KeptField). map (field_kept new) w) n ∙ map-append (field_kept new) list (kept ∷ [])
          ∙ ap (λ (w : List Field). w ++ field_kept new kept ∷ []) (list_stays old new list here.keeps so_far.within ∙ so_far.same)
          ∙ ap (λ (w : Field). take i fields ++ w ∷ []) here.same ∙ sym items;
      within = subst (λ (w : List KeptField). All (IsStored new) w) (sym n) (All-push (IsStored new) list kept
          (λ k d below. stored_stays old new _ here.keeps (so_far.within k d below)) here.within);
      keeps = keeps_again start old new so_far.keeps here.keeps;
    }

-- ---- lines

parts : (before name value behind : List ℕ) → before ++ name ++ codes ": " ++ value ++ (codes "\r\n" ++ behind) ≡ before ++ (name ++ codes ": " ++ value ++ codes "\r\n")
    ++ behind
parts before name value behind =
    sym (append_assoc (before ++ name ++ codes ": " ++ value) (codes "\r\n") behind)
    ∙ ap (λ (w : List ℕ). w ++ value ++ codes "\r\n" ++ behind) (append_assoc before name (codes ": "))
    ∙ ap (λ (w : List ℕ). w ++ codes "\r\n" ++ behind) (append_assoc before (name ++ codes ": ") value)
    ∙ ap (λ (w : List ℕ). w ++ behind) (append_assoc before (name ++ codes ": " ++ value) (codes "\r\n"))

line_put : (before behind : List ℕ) (field : Field) (kept : KeptField) → name_seen kept.known (spelling field.name) ≡ field.name → kept.spelling.start ≡ length before
    → kept.spelling.end ≡ kept.spelling.start + length (spelling field.name)
    → kept.value.start ≡ kept.spelling.end + 2 → kept.value.end ≡ kept.value.start + length field.value → IsFieldPut before field (before ++ line_of field ++ behind) kept
line_put before behind field kept name begins spelled separated valued =
    let one : List ℕ = before ++ spelling field.name in
    let two : List ℕ = one ++ codes ": " in
    let three : List ℕ = two ++ field.value in
    let to_one : length one ≡ length before + length (spelling field.name) = length-append before (spelling field.name) in
    let to_two : length two ≡ length one + 2 = length-append one (codes ": ") in
    let to_three : length three ≡ length two + length field.value = length-append two field.value in
    subst (λ (w : List ℕ). IsFieldPut before field w kept) (parts before (spelling field.name) field.value behind)
    (field_put before (spelling field.name) two (three ++ (codes "\r\n" ++ behind)) field kept name
    (marked_is before (spelling field.name) (codes ": ") one two kept.spelling refl refl begins (omega (arith, begins, spelled, to_one)))
    (marked_is two field.value (codes "\r\n" ++ behind) three (three ++ (codes "\r\n" ++ behind)) kept.value refl refl
    (omega (arith, begins, spelled, separated, to_one, to_two)) (omega (arith, begins, spelled, separated, valued, to_one, to_two, to_three))))

line_length : (name value : List ℕ) → length (name ++ codes ": " ++ value ++ codes "\r\n") ≡ length name + 2 + length value + 2
line_length name value =
    omega (arith, length-append (name ++ codes ": " ++ value) (codes "\r\n"), length-append (name ++ codes ": ") value, length-append name (codes ": "))

pub line_is : (start : ℕ) (field : Field) (kept : KeptField) (end : ℕ) → name_seen kept.known (spelling field.name) ≡ field.name → kept.spelling.start ≡ start
    → kept.spelling.end ≡ start + length (spelling field.name)
    → kept.value.start ≡ kept.spelling.end + 2 → kept.value.end ≡ kept.value.start + length field.value → end ≡ kept.value.end + 2 → IsLineAt start field kept end
line_is start field kept end name begins spelled separated valued ends = record {
  ends = omega (arith, begins, spelled, separated, valued, ends, line_length (spelling field.name) field.value);
  put = λ before behind reached. line_put before behind field kept name (begins ∙ sym reached) (spelled ∙ ap (λ (n : ℕ). n + length (spelling field.name)) (sym begins))
      separated valued;
}

pub no_lines : (start : ℕ) (list : List KeptField) → list ≡ [] → AreLinesAt start [] list start
no_lines start list none = record {
  ends = omega arith;
  put = λ before behind reached. subst (λ (w : List ℕ). AreFieldsPut before [] (w ++ behind) list) (sym (append-nil before)) (none_kept before behind list none);
}

pub line_next : (start middle end : ℕ) (fields : List Field) (i : ℕ) (field : Field) (list more : List KeptField) (kept : KeptField) → i < length fields
    → field ≡ get_or fields i field → more ≡ list ++ kept ∷ []
    → AreLinesAt start (take i fields) list middle → IsLineAt middle field kept end → AreLinesAt start (take (i + 1) fields) more end
line_next start middle end fields i field list more kept lt is n so_far here =
    let items : take (i + 1) fields ≡ take i fields ++ field ∷ [] = take_more fields i field lt ∙ ap (λ (w : Field). take i fields ++ w ∷ []) (sym is) in
    let grown : (before : List ℕ) → before ++ flat_map line_of (take i fields) ++ line_of field ≡ before ++ flat_map line_of (take (i + 1) fields)
    = λ before. flat_map_more line_of before (take i fields) field ∙ ap (λ (w : List Field). before ++ flat_map line_of w) (sym items) in record {
      ends = omega (arith, here.ends, so_far.ends, ap length (grown []), length-append (flat_map line_of (take i fields)) (line_of field));
      put = λ before behind reached.
          let old : List ℕ = before ++ flat_map line_of (take i fields) in
          field_next before old (before ++ flat_map line_of (take (i + 1) fields) ++ behind) fields i field list more kept lt is n
          (subst (λ (w : List ℕ). AreFieldsPut before (take i fields) w list) (append-nil old) (so_far.put before [] reached))
          (subst (λ (w : List ℕ). IsFieldPut old field (w ++ behind) kept) (grown before)
          (here.put old behind (omega (arith, reached, so_far.ends, length-append before (flat_map line_of (take i fields))))));
    }
