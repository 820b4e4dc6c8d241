-- A head, read line by line for a view.
use Rattle.std.proofs.Common.{◌≡◌, ◌⊎◌, ℕ, Bool, true, false, List, [], ◌∷◌, ◌++◌, map, Option, Some, None, Result, Ok, Err, refl, sym, ap, subst, ◌∙◌, inl, inr, arith}
use Rattle.std.specs.Prelude.{option_map, MatchOption, MatchResult}
use Rattle.std.specs.Option.{option_and_then}
use Rattle.std.proofs.lemmas.List.{append-nil}
use denote.Ref.{Bor}
use Rattle.sip_text.specs.declared.span.Span.{Span}
use Rattle.sip_text.specs.Span.{part}
use Rattle.sip_text.specs.Lists.{cut}
use Rattle.sip_message_fields.specs.declared.field.Field.{Field}
use Rattle.sip_message_fields.specs.declared.field_name.FieldName.{FieldName}
use Rattle.sip_message_fields.specs.FieldName.{is_length, is_list}
use Rattle.sip_message_form.specs.declared.error.ReadError.{ReadError}
use Rattle.sip_message_form.specs.declared.error.ReadError.TheVariants.{NoMemory, NotSip, BadField}
use Rattle.sip_message.specs.declared.line.WholeLine.{WholeLine}
use Rattle.sip_message.specs.declared.filling.Filling.{Filling}
use Rattle.sip_message.specs.declared.line_fault.LineFault.{LineFault}
use Rattle.sip_message.specs.declared.line_fault.LineFault.TheVariants as Fault
use Rattle.sip_message.specs.Lines.{unfolded, is_fold, line_at, head_at}
use Rattle.sip_message.specs.Line.{line_bytes}
use Rattle.sip_message.specs.Field.{field_of, entries_of, pieces, kept}
use Rattle.sip_message.specs.Body.{lengths, one_length}
use Rattle.sip_message.specs.HeadContent.{before, next_length, length_behind, field_taken, IsFault, IsWhole, IsLineRefused}
use Rattle.sip_message.specs.Filled.{item_of, filled_seen, IsFieldFilled, IsLineFilled}
use Rattle.sip_message.specs.Named.{IsNamed}
use Rattle.sip_message.specs.Reading.{head_said}
use Rattle.sip_message.proofs.Rows.{is_empty}
use Rattle.sip_message.proofs.Wholes.{lines_end, no_lines, without_folds, cut_length}
use Rattle.sip_message.proofs.Keeps.{kept_list}
use Rattle.sip_message.proofs.Behind.{entries_more, one_more, kept_more}
use Rattle.sip_message.proofs.HeadLines.{head_first, before_before, before_none, without_end, refused_line}

-- ---- one field

abbrev field_with : FieldName → List ℕ → Field
field_with name value = record { name = name; value = value }

pub field_same : (n m : FieldName) (v w : List ℕ) → n ≡ m → v ≡ w → Some (field_with n v) ≡ Some (field_with m w)
field_same n m v w names values = ap (λ (x : FieldName). Some (field_with x v)) names ∙ ap (λ (x : List ℕ). Some (field_with m x)) values

length_filled : (old new : Filling) (field : Field) → is_length field.name ≡ true → new.fields ≡ old.fields → next_length old.length field.value ≡ Some new.length
    → IsFieldFilled old field new
length_filled old new field is same next =
    let none : pieces field ≡ Some [] = rw is refl in record {
      kept = ap (λ (o : Option (List Field)). option_map (λ items. old.fields ++ items) o) none ∙ ap (λ (w : List Field). Some w) (append-nil old.fields ∙ sym same);
      next = rw is next;
    }

pub one_filled : (old new : Filling) (field : Field) → is_length field.name ≡ false → (is_list field.name ≡ true → cut field.value ≡ Some (field.value ∷ []))
    → new.length ≡ old.length → new.fields ≡ old.fields ++ field ∷ [] → IsFieldFilled old field new
one_filled old new field not_length item same more = by_list (is_list field.name) refl
  where
    made : pieces field ≡ Some (field ∷ []) → IsFieldFilled old field new
    made one = record {
      kept = ap (λ (o : Option (List Field)). option_map (λ items. old.fields ++ items) o) one ∙ ap (λ (w : List Field). Some w) (sym more);
      next = rw not_length (ap (λ (n : Option ℕ). Some n) (sym same));
    }

    by_list : (t : Bool) → is_list field.name ≡ t → IsFieldFilled old field new
    by_list false is = made (rw (not_length, is) refl)
    by_list true is =
        let one : cut field.value ≡ Some (field.value ∷ []) = item is in
        made (rw (not_length, is, one) refl)

pub items_filled : (old new : Filling) (field : Field) (spans : List Span) → is_length field.name ≡ false → is_list field.name ≡ true
    → cut field.value ≡ Some (map (part field.value) spans) → new.length ≡ old.length
    → new.fields ≡ old.fields ++ map (item_of field.name field.value) spans → IsFieldFilled old field new
items_filled old new field spans not_length listed is_cut same more = record {
  kept = kept_list old.fields new.fields field spans not_length listed is_cut more;
  next = rw not_length (ap (λ (n : Option ℕ). Some n) (sym same));
}

pub items_refused : (n : Option ℕ) (field : Field) (e : LineFault) → is_length field.name ≡ false → is_list field.name ≡ true → IsFault e (cut field.value)
    → IsFault e (field_taken n field)
items_refused n field e not_length listed (inl none) = inl none
items_refused n field e not_length listed (inr none) = inr (rw (not_length, listed, none) refl)

length_refused : (n : Option ℕ) (field : Field) → is_length field.name ≡ true → next_length n field.value ≡ None → field_taken n field ≡ None
length_refused n field is none =
    let here : length_behind n field ≡ None = rw is none in
    ap (λ (o : Option (Option ℕ)). option_and_then (λ length. option_map {U = Option ℕ × List Field} (λ items. (length, items)) (pieces field)) o) here

pub length_either : {A : Type 0} (r : Result A LineFault) (old new : Filling) (field : Field) → is_length field.name ≡ true → new.fields ≡ old.fields
    → MatchResult r (λ _. next_length old.length field.value ≡ Some new.length) (λ _. next_length old.length field.value ≡ None)
    → MatchResult r (λ _. IsFieldFilled old field new) (λ e. IsFault e (field_taken old.length field))
length_either (Ok x) old new field is same next = length_filled old new field is same next
length_either (Err e) old new field is same none = inr (length_refused old.length field is none)

pub taken_same : (r : Result Unit LineFault) (old new : Filling) (n m : FieldName) (v w : List ℕ) → n ≡ m → v ≡ w
    → MatchResult r (λ _. IsFieldFilled old (field_with n v) new) (λ e. IsFault e (field_taken old.length (field_with n v)))
    → MatchResult r (λ _. IsFieldFilled old (field_with m w) new) (λ e. IsFault e (field_taken old.length (field_with m w)))
taken_same r old new n m v w names values is =
    subst (λ (x : List ℕ). MatchResult r (λ _. IsFieldFilled old (field_with m x) new) (λ e. IsFault e (field_taken old.length (field_with m x)))) values
    (subst (λ (x : FieldName). MatchResult r (λ _. IsFieldFilled old (field_with x v) new) (λ e. IsFault e (field_taken old.length (field_with x v)))) names is)

-- ---- one line

pub line_taken : (old new : Filling) (line after : Bor (List ℕ)) (field : Field) → is_fold after.now ≡ false → field_of line.now ≡ Some field
    → IsFieldFilled old field new → IsLineFilled old line.now after.now new after.now
line_taken old new line after field is says one =
    record { whole = line.now; field = field; bytes = (without_folds line after is).bytes; says = says; taken = one; shorter = omega arith }

pub folded_taken : (old new : Filling) (line after rest : Bor (List ℕ)) (whole : WholeLine) (field : Field) → IsWhole line after whole rest
    → field_of (line_bytes whole) ≡ Some field → IsFieldFilled old field new
    → IsLineFilled old line.now after.now new rest.now
folded_taken old new line after rest whole field is says one =
    record { whole = line_bytes whole; field = field; bytes = is.bytes; says = says; taken = one; shorter = cut_length after rest is.cut }

-- ---- the lines that were read, and what the rest gives

pub record IsFilledSoFar (head : List ℕ) (filling : Filling) (rest : List ℕ) : Type 0 where
  pub lines : List (List ℕ)
  pub entries : List Field
  pub heads : head_at head ≡ before lines (head_at rest)
  pub said : entries_of lines ≡ Some entries
  pub one : one_length (lengths entries) ≡ Some filling.length
  pub kept : kept entries ≡ Some filling.fields

pub none_filled : (head : List ℕ) (filling : Filling) → filling.fields ≡ [] → filling.length ≡ None → IsFilledSoFar head filling head
none_filled head filling none no_length = record {
  lines = [];
  entries = [];
  heads = sym (before_none (head_at head));
  said = refl;
  one = ap (λ (n : Option ℕ). Some n) (sym no_length);
  kept = ap (λ (w : List Field). Some w) (sym none);
}

pub line_filled : (head rest line after next : List ℕ) (old new : Filling) → IsFilledSoFar head old rest → Some (line, after) ≡ line_at rest → is_empty line ≡ false
    → IsLineFilled old line after new next → IsFilledSoFar head new next
line_filled head rest line after next old new s is full t = record {
  lines = s.lines ++ t.whole ∷ [];
  entries = s.entries ++ t.field ∷ [];
  heads = s.heads ∙ ap (before s.lines) (head_first rest line after is full ∙ t.bytes) ∙ before_before s.lines (t.whole ∷ []) (head_at next);
  said = entries_more s.lines s.entries t.whole t.field s.said t.says;
  one = one_more s.entries t.field old.length new.length s.one t.taken.next;
  kept = kept_more s.entries old.fields new.fields t.field s.kept t.taken.kept;
}

-- a line with a name has a byte
pub named_full : (line name value : List ℕ) → IsNamed line name value → is_empty line ≡ false
named_full line [] value is = ap is_empty is.whole
named_full line (b ∷ name) value is = ap is_empty is.whole

-- ---- the end of a head

pub all_filled : (head rest line : List ℕ) (after : Bor (List ℕ)) (filling : Filling) → IsFilledSoFar head filling rest → Some (line, after.now) ≡ line_at rest
    → is_empty line ≡ true → head_said head ≡ Ok (filled_seen (filling, after))
unfolding head_said
all_filled head rest line after filling s is none =
    let lines : head_at head ≡ Some (s.lines, after.now) =
    s.heads ∙ ap (λ o. before s.lines (option_map (λ x. (unfolded x.0, x.1)) o)) (lines_end rest line after.now is none)
    ∙ ap (λ (w : List (List ℕ)). Some (w, after.now)) (append-nil s.lines) in
    rw (lines, s.said, s.one, s.kept) refl

pub never_filled : (head rest : List ℕ) (filling : Filling) → IsFilledSoFar head filling rest → None ≡ line_at rest → head_said head ≡ Err NotSip
never_filled head rest filling s none = without_end head (s.heads ∙ ap (λ o. before s.lines (option_map (λ x. (unfolded x.0, x.1)) o)) (no_lines rest none))

pub not_filled : (head rest line after : List ℕ) (filling : Filling) (fault : LineFault) (e : ReadError) → IsFilledSoFar head filling rest
    → Some (line, after) ≡ line_at rest → is_empty line ≡ false
    → (fault ≡ Fault.NoMemory) ⊎ IsLineRefused filling.length line after → (fault ≡ Fault.NoMemory → e ≡ NoMemory)
    → (fault ≡ Fault.BadField → MatchOption (head_at after) (e ≡ NotSip) (λ x. e ≡ BadField)) → (e ≡ NoMemory) ⊎ (head_said head ≡ Err e)
not_filled head rest line after filling fault e s is full (inl none) memory bad = inl (memory none)
not_filled head rest line after filling Fault.NoMemory e s is full (inr r) memory bad = inl (memory refl)
not_filled head rest line after filling Fault.BadField e s is full (inr r) memory bad =
    inr (refused_line head rest line after s.lines s.entries filling.length e s.heads s.said s.one is full r (bad refl))
