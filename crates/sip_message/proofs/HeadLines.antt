-- A head, read line by line.
use Rattle.std.proofs.Common.{◌≡◌, ◌⊎◌, ℕ, ◌+◌, Bool, true, false, List, [], ◌∷◌, ◌++◌, length, map, Option, Some, None, Ok, Err, refl, sym, ap, subst, ◌∙◌, append_assoc}
use Rattle.std.proofs.Common.{length-append, inl, inr}
use Rattle.std.specs.Prelude.{option_map, MatchOption}
use Rattle.std.specs.Option.{option_and_then, unwrap_or}
use Rattle.std.proofs.lemmas.List.{append-nil}
use denote.Ref.{Bor}
use Rattle.sip_message_fields.specs.declared.field.Field.{Field}
use Rattle.sip_message_form.specs.declared.error.ReadError.{ReadError}
use Rattle.sip_message_form.specs.declared.error.ReadError.TheVariants.{NoMemory, NotSip, BadField}
use Rattle.sip_message_fields.specs.Slice.{IsSliceOf, IsCutFrom, is_joined}
use Rattle.sip_message.specs.declared.content.Content.{Content}
use Rattle.sip_message.specs.declared.line_fault.LineFault.{LineFault}
use Rattle.sip_message.specs.declared.line_fault.LineFault.TheVariants as Fault
use Rattle.sip_message.specs.declared.part_field.PartField.{PartField}
use Rattle.sip_message.specs.Lines.{unfolded, folds_of, line_at, lines_at, head_at}
use Rattle.sip_message.specs.Line.{line_bytes, has_fold}
use Rattle.sip_message.specs.Field.{entries_of, pieces, kept}
use Rattle.sip_message.specs.Body.{lengths, one_length}
use Rattle.sip_message.specs.Parts.{field_seen, fields_seen, joined_values, folds_kept, AreSlicesOf}
use Rattle.sip_message.specs.HeadContent.{heads_on, flags_on, flags_at, before, flags_before, line_taken, content_seen, IsLineTaken, IsLineRefused, IsContentOf}
use Rattle.sip_message.specs.Reading.{head_said}
use Rattle.sip_message.proofs.Rows.{is_empty, line_first}
use Rattle.sip_message.proofs.Wholes.{itself, cut_again, lines_behind, lines_end, no_lines}
use Rattle.sip_message.proofs.Behind.{entries_more, one_more, kept_more, folds_more, bad_line}

-- ---- the first line of a head

heads_first : (line : List ℕ) (o : Option (List (List ℕ) × List ℕ)) → option_map {T = List (List ℕ) × List ℕ} {U = List (List ℕ) × List ℕ} (λ x. (unfolded x.0, x.1))
    (line_first line o) ≡ heads_on line o
heads_first line None = refl
heads_first line (Some x) = refl

flags_first : (line : List ℕ) (o : Option (List (List ℕ) × List ℕ)) → option_map (λ x. folds_of x.0) (line_first line o) ≡ flags_on false o
flags_first line None = refl
flags_first line (Some x) = refl

pub head_first : (rest line after : List ℕ) → Some (line, after) ≡ line_at rest → is_empty line ≡ false → head_at rest ≡ heads_on line (lines_at false after)
head_first rest line after is full = ap (λ o. option_map (λ x. (unfolded x.0, x.1)) o) (lines_behind rest line after is full) ∙ heads_first line (lines_at false after)

flag_first : (rest line after : List ℕ) → Some (line, after) ≡ line_at rest → is_empty line ≡ false → flags_at rest ≡ flags_on false (lines_at false after)
flag_first rest line after is full = ap (λ o. option_map (λ x. folds_of x.0) o) (lines_behind rest line after is full) ∙ flags_first line (lines_at false after)

pub before_before : (front lines : List (List ℕ)) (o : Option (List (List ℕ) × List ℕ)) → before front (before lines o) ≡ before (front ++ lines) o
before_before front lines None = refl
before_before front lines (Some x) = ap (λ (w : List (List ℕ)). Some (w, x.1)) (sym (append_assoc front lines x.0))

flags_again : (front flags : List Bool) (o : Option (List Bool)) → flags_before front (flags_before flags o) ≡ flags_before (front ++ flags) o
flags_again front flags None = refl
flags_again front flags (Some x) = ap (λ (w : List Bool). Some w) (sym (append_assoc front flags x))

pub before_none : (o : Option (List (List ℕ) × List ℕ)) → before [] o ≡ o
before_none None = refl
before_none (Some x) = refl

flags_none : (o : Option (List Bool)) → flags_before [] o ≡ o
flags_none None = refl
flags_none (Some x) = refl

-- ---- the lines that were read, and what the rest gives

pub record IsReadSoFar (head : Bor (List ℕ)) (content : Content) (rest : Bor (List ℕ)) : Type 0 where
  pub lines : List (List ℕ)
  pub flags : List Bool
  pub entries : List Field
  pub heads : head_at head.now ≡ before lines (head_at rest.now)
  pub folds : flags_at head.now ≡ flags_before flags (flags_at rest.now)
  pub even : length flags ≡ length entries
  pub said : entries_of lines ≡ Some entries
  pub one : one_length (lengths entries) ≡ Some content.length
  pub kept : kept entries ≡ Some (fields_seen content.fields.items)
  pub joined : folds_kept entries flags ≡ joined_values content.fields.items
  pub slices : (source : Bor (List ℕ)) → IsSliceOf source head → AreSlicesOf source content.fields.items
  pub cut : IsCutFrom head rest

pub none_read : (head : Bor (List ℕ)) (content : Content) → content.fields.items ≡ [] → content.length ≡ None → IsReadSoFar head content head
none_read head content none no_length = record {
  lines = [];
  flags = [];
  entries = [];
  heads = sym (before_none (head_at head.now));
  folds = sym (flags_none (flags_at head.now));
  even = refl;
  said = refl;
  one = ap (λ (n : Option ℕ). Some n) (sym no_length);
  kept = ap (λ (w : List PartField). Some (fields_seen w)) (sym none);
  joined = ap (λ (w : List PartField). joined_values w) (sym none);
  slices = λ source is. subst (λ (w : List PartField). AreSlicesOf source w) (sym none) tt;
  cut = itself head;
}

longer : {A B : Type 0} (xs : List A) (ys : List B) (x : A) (y : B) → length xs ≡ length ys → length (xs ++ x ∷ []) ≡ length (ys ++ y ∷ [])
longer xs ys x y e = length-append xs (x ∷ []) ∙ ap (λ (n : ℕ). n + 1) e ∙ sym (length-append ys (y ∷ []))

pub line_read : (head rest line after next : Bor (List ℕ)) (old new : Content) → IsReadSoFar head old rest → Some (line.now, after.now) ≡ line_at rest.now
    → is_empty line.now ≡ false → IsCutFrom rest line → IsCutFrom rest after
    → IsLineTaken old line after new next → IsReadSoFar head new next
line_read head rest line after next old new s is full line_cut after_cut t =
    let whole : List ℕ = line_bytes t.whole in
    let flag : Bool = has_fold t.whole in
    let field : Field = field_seen t.field in
    let same : is_joined t.field.value ≡ flag = t.stands.joined in record {
      lines = s.lines ++ whole ∷ [];
      flags = s.flags ++ flag ∷ [];
      entries = s.entries ++ field ∷ [];
      heads = s.heads ∙ ap (before s.lines) (head_first rest.now line.now after.now is full ∙ t.is_whole.bytes) ∙ before_before s.lines (whole ∷ []) (head_at next.now);
      folds = s.folds ∙ ap (flags_before s.flags) (flag_first rest.now line.now after.now is full ∙ t.is_whole.folds)
          ∙ flags_again s.flags (flag ∷ []) (flags_at next.now);
      even = longer s.flags s.entries flag field s.even;
      said = entries_more s.lines s.entries whole field s.said t.says;
      one = one_more s.entries field old.length new.length s.one t.taken.length;
      kept = kept_more s.entries (fields_seen old.fields.items) (fields_seen new.fields.items) field s.kept t.taken.kept.seen;
      joined = folds_more s.entries s.flags field flag s.even ∙ ap (λ (w : List Bool). w ++ map (λ (item : Field). flag) (unwrap_or (pieces field) [])) s.joined
          ∙ ap (λ (w : Bool). joined_values old.fields.items ++ map (λ (item : Field). w) (unwrap_or (pieces field) [])) (sym same) ∙ sym t.taken.kept.folds;
      slices = λ source of. t.taken.kept.slices source (t.stands.slice source (t.is_whole.slice source (line_cut.of_whole source (s.cut.of_whole source of))))
          (s.slices source of);
      cut = cut_again head after next (cut_again head rest after s.cut after_cut) t.is_whole.cut;
    }

-- ---- the end of a head

all_lines : (head rest line after : Bor (List ℕ)) (content : Content) (s : IsReadSoFar head content rest) → Some (line.now, after.now) ≡ line_at rest.now
    → is_empty line.now ≡ true → head_at head.now ≡ Some (s.lines, after.now)
all_lines head rest line after content s is none =
    s.heads ∙ ap (λ o. before s.lines (option_map (λ x. (unfolded x.0, x.1)) o)) (lines_end rest.now line.now after.now is none)
    ∙ ap (λ (w : List (List ℕ)). Some (w, after.now)) (append-nil s.lines)

all_flags : (head rest line after : Bor (List ℕ)) (content : Content) (s : IsReadSoFar head content rest) → Some (line.now, after.now) ≡ line_at rest.now
    → is_empty line.now ≡ true → flags_at head.now ≡ Some s.flags
all_flags head rest line after content s is none =
    s.folds ∙ ap (λ o. flags_before s.flags (option_map (λ x. folds_of x.0) o)) (lines_end rest.now line.now after.now is none)
    ∙ ap (λ (w : List Bool). Some w) (append-nil s.flags)

pub all_said : (head rest line after : Bor (List ℕ)) (content : Content) → IsReadSoFar head content rest → Some (line.now, after.now) ≡ line_at rest.now
    → is_empty line.now ≡ true → head_said head.now ≡ Ok (content_seen (content, after))
unfolding head_said
all_said head rest line after content s is none = rw (all_lines head rest line after content s is none, s.said, s.one, s.kept) refl

same_first : (x y : List (List ℕ) × List ℕ) → Some x ≡ Some y → x.0 ≡ y.0
same_first x y e =
    let both : x ≡ y = cc in
    ap (λ (p : List (List ℕ) × List ℕ). p.0) both

-- the folds of a head, by the lines that it has
by_lines : (o : Option (List (List ℕ) × List ℕ)) (bytes : List (List ℕ)) (rest : List ℕ) (flags : List Bool)
    → option_map {T = List (List ℕ) × List ℕ} {U = List (List ℕ) × List ℕ} (λ x. (unfolded x.0, x.1)) o ≡ Some (bytes, rest)
    → option_map (λ x. folds_of x.0) o ≡ Some flags
    → option_and_then (λ lines. option_map (λ entries. folds_kept entries (folds_of lines.0)) (entries_of (unfolded lines.0))) o
    ≡ option_map (λ entries. folds_kept entries flags) (entries_of bytes)
by_lines None bytes rest flags e f = absurd cc
by_lines (Some x) bytes rest flags e f =
    let first : unfolded x.0 ≡ bytes = same_first (unfolded x.0, x.1) (bytes, rest) e in
    let second : folds_of x.0 ≡ flags = cc in
    ap (λ (w : List (List ℕ)). option_map (λ entries. folds_kept entries (folds_of x.0)) (entries_of w)) first
    ∙ ap (λ (w : List Bool). option_map (λ entries. folds_kept entries w) (entries_of bytes)) second

pub all_cut : (head rest line after : Bor (List ℕ)) (content : Content) → IsReadSoFar head content rest → Some (line.now, after.now) ≡ line_at rest.now
    → is_empty line.now ≡ true → IsCutFrom rest after → IsContentOf head content after
all_cut head rest line after content s is none after_cut = record {
  folds = by_lines (lines_at false head.now) s.lines after.now s.flags (all_lines head rest line after content s is none)
      (all_flags head rest line after content s is none)
      ∙ ap (λ (o : Option (List Field)). option_map (λ entries. folds_kept entries s.flags) o) s.said ∙ ap (λ (w : List Bool). Some w) s.joined;
  slices = s.slices;
  follows = cut_again head rest after s.cut after_cut;
}

-- ---- what is refused

pub without_end : (bytes : List ℕ) → head_at bytes ≡ None → head_said bytes ≡ Err NotSip
unfolding head_said
without_end bytes none = rw none refl

pub no_end : (head rest : Bor (List ℕ)) (content : Content) → IsReadSoFar head content rest → None ≡ line_at rest.now → head_said head.now ≡ Err NotSip
no_end head rest content s none = without_end head.now (s.heads ∙ ap (λ o. before s.lines (option_map (λ x. (unfolded x.0, x.1)) o)) (no_lines rest.now none))

-- a head of which a line is refused
bad_head : (head : List ℕ) (lines more : List (List ℕ)) (entries : List Field) (line rest : List ℕ) (n : Option ℕ) → head_at head ≡ Some (lines ++ line ∷ more, rest)
    → entries_of lines ≡ Some entries → one_length (lengths entries) ≡ Some n → line_taken n line ≡ None
    → head_said head ≡ Err BadField
unfolding head_said
bad_head head lines more entries line rest n is said one none = rw is (bad_line lines more entries line n rest said one none)

pub refused_line : (head rest line after : List ℕ) (lines : List (List ℕ)) (entries : List Field) (n : Option ℕ) (e : ReadError)
    → head_at head ≡ before lines (head_at rest) → entries_of lines ≡ Some entries → one_length (lengths entries) ≡ Some n
    → Some (line, after) ≡ line_at rest → is_empty line ≡ false → IsLineRefused n line after → MatchOption (head_at after) (e ≡ NotSip) (λ x. e ≡ BadField)
    → head_said head ≡ Err e
refused_line head rest line after lines entries n e so_far said one is full r told = by_end (lines_at false after) refl told
  where
    heads : head_at rest ≡ before (r.whole ∷ []) r.more
    heads = head_first rest line after is full ∙ r.bytes

    by_more : (o : Option (List (List ℕ) × List ℕ)) (x : List (List ℕ) × List ℕ) → r.more ≡ o → lines_at false after ≡ Some x → e ≡ BadField → head_said head ≡ Err e
    by_more None x so here bad =
        let no : heads_on line (Some x) ≡ before (r.whole ∷ []) None = ap (heads_on line) (sym here) ∙ r.bytes ∙ ap (before (r.whole ∷ [])) so in
        absurd cc
    by_more (Some y) x so here bad =
        let all : head_at head ≡ Some (lines ++ r.whole ∷ y.0, y.1) = so_far ∙ ap (before lines) (heads ∙ ap (before (r.whole ∷ [])) so) in
        bad_head head lines y.0 entries r.whole y.1 n all said one r.none ∙ ap (λ (w : ReadError). Err w) (sym bad)

    by_end : (o : Option (List (List ℕ) × List ℕ)) → lines_at false after ≡ o → MatchOption
        (option_map {T = List (List ℕ) × List ℕ} {U = List (List ℕ) × List ℕ} (λ x. (unfolded x.0, x.1)) o) (e ≡ NotSip) (λ x. e ≡ BadField) → head_said head ≡ Err e
    by_end None here why =
        without_end head (so_far ∙ ap (before lines) (head_first rest line after is full ∙ ap (heads_on line) here)) ∙ ap (λ (w : ReadError). Err w) (sym why)
    by_end (Some x) here why = by_more r.more x refl here why

pub refusal : (head rest : Bor (List ℕ)) (line after : List ℕ) (content : Content) (fault : LineFault) (e : ReadError) → IsReadSoFar head content rest
    → Some (line, after) ≡ line_at rest.now → is_empty line ≡ false
    → (fault ≡ Fault.NoMemory) ⊎ IsLineRefused content.length line after → (fault ≡ Fault.NoMemory → e ≡ NoMemory)
    → (fault ≡ Fault.BadField → MatchOption (head_at after) (e ≡ NotSip) (λ x. e ≡ BadField)) → (e ≡ NoMemory) ⊎ (head_said head.now ≡ Err e)
refusal head rest line after content fault e s is full (inl none) memory bad = inl (memory none)
refusal head rest line after content Fault.NoMemory e s is full (inr r) memory bad = inl (memory refl)
refusal head rest line after content Fault.BadField e s is full (inr r) memory bad = inr
    (refused_line head.now rest.now line after s.lines s.entries content.length e s.heads s.said s.one is full r (bad refl))
