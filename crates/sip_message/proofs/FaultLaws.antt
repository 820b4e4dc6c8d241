-- Which refusal comes when.
use Rattle.std.proofs.Common.{◌≡◌, ℕ, ◌≤◌, Bool, true, false, cond, List, ◌∷◌, ◌++◌, length, Option, Some, None, Result, Ok, Err, refl, sym, ap, ◌∙◌, inl, inr}
use Rattle.std.specs.Prelude.{option_map, nat_lt, ◌↔◌, ◌⊎◌}
use Rattle.std.specs.Option.{ok_or}
use Rattle.std.specs.Result.{result_err}
use Rattle.std.proofs.lemmas.Bool.{le-ltb}
use Rattle.sip_message_form.specs.declared.error.ReadError.{ReadError}
use Rattle.sip_message_form.specs.declared.error.ReadError.TheVariants.{NotSip, BadField, TooManyFields, TooLong, ShortBody}
use Rattle.sip_message_fields.specs.declared.field.Field.{Field}
use Rattle.sip_message_form.specs.declared.message.Start.{Start}
use Rattle.sip_message_form.specs.declared.message.Message.{Message}
use Rattle.sip_message.specs.Lines.{after_blanks, line_at, lines_at, unfolded, as_lines, head_at}
use Rattle.sip_message.specs.Start.{start_of}
use Rattle.sip_message.specs.Field.{entries_of, kept}
use Rattle.sip_message.specs.Body.{lengths, one_length, is_short}
use Rattle.sip_message_form.specs.Text.{text_of}
use Rattle.sip_message.specs.Says.{IsHead, IsContent}
use Rattle.sip_message.specs.Reading.{◌>>=◌, with_body, limited, message_from, datagram_of, reading_of, fault_of}
use Rattle.sip_message.proofs.CutLaws.{cut_is, cut_first, lines_again}
use Rattle.sip_message.proofs.FieldLaws.{entries_zip, zip_entries}
use Rattle.sip_message.proofs.StartLaws.{start_is, start_found}
use Rattle.sip_message.proofs.SaysLaws.{first_some}

fault_is : {A : Type 0} (r : Result A ReadError) (e : ReadError) → result_err r ≡ Some e → r ≡ Err e
fault_is (Ok x) e f = absurd cc
fault_is (Err d) e f = ap (λ w. Err w) cc

refused : {A B : Type 0} (o : Option A) (d : ReadError) (f : A → Result B ReadError) → o ≡ None → (ok_or o d >>= f) ≡ Err d
refused o d f none = rw none refl

-- ---- no head

pub head_reads : (bytes : List ℕ) (start : Start) (lines : List (List ℕ)) (rest : List ℕ) → length bytes ≤ 65507 → IsHead bytes start lines rest
    → reading_of bytes ≡ message_from start (unfolded lines) rest
unfolding reading_of datagram_of
head_reads bytes start lines rest fits h =
    let first = cut_first bytes h.first lines rest h.is_cut in
    let head : head_at (as_lines lines ++ 13 ∷ 10 ∷ rest) ≡ Some (unfolded lines, rest) =
    ap (option_map (λ x. (unfolded x.0, x.1))) (lines_again lines rest h.is_cut.are_lines) in
    let few : nat_lt 65507 (length bytes) ≡ false = le-ltb 65507 (length bytes) fits in
    rw (few, first, start_found h.first start h.is_start, head) refl

record Headed (bytes : List ℕ) : Type 0 where
  start : Start
  lines : List (List ℕ)
  rest : List ℕ
  is_head : IsHead bytes start lines rest

headed_by : (bytes : List ℕ) (x : List ℕ × List ℕ) (s : Start) (o : Option (List (List ℕ) × List ℕ)) → line_at (after_blanks bytes) ≡ Some x → start_of x.0 ≡ Some s
    → lines_at false x.1 ≡ o
    → ((lines_at false x.1 ≡ None) ⊎ Headed bytes)
headed_by bytes x s None first start lines = inl lines
headed_by bytes x s (Some y) first start lines = inr (record {
  start = s;
  lines = y.0;
  rest = y.1;
  is_head = record {
    first = x.0;
    is_cut = cut_is bytes x.0 x.1 y.0 y.1 first (first_some s x.0 start) lines;
    is_start = start_is x.0 s start;
  };
})

head_or : (bytes : List ℕ) → (datagram_of bytes ≡ Err NotSip) ⊎ Headed bytes
unfolding datagram_of
head_or bytes = by_line (line_at (after_blanks bytes)) refl
  where
    by_lines : (x : List ℕ × List ℕ) (s : Start) → start_of x.0 ≡ Some s → (lines_at false x.1 ≡ None) ⊎ Headed bytes
        → ((ok_or (start_of x.0) NotSip >>= λ start. ok_or (head_at x.1) NotSip >>= λ head. message_from start head.0 head.1) ≡ Err NotSip) ⊎ Headed bytes
    by_lines x s start (inl none) = inl (rw (start, none) refl)
    by_lines x s start (inr head) = inr head

    by_start : (x : List ℕ × List ℕ) (o : Option Start) → line_at (after_blanks bytes) ≡ Some x → start_of x.0 ≡ o
        → ((ok_or (start_of x.0) NotSip >>= λ start. ok_or (head_at x.1) NotSip >>= λ head. message_from start head.0 head.1) ≡ Err NotSip) ⊎ Headed bytes
    by_start x None first start = inl (rw start refl)
    by_start x (Some s) first start = by_lines x s start (headed_by bytes x s (lines_at false x.1) first start refl)

    by_line : (o : Option (List ℕ × List ℕ)) → line_at (after_blanks bytes) ≡ o
        → ((ok_or o NotSip >>= λ first. ok_or (start_of first.0) NotSip >>= λ start. ok_or (head_at first.1) NotSip >>= λ head. message_from start head.0 head.1)
        ≡ Err NotSip) ⊎ Headed bytes
    by_line None first = inl refl
    by_line (Some x) first = by_start x (start_of x.0) first refl

later : {A : Type 0} (o : Option A) (f : A → Result Message ReadError) → ((x : A) → f x ≡ Err NotSip → ⊥) → (ok_or o BadField >>= f) ≡ Err NotSip → ⊥
later None f never e = cc
later (Some x) f never e = never x e

no_limit : (e : ReadError) → e ≡ NotSip ⊎ e ≡ BadField → (s t u : Bool) (m : Message)
    → cond s (Err TooManyFields) (cond t (Err TooLong) (cond u (Err (ShortBody m)) (Ok m))) ≡ Err e → ⊥
no_limit e (inl is) true t u m h = cc
no_limit e (inr is) true t u m h = cc
no_limit e (inl is) false true u m h = cc
no_limit e (inr is) false true u m h = cc
no_limit e (inl is) false false true m h = cc
no_limit e (inr is) false false true m h = cc
no_limit e is false false false m h = cc

not_limited : (e : ReadError) → e ≡ NotSip ⊎ e ≡ BadField → (short : Bool) (m : Message) → limited short m ≡ Err e → ⊥
not_limited e is short m h = no_limit e is (nat_lt 256 (length m.fields)) (nat_lt 49152 (length (text_of m))) short m h

has_head : (start : Start) (lines : List (List ℕ)) (rest : List ℕ) → message_from start lines rest ≡ Err NotSip → ⊥
unfolding message_from
has_head start lines rest e =
    later (entries_of lines) (λ entries. ok_or (one_length (lengths entries)) BadField >>= λ n. ok_or (kept entries) BadField >>=
    λ fields. limited (is_short n rest) (with_body start fields n rest))
    (λ entries. later (one_length (lengths entries)) (λ n. ok_or (kept entries) BadField >>= λ fields. limited (is_short n rest) (with_body start fields n rest))
    (λ n. later (kept entries) (λ fields. limited (is_short n rest) (with_body start fields n rest))
    (λ fields. not_limited NotSip (inl refl) (is_short n rest) (with_body start fields n rest))))
    e

no_datagram : (bytes : List ℕ) → length bytes ≤ 65507 → datagram_of bytes ≡ Err NotSip → reading_of bytes ≡ Err NotSip
unfolding reading_of
no_datagram bytes fits fault =
    let few : nat_lt 65507 (length bytes) ≡ false = le-ltb 65507 (length bytes) fits in
    rw few fault

pub not_sip : (bytes : List ℕ) → length bytes ≤ 65507 → (fault_of bytes ≡ Some NotSip) ↔ ((start : Start) (lines : List (List ℕ)) (rest : List ℕ)
    → ¬ IsHead bytes start lines rest)
not_sip bytes fits = (
  λ fault start lines rest head. has_head start (unfolded lines) rest (sym (head_reads bytes start lines rest fits head) ∙ fault_is (reading_of bytes) NotSip fault),
  λ none.
      elim (head_or bytes) [
        | inl fault ↦ ap result_err (no_datagram bytes fits fault)
        | inr h ↦ absurd (none h.start h.lines h.rest h.is_head)
      ],
)

-- ---- no content

content_reads : (start : Start) (lines : List (List ℕ)) (rest : List ℕ) (fields : List Field) (n : Option ℕ) → IsContent lines fields n
    → message_from start (unfolded lines) rest ≡ limited (is_short n rest) (with_body start fields n rest)
unfolding message_from
content_reads start lines rest fields n c = rw (zip_entries (unfolded lines) c.entries c.are_entries, c.is_length, c.are_kept) refl

record Filled (lines : List (List ℕ)) : Type 0 where
  fields : List Field
  length : Option ℕ
  is_content : IsContent lines fields length

content_or : (start : Start) (lines : List (List ℕ)) (rest : List ℕ) → (message_from start (unfolded lines) rest ≡ Err BadField) ⊎ Filled lines
unfolding message_from
content_or start lines rest = by_entries (entries_of (unfolded lines)) refl
  where
    by_fields : (entries : List Field) (n : Option ℕ) (o : Option (List Field)) → entries_of (unfolded lines) ≡ Some entries → one_length (lengths entries) ≡ Some n
        → kept entries ≡ o
        → ((ok_or o BadField >>= λ fields. limited (is_short n rest) (with_body start fields n rest)) ≡ Err BadField) ⊎ Filled lines
    by_fields entries n None e l k = inl refl
    by_fields entries n (Some fields) e l k = inr (record {
      fields = fields;
      length = n;
      is_content = record { entries = entries; are_entries = entries_zip (unfolded lines) entries e; are_kept = k; is_length = l };
    })

    by_length : (entries : List Field) (o : Option (Option ℕ)) → entries_of (unfolded lines) ≡ Some entries → one_length (lengths entries) ≡ o
        → ((ok_or o BadField >>= λ n. ok_or (kept entries) BadField >>= λ fields. limited (is_short n rest) (with_body start fields n rest)) ≡ Err BadField)
        ⊎ Filled lines
    by_length entries None e l = inl refl
    by_length entries (Some n) e l = by_fields entries n (kept entries) e l refl

    by_entries : (o : Option (List Field)) → entries_of (unfolded lines) ≡ o
        → ((ok_or o BadField >>= λ entries. ok_or (one_length (lengths entries)) BadField >>= λ n. ok_or (kept entries) BadField >>=
        λ fields. limited (is_short n rest) (with_body start fields n rest)) ≡ Err BadField) ⊎ Filled lines
    by_entries None e = inl refl
    by_entries (Some entries) e = by_length entries (one_length (lengths entries)) e refl

pub bad_field : (bytes : List ℕ) (start : Start) (lines : List (List ℕ)) (rest : List ℕ) → length bytes ≤ 65507 → IsHead bytes start lines rest
    → (fault_of bytes ≡ Some BadField) ↔ ((fields : List Field) (n : Option ℕ) → ¬ IsContent lines fields n)
bad_field bytes start lines rest fits head =
    let reads : reading_of bytes ≡ message_from start (unfolded lines) rest = head_reads bytes start lines rest fits head in (
      λ fault fields n content.
          not_limited BadField (inr refl) (is_short n rest) (with_body start fields n rest)
          (sym (content_reads start lines rest fields n content) ∙ sym reads ∙ fault_is (reading_of bytes) BadField fault),
      λ none.
          elim (content_or start lines rest) [
            | inl fault ↦ ap result_err (reads ∙ fault)
            | inr f ↦ absurd (none f.fields f.length f.is_content)
          ],
    )

-- ---- limits

pub limits : (bytes : List ℕ) (start : Start) (lines : List (List ℕ)) (rest : List ℕ) (fields : List Field) (n : Option ℕ) → length bytes ≤ 65507
    → IsHead bytes start lines rest → IsContent lines fields n
    → reading_of bytes ≡ limited (is_short n rest) (with_body start fields n rest)
limits bytes start lines rest fields n fits head content = head_reads bytes start lines rest fits head ∙ content_reads start lines rest fields n content
