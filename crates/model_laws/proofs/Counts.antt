-- What the text of a response with one field of a name has at least.
use Rattle.std.proofs.Common.{◌≡◌, ℕ, ◌+◌, ◌≤◌, Bool, true, false, cond, List, [], ◌∷◌, ◌++◌, codes, decimal, length, get_or, flat_map, ap, arith}
use Rattle.std.specs.Prelude.{count_by}
use Rattle.std.proofs.lemmas.List.Sums.{sum_by-append}
use Rattle.sip_message_fields.specs.declared.field.Field.{Field}
use Rattle.sip_message_fields.specs.declared.field_name.FieldName.{FieldName}
use Rattle.sip_message_fields.specs.FieldName.{is_same_name}
use Rattle.sip_message_fields.specs.Named.{all_named}
use Rattle.sip_message_form.specs.declared.message.Message.{Message}
use Rattle.sip_message_form.specs.Text.{start_text, field_text, text_of}

module _ (test : ℕ → Bool) where
  -- how many bytes of a text pass a test
  abbrev pub passing : List ℕ → ℕ
  passing text = count_by test text

  pub of_both : (xs ys : List ℕ) → passing (xs ++ ys) ≡ passing xs + passing ys
  of_both xs ys = sum_by-append (λ (b : ℕ). cond {A = ℕ} (test b) 1 0) xs ys

  -- the one field of a name is among the fields
  one_field : (name : FieldName) (fields : List Field) (w : Field) → all_named name fields ≡ w ∷ [] → passing (field_text w) ≤ passing (flat_map field_text fields)
  one_field name [] w e = absurd (cc)
  one_field name (f ∷ fields) w e =
      by_test (is_same_name f.name name) (of_both (field_text f) (flat_map field_text fields)) e (one_field name fields w) where
        by_test : (t : Bool) → passing (field_text f ++ flat_map field_text fields) ≡ passing (field_text f) + passing (flat_map field_text fields)
            → cond t (f ∷ all_named name fields) (all_named name fields) ≡ w ∷ []
            → (all_named name fields ≡ w ∷ [] → passing (field_text w) ≤ passing (flat_map field_text fields))
            → passing (field_text w) ≤ passing (field_text f ++ flat_map field_text fields)
        by_test true sum e later =
            let same : passing (field_text f) ≡ passing (field_text w) = ap (λ (fs : List Field). passing (field_text (get_or fs 0 f))) e in
            omega (arith, sum, same)
        by_test false sum e later = omega (arith, sum, later e)

  -- the text has what its start line has, and what the field has
  pub text_has : (m : Message) (name : FieldName) (w : Field) → all_named name m.fields ≡ w ∷ []
      → passing (start_text m.start) + passing (field_text w) ≤ passing (text_of m)
  text_has m name w e =
      let front : List ℕ = start_text m.start ++ codes "\r\n" in
      let fields : List ℕ = flat_map field_text m.fields in
      let size : List ℕ = codes "Content-Length: " in
      let number : List ℕ = decimal (length m.body) in
      let blank : List ℕ = codes "\r\n\r\n" in
      omega (
        arith,
        one_field name m.fields w e,
        of_both (start_text m.start) (codes "\r\n"),
        of_both front fields,
        of_both (front ++ fields) size,
        of_both (front ++ fields ++ size) number,
        of_both (front ++ fields ++ size ++ number) blank,
        of_both (front ++ fields ++ size ++ number ++ blank) m.body,
      )
