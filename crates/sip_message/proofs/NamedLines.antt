-- A line at whose front a `:` follows a name at once.
use Rattle.std.proofs.Common.{◌≡◌, ◌⊎◌, ℕ, ◌+◌, ◌<◌, ◌≤◌, true, List, ◌∷◌, ◌++◌, length, take, drop, get_or, Some, refl, sym, ap, ◌∙◌, arith, inl, inr, append_assoc}
use Rattle.std.proofs.Common.{length-append}
use Rattle.std.specs.Prelude.{◌&&◌, [], codes}
use Rattle.std.specs.Str.{bytes_eq}
use Rattle.std.specs.Cmp.Lexicographic.{bytes_decides}
use Rattle.sip_message_fields.specs.declared.field_name.FieldName.{FieldName}
use Rattle.sip_message_fields.specs.FieldName.{spelling, name_of}
use Rattle.sip_message_fields.specs.Lines.{line_of}
use Rattle.std.specs.List.{list_all}
use Rattle.std.proofs.lemmas.Bool.{agree_below_at}
use Rattle.std.proofs.lemmas.Bool.Decides.{nat_tests}
use Rattle.std.proofs.lemmas.List.{length-take-le, length-drop}
use Rattle.std.proofs.Math.Seq.{take-append_seam}
use Rattle.sip_text.specs.Words.{is_token_byte}
use Rattle.sip_text_runs.specs.TextRun.{is_text}
use Rattle.sip_message.specs.Lines.{line_at}
use Rattle.sip_message.specs.Named.{IsNamed}
use Rattle.sip_message.proofs.Names.{named}
use Rattle.sip_message.proofs.FieldsAgain.{and_both, all_join, all_weaker}
use Rattle.sip_message.proofs.TextRuns.{text_line}

-- a byte of a token may stand in a value
token_text : (b : ℕ) → is_token_byte b ≡ true → is_text b ≡ true
token_text b e = by_order (order b)
  where
    order : (b : ℕ) → (b < 128) ⊎ (128 ≤ b)
    order b = grind arith

    low : b < 128 → is_text b ≡ true
    low lt = (and_both (is_token_byte b) (is_text b) (agree_below_at (λ c. is_token_byte c && is_text c) is_token_byte 128 b refl lt ∙ e)).1

    by_order : (b < 128) ⊎ (128 ≤ b) → is_text b ≡ true
    by_order (inl lt) = low lt
    by_order (inr le) = grind (arith, nat_tests, le)

-- what stands before the CRLF is a name, a `:` and a value
pub named_line : (bytes behind line name value after : List ℕ) (at : ℕ) → 0 < at → at < length bytes → list_all is_token_byte (take at bytes) ≡ true
    → get_or bytes at 0 ≡ 58 → behind ≡ drop (at + 1) bytes
    → behind ≡ value ++ 13 ∷ 10 ∷ after → list_all is_text value ≡ true → line ≡ take (at + 1 + length value) bytes → name ≡ take at bytes
    → IsNamed line name value × (Some (line, after) ≡ line_at bytes)
named_line bytes behind line name value after at some fits token mark cut whole text first second =
    let is : IsNamed bytes name behind = named bytes name behind at some fits token mark second cut in
    let all : bytes ≡ (name ++ 58 ∷ value) ++ 13 ∷ 10 ∷ after = is.whole ∙ ap (λ (w : List ℕ). name ++ 58 ∷ w) whole
    ∙ sym (append_assoc name (58 ∷ value) (13 ∷ 10 ∷ after)) in
    let long : at + 1 + length value ≡ length (name ++ 58 ∷ value) = omega (
      arith,
      length-append name (58 ∷ value),
      ap length second,
      length-take-le at bytes (omega (arith, fits)),
    ) in
    let here : line ≡ name ++ 58 ∷ value = first ∙ ap (λ (n : ℕ). take n bytes) long ∙ ap (take (length (name ++ 58 ∷ value))) all
    ∙ take-append_seam (name ++ 58 ∷ value) (13 ∷ 10 ∷ after) in
    let passes : list_all is_text (name ++ 58 ∷ value) ≡ true = all_join is_text name (58 ∷ value)
    (all_weaker is_token_byte is_text token_text name (ap (list_all is_token_byte) second ∙ token)) text in (
      record { whole = here; is_token = is.is_token },
      sym (ap line_at all ∙ text_line (name ++ 58 ∷ value) after passes
          ∙ ap (λ (w : List ℕ). Some (w, after)) (sym here)),
    )

pub value_fits : (bytes behind value after : List ℕ) (at : ℕ) → behind ≡ drop (at + 1) bytes → at < length bytes → behind ≡ value ++ 13 ∷ 10 ∷ after
    → at + 1 + length value ≤ length bytes
value_fits bytes behind value after at cut fits whole = omega (
  arith,
  ap length cut,
  length-drop (at + 1) bytes,
  ap length whole,
  length-append value (13 ∷ 10 ∷ after),
  fits,
)

pub text_fits : (bytes behind value after : List ℕ) (at : ℕ) → behind ≡ drop (at + 1) bytes → at < length bytes → behind ≡ value ++ 13 ∷ 10 ∷ after
    → at + 3 + length value ≤ length bytes
text_fits bytes behind value after at cut fits whole = omega (
  arith,
  ap length cut,
  length-drop (at + 1) bytes,
  ap length whole,
  length-append value (13 ∷ 10 ∷ after),
  fits,
)

-- the line with its CRLF
pub whole_line : (bytes behind line name value after text : List ℕ) (at : ℕ) → at < length bytes → IsNamed line name value → IsNamed bytes name behind
    → behind ≡ value ++ 13 ∷ 10 ∷ after → name ≡ take at bytes → text ≡ take (at + 3 + length value) bytes
    → text ≡ line ++ 13 ∷ 10 ∷ []
whole_line bytes behind line name value after text at fits here is whole second third =
    let all : bytes ≡ (name ++ 58 ∷ value) ++ 13 ∷ 10 ∷ after = is.whole ∙ ap (λ (w : List ℕ). name ++ 58 ∷ w) whole
    ∙ sym (append_assoc name (58 ∷ value) (13 ∷ 10 ∷ after)) in
    let grouped : bytes ≡ (line ++ 13 ∷ 10 ∷ []) ++ after = all ∙ ap (λ (w : List ℕ). w ++ 13 ∷ 10 ∷ after) (sym here.whole)
    ∙ sym (append_assoc line (13 ∷ 10 ∷ []) after) in
    let long : at + 3 + length value ≡ length (line ++ 13 ∷ 10 ∷ []) = omega (
      arith,
      length-append line (13 ∷ 10 ∷ []),
      ap length here.whole,
      length-append name (58 ∷ value),
      ap length second,
      length-take-le at bytes (omega (arith, fits)),
    ) in
    third ∙ ap (λ (n : ℕ). take n bytes) long ∙ ap (take (length (line ++ 13 ∷ 10 ∷ []))) grouped ∙ take-append_seam (line ++ 13 ∷ 10 ∷ []) after

-- a line whose name is in full, and whose value stands behind one space, is the line of its field
pub field_line : (text line name raw value : List ℕ) (named : FieldName) → IsNamed line name raw → text ≡ line ++ 13 ∷ 10 ∷ [] → raw ≡ 32 ∷ value → named ≡ name_of name
    → bytes_eq name (spelling (name_of name)) ≡ true
    → text ≡ line_of (record { name = named; value = value })
field_line text line name raw value named is whole space same full =
    let spelled : name ≡ spelling named = (bytes_decides name (spelling (name_of name))).0 full ∙ ap spelling (sym same) in
    let front : line ≡ spelling named ++ codes ": " ++ value =
    is.whole ∙ ap (λ (w : List ℕ). name ++ 58 ∷ w) space ∙ ap (λ (w : List ℕ). w ++ 58 ∷ 32 ∷ value) spelled ∙ sym (append_assoc (spelling named) (codes ": ") value) in
    whole ∙ ap (λ (w : List ℕ). w ++ 13 ∷ 10 ∷ []) front
