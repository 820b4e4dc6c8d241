-- A message whose written form stands in one store: first line, fields, body.
use Rattle.std.proofs.Common.{◌≡◌, ℕ, List, [], ◌++◌, length, Some, None, map, sym, ap, subst, ◌∙◌, append_assoc}
use Rattle.std.specs.Prelude.{codes, decimal}
use Rattle.std.specs.List.{flat_map}
use Rattle.sip_message_fields.specs.text.declared.span.Span.{Span}
use Rattle.sip_message_fields.specs.text.Span.{part}
use Rattle.sip_message_fields.specs.declared.field.Field.{Field}
use Rattle.sip_message_fields.specs.declared.kept_field.KeptField.{KeptField}
use Rattle.sip_message_fields.specs.KeptField.{field_kept, IsPut, AreFieldsPut}
use Rattle.sip_message_fields.specs.Lines.{line_of, AreLinesAt}
use Rattle.sip_message_form.specs.declared.message.Start.{Start}
use Rattle.sip_message_form.specs.declared.message.Start.TheVariants.{Request, Status}
use Rattle.sip_message_form.specs.declared.message.Message.{Message}
use Rattle.sip_message_form.specs.declared.kept_start.KeptStart.{KeptStart}
use Rattle.sip_message_form.specs.KeptStart.{IsStartKept}
use Rattle.sip_message_form.specs.Kept.{message_kept, IsBodyKept, IsMessageStored}
use Rattle.sip_message_form.specs.Text.{start_text, text_of}
use Rattle.sip_message_form.proofs.Keeping.{same_parts, start_stays, whole}

pub request_put : (old one two new method uri version : List ℕ) (a b c : Span) → IsPut old method one a → IsPut one uri two b → IsPut two version new c
    → IsStartKept (Request method uri version) new (record { code = None; first = a; uri = b; version = c })
request_put old one two new method uri version a b c first second third = record {
  same = same_parts None (part new a) (part new b) (part new c) method uri version (third.keeps.bytes a (second.keeps.within a first.within)
      ∙ second.keeps.bytes a first.within ∙ first.bytes) (third.keeps.bytes b second.within ∙ second.bytes) third.bytes;
  within = record { first = third.keeps.within a (second.keeps.within a first.within); uri = third.keeps.within b second.within; version = third.within };
}

pub status_put : (old new reason : List ℕ) (code : ℕ) (a : Span) → IsPut old reason new a
    → IsStartKept (Status code reason) new (record { code = Some code; first = a; uri = a; version = a })
status_put old new reason code a is = record {
  same = ap (λ (w : List ℕ). Status code w) is.bytes;
  within = record { first = is.within; uri = is.within; version = is.within };
}

-- ---- the whole

abbrev rest : List ℕ → List ℕ
rest body = codes "Content-Length: " ++ decimal (length body) ++ codes "\r\n\r\n" ++ body

rest_is : (head body : List ℕ) → head ++ codes "Content-Length: " ++ decimal (length body) ++ codes "\r\n\r\n" ++ body ≡ head ++ rest body
rest_is head body =
    ap (λ (w : List ℕ). w ++ codes "\r\n\r\n" ++ body) (append_assoc head (codes "Content-Length: ") (decimal (length body)))
    ∙ ap (λ (w : List ℕ). w ++ body) (append_assoc head (codes "Content-Length: " ++ decimal (length body)) (codes "\r\n\r\n"))
    ∙ append_assoc head (codes "Content-Length: " ++ decimal (length body) ++ codes "\r\n\r\n") body

-- how the first line, the fields and what stands behind them were put into an empty store
pub record IsWritten (m : Message) (empty one two new : List ℕ) : Type 0 where
  pub none : empty ≡ []
  pub first : one ≡ empty ++ start_text m.start ++ codes "\r\n"
  pub fields : two ≡ one ++ flat_map line_of m.fields
  pub rest : new ≡ two ++ codes "Content-Length: " ++ decimal (length m.body) ++ codes "\r\n\r\n" ++ m.body

line_ends : (m : Message) (empty one two new : List ℕ) → IsWritten m empty one two new → length one ≡ length (start_text m.start ++ codes "\r\n")
line_ends m empty one two new written = ap length (written.first ∙ ap (λ (w : List ℕ). w ++ start_text m.start ++ codes "\r\n") written.none)

fields_put : (m : Message) (empty one two new : List ℕ) (list : List KeptField) (start end : ℕ) → IsWritten m empty one two new
    → start ≡ length (start_text m.start ++ codes "\r\n") → AreLinesAt start m.fields list end → AreFieldsPut one m.fields new list
fields_put m empty one two new list start end written begins lines =
    subst (λ (w : List ℕ). AreFieldsPut one m.fields w list) (ap (λ (w : List ℕ). w ++ rest m.body) (sym written.fields) ∙ sym (rest_is two m.body) ∙ sym written.rest)
    (lines.put one (rest m.body) (line_ends m empty one two new written ∙ sym begins))

pub kept_is : (m : Message) (empty one two new : List ℕ) (kept : KeptStart) (list : List KeptField) (start end : ℕ) (body : Span) → IsWritten m empty one two new
    → IsStartKept m.start one kept → start ≡ length (start_text m.start ++ codes "\r\n") → AreLinesAt start m.fields list end → IsBodyKept m.body new body
    → message_kept new kept list body ≡ m
kept_is m empty one two new kept list start end body written s begins lines b =
    let f : AreFieldsPut one m.fields new list = fields_put m empty one two new list start end written begins lines in
    ap (λ (w : Start). whole w (map (field_kept new) list) (part new body)) (start_stays one new kept f.keeps s.within ∙ s.same)
    ∙ ap (λ (w : List Field). whole m.start w (part new body)) f.same
    ∙ ap (λ (w : List ℕ). whole m.start m.fields w) b.bytes

text_is : (m : Message) (empty one two new : List ℕ) → IsWritten m empty one two new → new ≡ text_of m
text_is m empty one two new written =
    written.rest
    ∙ ap (λ (w : List ℕ). w ++ codes "Content-Length: " ++ decimal (length m.body) ++ codes "\r\n\r\n" ++ m.body)
    (written.fields ∙ ap (λ (w : List ℕ). w ++ flat_map line_of m.fields) (written.first ∙ ap (λ (w : List ℕ). w ++ start_text m.start ++ codes "\r\n") written.none))

pub kept_within : (m : Message) (empty one two new : List ℕ) (kept : KeptStart) (list : List KeptField) (start end : ℕ) (body : Span) → IsWritten m empty one two new
    → IsStartKept m.start one kept → start ≡ length (start_text m.start ++ codes "\r\n") → AreLinesAt start m.fields list end → IsBodyKept m.body new body
    → IsMessageStored new kept list body
kept_within m empty one two new kept list start end body written s begins lines b =
    let f : AreFieldsPut one m.fields new list = fields_put m empty one two new list start end written begins lines in record {
      start_within = record {
        first = f.keeps.within kept.first s.within.first;
        uri = f.keeps.within kept.uri s.within.uri;
        version = f.keeps.within kept.version s.within.version;
      };
      fields_within = f.within;
      body_within = b.within;
      text = text_is m empty one two new written ∙ ap text_of (sym (kept_is m empty one two new kept list start end body written s begins lines b));
    }
