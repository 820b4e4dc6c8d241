-- A message put into one store: first line, body, the lines of its fields.
use Rattle.std.proofs.Common.{◌≡◌, ℕ, List, [], ◌++◌, length, Option, Some, None, map, append-nil, sym, ap, subst, ◌∙◌}
use Rattle.std.specs.List.{flat_map}
use Rattle.std.specs.Option.{option_map_or}
use Rattle.sip_message_fields.specs.text.declared.span.Span.{Span}
use Rattle.sip_message_fields.specs.text.Span.{part}
use Rattle.sip_message_fields.specs.declared.field.Field.{Field}
use Rattle.sip_message_fields.specs.declared.kept_field.KeptField.{KeptField}
use Rattle.sip_message_fields.specs.KeptField.{field_kept, Keeps, IsPut, AreFieldsPut}
use Rattle.sip_message_fields.specs.Lines.{line_of, AreLinesAt}
use Rattle.sip_message_form.specs.declared.message.Start.{Start}
use Rattle.sip_message_form.specs.declared.message.Start.TheVariants.{Request, Status}
use Rattle.sip_message_form.specs.declared.message.Message.{Message}
use Rattle.sip_message_form.specs.declared.kept_start.KeptStart.{KeptStart}
use Rattle.sip_message_form.specs.KeptStart.{start_kept, IsStartStored, IsStartPut}
use Rattle.sip_message_form.specs.Kept.{message_kept, ArePartsStored}

keeps_again : (a b c : List ℕ) → Keeps a b → Keeps b c → Keeps a c
keeps_again a b c first second = record {
  within = λ span w. second.within span (first.within span w);
  bytes = λ span w. second.bytes span (first.within span w) ∙ first.bytes span w;
}

abbrev of_parts : Option ℕ → List ℕ → List ℕ → List ℕ → Start
of_parts code first uri version = option_map_or (λ c. Status c first) code (Request first uri version)

pub same_parts : (code : Option ℕ) (a b c x y z : List ℕ) → a ≡ x → b ≡ y → c ≡ z → of_parts code a b c ≡ of_parts code x y z
same_parts code a b c x y z e f g =
    ap (λ (w : List ℕ). of_parts code w b c) e ∙ ap (λ (w : List ℕ). of_parts code x w c) f ∙ ap (λ (w : List ℕ). of_parts code x y w) g

pub request_put : (old one two new method uri version : List ℕ) (a b c : Span) → IsPut old method one a → IsPut one uri two b → IsPut two version new c
    → IsStartPut old (Request method uri version) new (record { code = None; first = a; uri = b; version = c })
request_put old one two new method uri version a b c first second third = record {
  same = same_parts None (part new a) (part new b) (part new c) method uri version (third.keeps.bytes a (second.keeps.within a first.within)
      ∙ second.keeps.bytes a first.within ∙ first.bytes) (third.keeps.bytes b second.within ∙ second.bytes) third.bytes;
  within = record { first = third.keeps.within a (second.keeps.within a first.within); uri = third.keeps.within b second.within; version = third.within };
  keeps = keeps_again old one new first.keeps (keeps_again one two new second.keeps third.keeps);
}

pub status_put : (old new reason : List ℕ) (code : ℕ) (a : Span) → IsPut old reason new a
    → IsStartPut old (Status code reason) new (record { code = Some code; first = a; uri = a; version = a })
status_put old new reason code a is = record {
  same = ap (λ (w : List ℕ). Status code w) is.bytes;
  within = record { first = is.within; uri = is.within; version = is.within };
  keeps = is.keeps;
}

pub start_stays : (old new : List ℕ) (kept : KeptStart) → Keeps old new → IsStartStored old kept → start_kept new kept ≡ start_kept old kept
start_stays old new kept keeps is =
    same_parts kept.code (part new kept.first) (part new kept.uri) (part new kept.version) (part old kept.first) (part old kept.uri) (part old kept.version)
    (keeps.bytes kept.first is.first) (keeps.bytes kept.uri is.uri) (keeps.bytes kept.version is.version)

-- the lines of fields behind what stood in a store
pub lines_put : (before new : List ℕ) (fields : List Field) (list : List KeptField) (start end : ℕ) → start ≡ length before → AreLinesAt start fields list end
    → new ≡ before ++ flat_map line_of fields → AreFieldsPut before fields new list
lines_put before new fields list start end begins lines grown =
    subst (λ (w : List ℕ). AreFieldsPut before fields w list) (append-nil (before ++ flat_map line_of fields) ∙ sym grown) (lines.put before [] (sym begins))

abbrev pub whole : Start → List Field → List ℕ → Message
whole start fields body = record { start = start; fields = fields; body = body }

pub kept_is : (empty one two new : List ℕ) (message : Message) (start : KeptStart) (body : Span) (list : List KeptField) → IsStartPut empty message.start one start
    → IsPut one message.body two body → AreFieldsPut two message.fields new list
    → message_kept new start list body ≡ message
kept_is empty one two new message start body list s b f =
    let keeps : Keeps one new = keeps_again one two new b.keeps f.keeps in
    ap (λ (w : Start). whole w (map (field_kept new) list) (part new body)) (start_stays one new start keeps s.within ∙ s.same)
    ∙ ap (λ (w : List Field). whole message.start w (part new body)) f.same
    ∙ ap (λ (w : List ℕ). whole message.start message.fields w) (f.keeps.bytes body b.within ∙ b.bytes)

pub kept_within : (empty one two new : List ℕ) (message : Message) (start : KeptStart) (body : Span) (list : List KeptField) → IsStartPut empty message.start one start
    → IsPut one message.body two body → AreFieldsPut two message.fields new list
    → ArePartsStored new start list body
kept_within empty one two new message start body list s b f =
    let keeps : Keeps one new = keeps_again one two new b.keeps f.keeps in record {
      start_within = record {
        first = keeps.within start.first s.within.first;
        uri = keeps.within start.uri s.within.uri;
        version = keeps.within start.version s.within.version;
      };
      fields_within = f.within;
      body_within = f.keeps.within body b.within;
    }
