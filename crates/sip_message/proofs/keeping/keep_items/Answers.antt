use Rattle.std.proofs.Common.{◌≡◌, ℕ, List, Some, map, subst}
use Rattle.sip_text.specs.declared.span.Span.{Span}
use Rattle.sip_text.specs.Span.{part}
use Rattle.sip_text.specs.Lists.{cut}
use Rattle.sip_message_fields.specs.Piece.{bytes_of}
use Rattle.sip_message.specs.Parts.{AreItemsKept}
use Rattle.sip_message.proofs.Keeps.{items_kept}
use Rattle.sip_message.proofs.keeping.keep_items.Goals as goal

pub returns : goal.returns
returns c =
    let same : c.as_slice.result.now ≡ bytes_of c.args.field.now.value = c.as_slice.ensures in
    let spans : List Span = c.in_ok-spans.spans.items in
    items_kept c.args.fields.now.items c.args.field.now spans c.keep_parts.new.fields.items c.requires.not_length c.requires.list
    (subst (λ (v : List ℕ). cut v ≡ Some (map (part v) spans)) same c.in_ok-spans.ensures.items)
    (subst (λ (s : List Span). AreItemsKept c.args.fields.now.items c.args.field.now s c.keep_parts.new.fields.items) c.deref.ensures.value c.in_ok-keep_parts.ensures)
