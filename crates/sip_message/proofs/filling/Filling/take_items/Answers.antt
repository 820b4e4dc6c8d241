use Rattle.std.proofs.Common.{◌≡◌, ◌++◌, ℕ, List, Some, map, refl, subst}
use Rattle.std.proofs.lemmas.Result.{err_from_is_err_and}
use Rattle.sip_text.specs.declared.span.Span.{Span}
use Rattle.sip_text.specs.Span.{part}
use Rattle.sip_text.specs.Lists.{cut}
use Rattle.sip_message.specs.Filled.{item_of}
use Rattle.sip_message.specs.HeadContent.{IsFault}
use Rattle.sip_message.proofs.HeadFills.{items_filled, items_refused}
use Rattle.sip_message.proofs.filling.Filling.take_items.Goals as goal

pub returns : goal.returns
returns c =
    items_filled c.args.self.now _ (record { name = c.args.name.now; value = c.args.value.now }) c.in_ok-spans.spans.items c.requires.not_length c.requires.list
    (subst (λ (v : List ℕ). cut v ≡ Some (map (part v) c.in_ok-spans.spans.items)) c.as_slice.ensures c.in_ok-spans.ensures.items) refl
    (subst (λ (s : List Span). c.put_items.new.fields ≡ c.args.self.now.fields ++ map (item_of c.args.name.now c.args.value.now) s) c.deref.ensures.value
    c.in_ok-put_items.ensures)

pub returns-in_err-spans : goal.returns-in_err-spans
returns-in_err-spans c =
    let p = err_from_is_err_and c.from_residual.result c.from_residual.ensures.1 in
    rw (p.1, p.2)
    (items_refused c.args.self.now.length (record { name = c.args.name.now; value = c.args.value.now }) c.in_err-spans.field-0.0 c.requires.not_length c.requires.list
    (subst (λ (v : List ℕ). IsFault c.in_err-spans.field-0.0 (cut v)) c.as_slice.ensures c.in_err-spans.ensures.items))
