use Rattle.std.proofs.Common.{refl, sym, ◌∙◌}
use Rattle.sip_message_form.proofs.Alike.{kept_alike}
use Rattle.sip_message_form.proofs.kept_parts.KeptParts.is_same.Goals as goal

pub returns : goal.returns
returns c = λ is.
    sym c.self.view_is
    ∙ kept_alike c.self.inside.store c.other.inside.store c.self.inside.start c.other.inside.start c.self.inside.list.items c.other.inside.list.items
    c.self.inside.body c.other.inside.body
    (sym c.as_slice-store.ensures ∙ c.same_bytes.ensures.equal.0 is ∙ c.as_slice-2.ensures)
    (c.if-not-is_same.ensures refl)
    (sym c.as_slice-list.ensures.value ∙ c.if-not-same_fields.ensures refl ∙ c.as_slice.ensures.value)
    (c.if-not-is_same-2.ensures refl)
    ∙ c.other.view_is
