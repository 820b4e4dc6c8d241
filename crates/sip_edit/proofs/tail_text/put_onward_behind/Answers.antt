use Rattle.std.proofs.Common.{◌≡◌, ◌++◌, ◌-◌, ℕ, List, OnOk, drop, length, flat_map, refl, ap, subst, ◌∙◌}
use Rattle.sip_message_fields.specs.declared.field.Field.{Field}
use Rattle.sip_message_form.specs.Text.{field_text}
use Rattle.sip_edit.proofs.AsTheyAre.{cut_behind}
use Rattle.sip_edit.proofs.tail_text.put_onward_behind.Goals as goal

pub returns : goal.returns
returns c =
    let whole : List Field = c.args.request.now.fields in
    let given : c.as_slice-whole.result.now ≡ whole = c.as_slice-whole.ensures ∙ c.fields.ensures in
    let left : ℕ = length c.as_slice-whole.result.now - length c.split_at-2.result.1.now in
    subst (λ (w : List ℕ). OnOk c.put_fields_behind.result (c.put_fields_behind.new.out ≡ w))
    (cut_behind c.args.hops c.args.routes c.args.realm.now whole c.split_at.result.1.now c.split_at-2.result.0.now c.split_at-2.result.1.now c.args.skipped
    c.edited_front.result left c.args.out.now c.put_onward.new.out (c.put_onward.new.out ++ flat_map field_text (drop left whole))
    (c.split_at.ensures.back ∙ ap (drop c.args.skipped) given) c.split_at-2.ensures.front c.split_at-2.ensures.back c.edited_front.ensures.others c.requires
    (ap (λ (l : List Field). length l - length c.split_at-2.result.1.now) given) c.edited_front.ensures.within c.in_ok-put_onward.ensures refl)
    c.put_fields_behind.ensures
