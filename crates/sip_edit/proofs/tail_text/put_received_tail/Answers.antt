use Rattle.std.proofs.Common.{◌≡◌, ◌∷◌, true, List, ℕ, OnOk, drop, ap, sym, ◌∙◌, subst, rules}
use Rattle.sip_message_fields.specs.declared.field.Field.{Field}
use Rattle.sip_message_fields.specs.declared.field_name.FieldName.TheVariants as Name
use Rattle.sip_message_fields.specs.FieldName.{is_same_name}
use Rattle.sip_edit.proofs.TailTexts.{tail_is}
use Rattle.sip_edit.proofs.tail_text.put_received_tail.Goals as goal

pub returns : goal.returns
returns c =
    let cut : c.args.request.now.fields ≡ c.in-Some.top.now ∷ c.in-Some._others.now = search rules in
    let fields : c.args.request.now.fields ≡ c.in-Some.top.now ∷ drop 1 c.args.request.now.fields
    = cut ∙ ap (λ (w : List Field). c.in-Some.top.now ∷ drop 1 w) (sym cut) in
    let is_via : is_same_name c.in-Some.top.now.name Name.Via ≡ true = search rules in
    subst (λ (w : List ℕ). OnOk c.put_behind.result (c.put_behind.new.out ≡ w))
    (tail_is c.args.routes c.args.realm.now c.args.via.now c.args.out.now c.put_top.new.out c.args.request.now c.in-Some.top.now (drop 1 c.args.request.now.fields)
    fields is_via c.in_ok-put_top.ensures)
    c.put_behind.ensures
