use Rattle.std.proofs.Common.{◌≡◌, ◌++◌, List, take, drop, ap, sym, subst, ◌∙◌}
use Rattle.std.proofs.lemmas.List.{take-append-drop}
use Rattle.sip_message_fields.specs.declared.field.Field.{Field}
use Rattle.sip_message_form.specs.Text.{AreLinesOf}
use Rattle.sip_message_form.proofs.message_view.View.put_fields_behind.Goals as goal

pub put_lines-requires : goal.put_lines-requires
put_lines-requires c =
    let fields : List Field = c.self.inside.fields in
    let front : c.split_at.result.0.now ≡ take c.args.skipped fields = c.split_at.ensures.front ∙ ap (take c.args.skipped) c.as_slice.ensures in
    let back : c.split_at.result.1.now ≡ drop c.args.skipped fields = c.split_at.ensures.back ∙ ap (drop c.args.skipped) c.as_slice.ensures in
    let whole : fields ≡ c.split_at.result.0.now ++ c.split_at.result.1.now
    = sym (take-append-drop c.args.skipped fields) ∙ ap (λ (w : List Field). w ++ drop c.args.skipped fields) (sym front)
    ∙ ap (λ (w : List Field). c.split_at.result.0.now ++ w) (sym back) in
    c.lines_behind_all-lines.ensures c.split_at.result.1.now (subst (λ (w : List Field). AreLinesOf c.self.inside.lines w) whole c.self.invariant)
