use Rattle.std.proofs.Common.{◌≡◌, ◌∷◌, ◌++◌, ◌+◌, List, drop, ap, sym, subst, ◌∙◌}
use Rattle.std.proofs.lemmas.List.{drop_more}
use Rattle.sip_message_fields.specs.declared.field.Field.{Field}
use Rattle.sip_message_form.specs.Text.{AreLinesOf}
use Rattle.sip_message_form.proofs.message_view.lines_behind_all.Goals as goal

pub loop-field-preserved : goal.loop-field-preserved
loop-field-preserved c = λ others lines.
    let field : Field = c.field-item.result in
    let skipped : List Field = c.args.skipped.now in
    let next : drop c.loop-field.field-index skipped ++ others ≡ field ∷ (drop (c.loop-field.field-index + 1) skipped ++ others)
    = ap (λ (w : List Field). w ++ others) (drop_more skipped c.loop-field.field-index field c.loop-field-test.true)
    ∙ ap (λ (f : Field). f ∷ (drop (c.loop-field.field-index + 1) skipped ++ others)) (sym c.field-item.is) in
    c.lines_behind-lines.ensures (drop (c.loop-field.field-index + 1) skipped ++ others)
    (subst (λ (w : List Field). AreLinesOf c.loop-field.lines w) next (c.loop-field.invariant others lines))
