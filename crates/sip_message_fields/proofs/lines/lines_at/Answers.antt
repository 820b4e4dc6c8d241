use Rattle.std.proofs.Common.{◌≡◌, [], ◌∷◌, ◌++◌, get_or, rules}
use Rattle.sip_message_fields.specs.declared.field.Field.{Field}
use Rattle.sip_message_fields.proofs.Keeping.{no_lines, line_next}
use Rattle.sip_message_fields.proofs.lines.lines_at.Goals as goal

pub loop-field-init : goal.loop-field-init
loop-field-init c = no_lines c.args.start _ (search rules)

pub loop-field-preserved : goal.loop-field-preserved
loop-field-preserved c =
    let field : Field = c.field-item.result in
    let is : field ≡ get_or c.args.fields.now c.loop-field.field-index field = c.field-item.is in
    line_next c.args.start c.loop-field.end c.in-Some.line.end c.args.fields.now c.loop-field.field-index field c.loop-field.list.items c.push.new.list.items
    c.in-Some.line.kept c.loop-field-test.true is c.in_ok-push.ensures c.loop-field.invariant c.in-Some.ensures
