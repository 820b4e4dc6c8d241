use Rattle.std.proofs.Common.{List, ◌++◌, drop}
use Rattle.sip_message_fields.specs.declared.field.Field.{Field}
use Rattle.sip_message_form.specs.Text.{AreLinesOf}
use Rattle.sip_message_form.proofs.message_view.lines_behind_all.Given as goal

abbrev pub invariant-loop-field : goal.invariant-loop-field
invariant-loop-field l = (others : List Field) → AreLinesOf l.fn.lines (l.skipped ++ others) → AreLinesOf l.lines (drop l.field-index l.skipped ++ others)
