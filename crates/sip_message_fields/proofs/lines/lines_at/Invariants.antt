use Rattle.std.proofs.Common.{take}
use Rattle.sip_message_fields.specs.Lines.{AreLinesAt}
use Rattle.sip_message_fields.proofs.lines.lines_at.Given as goal

abbrev pub invariant-loop-field : goal.invariant-loop-field
invariant-loop-field l = AreLinesAt l.start (take l.field-index l.fields) l.list.items l.end
