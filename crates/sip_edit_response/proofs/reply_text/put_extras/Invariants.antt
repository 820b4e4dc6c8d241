use Rattle.std.proofs.Common.{◌≡◌, ◌++◌, take}
use Rattle.std.specs.List.{flat_map}
use Rattle.sip_message_form.specs.Text.{field_text}
use Rattle.sip_edit_response.proofs.reply_text.put_extras.Given as goal

abbrev pub invariant-loop-field : goal.invariant-loop-field
invariant-loop-field l = l.out ≡ l.fn.out ++ flat_map field_text (take l.field-index l.extras)
