use Rattle.std.proofs.Common.{◌≡◌, ◌++◌, take}
use Rattle.sip_edit_views.proofs.onward.put_all.Given as goal

abbrev pub invariant-loop-field : goal.invariant-loop-field
invariant-loop-field l = l.out ≡ l.fn.out ++ take l.field-index l.fields
