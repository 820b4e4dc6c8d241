use Rattle.std.proofs.Common.{◌≡◌, ◌++◌, drop}
use Rattle.sip_edit.specs.Lowering.{fields_on}
use Rattle.sip_edit_views.proofs.onward.put_onward.Given as goal

-- the fields so far, and what becomes of the rest
abbrev pub invariant-loop-field : goal.invariant-loop-field
invariant-loop-field l = l.out ++ fields_on l.hops l.routes l.realm (drop l.field-index l.fields) ≡ l.fn.out ++ fields_on l.fn.hops l.fn.routes l.realm l.fields
