use Rattle.std.proofs.Common.{◌≡◌, take}
use Rattle.sip_verdict.proofs.datagram.fields_again.Given as goal

abbrev pub invariant-loop-field : goal.invariant-loop-field
invariant-loop-field l = l.again ≡ take l.field-index l.fields
