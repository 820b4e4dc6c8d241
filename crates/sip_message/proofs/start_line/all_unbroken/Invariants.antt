use Rattle.std.proofs.Common.{◌≡◌, drop}
use Rattle.std.specs.List.{list_all}
use Rattle.sip_message.specs.Start.{is_unbroken}
use Rattle.sip_message.proofs.start_line.all_unbroken.Given as goal

-- the rest decides
abbrev pub invariant-loop-byte : goal.invariant-loop-byte
invariant-loop-byte l = list_all is_unbroken (drop l.byte-index l.bytes) ≡ list_all is_unbroken l.bytes
