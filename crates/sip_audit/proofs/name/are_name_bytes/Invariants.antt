use Rattle.std.proofs.Common.{◌≡◌, drop}
use Rattle.std.specs.List.{list_all}
use Rattle.sip_audit.specs.Names.{is_name_byte}
use Rattle.sip_audit.proofs.name.are_name_bytes.Given as goal

-- the rest decides
abbrev pub invariant-loop-byte : goal.invariant-loop-byte
invariant-loop-byte l = list_all is_name_byte (drop l.byte-index l.bytes) ≡ list_all is_name_byte l.bytes
