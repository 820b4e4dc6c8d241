use Rattle.std.proofs.Common.{◌≡◌, drop}
use Rattle.std.specs.List.{list_all}
use Rattle.sip_header.specs.NameAddr.{is_bare_byte}
use Rattle.sip_header.proofs.name_addr.all_bare_bytes.Given as goal

-- the rest decides
abbrev pub invariant-loop-byte : goal.invariant-loop-byte
invariant-loop-byte l = list_all is_bare_byte (drop l.byte-index l.bytes) ≡ list_all is_bare_byte l.bytes
