use Rattle.std.proofs.Common.{◌≡◌, drop}
use Rattle.std.specs.List.{list_all}
use Rattle.sip_uri.specs.Host.{is_host_byte}
use Rattle.sip_uri.proofs.host.are_host_bytes.Given as goal

-- the rest decides
abbrev pub invariant-loop-byte : goal.invariant-loop-byte
invariant-loop-byte l = list_all is_host_byte (drop l.byte-index l.bytes) ≡ list_all is_host_byte l.bytes
