use Rattle.std.proofs.Common.{◌≡◌, drop}
use Rattle.std.specs.List.{list_all}
use Rattle.sip_text.specs.Words.{is_token_byte}
use Rattle.sip_text.proofs.words.all_token_bytes.Given as goal

-- the rest decides
abbrev pub invariant-loop-byte : goal.invariant-loop-byte
invariant-loop-byte l = list_all is_token_byte (drop l.byte-index l.bytes) ≡ list_all is_token_byte l.bytes
