use Rattle.std.proofs.Common.{◌≡◌, length}
use Rattle.sip_text.specs.Escapes.{with_front, unquoted, inside_quotes}
use Rattle.sip_text.proofs.quotes.unquote.Given as goal

-- the bytes so far, and those of the rest
abbrev pub invariant-loop-byte : goal.invariant-loop-byte
invariant-loop-byte l = with_front l.bytes (inside_quotes l.rest) ≡ unquoted l.fn.text

abbrev pub decreases-loop-byte : goal.decreases-loop-byte
decreases-loop-byte l = length l.rest
