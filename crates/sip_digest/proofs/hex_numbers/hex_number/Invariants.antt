use Rattle.std.proofs.Common.{◌≡◌, ◌^◌, ◌<◌, drop}
use Rattle.sip_digest.specs.HexNumber.{hex_number_of}
use Rattle.sip_digest.proofs.HexNumbers.{hex_on}
use Rattle.sip_digest.proofs.hex_numbers.hex_number.Given as goal

-- what the rest adds to the number so far is the answer
abbrev pub invariant-loop-digit : goal.invariant-loop-digit
invariant-loop-digit l = record {
  rest : hex_on l.number (drop l.digit-index l.digits) ≡ hex_number_of l.digits;
  below : l.number < 16 ^ l.digit-index;
}
