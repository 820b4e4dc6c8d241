use Rattle.std.proofs.Common.{◌≡◌, take}
use Rattle.sip_text.specs.Words.{without_case}
use Rattle.sip_text.proofs.words.lowered.Given as goal

-- the bytes so far, in lower case
abbrev pub invariant-loop-byte : goal.invariant-loop-byte
invariant-loop-byte l = l.lower ≡ without_case (take l.byte-index l.text)
