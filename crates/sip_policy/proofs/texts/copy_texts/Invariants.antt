use Rattle.std.proofs.Common.{◌≡◌, take}
use Rattle.sip_policy.proofs.texts.copy_texts.Given as goal

-- copies of the texts so far
abbrev pub invariant-loop-text : goal.invariant-loop-text
invariant-loop-text l = l.copies ≡ take l.text-index l.texts
