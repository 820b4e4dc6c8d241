use Rattle.std.proofs.Common.{◌≡◌, take}
use Rattle.std.specs.List.{flat_map}
use Rattle.sip_best.specs.Best.{challenges_of}
use Rattle.sip_best.proofs.challenges.challenges_in.Given as goal

abbrev pub invariant-loop-answer : goal.invariant-loop-answer
invariant-loop-answer l = l.found.items ≡ flat_map challenges_of (take l.answer-index l.answers)
