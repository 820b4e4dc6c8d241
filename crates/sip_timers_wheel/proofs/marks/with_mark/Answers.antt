use Rattle.std.proofs.Common.{w64}
use Rattle.std.proofs.lemmas.Nat.Bits.{bit_at_set_same, bit_at_set_other}
use Rattle.sip_timers_wheel.proofs.marks.with_mark.Goals as goal

pub returns-clause-marked : goal.returns-clause-marked
returns-clause-marked c = bit_at_set_same w64 c.args.word c.args.place c.requires

pub returns-clause-others : goal.returns-clause-others
returns-clause-others c = λ other differ. bit_at_set_other w64 c.args.word c.args.place c.requires other differ
