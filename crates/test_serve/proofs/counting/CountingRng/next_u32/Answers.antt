use Rattle.std.proofs.Common.{rules}
use Rattle.rand_core.proofs.StepsLemmas.{meets_next_u32}
use Rattle.test_serve.proofs.counting.CountingRng.next_u32.Goals as goal

pub returns : goal.returns
returns c = meets_next_u32 _ _ _ _ (search rules)
