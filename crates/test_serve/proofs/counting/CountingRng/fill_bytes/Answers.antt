use Rattle.std.proofs.Common.{rules}
use Rattle.rand_core.proofs.StepsLemmas.{meets_fill_bytes}
use Rattle.test_serve.proofs.counting.CountingRng.fill_bytes.Goals as goal

pub returns : goal.returns
returns c = meets_fill_bytes _ _ _ _ _ (search rules)
