-- A branch that is heard waits until either of two moments.
use Rattle.std.proofs.Common.{◌≡◌, ℕ, Bool, true, false, cond, ap}
use Rattle.model_context.specs.state.declared.branch.Phase.TheVariants.{Heard}

pub heard_either : (until : ℕ) (t : Bool) (a b : ℕ) → until ≡ cond t a b → Heard until ≡ cond t (Heard a) (Heard b)
heard_either until true a b e = ap Heard e
heard_either until false a b e = ap Heard e
