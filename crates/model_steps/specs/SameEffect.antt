-- When two effects are the same.
use Rattle.std.specs.Prelude.{◌≡◌}
use Rattle.model_verdict.specs.state.SameState.{SameState}
use Rattle.model_steps.specs.Effect.{Effect}

-- Two effects are the same where they send the same packets, for the first time and again, in the same order, record the same, and
-- leave states that are the same.
pub record SameEffect (left right : Effect) : Type 0 where
  pub originals : left.originals ≡ right.originals
  pub again : left.again ≡ right.again
  pub records : left.records ≡ right.records
  pub state : SameState left.state right.state
