-- What an event leaves of the branches of an open request (RFC 3261 9.1, 16.7 to 16.10).
use Rattle.std.specs.Prelude.{◌<◌, List, [], ◌∷◌}
use Rattle.std.specs.List.{AllByRecursion}
use Rattle.model_transactions.specs.Matching.{AreBranched, AreMatched}
use Rattle.sip_context_branches.specs.state.declared.branch.Branch.{Branch}
use Rattle.sip_context_branches.specs.state.declared.open_request.OpenRequest.{OpenRequest}

-- Branches to targets with numbers of their own, and CANCELs behind them, are left so: all that were there, in their order, and
-- CANCELs that join them.
pub record AreKept (before after : List Branch) : Type 0 where
  pub branched : AreBranched after
  pub matched : AreMatched before after

-- requests stand in rising order of their numbers
abbrev pub AreNumbered : List OpenRequest → Type 0
AreNumbered [] = Unit {0}
AreNumbered (r ∷ rs) = AllByRecursion (λ x. r.number < x.number) rs × AreNumbered rs
