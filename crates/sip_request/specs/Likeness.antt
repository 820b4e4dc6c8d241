-- Requests, and parts of them, that have the same timers.
use Rattle.std.specs.Prelude.{◌≡◌, true}
use Rattle.model_transactions.specs.state.declared.branch.Branch.{Branch}
use Rattle.model_transactions.specs.state.declared.open_request.OpenRequest.{OpenRequest}
use Rattle.model_transactions.specs.state.State.{is_invite}
use Rattle.model_transactions.specs.context_model.Branches.{was_refused}
use Rattle.sip_request.specs.declared.branches.Kinds.{Kinds}

-- these requests give their parts timers alike: they have one number, and both are INVITEs or neither is
pub record AreAlike (was next : OpenRequest) : Type 0 where
  pub number : was.number ≡ next.number
  pub method : is_invite was ≡ is_invite next

-- this says whether they are INVITEs, and maybe that they give their parts timers alike
pub record AreKinds (was next : OpenRequest) (kinds : Kinds) : Type 0 where
  pub was_invite : kinds.was_invite ≡ is_invite was
  pub next_invite : kinds.next_invite ≡ is_invite next
  pub alike : kinds.alike ≡ true → AreAlike was next

-- these branches are one, which is as far as it was
pub record AreAsFar (was next : Branch) : Type 0 where
  pub number : was.number ≡ next.number
  pub is_cancel : was.is_cancel ≡ next.is_cancel
  pub phase : was.phase ≡ next.phase
  pub again : was.again ≡ next.again

-- the answering sides of these requests are as far, and both were refused or neither
pub record AreSidesAsFar (was next : OpenRequest) : Type 0 where
  pub side : was.side ≡ next.side
  pub again : was.again ≡ next.again
  pub refused : was_refused was.answer ≡ was_refused next.answer
