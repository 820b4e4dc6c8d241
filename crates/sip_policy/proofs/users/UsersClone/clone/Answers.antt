use Rattle.std.proofs.Common.{◌∙◌}
use Rattle.sip_policy.proofs.users.UsersClone.clone.Goals as goal

pub returns-in-Ok : goal.returns-in-Ok
returns-in-Ok c = record { cases = c.in-Ok.ensures.ok ∙ c.in_ok-list.ensures ∙ c.as_slice.ensures ∙ c.self.view_is }
