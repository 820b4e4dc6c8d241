use Rattle.std.proofs.Common.{◌∙◌}
use Rattle.sip_auth.proofs.Spending.{spent_so}
use Rattle.sip_auth.proofs.right_claim.RightClaim.spend.Goals as goal

pub returns : goal.returns
returns c =
    c.count_used.ensures
    ∙ spent_so c.args.nonces.now c.self.inside.claim c.args.self.now c.count.result c.self.inside.word c.args.now c.count.ensures c.self.invariant c.self.view_is
