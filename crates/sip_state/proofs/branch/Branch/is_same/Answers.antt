use Rattle.std.proofs.Common.{refl}
use Rattle.sip_state.proofs.Alike.{branch_alike}
use Rattle.sip_state.proofs.branch.Branch.is_same.Goals as goal

pub returns : goal.returns
returns c = λ is.
    let numbered = c.if-not-is_numbered_as.ensures refl in
    let goes = c.if-not-goes_as.ensures refl in
    let far = c.is_as_far_as.ensures is in
    branch_alike c.args.self.now c.args.other.now numbered.0 numbered.1 numbered.2 goes.0 goes.1 far.0 far.1 far.2
