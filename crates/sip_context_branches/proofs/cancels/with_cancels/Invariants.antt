use Rattle.std.proofs.Common.{◌≡◌, take}
use Rattle.std.specs.List.{flat_map}
use Rattle.model_context.specs.Branches.{with_cancel}
use Rattle.sip_context_branches.proofs.cancels.with_cancels.Given as goal

abbrev pub invariant-loop-branch : goal.invariant-loop-branch
invariant-loop-branch l = l.all ≡ flat_map (with_cancel l.now) (take l.branch-index l.branches)
