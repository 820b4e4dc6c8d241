use Rattle.std.proofs.Common.{◌<◌, arith, length, refl, ◌∙◌}
use Rattle.sip_request.proofs.Joining.{next_there, same_by}
use Rattle.sip_request.proofs.branches.kept_at.Goals as goal

pub returns-clause-next : goal.returns-clause-next
returns-clause-next c =
    let in_branches : c.args.place < length c.as_slice-branches.result.now = omega (arith, c.if-place-branches.false) in
    let in_keys : c.args.place < length c.args.keys.now = omega (arith, c.if-place-keys.false) in (
      refl,
      next_there c.args.was.now c.as_slice-branches.result.now c.args.keys.now c.args.place c.index-branches-place.result c.args.branch.now c.as_slice-branches.ensures
          in_branches in_keys c.index-branches-place.is
          ∙ same_by c.index-branches-place.result c.args.branch.now (c.if-not-are_as_far.ensures refl).number (c.if-not-are_as_far.ensures refl).is_cancel,
    )
