use Rattle.std.proofs.Common.{◌<◌, arith, length, sym, ◌∙◌}
use Rattle.sip_request.proofs.Joining.{next_there, none_without_branches, none_without_keys}
use Rattle.sip_request.proofs.branches.stands_at.Goals as goal

pub returns-then-place-keys-clause-next : goal.returns-then-place-keys-clause-next
returns-then-place-keys-clause-next c = sym (none_without_keys c.args.was.now c.args.keys.now c.args.place c.args.branch.now c.if-place-keys.true)

pub returns-then-place-branches-clause-next : goal.returns-then-place-branches-clause-next
returns-then-place-branches-clause-next c =
    sym (none_without_branches c.args.was.now c.as_slice-branches.result.now c.args.keys.now c.args.place c.args.branch.now c.as_slice-branches.ensures
    c.if-place-branches.true)

pub returns-clause-next : goal.returns-clause-next
returns-clause-next c =
    let in_branches : c.args.place < length c.as_slice-branches.result.now = omega (arith, c.if-place-branches.false) in
    let in_keys : c.args.place < length c.args.keys.now = omega (arith, c.if-place-keys.false) in
    c.is_same.ensures ∙ sym (next_there c.args.was.now c.as_slice-branches.result.now c.args.keys.now c.args.place c.index-branches-place.result c.args.branch.now
    c.as_slice-branches.ensures in_branches in_keys c.index-branches-place.is)
