use Rattle.std.proofs.Common.{◌<◌, ap, arith, length}
use Rattle.sip_dialog.specs.Digests.{DigestList}
use Rattle.sip_dialog.proofs.Finding.{swapped}
use Rattle.sip_dialog.proofs.digests.Digests.swap.Goals as goal

pub invariant_of-self : goal.invariant_of-self
invariant_of-self c = λ own.
    let long = ap (λ (v : DigestList). length v.list) c.self.view_is in
    let a : c.args.a < length c.self.inside.list.items = omega (arith, c.requires.a, long) in
    let b : c.args.b < length c.self.inside.list.items = omega (arith, c.requires.b, long) in
    rw c.swap.ensures.items (swapped c.self.inside.list.items c.args.a c.args.b c.index.result.now c.index-2.result.now a b c.index.ensures c.index-2.ensures _ _ _
    (c.self.invariant own) c.move_to.ensures.places c.move_to-2.ensures.places)
