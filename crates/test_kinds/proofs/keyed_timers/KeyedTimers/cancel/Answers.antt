use Rattle.std.proofs.Common.{◌≤◌, arith}
use Rattle.test_kinds.specs.Keys.{times_kept}
use Rattle.test_kinds.proofs.Keeping.{keys_cancelled}
use Rattle.test_kinds.proofs.keyed_timers.KeyedTimers.cancel.Goals as goal

pub cancel-requires : goal.cancel-requires
cancel-requires g c =
    let kept : 1 ≤ times_kept c.in-Some.key c.self.inside.kept.items = rw (← c.deref.ensures.value) c.in-Some.ensures in
    omega (arith, kept, c.self.invariant c.in-Some.key)

pub invariant_of-self : goal.invariant_of-self
invariant_of-self g c = rw (c.cancel.ensures.gone, c.drop_key.ensures) (keys_cancelled c.in-Some.key c.self.inside.kept.items (g.T.Timers.pending c.self.inside.timers)
    c.self.invariant)
