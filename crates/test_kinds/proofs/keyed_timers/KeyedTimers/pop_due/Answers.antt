use Rattle.std.proofs.Common.{subst}
use Rattle.test_kinds.specs.Keys.{AreKeysOf}
use Rattle.test_kinds.proofs.Keeping.{keys_popped}
use Rattle.test_kinds.proofs.keyed_timers.KeyedTimers.pop_due.Goals as goal

pub invariant_of-self : goal.invariant_of-self
invariant_of-self g c = rw c.in_err-timer.ensures.none.0 c.self.invariant

pub invariant_of-self-2 : goal.invariant_of-self-2
invariant_of-self-2 g c =
    let popped = c.in_ok-timer.ensures.some in
    rw c.drop_key.ensures (keys_popped c.in_ok-timer.timer c.self.inside.kept.items (g.T.Timers.pending c.pop_due.new.self)
    (subst (λ ts. AreKeysOf c.self.inside.kept.items ts) popped.0 c.self.invariant))
