use Rattle.std.proofs.Common.{refl}
use Rattle.test_kinds.proofs.Keeping.{keys_placed, keys_pushed}
use Rattle.test_kinds.proofs.keyed_timers.KeyedTimers.add.Goals as goal

pub invariant_of-self : goal.invariant_of-self
invariant_of-self g c = rw c.in_err-key.ensures.err c.self.invariant

pub invariant_of-self-in_err-push : goal.invariant_of-self-in_err-push
invariant_of-self-in_err-push g c =
    rw (c.in_ok-key.ensures.added, c.in_err-push.ensures.items)
    (keys_placed (record { key = c.in_ok-key.key; due = c.args.due; name = c.args.name }) c.self.inside.kept.items (g.T.Timers.pending c.self.inside.timers)
    c.self.invariant)

pub invariant_of-self-2 : goal.invariant_of-self-2
invariant_of-self-2 g c =
    rw (c.in_ok-key.ensures.added, c.in_ok-push.ensures.items)
    (keys_pushed (record { key = c.in_ok-key.key; due = c.args.due; name = c.args.name }) (record { request = c.args.name.request; key = c.in_ok-key.key })
    c.self.inside.kept.items (g.T.Timers.pending c.self.inside.timers) refl c.self.invariant)
