use Rattle.std.proofs.Common.{arith}
use Rattle.sip_transport.proofs.Aside.{fresh_still}
use Rattle.sip_transport.proofs.memory_link.MemoryLink.hear.Goals as goal

pub invariant_of-self-2 : goal.invariant_of-self-2
invariant_of-self-2 c = (
  grind (arith, c.in_ok-push.ensures.len, c.self.invariant.0),
  c.self.invariant.1,
  c.self.invariant.2,
  λ e. (
    rw c.in_ok-push.ensures.items (fresh_still c.self.inside.inbox.items c.self.inside.taken _ (c.self.invariant.3 e).0),
    (c.self.invariant.3 e).1,
    (c.self.invariant.3 e).2,
  ),
)
