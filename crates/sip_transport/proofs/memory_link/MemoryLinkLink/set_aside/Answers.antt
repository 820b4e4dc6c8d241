use Rattle.std.proofs.Common.{◌≡◌, ◌+◌, ◌-◌, ◌≤◌, true, length, refl, sym, ap, ◌∙◌, arith}
use Rattle.std.proofs.lemmas.List.{length-set}
use Rattle.sip_transport.proofs.Turns.{some_posted}
use Rattle.sip_transport.proofs.Aside.{set_aside, rest_stays, taken_some}
use Rattle.sip_transport.proofs.memory_link.MemoryLinkLink.set_aside.Goals as goal

pub overflow_sub-self-inside : goal.overflow_sub-self-inside
overflow_sub-self-inside c = taken_some c.self.inside.inbox.items c.self.inside.taken (c.self.invariant.3 c.if-self.true).0

pub invariant_of-self : goal.invariant_of-self
invariant_of-self c =
    let same : length c.put_aside.new.inbox.items ≡ length c.self.inside.inbox.items =
    ap length (c.put_aside.ensures some_posted) ∙ length-set c.self.inside.inbox.items (c.self.inside.taken - 1) _
    in
    (omega (arith, same, c.self.invariant.0), omega (arith, c.silence-self-inside.ensures.few, (c.self.invariant.3 c.if-self.true).2), c.self.invariant.2, λ e. absurd cc)

pub returns-then-self-clause-aside : goal.returns-then-self-clause-aside
returns-then-self-clause-aside c =
    let inside = c.self.inside in
    let list = inside.inbox.items in
    let d = some_posted in
    let fresh = c.self.invariant.3 c.if-self.true in
    let some : 1 ≤ inside.taken = taken_some list inside.taken fresh.0 in
    let place : (inside.taken - 1) + 1 ≡ inside.taken = omega (arith, some) in
    rw (sym c.self.view_is, c.put_aside.ensures d, fresh.1, c.silence-self-inside.ensures.count)
    (λ e. set_aside list inside.taken (inside.taken - 1) d c.args.from c.args.instead c.self.invariant.0 place fresh.0)

pub returns-then-self-clause-kept : goal.returns-then-self-clause-kept
returns-then-self-clause-kept c =
    let inside = c.self.inside in
    let list = inside.inbox.items in
    let d = some_posted in
    let fresh = c.self.invariant.3 c.if-self.true in
    let some : 1 ≤ inside.taken = taken_some list inside.taken fresh.0 in
    let place : (inside.taken - 1) + 1 ≡ inside.taken = omega (arith, some) in
    let rest = rest_stays list inside.taken (inside.taken - 1) d place in
    rw (sym c.self.view_is, c.put_aside.ensures d, rest.0, rest.1) refl
