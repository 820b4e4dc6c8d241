use Rattle.std.proofs.Common.{rules, ◌≡◌, ◌+◌, ◌<◌, sym, refl, ap, ◌∙◌, arith, length, Some}
use Rattle.std.proofs.lemmas.List.{length-set}
use Rattle.sip_transport.proofs.Turns.{hears_none, hears_some, first_some, some_posted, writable_next}
use Rattle.sip_transport.proofs.Aside.{fresh_noted}
use Rattle.sip_transport.specs.MemoryLink.{IsFresh, MemoryState}
use Rattle.sip_transport.specs.contracts.memory_link.MemoryLink.{the_view}
use Rattle.sip_transport.proofs.memory_link.MemoryLink.hear_next.Goals as goal

pub returns-then-self-len-clause-heard : goal.returns-then-self-len-clause-heard
returns-then-self-len-clause-heard c =
    let inside = c.self.inside in
    let all : c.len.result ≡ length inside.inbox.items = search rules in
    let heard = hears_none inside.inbox.items inside.taken inside.silent (the_view inside) (c.if-self-len.true ∙ all) refl in
    rw (sym c.self.view_is) (ap (λ (link : MemoryState). record link { receives = inside.receives + 1 }) (sym heard))

pub invariant_of-self-2 : goal.invariant_of-self-2
invariant_of-self-2 c =
    let inside = c.self.inside in
    let d = some_posted in
    let all : c.len.result ≡ length inside.inbox.items = search rules in
    let below : inside.taken < length inside.inbox.items = grind (arith, c.self.invariant.0, all, c.if-self-len.false) in
    let same : length c.note_silence-from.new.inbox.items ≡ length inside.inbox.items =
    ap length (c.note_silence-from.ensures.noted d) ∙ length-set inside.inbox.items inside.taken _
    in
    let fresh : IsFresh c.note_silence-from.new.inbox.items (inside.taken + 1) =
    rw (c.note_silence-from.ensures.noted d) (fresh_noted inside.inbox.items inside.taken inside.silent d below)
    in
    (omega (arith, below, same), omega arith, omega (arith, c.self.invariant.2), λ e. (fresh, refl, omega arith))

pub returns-clause-from : goal.returns-clause-from
returns-clause-from c =
    let inside = c.self.inside in
    let d = some_posted in
    let all : c.len.result ≡ length inside.inbox.items = search rules in
    let below : inside.taken < length inside.inbox.items = grind (arith, c.self.invariant.0, all, c.if-self-len.false) in
    rw (sym c.self.view_is) (ap Some (c.note_silence-from.ensures.from d) ∙ first_some inside.inbox.items inside.taken d below)

pub returns-clause-heard : goal.returns-clause-heard
returns-clause-heard c =
    let inside = c.self.inside in
    let d = some_posted in
    let all : c.len.result ≡ length inside.inbox.items = search rules in
    let below : inside.taken < length inside.inbox.items = grind (arith, c.self.invariant.0, all, c.if-self-len.false) in
    let heard = hears_some inside.inbox.items inside.taken inside.silent d (the_view inside) below refl refl in
    rw (sym c.self.view_is, c.note_silence-from.ensures.noted d) (ap (λ (link : MemoryState). record link { receives = inside.receives + 1 }) (sym heard))

pub returns-clause-writable : goal.returns-clause-writable
returns-clause-writable c =
    let inside = c.self.inside in
    let d = some_posted in
    let all : c.len.result ≡ length inside.inbox.items = search rules in
    let below : inside.taken < length inside.inbox.items = grind (arith, c.self.invariant.0, all, c.if-self-len.false) in
    rw (c.note_silence-from.ensures.noted d) (writable_next inside.inbox.items inside.taken inside.silent d c.note_silence-from.result below
    (c.note_silence-from.ensures.from d))
