use Rattle.std.proofs.Common.{◌≡◌, Some, sym, ap, ◌∙◌, arith, Option, List}
use Rattle.sip_transport.specs.Told.{and_then, heard_of, left_of}
use Rattle.sip_transport.specs.declared.datagram.HeardDatagram.{HeardDatagram}
use Rattle.sip_transport.specs.declared.datagram.Instead.{Instead}
use Rattle.sip_uri.specs.declared.addr.Addr.{Addr}
use Rattle.sip_guard.proofs.Passing.{one_passed}
use Rattle.sip_guard.proofs.guard.hear_within.Goals as goal

pub loop-passed-preserved : goal.loop-passed-preserved
loop-passed-preserved g c =
    let L = g.L.Link in
    let held = L.held c.receive.new.self in
    let told = L.heard c.loop-passed.link in
    let datagram : HeardDatagram = record { from = c.in-Some.from; bytes = held } in
    let heard : L.heard c.receive.new.self ≡ and_then told (Some datagram) = c.in_ok-from.ensures.tells
    ∙ ap (λ (from : Option Addr). and_then told (heard_of from held)) c.in-Some.is in
    let fresh = rw c.in-Some.is at c.in_ok-from.ensures.fresh in
    let aside = c.set_aside.ensures.aside fresh told heard in (
      one_passed c.args.allowances.now c.loop-passed.allowances c.admit.new.self
          (record {
            heard = L.heard c.args.link.now;
            fresh = L.fresh c.args.link.now;
            aside = L.aside c.args.link.now;
            given = L.given c.args.link.now;
            held = L.held c.args.link.now;
            waits = L.waits c.args.link.now;
            receives = L.receives c.args.link.now;
            failures = L.failures c.args.link.now;
          })
          (record {
            heard = told;
            fresh = L.fresh c.loop-passed.link;
            aside = L.aside c.loop-passed.link;
            given = L.given c.loop-passed.link;
            held = L.held c.loop-passed.link;
            waits = L.waits c.loop-passed.link;
            receives = L.receives c.loop-passed.link;
            failures = L.failures c.loop-passed.link;
          })
          (record {
            heard = L.heard c.set_aside.new.self;
            fresh = L.fresh c.set_aside.new.self;
            aside = L.aside c.set_aside.new.self;
            given = L.given c.set_aside.new.self;
            held = L.held c.set_aside.new.self;
            waits = L.waits c.set_aside.new.self;
            receives = L.receives c.set_aside.new.self;
            failures = L.failures c.set_aside.new.self;
          })
          c.loop-passed.passed datagram c.loop-passed.invariant.0 c.loop-passed-test.true
          (aside.0 ∙ ap (λ (instead : Instead). left_of instead told) c.instead_behind.ensures)
          (aside.1 ∙ ap (λ (list : Option (List HeardDatagram)). and_then list datagram) c.in_ok-from.ensures.aside)
          (c.set_aside.ensures.given ∙ c.in_ok-from.ensures.given) (c.set_aside.ensures.waits ∙ c.in_ok-from.ensures.waits)
          (c.set_aside.ensures.counted ∙ c.in_ok-from.ensures.counted) (c.set_aside.ensures.failures ∙ c.in_ok-from.ensures.ok)
          (sym c.admit.ensures.within ∙ c.if-admit.false) (c.admit.ensures.beyond c.if-admit.false),
      omega (arith, c.loop-passed-test.true),
      c.admit.ensures.bounded,
    )
