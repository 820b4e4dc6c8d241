use Rattle.std.proofs.Common.{◌-◌, ◌≤◌}
use Rattle.sip_guard.specs.Guard.{IsBounded, PassesOver, most_passed}
use Rattle.sip_guard.proofs.guard.hear_within.Given as goal

-- so many were passed over
abbrev pub invariant-loop-passed : goal.invariant-loop-passed
invariant-loop-passed g l =
    let L = g.L.Link in
    PassesOver l.initial.allowances l.allowances
    (record {
      heard = L.heard l.initial.link;
      fresh = L.fresh l.initial.link;
      aside = L.aside l.initial.link;
      given = L.given l.initial.link;
      held = L.held l.initial.link;
      waits = L.waits l.initial.link;
      receives = L.receives l.initial.link;
      failures = L.failures l.initial.link;
    })
    (record {
      heard = L.heard l.link;
      fresh = L.fresh l.link;
      aside = L.aside l.link;
      given = L.given l.link;
      held = L.held l.link;
      waits = L.waits l.link;
      receives = L.receives l.link;
      failures = L.failures l.link;
    }) l.passed
    × (l.passed ≤ most_passed) × IsBounded l.allowances

abbrev pub decreases-loop-passed : goal.decreases-loop-passed
decreases-loop-passed g l = most_passed - l.passed
