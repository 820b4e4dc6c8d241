use Rattle.std.proofs.Common.{◌≡◌, ◌+◌, drop, ap, ◌∙◌, refl, arith}
use Rattle.sip_replay_script.specs.Escaped.{text_with}
use Rattle.sip_replay_script.proofs.escaped.put_by_lanes.Goals as goal

pub by_lanes-init : goal.by_lanes-init
by_lanes-init c =
    let none : c.args.at + 0 ≡ c.args.at = omega arith in
    (ap (λ n. text_with c.args.room.now n c.args.bytes.now) none, omega arith, omega arith, refl)

pub by_lanes-preserved : goal.by_lanes-preserved
by_lanes-preserved c =
    let l = c.by_lanes in
    let more = c.put_lanes-more in
    let place : c.args.at + (l.size + more.result.size) ≡ c.args.at + l.size + more.result.size = omega arith in (
      ap (λ n. text_with more.new.room n (drop (l.count + more.result.count) c.args.bytes.now)) place ∙ more.ensures.put ∙ l.invariant.0,
      more.ensures.within,
      omega (arith, l.invariant.2, more.ensures.fits),
      more.ensures.len ∙ l.invariant.3,
    )
