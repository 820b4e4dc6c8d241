use Rattle.std.proofs.Common.{◌<◌, ◌≤◌, ◌∙◌, refl, sym, ap, drop, length, arith}
use Rattle.sip_digest.specs.Rows.{nonces_in}
use Rattle.sip_digest.proofs.Lasting.{alike_all, alike_at, alike_more, many_from}
use Rattle.sip_digest.proofs.nonces.are_alike.Goals as goal

pub returns-then-count-other_count : goal.returns-then-count-other_count
returns-then-count-other_count c =
    let here = many_from c.args.left.now.items c.args.mine c.saturating_sub-count.result c.len.result (c.len.ensures ∙ c.args.left.now.ok.0)
    c.saturating_sub-count.ensures in
    let there = many_from c.args.right.now.items c.args.others c.saturating_sub-other_count.result c.len-2.result (c.len-2.ensures ∙ c.args.right.now.ok.0)
    c.saturating_sub-other_count.ensures in
    (λ no. absurd (cc), λ same. absurd (c.if-count-other_count.true (here ∙ ap length same ∙ sym there)))

pub returns-then-not-same_at : goal.returns-then-not-same_at
returns-then-not-same_at c = (
  λ no. absurd (cc),
  λ same. c.if-not-same_at.ensures.1
      (alike_at (nonces_in c.args.left.now.items) (nonces_in c.args.right.now.items) c.args.mine c.args.others c.loop-at.at same),
)

pub loop-at-preserved : goal.loop-at-preserved
loop-at-preserved c =
    let left = nonces_in c.args.left.now.items in
    let right = nonces_in c.args.right.now.items in
    let here = many_from c.args.left.now.items c.args.mine c.saturating_sub-count.result c.len.result (c.len.ensures ∙ c.args.left.now.ok.0)
    c.saturating_sub-count.ensures in
    let there = many_from c.args.right.now.items c.args.others c.saturating_sub-other_count.result c.len-2.result (c.len-2.ensures ∙ c.args.right.now.ok.0)
    c.saturating_sub-other_count.ensures in
    let in_left : c.loop-at.at < length (drop c.args.mine left) = omega (arith, here, c.loop-at-test.true) in
    let in_right : c.loop-at.at < length (drop c.args.others right) = omega (arith, there, c.if-count-other_count.false, c.loop-at-test.true) in
    alike_more left right c.args.mine c.args.others c.loop-at.at in_left in_right (c.if-not-same_at.ensures.0 refl) c.loop-at.invariant

pub returns : goal.returns
returns c =
    let left = drop c.args.mine (nonces_in c.args.left.now.items) in
    let right = drop c.args.others (nonces_in c.args.right.now.items) in
    let here = many_from c.args.left.now.items c.args.mine c.saturating_sub-count.result c.len.result (c.len.ensures ∙ c.args.left.now.ok.0)
    c.saturating_sub-count.ensures in
    let there = many_from c.args.right.now.items c.args.others c.saturating_sub-other_count.result c.len-2.result (c.len-2.ensures ∙ c.args.right.now.ok.0)
    c.saturating_sub-other_count.ensures in
    let in_left : length left ≤ c.loop-at.at = omega (arith, here, c.loop-at-test.false) in
    let in_right : length right ≤ c.loop-at.at = omega (arith, there, c.if-count-other_count.false, c.loop-at-test.false) in
    (λ _. alike_all left right c.loop-at.at in_left in_right c.loop-at.invariant, λ _. refl)
