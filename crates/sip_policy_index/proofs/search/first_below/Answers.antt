use Rattle.std.proofs.Common.{drop, ap, sym, ◌∙◌, slice_index_or}
use Rattle.sip_policy_index.specs.RuleQuestion.{applies_to}
use Rattle.sip_policy_index.proofs.Least.{stops, finds, ends, found_least}
use Rattle.sip_policy_index.proofs.search.first_below.Goals as goal

pub returns-then-at-best-clause-first : goal.returns-then-at-best-clause-first
returns-then-at-best-clause-first c = λ class are.
    let test = applies_to c.args.asked.now in
    let rules = c.args.asked.now.rules.now in
    let places = c.args.places.now in
    found_least test class rules c.args.best c.args.best places (drop c.loop-at.at-index places) c.requires
    (stops test rules c.args.best places c.loop-at.at-index c.loop-at-test.true c.if-at-best.true) c.loop-at.invariant are

pub returns-then-is_for-clause-first : goal.returns-then-is_for-clause-first
returns-then-is_for-clause-first c = λ class are.
    let test = applies_to c.args.asked.now in
    let rules = c.args.asked.now.rules.now in
    let places = c.args.places.now in
    found_least test class rules c.args.best (slice_index_or places c.loop-at.at-index 0) places (drop c.loop-at.at-index places) c.requires
    (finds test rules c.args.best places c.loop-at.at-index c.index-asked-at.result c.loop-at-test.true c.if-at-best.false c.requires c.index-asked-at.is
    (ap test c.index-asked-at.is ∙ sym c.is_for.ensures ∙ c.if-is_for.true)) c.loop-at.invariant are

pub returns-clause-first : goal.returns-clause-first
returns-clause-first c = λ class are.
    let test = applies_to c.args.asked.now in
    let rules = c.args.asked.now.rules.now in
    let places = c.args.places.now in
    found_least test class rules c.args.best c.args.best places (drop c.loop-at.at-index places) c.requires
    (ends test rules c.args.best places c.loop-at.at-index c.loop-at-test.false) c.loop-at.invariant are
