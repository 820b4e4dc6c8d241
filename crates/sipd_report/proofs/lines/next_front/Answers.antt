use Rattle.std.proofs.Common.{◌<◌, ◌≤◌, ◌+◌, ◌∙◌, List, ℕ, length, ap, sym, subst, arith}
use Rattle.sip_replay_script.specs.Devices.{later}
use Rattle.sip_replay_script.specs.Lines.{pending, left}
use Rattle.sipd_report.proofs.Ends.{gathers_kept, gathers_more, gathers_end, gathers_last, gathers_none, ends_left, goes_left}
use Rattle.sipd_report.proofs.lines.next_front.Goals as goal

pub returns-then-not-branch-clause-given : goal.returns-then-not-branch-clause-given
returns-then-not-branch-clause-given g c =
    let before = pending c.args.lines.now (g.R.TellingReader.remaining c.args.reader.now) in
    let here = pending c.parts.lines (g.R.TellingReader.remaining c.parts.reader) in
    let after = pending c.is_more.new.lines (g.R.TellingReader.remaining c.is_more.new.reader) in
    let fewer : left c.is_more.new.lines ≤ left c.parts.lines = c.in_ok-is_more.ensures.fewer in
    let least : left c.parts.lines + length c.parts.line.items ≤ left c.args.lines.now = c.parts.invariant.2 in
    λ begun.
    let some : 1 ≤ length c.parts.line.items = subst (λ (l : List ℕ). 1 ≤ length l) c.deref.ensures.value (c.is_begun.ensures.begun begun) in
    record {
      gives = gathers_last before after c.parts.line.items (gathers_kept before here after c.parts.line.items c.parts.invariant.0 c.in_ok-is_more.ensures.kept)
          (c.in_ok-is_more.ensures.end c.if-not-branch.true) some;
      fewer = omega (arith, fewer, least, some);
    }

pub returns-then-not-branch-clause-over : goal.returns-then-not-branch-clause-over
returns-then-not-branch-clause-over g c =
    let before = pending c.args.lines.now (g.R.TellingReader.remaining c.args.reader.now) in
    let here = pending c.parts.lines (g.R.TellingReader.remaining c.parts.reader) in
    let after = pending c.is_more.new.lines (g.R.TellingReader.remaining c.is_more.new.reader) in
    λ none. record {
      kept = gathers_none before after c.parts.line.items (gathers_kept before here after c.parts.line.items c.parts.invariant.0 c.in_ok-is_more.ensures.kept)
          (sym c.deref.ensures.value ∙ c.is_begun.ensures.none none);
      at_end = c.in_ok-is_more.ensures.end c.if-not-branch.true;
    }

pub returns-then-branch-clause-given : goal.returns-then-branch-clause-given
returns-then-branch-clause-given g c =
    let before = pending c.args.lines.now (g.R.TellingReader.remaining c.args.reader.now) in
    let here = pending c.parts.lines (g.R.TellingReader.remaining c.parts.reader) in
    let after = pending c.is_more.new.lines (g.R.TellingReader.remaining c.is_more.new.reader) in
    let fewer : left c.is_more.new.lines ≤ left c.parts.lines = c.in_ok-is_more.ensures.fewer in
    let least : left c.parts.lines + length c.parts.line.items ≤ left c.args.lines.now = c.parts.invariant.2 in
    let less : left c.take_part.new.lines < left c.is_more.new.lines =
    ends_left c.is_more.new.lines c.take_part.new.lines c.parts.line.items c.take_part.new.line.items (c.in_ok-take_part.ensures.ends c.if-branch.true) in
    λ ended. record {
      gives = gathers_end before (g.R.TellingReader.remaining c.is_more.new.reader) c.is_more.new.lines c.take_part.new.lines c.parts.line.items c.take_part.new.line.items
          (gathers_kept before here after c.parts.line.items c.parts.invariant.0 c.in_ok-is_more.ensures.kept) (c.in_ok-take_part.ensures.ends c.if-branch.true);
      fewer = omega (arith, fewer, least, less);
    }

pub parts-preserved : goal.parts-preserved
parts-preserved g c =
    let before = pending c.args.lines.now (g.R.TellingReader.remaining c.args.reader.now) in
    let here = pending c.parts.lines (g.R.TellingReader.remaining c.parts.reader) in
    let after = pending c.is_more.new.lines (g.R.TellingReader.remaining c.is_more.new.reader) in
    let fewer : left c.is_more.new.lines ≤ left c.parts.lines = c.in_ok-is_more.ensures.fewer in
    let least : left c.parts.lines + length c.parts.line.items ≤ left c.args.lines.now = c.parts.invariant.2 in
    let goes = c.in_ok-take_part.ensures.goes_on c.if-branch.false in
    let sum : left c.take_part.new.lines + length c.take_part.new.line.items ≤ left c.is_more.new.lines + length c.parts.line.items =
    (goes_left c.is_more.new.lines c.take_part.new.lines c.parts.line.items c.take_part.new.line.items goes).0 in (
      gathers_more before (g.R.TellingReader.remaining c.is_more.new.reader) c.is_more.new.lines c.take_part.new.lines c.parts.line.items c.take_part.new.line.items
          (gathers_kept before here after c.parts.line.items c.parts.invariant.0 c.in_ok-is_more.ensures.kept) goes,
      c.in_ok-take_part.ensures.short,
      omega (arith, fewer, least, sum),
      omega (arith, c.take_part.ensures.asks, c.is_more.ensures.less, c.parts.invariant.3),
      ap (λ n. later n (g.R.TellingReader.asked c.is_more.new.reader)) c.take_part.ensures.asks ∙ c.is_more.ensures.asked ∙ c.parts.invariant.4,
    )
