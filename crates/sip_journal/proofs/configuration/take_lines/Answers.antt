use Rattle.std.proofs.Common.{◌≤◌, arith, ◌∙◌}
use Rattle.std.proofs.lemmas.Result.{err_from_is_err_and}
use Rattle.sip_replay_script.specs.Lines.{IsSpent}
use Rattle.sip_journal.proofs.Configurations.{taken_more, taken_stops, taken_whole}
use Rattle.sip_journal.proofs.configuration.take_lines.Goals as goal

pub loop-line-preserved : goal.loop-line-preserved
loop-line-preserved g c =
    let less : c.take_line.new.lines.asks ≤ c.loop-line.lines.asks = c.take_line.ensures.less in
    let fewer : c.loop-line.lines.asks ≤ c.args.lines.now.asks = c.loop-line.invariant.2 in (
      taken_more c.args.lines.now c.loop-line.lines c.take_line.new.lines (g.R.TellingReader.remaining c.args.reader.now) (g.R.TellingReader.remaining c.loop-line.reader)
          (g.R.TellingReader.remaining c.take_line.new.reader)
          c.loop-line.text c.take_line.new.text c.loop-line.invariant.0 (c.in_ok-take_line.ensures.piece c.if-branch.true),
      c.in_ok-take_line.ensures.short,
      omega (arith, less, fewer),
      c.take_line.ensures.asked ∙ c.loop-line.invariant.3,
    )

pub returns-clause-given : goal.returns-clause-given
returns-clause-given g c =
    let whole = c.in_ok-take_line.ensures.whole c.if-branch.false in
    taken_whole c.args.lines.now c.loop-line.lines c.take_line.new.lines (g.R.TellingReader.remaining c.args.reader.now) (g.R.TellingReader.remaining c.loop-line.reader)
    (g.R.TellingReader.remaining c.take_line.new.reader)
    c.loop-line.text c.take_line.new.text c.loop-line.invariant.0 whole.0 whole.1

pub returns-in_err-take_line-clause-stopped : goal.returns-in_err-take_line-clause-stopped
returns-in_err-take_line-clause-stopped g c =
    let p = err_from_is_err_and c.from_residual.result c.from_residual.ensures.1 in
    rw (p.1, p.2) (taken_stops c.args.longest (IsSpent (g.R.TellingReader.has_failed c.take_line.new.reader) c.take_line.new.lines.asks) c.args.lines.now
    c.loop-line.lines (g.R.TellingReader.remaining c.args.reader.now)
    (g.R.TellingReader.remaining c.loop-line.reader) c.loop-line.text c.in_err-take_line.field-0.0 c.requires.some c.loop-line.invariant.0
    c.in_err-take_line.ensures.stopped)
