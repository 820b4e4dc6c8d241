use Rattle.std.proofs.Common.{◌≡◌, ◌⊎◌, ◌∙◌, ℕ, List, Option, sym, subst, arith}
use Rattle.std.proofs.lemmas.Result.{err_from_is_err_and}
use Rattle.sip_replay_script.specs.Devices.{later, GaveUp}
use Rattle.sip_replay_script.specs.Lines.{pending, IsSpent}
use Rattle.sipd_report.specs.declared.tally.Tally.{Tally}
use Rattle.sip_replay_script.proofs.Calls.{asked_so_far, spent_at_last}
use Rattle.sipd_report.proofs.Refused.{refused_at_once, refused_heading, refused_line, refused_ending}
use Rattle.sipd_report.proofs.Reported.{IsReported, reported_more, reported_last}
use Rattle.sipd_report.proofs.reporting.report.Goals as goal

pub loop-tally-preserved : goal.loop-tally-preserved
loop-tally-preserved g c = (
  reported_more c.args.query.now (g.I.TellingReader.remaining c.args.input.now) (g.W.TellingWriter.contents c.args.output.now) c.loop-tally.lines c.take_next.new.lines
      (g.I.TellingReader.remaining c.loop-tally.input) (g.I.TellingReader.remaining c.take_next.new.input) (g.W.TellingWriter.contents c.loop-tally.output)
      (g.W.TellingWriter.contents c.take_next.new.output)
      c.loop-tally.tally c.take_next.new.tally c.loop-tally.invariant.0 (c.in_ok-take_next.ensures.taken c.if-branch.true),
  omega (arith, c.take_next.ensures.less, c.loop-tally.invariant.1),
  c.take_next.ensures.asked ∙ c.loop-tally.invariant.2,
)

pub returns-clause-reported : goal.returns-clause-reported
returns-clause-reported g c =
    let input = g.I.TellingReader.remaining c.args.input.now in
    let here = pending c.loop-tally.lines (g.I.TellingReader.remaining c.loop-tally.input) in
    let before = g.W.TellingWriter.contents c.args.output.now in
    reported_last c.args.query.now input before (g.W.TellingWriter.contents c.take_next.new.output) (g.W.TellingWriter.contents c.finish.new.output) c.loop-tally.lines
    c.take_next.new.lines
    (g.I.TellingReader.remaining c.loop-tally.input) (g.I.TellingReader.remaining c.take_next.new.input) c.take_next.new.tally
    (subst (λ (t : Tally). IsReported c.args.query.now input here before (g.W.TellingWriter.contents c.take_next.new.output) t)
    (sym (c.in_ok-take_next.ensures.counted c.if-branch.false))
    (subst (λ (o : Option (List ℕ)). IsReported c.args.query.now input here before o c.loop-tally.tally) (sym (c.in_ok-take_next.ensures.silent c.if-branch.false))
    c.loop-tally.invariant.0))
    (c.in_ok-take_next.ensures.over c.if-branch.false) c.in_ok-finish.ensures.written

pub returns-clause-asked : goal.returns-clause-asked
returns-clause-asked g c =
    asked_so_far (g.I.TellingReader.asked c.args.input.now) (g.I.TellingReader.asked c.take_next.new.input) 4294967295 c.take_next.new.lines.asks
    (c.take_next.ensures.asked ∙ c.loop-tally.invariant.2) (omega (arith, c.take_next.ensures.less, c.loop-tally.invariant.1))

pub returns-in_err-finish-clause-asked : goal.returns-in_err-finish-clause-asked
returns-in_err-finish-clause-asked g c =
    asked_so_far (g.I.TellingReader.asked c.args.input.now) (g.I.TellingReader.asked c.take_next.new.input) 4294967295 c.take_next.new.lines.asks
    (c.take_next.ensures.asked ∙ c.loop-tally.invariant.2) (omega (arith, c.take_next.ensures.less, c.loop-tally.invariant.1))

pub returns-in_err-take_next-clause-asked : goal.returns-in_err-take_next-clause-asked
returns-in_err-take_next-clause-asked g c =
    asked_so_far (g.I.TellingReader.asked c.args.input.now) (g.I.TellingReader.asked c.take_next.new.input) 4294967295 c.take_next.new.lines.asks
    (c.take_next.ensures.asked ∙ c.loop-tally.invariant.2) (omega (arith, c.take_next.ensures.less, c.loop-tally.invariant.1))

-- nothing was written
pub returns-in_err-lines-clause-refused : goal.returns-in_err-lines-clause-refused
returns-in_err-lines-clause-refused g c =
    let p = err_from_is_err_and c.from_residual.result c.from_residual.ensures.1 in
    rw (p.1, p.2) (refused_at_once c.args.query.now (g.I.TellingReader.remaining c.args.input.now) (g.W.TellingWriter.contents c.args.output.now)
    (g.I.TellingReader.has_failed c.args.input.now ⊎ (g.I.TellingReader.asked c.args.input.now ≡ later 4294967295 (g.I.TellingReader.asked c.args.input.now)))
    (GaveUp (g.W.TellingWriter.has_failed c.args.output.now) (g.W.TellingWriter.called c.args.output.now)))

pub returns-in_err-begin-clause-refused : goal.returns-in_err-begin-clause-refused
returns-in_err-begin-clause-refused g c =
    let p = err_from_is_err_and c.from_residual-in_err-begin.result c.from_residual-in_err-begin.ensures.1 in
    rw (p.1, p.2) (refused_heading c.args.query.now (g.I.TellingReader.remaining c.args.input.now) (g.W.TellingWriter.contents c.args.output.now)
    (g.W.TellingWriter.contents c.begin.new.output)
    (g.I.TellingReader.has_failed c.args.input.now ⊎ (g.I.TellingReader.asked c.args.input.now ≡ later 4294967295 (g.I.TellingReader.asked c.args.input.now)))
    (GaveUp (g.W.TellingWriter.has_failed c.begin.new.output) (g.W.TellingWriter.called c.begin.new.output)) c.in_err-begin.field-0.0 c.in_err-begin.ensures.stopped)

pub returns-in_err-take_next-clause-refused : goal.returns-in_err-take_next-clause-refused
returns-in_err-take_next-clause-refused g c =
    let p = err_from_is_err_and c.from_residual-in_err-take_next.result c.from_residual-in_err-take_next.ensures.1 in
    rw (p.1, p.2) (refused_line c.args.query.now (g.I.TellingReader.remaining c.args.input.now) (g.W.TellingWriter.contents c.args.output.now) c.loop-tally.lines
    c.take_next.new.lines
    (g.I.TellingReader.remaining c.loop-tally.input) (g.I.TellingReader.remaining c.take_next.new.input) (g.W.TellingWriter.contents c.loop-tally.output)
    (g.W.TellingWriter.contents c.take_next.new.output) c.loop-tally.tally
    (IsSpent (g.I.TellingReader.has_failed c.take_next.new.input) c.take_next.new.lines.asks)
    (g.I.TellingReader.has_failed c.take_next.new.input ⊎ (g.I.TellingReader.asked c.take_next.new.input ≡ later 4294967295 (g.I.TellingReader.asked c.args.input.now)))
    (GaveUp (g.W.TellingWriter.has_failed c.take_next.new.output) (g.W.TellingWriter.called c.take_next.new.output)) c.in_err-take_next.field-0.0 c.loop-tally.invariant.0
    (spent_at_last (g.I.TellingReader.has_failed c.take_next.new.input) (g.I.TellingReader.asked c.args.input.now) (g.I.TellingReader.asked c.take_next.new.input)
    4294967295 c.take_next.new.lines.asks
    (c.take_next.ensures.asked ∙ c.loop-tally.invariant.2)) c.in_err-take_next.ensures.stopped)

pub returns-in_err-finish-clause-refused : goal.returns-in_err-finish-clause-refused
returns-in_err-finish-clause-refused g c =
    let input = g.I.TellingReader.remaining c.args.input.now in
    let here = pending c.loop-tally.lines (g.I.TellingReader.remaining c.loop-tally.input) in
    let before = g.W.TellingWriter.contents c.args.output.now in
    let p = err_from_is_err_and c.from_residual-in_err-finish.result c.from_residual-in_err-finish.ensures.1 in
    rw (p.1, p.2) (refused_ending c.args.query.now input before (g.W.TellingWriter.contents c.take_next.new.output) (g.W.TellingWriter.contents c.finish.new.output)
    c.loop-tally.lines c.take_next.new.lines
    (g.I.TellingReader.remaining c.loop-tally.input) (g.I.TellingReader.remaining c.take_next.new.input) c.take_next.new.tally
    (g.I.TellingReader.has_failed c.take_next.new.input ⊎ (g.I.TellingReader.asked c.take_next.new.input ≡ later 4294967295 (g.I.TellingReader.asked c.args.input.now)))
    (GaveUp (g.W.TellingWriter.has_failed c.finish.new.output) (g.W.TellingWriter.called c.finish.new.output)) c.in_err-finish.field-0.0
    (subst (λ (t : Tally). IsReported c.args.query.now input here before (g.W.TellingWriter.contents c.take_next.new.output) t)
    (sym (c.in_ok-take_next.ensures.counted c.if-branch.false))
    (subst (λ (o : Option (List ℕ)). IsReported c.args.query.now input here before o c.loop-tally.tally) (sym (c.in_ok-take_next.ensures.silent c.if-branch.false))
    c.loop-tally.invariant.0))
    (c.in_ok-take_next.ensures.over c.if-branch.false) c.in_err-finish.ensures.stopped)
