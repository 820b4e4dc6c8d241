use Rattle.std.proofs.Common.{◌≡◌, ◌⊎◌, ◌∙◌, ℕ, List, Option, sym, subst, arith}
use Rattle.std.proofs.lemmas.Result.{err_from_is_err_and}
use Rattle.sip_replay_script.specs.Devices.{later, GaveUp}
use Rattle.sip_replay_script.specs.Lines.{pending, IsSpent}
use Rattle.sip_replay_script.proofs.Calls.{asked_so_far, spent_at_last}
use Rattle.sipd_expect.specs.declared.counts.Counts.{Counts}
use Rattle.sipd_expect.proofs.Refused.{refused_at_once, refused_line, refused_ending}
use Rattle.sipd_expect.proofs.AskedAgain.{IsSoFar, asked_more, asked_last}
use Rattle.sipd_expect.proofs.log_lines.ask_again.Goals as goal

pub loop-line-preserved : goal.loop-line-preserved
loop-line-preserved g c = (
  asked_more c.args.config.now (g.I.TellingReader.remaining c.args.input.now) (g.W.TellingWriter.contents c.args.output.now) c.loop-line.lines c.take_next.new.lines
      (g.I.TellingReader.remaining c.loop-line.input) (g.I.TellingReader.remaining c.take_next.new.input) (g.W.TellingWriter.contents c.loop-line.output)
      (g.W.TellingWriter.contents c.take_next.new.output)
      c.loop-line.counts c.take_next.new.counts c.loop-line.invariant.0 (c.in_ok-take_next.ensures.taken c.if-branch.true),
  omega (arith, c.take_next.ensures.less, c.loop-line.invariant.1),
  c.take_next.ensures.asked ∙ c.loop-line.invariant.2,
)

pub returns-clause-told : goal.returns-clause-told
returns-clause-told g c =
    let input = g.I.TellingReader.remaining c.args.input.now in
    let here = pending c.loop-line.lines (g.I.TellingReader.remaining c.loop-line.input) in
    let before = g.W.TellingWriter.contents c.args.output.now in
    asked_last c.args.config.now input before (g.W.TellingWriter.contents c.take_next.new.output) (g.W.TellingWriter.contents c.finish.new.output) c.loop-line.lines
    c.take_next.new.lines
    (g.I.TellingReader.remaining c.loop-line.input) (g.I.TellingReader.remaining c.take_next.new.input) c.take_next.new.counts
    (subst (λ (t : Counts). IsSoFar c.args.config.now input here before (g.W.TellingWriter.contents c.take_next.new.output) t)
    (sym (c.in_ok-take_next.ensures.counted c.if-branch.false))
    (subst (λ (o : Option (List ℕ)). IsSoFar c.args.config.now input here before o c.loop-line.counts) (sym (c.in_ok-take_next.ensures.silent c.if-branch.false))
    c.loop-line.invariant.0))
    (c.in_ok-take_next.ensures.over c.if-branch.false) c.finish.ensures.kept

pub returns-clause-asked : goal.returns-clause-asked
returns-clause-asked g c =
    asked_so_far (g.I.TellingReader.asked c.args.input.now) (g.I.TellingReader.asked c.take_next.new.input) 4294967295 c.take_next.new.lines.asks
    (c.take_next.ensures.asked ∙ c.loop-line.invariant.2) (omega (arith, c.take_next.ensures.less, c.loop-line.invariant.1))

pub returns-in_err-finish-clause-asked : goal.returns-in_err-finish-clause-asked
returns-in_err-finish-clause-asked g c =
    asked_so_far (g.I.TellingReader.asked c.args.input.now) (g.I.TellingReader.asked c.take_next.new.input) 4294967295 c.take_next.new.lines.asks
    (c.take_next.ensures.asked ∙ c.loop-line.invariant.2) (omega (arith, c.take_next.ensures.less, c.loop-line.invariant.1))

pub returns-in_err-take_next-clause-asked : goal.returns-in_err-take_next-clause-asked
returns-in_err-take_next-clause-asked g c =
    asked_so_far (g.I.TellingReader.asked c.args.input.now) (g.I.TellingReader.asked c.take_next.new.input) 4294967295 c.take_next.new.lines.asks
    (c.take_next.ensures.asked ∙ c.loop-line.invariant.2) (omega (arith, c.take_next.ensures.less, c.loop-line.invariant.1))

-- nothing was written
pub returns-in_err-lines-clause-refused : goal.returns-in_err-lines-clause-refused
returns-in_err-lines-clause-refused g c =
    let p = err_from_is_err_and c.from_residual.result c.from_residual.ensures.1 in
    rw (p.1, p.2) (refused_at_once c.args.config.now (g.I.TellingReader.remaining c.args.input.now) (g.W.TellingWriter.contents c.args.output.now)
    (g.I.TellingReader.has_failed c.args.input.now ⊎ (g.I.TellingReader.asked c.args.input.now ≡ later 4294967295 (g.I.TellingReader.asked c.args.input.now)))
    (GaveUp (g.W.TellingWriter.has_failed c.args.output.now) (g.W.TellingWriter.called c.args.output.now)))

pub returns-in_err-take_next-clause-refused : goal.returns-in_err-take_next-clause-refused
returns-in_err-take_next-clause-refused g c =
    let p = err_from_is_err_and c.from_residual-in_err-take_next.result c.from_residual-in_err-take_next.ensures.1 in
    rw (p.1, p.2) (refused_line c.args.config.now (g.I.TellingReader.remaining c.args.input.now) (g.W.TellingWriter.contents c.args.output.now) c.loop-line.lines
    c.take_next.new.lines
    (g.I.TellingReader.remaining c.loop-line.input) (g.I.TellingReader.remaining c.take_next.new.input) (g.W.TellingWriter.contents c.loop-line.output)
    (g.W.TellingWriter.contents c.take_next.new.output) c.loop-line.counts
    (IsSpent (g.I.TellingReader.has_failed c.take_next.new.input) c.take_next.new.lines.asks)
    (g.I.TellingReader.has_failed c.take_next.new.input ⊎ (g.I.TellingReader.asked c.take_next.new.input ≡ later 4294967295 (g.I.TellingReader.asked c.args.input.now)))
    (GaveUp (g.W.TellingWriter.has_failed c.take_next.new.output) (g.W.TellingWriter.called c.take_next.new.output)) c.in_err-take_next.field-0.0
    c.loop-line.invariant.0
    (spent_at_last (g.I.TellingReader.has_failed c.take_next.new.input) (g.I.TellingReader.asked c.args.input.now) (g.I.TellingReader.asked c.take_next.new.input)
    4294967295 c.take_next.new.lines.asks
    (c.take_next.ensures.asked ∙ c.loop-line.invariant.2)) c.in_err-take_next.ensures.stopped)

pub returns-in_err-finish-clause-refused : goal.returns-in_err-finish-clause-refused
returns-in_err-finish-clause-refused g c =
    let input = g.I.TellingReader.remaining c.args.input.now in
    let here = pending c.loop-line.lines (g.I.TellingReader.remaining c.loop-line.input) in
    let before = g.W.TellingWriter.contents c.args.output.now in
    let p = err_from_is_err_and c.from_residual-in_err-finish.result c.from_residual-in_err-finish.ensures.1 in
    rw (p.1, p.2) (refused_ending c.args.config.now input before (g.W.TellingWriter.contents c.take_next.new.output) (g.W.TellingWriter.contents c.finish.new.output)
    c.loop-line.lines c.take_next.new.lines
    (g.I.TellingReader.remaining c.loop-line.input) (g.I.TellingReader.remaining c.take_next.new.input) c.take_next.new.counts
    (g.I.TellingReader.has_failed c.take_next.new.input ⊎ (g.I.TellingReader.asked c.take_next.new.input ≡ later 4294967295 (g.I.TellingReader.asked c.args.input.now)))
    (GaveUp (g.W.TellingWriter.has_failed c.finish.new.output) (g.W.TellingWriter.called c.finish.new.output)) c.in_err-finish.field-0.0
    (subst (λ (t : Counts). IsSoFar c.args.config.now input here before (g.W.TellingWriter.contents c.take_next.new.output) t)
    (sym (c.in_ok-take_next.ensures.counted c.if-branch.false))
    (subst (λ (o : Option (List ℕ)). IsSoFar c.args.config.now input here before o c.loop-line.counts) (sym (c.in_ok-take_next.ensures.silent c.if-branch.false))
    c.loop-line.invariant.0))
    (c.in_ok-take_next.ensures.over c.if-branch.false) c.finish.ensures.kept c.in_err-finish.ensures.stopped)
