use Rattle.std.proofs.Common.{sym, ◌∙◌, ap, ◌++◌, take, arith}
use Rattle.std.proofs.lemmas.Result.{err_from_is_err_and}
use Rattle.sip_replay_script.specs.Devices.{later}
use Rattle.sip_replay_script.specs.Lines.{GivesLine, IsSpent}
use Rattle.sip_replay_script.specs.Events.{is_dot, said}
use Rattle.sip_replay_script.proofs.Datagrams.{gathers_lines, gathers_dot, gathers_more, gathers_all, datagram_stops, datagram_over}
use Rattle.sip_replay_script.proofs.event.gather.Goals as goal

pub returns-then-branch-clause-given : goal.returns-then-branch-clause-given
returns-then-branch-clause-given g c =
    (gathers_dot c.args.lines.now c.loop-line.lines c.keep_lines.new.lines (g.R.TellingReader.remaining c.args.reader.now)
    (g.R.TellingReader.remaining c.loop-line.reader) c.loop-line.bytes c.keep_lines.new.bytes
    c.loop-line.invariant.2 (c.in_ok-keep_lines.ensures.all c.if-branch.true))

pub returns-then-is_dot-clause-given : goal.returns-then-is_dot-clause-given
returns-then-is_dot-clause-given g c =
    (gathers_all c.args.lines.now c.keep_lines.new.lines c.next.new.self (g.R.TellingReader.remaining c.args.reader.now) (g.R.TellingReader.remaining c.loop-line.reader)
    (g.R.TellingReader.remaining c.next.new.reader)
    c.keep_lines.new.bytes c.next.new.line.items
    (gathers_lines c.args.lines.now c.loop-line.lines c.keep_lines.new.lines (g.R.TellingReader.remaining c.args.reader.now)
    (g.R.TellingReader.remaining c.loop-line.reader) c.loop-line.bytes c.keep_lines.new.bytes
    c.loop-line.invariant.2 (c.in_ok-keep_lines.ensures.kept c.if-branch.false))
    (c.in_ok-next.ensures.given c.if-not-branch.false)
    (ap is_dot (sym c.deref.ensures.value) ∙ sym c.is_dot.ensures ∙ c.if-is_dot.true))

pub loop-line-preserved : goal.loop-line-preserved
loop-line-preserved g c =
    let given : GivesLine c.keep_lines.new.lines c.next.new.self (g.R.TellingReader.remaining c.loop-line.reader) (g.R.TellingReader.remaining c.next.new.reader)
    c.next.new.line.items = c.in_ok-next.ensures.given c.if-not-branch.false in
    let before = c.loop-line.invariant.1 in
    let fewer = c.in_ok-keep_lines.ensures.fewer in (
      c.in_ok-keep_line.ensures.most,
      omega (arith, before, fewer, given.fewer),
      gathers_more c.args.lines.now c.keep_lines.new.lines c.next.new.self (g.R.TellingReader.remaining c.args.reader.now)
          (g.R.TellingReader.remaining c.loop-line.reader) (g.R.TellingReader.remaining c.next.new.reader)
          c.keep_lines.new.bytes c.next.new.line.items c.keep_line.new.bytes
          (gathers_lines c.args.lines.now c.loop-line.lines c.keep_lines.new.lines (g.R.TellingReader.remaining c.args.reader.now)
          (g.R.TellingReader.remaining c.loop-line.reader) c.loop-line.bytes c.keep_lines.new.bytes
          c.loop-line.invariant.2 (c.in_ok-keep_lines.ensures.kept c.if-branch.false)) given
          (ap is_dot (sym c.deref.ensures.value) ∙ sym c.is_dot.ensures ∙ c.if-is_dot.false)
          (c.in_ok-keep_line.ensures.kept ∙ ap (λ l. take 65508 (c.keep_lines.new.bytes ++ said l)) c.deref-in-loop-line.ensures.value),
      omega (arith, c.next.ensures.less, c.keep_lines.ensures.asks, c.loop-line.invariant.3),
      c.next.ensures.asked ∙ ap (λ asks. later asks (g.R.TellingReader.asked c.loop-line.reader)) c.keep_lines.ensures.asks ∙ c.loop-line.invariant.4,
    )

pub returns-in_err-next-clause-stopped : goal.returns-in_err-next-clause-stopped
returns-in_err-next-clause-stopped g c =
    let p = err_from_is_err_and c.from_residual-in_err-next.result c.from_residual-in_err-next.ensures.1 in
    rw (p.1, p.2) (datagram_stops (IsSpent (g.R.TellingReader.has_failed c.next.new.reader) c.next.new.self.asks) c.args.lines.now c.keep_lines.new.lines
    (g.R.TellingReader.remaining c.args.reader.now) (g.R.TellingReader.remaining c.loop-line.reader)
    c.keep_lines.new.bytes c.next.new.line.items c.in_err-next.field-0.0
    (gathers_lines c.args.lines.now c.loop-line.lines c.keep_lines.new.lines (g.R.TellingReader.remaining c.args.reader.now)
    (g.R.TellingReader.remaining c.loop-line.reader) c.loop-line.bytes c.keep_lines.new.bytes
    c.loop-line.invariant.2 (c.in_ok-keep_lines.ensures.kept c.if-branch.false))
    c.in_err-next.ensures.stopped)

pub returns-then-not-branch-clause-stopped : goal.returns-then-not-branch-clause-stopped
returns-then-not-branch-clause-stopped g c =
    datagram_over c.args.lines.now c.keep_lines.new.lines c.next.new.self (g.R.TellingReader.remaining c.args.reader.now) (g.R.TellingReader.remaining c.loop-line.reader)
    (g.R.TellingReader.remaining c.next.new.reader)
    c.keep_lines.new.bytes
    (gathers_lines c.args.lines.now c.loop-line.lines c.keep_lines.new.lines (g.R.TellingReader.remaining c.args.reader.now)
    (g.R.TellingReader.remaining c.loop-line.reader) c.loop-line.bytes c.keep_lines.new.bytes
    c.loop-line.invariant.2 (c.in_ok-keep_lines.ensures.kept c.if-branch.false))
    (c.in_ok-next.ensures.over c.if-not-branch.true)
