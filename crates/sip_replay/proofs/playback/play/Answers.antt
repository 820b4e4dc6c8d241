use Rattle.std.proofs.Common.{◌≡◌, ℕ, List, [], Option, ◌∙◌, ◌⊎◌, sym, ap, subst, refl, arith}
use Rattle.std.proofs.lemmas.Result.{err_from_is_err_and}
use Rattle.sip_model.specs.state.State.{first_state}
use Rattle.sip_model.specs.TimerOrder.{first_standing}
use Rattle.sip_resume.proofs.of_standings.{standing_is}
use Rattle.sip_resume.specs.run.Due.{standing_of}
use Rattle.sip_replay_script.specs.Devices.{later, GaveUp}
use Rattle.sip_replay_script.specs.Lines.{Reading, IsSpent}
use Rattle.sip_replay.specs.Replays.{server_with, IsReplay}
use Rattle.sip_replay.proofs.Calls.{faulted_spent}
use Rattle.sip_replay.proofs.Refusing.{play_refused, refuses_at_once}
use Rattle.sip_replay.proofs.Replaying.{Replays, replays_nothing, replays_next, replays_over}
use Rattle.sip_replay_script.proofs.Calls.{asked_so_far, spent_at_last}
use Rattle.sip_replay.proofs.playback.play.Goals as goal

pub loop-bytes-init : goal.loop-bytes-init
loop-bytes-init g c = (
  c.in-Ok.ensures.server,
  subst (λ s. Replays (server_with c.args.config c.args.boot.word) (first_standing c.args.boot.first) s c.in-Ok-new.lines c.in-Ok-new.lines
      (g.I.TellingReader.remaining c.args.reader.now) (g.I.TellingReader.remaining c.args.reader.now) (g.W.TellingWriter.contents c.args.writer.now)
      (g.W.TellingWriter.contents c.args.writer.now)) (sym (standing_is c.in-Ok.engine (first_state c.args.boot.first) [] c.in-Ok.ensures.state c.in-Ok.ensures.timers))
      (replays_nothing (server_with c.args.config c.args.boot.word) (first_standing c.args.boot.first) c.in-Ok-new.lines (g.I.TellingReader.remaining c.args.reader.now)
      (g.W.TellingWriter.contents c.args.writer.now)),
  omega arith,
  refl,
)

pub loop-bytes-preserved : goal.loop-bytes-preserved
loop-bytes-preserved g c = (
  c.take_next.ensures.server ∙ c.loop-bytes.invariant.0,
  replays_next c.runs_join.ensures (server_with c.args.config c.args.boot.word) c.loop-bytes.engine.server (first_standing c.args.boot.first)
      (standing_of c.loop-bytes.engine) (standing_of c.take_next.new.engine) c.in-Ok-new.lines c.loop-bytes.lines c.take_next.new.lines
      (g.I.TellingReader.remaining c.args.reader.now) (g.I.TellingReader.remaining c.loop-bytes.reader) (g.I.TellingReader.remaining c.take_next.new.reader)
      (g.W.TellingWriter.contents c.args.writer.now) (g.W.TellingWriter.contents c.loop-bytes.writer) (g.W.TellingWriter.contents c.take_next.new.writer)
      c.loop-bytes.invariant.0 c.loop-bytes.invariant.1 (c.in_ok-take_next.ensures.taken c.if-branch.true),
  omega (arith, c.take_next.ensures.less, c.loop-bytes.invariant.2),
  c.take_next.ensures.asked ∙ c.loop-bytes.invariant.3,
)

pub returns-in_err-take_next-clause-refused : goal.returns-in_err-take_next-clause-refused
returns-in_err-take_next-clause-refused g c =
    let p = err_from_is_err_and c.from_residual.result c.from_residual.ensures.1 in
    rw (p.1, p.2) (play_refused c.runs_join.ensures c.args.config c.args.boot.word c.args.boot.first c.loop-bytes.engine.server (standing_of c.loop-bytes.engine)
    c.in-Ok-new.lines c.loop-bytes.lines (g.I.TellingReader.remaining c.args.reader.now) (g.I.TellingReader.remaining c.loop-bytes.reader)
    (g.W.TellingWriter.contents c.args.writer.now) (g.W.TellingWriter.contents c.loop-bytes.writer) (g.W.TellingWriter.contents c.take_next.new.writer)
    c.in_err-take_next.field-0.0
    c.loop-bytes.invariant.0 c.in-Ok-new.ensures c.loop-bytes.invariant.1 c.in_err-take_next.ensures.refused)

pub returns-in_err-take_next-clause-faulted : goal.returns-in_err-take_next-clause-faulted
returns-in_err-take_next-clause-faulted g c =
    let p = err_from_is_err_and c.from_residual.result c.from_residual.ensures.1 in
    rw (p.1, p.2) (faulted_spent (IsSpent (g.I.TellingReader.has_failed c.take_next.new.reader) c.take_next.new.lines.asks)
    (GaveUp (g.W.TellingWriter.has_failed c.take_next.new.writer) (g.W.TellingWriter.called c.take_next.new.writer))
    (g.I.TellingReader.has_failed c.take_next.new.reader ⊎ (g.I.TellingReader.asked c.take_next.new.reader
    ≡ later 4294967295 (g.I.TellingReader.asked c.args.reader.now))) c.in_err-take_next.field-0.0
    (spent_at_last (g.I.TellingReader.has_failed c.take_next.new.reader) (g.I.TellingReader.asked c.args.reader.now) (g.I.TellingReader.asked c.take_next.new.reader)
    4294967295 c.take_next.new.lines.asks
    (c.take_next.ensures.asked ∙ c.loop-bytes.invariant.3 ∙ ap (λ (r : Reading). later r.asks (g.I.TellingReader.asked c.args.reader.now)) c.in-Ok-new.ensures))
    c.in_err-take_next.ensures.faulted)

pub returns-in_err-take_next-clause-asked : goal.returns-in_err-take_next-clause-asked
returns-in_err-take_next-clause-asked g c =
    asked_so_far (g.I.TellingReader.asked c.args.reader.now) (g.I.TellingReader.asked c.take_next.new.reader) 4294967295 c.take_next.new.lines.asks
    (c.take_next.ensures.asked ∙ c.loop-bytes.invariant.3 ∙ ap (λ (r : Reading). later r.asks (g.I.TellingReader.asked c.args.reader.now)) c.in-Ok-new.ensures)
    (omega (arith, c.take_next.ensures.less, c.loop-bytes.invariant.2, ap (λ (r : Reading). r.asks) c.in-Ok-new.ensures))

pub returns-clause-asked : goal.returns-clause-asked
returns-clause-asked g c =
    asked_so_far (g.I.TellingReader.asked c.args.reader.now) (g.I.TellingReader.asked c.take_next.new.reader) 4294967295 c.take_next.new.lines.asks
    (c.take_next.ensures.asked ∙ c.loop-bytes.invariant.3 ∙ ap (λ (r : Reading). later r.asks (g.I.TellingReader.asked c.args.reader.now)) c.in-Ok-new.ensures)
    (omega (arith, c.take_next.ensures.less, c.loop-bytes.invariant.2, ap (λ (r : Reading). r.asks) c.in-Ok-new.ensures))

-- nothing was taken yet
pub returns-in-Err-clause-refused : goal.returns-in-Err-clause-refused
returns-in-Err-clause-refused g c = refuses_at_once (server_with c.args.config c.args.boot.word) (first_standing c.args.boot.first) 0
    (g.I.TellingReader.remaining c.args.reader.now) (g.W.TellingWriter.contents c.args.writer.now)

pub returns-in-Err-new-clause-refused : goal.returns-in-Err-new-clause-refused
returns-in-Err-new-clause-refused g c = refuses_at_once (server_with c.args.config c.args.boot.word) (first_standing c.args.boot.first) 0
    (g.I.TellingReader.remaining c.args.reader.now) (g.W.TellingWriter.contents c.args.writer.now)

pub returns-clause-replayed : goal.returns-clause-replayed
returns-clause-replayed g c =
    subst (λ (o : Option (List ℕ)). IsReplay c.args.config c.args.boot.word c.args.boot.first (g.I.TellingReader.remaining c.args.reader.now)
    (g.W.TellingWriter.contents c.args.writer.now) o) (sym (c.in_ok-take_next.ensures.silent c.if-branch.false))
    (replays_over c.args.config c.args.boot.word c.args.boot.first (standing_of c.loop-bytes.engine) c.in-Ok-new.lines c.loop-bytes.lines c.take_next.new.lines
    (g.I.TellingReader.remaining c.args.reader.now) (g.I.TellingReader.remaining c.loop-bytes.reader)
    (g.I.TellingReader.remaining c.take_next.new.reader) (g.W.TellingWriter.contents c.args.writer.now) (g.W.TellingWriter.contents c.loop-bytes.writer)
    (ap (λ (x : Reading). x.unread) c.in-Ok-new.ensures) c.loop-bytes.invariant.1 (c.in_ok-take_next.ensures.over c.if-branch.false))
