use Rattle.std.proofs.Common.{◌≡◌, ◌⊎◌}
use Rattle.std.proofs.lemmas.Result.{on_ok_weaker, IfErr-weaker}
use Rattle.sip_replay_script.specs.Devices.{later, GaveUp}
use Rattle.sip_replay.specs.Errors.{IsFaulted}
use Rattle.sip_model.specs.TimerOrder.{first_standing}
use Rattle.sip_replay.specs.Refusals.{IsRefused, Refuses}
use Rattle.sip_replay.specs.Replays.{server_with}
use Rattle.sip_replay.proofs.Refusing.{faulted_still, refused_flushed, refused_unflushed}
use Rattle.sip_replay.proofs.Replaying.{by_laws, lawful, replay_kept}
use Rattle.sip_replay.proofs.playback.replay.Goals as goal

pub returns-in-Ok-clause-replayed : goal.returns-in-Ok-clause-replayed
returns-in-Ok-clause-replayed g c = on_ok_weaker c.play-outcome.result (λ h. replay_kept c.args.config c.args.boot.word c.args.boot.first
    (g.I.TellingReader.remaining c.args.reader.now) (g.W.TellingWriter.contents c.args.writer.now) (g.W.TellingWriter.contents c.play-outcome.new.writer)
    (g.W.TellingWriter.contents c.hand_on.new.writer) h c.hand_on.ensures.kept) c.play-outcome.ensures.replayed

pub returns-in-Ok-clause-refused : goal.returns-in-Ok-clause-refused
returns-in-Ok-clause-refused g c =
    IfErr-weaker c.play-outcome.result (λ e. Refuses (server_with c.args.config c.args.boot.word) (first_standing c.args.boot.first) 0
    (g.I.TellingReader.remaining c.args.reader.now) (g.W.TellingWriter.contents c.args.writer.now) (g.W.TellingWriter.contents c.play-outcome.new.writer) e)
    (λ e. IsRefused c.args.config c.args.boot.word c.args.boot.first (g.I.TellingReader.remaining c.args.reader.now) (g.W.TellingWriter.contents c.args.writer.now)
    (g.W.TellingWriter.contents c.hand_on.new.writer) e)
    (λ e h. refused_flushed (by_laws c.every_run_has_access.ensures c.every_history_is_bounded.ensures) c.args.config c.args.boot.word c.args.boot.first
    (g.I.TellingReader.remaining c.args.reader.now) (g.W.TellingWriter.contents c.args.writer.now) (g.W.TellingWriter.contents c.play-outcome.new.writer)
    (g.W.TellingWriter.contents c.hand_on.new.writer) e h c.hand_on.ensures.kept) c.play-outcome.ensures.refused

pub returns-in-Ok-clause-faulted : goal.returns-in-Ok-clause-faulted
returns-in-Ok-clause-faulted g c =
    IfErr-weaker c.play-outcome.result (λ e. IsFaulted (g.I.TellingReader.has_failed c.play-outcome.new.reader
    ⊎ (g.I.TellingReader.asked c.play-outcome.new.reader ≡ later 4294967295 (g.I.TellingReader.asked c.args.reader.now)))
    (GaveUp (g.W.TellingWriter.has_failed c.play-outcome.new.writer) (g.W.TellingWriter.called c.play-outcome.new.writer)) e)
    (λ e. IsFaulted (g.I.TellingReader.has_failed c.play-outcome.new.reader ⊎ (g.I.TellingReader.asked c.play-outcome.new.reader
    ≡ later 4294967295 (g.I.TellingReader.asked c.args.reader.now))) (GaveUp (g.W.TellingWriter.has_failed c.hand_on.new.writer)
    (g.W.TellingWriter.called c.hand_on.new.writer)) e) (λ e h. faulted_still (g.I.TellingReader.has_failed c.play-outcome.new.reader
    ⊎ (g.I.TellingReader.asked c.play-outcome.new.reader ≡ later 4294967295 (g.I.TellingReader.asked c.args.reader.now)))
    (GaveUp (g.W.TellingWriter.has_failed c.play-outcome.new.writer) (g.W.TellingWriter.called c.play-outcome.new.writer))
    (GaveUp (g.W.TellingWriter.has_failed c.hand_on.new.writer) (g.W.TellingWriter.called c.hand_on.new.writer)) e c.hand_on.ensures.still h)
    c.play-outcome.ensures.faulted

pub returns-in-Err-clause-refused : goal.returns-in-Err-clause-refused
returns-in-Err-clause-refused g c = refused_unflushed (by_laws c.every_run_has_access.ensures c.every_history_is_bounded.ensures) c.play-outcome.result c.args.config
    c.args.boot.word c.args.boot.first (g.I.TellingReader.remaining c.args.reader.now) (g.W.TellingWriter.contents c.args.writer.now)
    (g.W.TellingWriter.contents c.play-outcome.new.writer) (g.W.TellingWriter.contents c.hand_on.new.writer) c.play-outcome.ensures.replayed
    c.play-outcome.ensures.refused c.hand_on.ensures.kept

pub returns-in-Ok-clause-lawful : goal.returns-in-Ok-clause-lawful
returns-in-Ok-clause-lawful g c = on_ok_weaker c.play-outcome.result (λ h. lawful (by_laws c.every_run_has_access.ensures c.every_history_is_bounded.ensures)
    c.args.config c.args.boot.word c.args.boot.first (g.I.TellingReader.remaining c.args.reader.now) (g.W.TellingWriter.contents c.args.writer.now)
    (g.W.TellingWriter.contents c.play-outcome.new.writer) (g.W.TellingWriter.contents c.hand_on.new.writer) h c.hand_on.ensures.kept) c.play-outcome.ensures.replayed
