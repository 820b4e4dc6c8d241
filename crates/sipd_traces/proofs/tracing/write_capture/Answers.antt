use Rattle.std.specs.Prelude.{length}
use Rattle.sipd_traces.proofs.Told.{captured}
use Rattle.sipd_traces.proofs.tracing.write_capture.Goals as goal

pub returns : goal.returns
returns g c =
    let held = g.W.TellingWriter.contents in
    captured c.args.choice c.tell_frames-told.result (length c.args.records.now) (held c.args.writer.now) (held c.begin_capture.new.writer)
    (held c.tell_frames-told.new.writer) (held c.end_capture.new.writer) c.in_ok-begin_capture.ensures c.tell_frames-told.ensures c.end_capture.ensures
