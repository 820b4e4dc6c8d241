use Rattle.std.proofs.Common.{◌++◌}
use Rattle.sip_replay_script.proofs.Fronts.{front_second}
use Rattle.sip_replay_script.proofs.Written.{appends_both}
use Rattle.sip_replay_print.proofs.writing.put_three.Goals as goal

pub returns-in-Err-put-2-clause-front : goal.returns-in-Err-put-2-clause-front
returns-in-Err-put-2-clause-front g c =
    front_second (g.W.TellingWriter.contents c.args.writer.now) (g.W.TellingWriter.contents c.put-2.new.writer) (g.W.TellingWriter.contents c.put-3.new.writer)
    (c.args.first.now ++ c.args.second.now) c.args.third.now
    (appends_both (g.W.TellingWriter.contents c.args.writer.now) (g.W.TellingWriter.contents c.put.new.writer) (g.W.TellingWriter.contents c.put-2.new.writer)
    c.args.first.now c.args.second.now c.in-Ok.ensures.ok c.in-Ok-put.ensures.ok)
    c.in-Err-put-2.ensures.front
