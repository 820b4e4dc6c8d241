use Rattle.std.proofs.Common.{◌+◌, subst, slice_range}
use Rattle.sip_replay_script.specs.Lines.{Reading, EndsLine}
use Rattle.sip_replay_script.proofs.LineEnds.{part_ends}
use Rattle.sip_replay_script.proofs.lines.ScriptLines.take_part.Goals as goal

pub returns-in_ok-put_part-in-Some-clause-ends : goal.returns-in_ok-put_part-in-Some-clause-ends
returns-in_ok-put_part-in-Some-clause-ends c =
    let lines = c.self.inside in
    let rest : Reading = record { unread = slice_range lines.buffer.items (lines.start + (c.in-Some.place + 1)) lines.end; asks = lines.asks; number = lines.number + 1 }
    in
    λ ended. subst (λ old. EndsLine old rest c.args.line.now.items c.put_part.new.line.items) c.self.view_is
    (part_ends lines.buffer.items c.deref.result.now lines.start lines.end lines.asks lines.number c.in-Some.place c.args.line.now.items c.put_part.new.line.items
    c.deref.ensures.value c.in-Some.ensures c.in_ok-put_part-in-Some.ensures.grown)
