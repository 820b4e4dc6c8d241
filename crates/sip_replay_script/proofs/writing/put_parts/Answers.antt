use Rattle.std.proofs.Common.{rules}
use Rattle.sip_replay_script.proofs.Fronts.{appends_slice}
use Rattle.sip_replay_script.proofs.Calls.{later_more}
use Rattle.sip_replay_script.proofs.writing.put_parts.Goals as goal

pub loop-tries-preserved : goal.loop-tries-preserved
loop-tries-preserved g c = (
  appends_slice _ _ _ c.args.text.now c.loop-tries.done c.in_ok-done.field-0 c.loop-tries.invariant.0 c.in_ok-done.ensures.bytes,
  search rules,
  later_more (g.W.TellingWriter.called c.args.writer.now) _ _ c.loop-tries.tries c.loop-tries.invariant.2 c.put_some.ensures.called,
)
