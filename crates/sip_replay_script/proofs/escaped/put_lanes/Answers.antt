use Rattle.std.proofs.Common.{arith}
use Rattle.sip_replay_script.proofs.Escaping.{run_put, whole_put}
use Rattle.sip_replay_script.proofs.escaped.put_lanes.Goals as goal

pub put_escape-end-requires-clause-other : goal.put_escape-end-requires-clause-other
put_escape-end-requires-clause-other c = c.plain_in_lanes-run.ensures.1 (omega (arith, c.if-run-lt-LANES.true))

pub returns-then-run-lt-LANES-clause-put : goal.returns-then-run-lt-LANES-clause-put
returns-then-run-lt-LANES-clause-put c =
    let a = c.args in
    run_put a.bytes.now a.room.now c.copy_lanes.new.room c.put_escape-end.new.room a.from a.at c.plain_in_lanes-run.result c.put_escape-end.result
    c.requires.from (omega (arith, c.requires.at)) c.copy_lanes.ensures.copied c.plain_in_lanes-run.ensures (omega (arith, c.if-run-lt-LANES.true))
    c.put_escape-end.ensures.put (omega (arith, c.put_escape-end.ensures.within.0))

pub returns-clause-put : goal.returns-clause-put
returns-clause-put c =
    let a = c.args in
    whole_put a.bytes.now a.room.now c.copy_lanes.new.room a.from a.at c.plain_in_lanes-run.result c.copy_lanes.ensures.copied c.plain_in_lanes-run.ensures
    (omega (arith, c.if-run-lt-LANES.false))
