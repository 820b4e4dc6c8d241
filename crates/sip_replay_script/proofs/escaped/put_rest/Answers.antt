use Rattle.std.proofs.Common.{◌∙◌, arith}
use Rattle.sip_replay_script.proofs.Escaping.{all_put, one_put}
use Rattle.sip_replay_script.proofs.escaped.put_rest.Goals as goal

pub loop-done-preserved : goal.loop-done-preserved
loop-done-preserved c =
    let l = c.loop-done in
    let one = c.put_one-end in (
      one_put c.args.bytes.now l.room one.new.room _ l.end one.result l.done (omega arith) one.ensures.put l.invariant.0,
      omega (arith, l.invariant),
      omega arith,
      omega (arith, l.invariant, one.ensures.within),
      one.ensures.len ∙ l.invariant.4,
    )

pub returns-clause-put : goal.returns-clause-put
returns-clause-put c =
    let l = c.loop-done in
    all_put c.args.bytes.now l.room _ l.end l.done (omega arith) l.invariant.0

pub returns-clause-within : goal.returns-clause-within
returns-clause-within c = omega (arith, c.loop-done.invariant)
