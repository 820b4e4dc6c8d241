use Rattle.std.proofs.Common.{subst}
use Rattle.memchr.specs.Find.{TakesFirst}
use Rattle.sip_replay_script.proofs.LineEnds.{first_place}
use Rattle.sip_replay_script.proofs.script.first_space.Goals as goal

pub returns : goal.returns
returns c = first_place 32 c.args.text.now c.next.result c.next.new.self (subst (λ l. TakesFirst l c.next.result c.next.new.self) c.memchr_iter.ensures.value
    c.next.ensures.steps)
