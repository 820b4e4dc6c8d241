use Rattle.std.proofs.Common.{subst}
use Rattle.memchr.specs.Find.{TakesFirst}
use Rattle.sip_replay_script.proofs.LineEnds.{first_end, first_place}
use Rattle.sip_replay_script.proofs.lines.end_of_line.Goals as goal

pub returns : goal.returns
returns c =
    first_end c.args.unread.now c.next.result
    (first_place 10 c.args.unread.now c.next.result c.next.new.self (subst (λ l. TakesFirst l c.next.result c.next.new.self) c.memchr_iter.ensures.value
    c.next.ensures.steps))
