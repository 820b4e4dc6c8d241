use Rattle.sip_retell.proofs.Nexts.{begins_by}
use Rattle.sip_retell.proofs.next.tell_configuration.Goals as goal

pub returns-clause-next : goal.returns-clause-next
returns-clause-next g c =
    begins_by c.args.engine.now c.begin_segment.new.engine c.args.lines.now c.begin_segment.new.lines (g.I.TellingReader.remaining c.args.reader.now)
    (g.I.TellingReader.remaining c.begin_segment.new.reader) c.in_ok-found.found c.item_of.result c.item_of.ensures c.in_ok-found.ensures.taken
    c.in_ok-found.ensures.waits c.in_ok-found.ensures.over
