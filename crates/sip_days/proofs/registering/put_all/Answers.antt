use Rattle.sip_days.specs.Phones.{phones_with}
use Rattle.sip_days.proofs.Telling.{at_end, one_more}
use Rattle.sip_days.proofs.registering.put_all.Goals as goal

pub loop-decision-preserved : goal.loop-decision-preserved
loop-decision-preserved c =
    one_more c.args.config.now.offset c.args.event.now c.args.records.now c.loop-decision.decision-index c.decision-item.result c.loop-decision.rows
    c.put_one.new.rows (phones_with c.args.config.now.offset c.args.event.now c.args.records.now c.args.rows.now) c.loop-decision-test.true
    c.decision-item.is c.loop-decision.invariant c.in_ok-put_one.ensures

pub returns : goal.returns
returns c =
    at_end c.args.config.now.offset c.args.event.now c.args.records.now c.loop-decision.decision-index c.loop-decision.rows
    (phones_with c.args.config.now.offset c.args.event.now c.args.records.now c.args.rows.now) c.loop-decision-test.false c.loop-decision.invariant
