use Rattle.std.proofs.lemmas.Result.{on_ok_weaker}
use Rattle.sip_days.proofs.Telling.{kept_so, put_so}
use Rattle.sip_days.proofs.registering.put_one.Goals as goal

pub returns-then-not-registered : goal.returns-then-not-registered
returns-then-not-registered c =
    kept_so c.args.config.now.offset c.args.event.now c.args.decision.now c.args.rows.now c.is_registered-registered.result
    c.is_registered-registered.ensures c.if-not-registered.true

pub returns : goal.returns
returns c =
    on_ok_weaker c.put_registered.result
    (λ h. put_so c.args.config.now.offset c.args.event.now c.args.decision.now c.args.rows.now c.put_registered.new.rows c.is_registered-registered.result
    c.in_ok-row.row c.is_registered-registered.ensures c.if-not-registered.false c.in_ok-row.ensures h) c.put_registered.ensures
