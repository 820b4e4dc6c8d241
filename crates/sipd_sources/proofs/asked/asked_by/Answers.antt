use Rattle.sipd_sources.proofs.Asking.{asked_as}
use Rattle.sipd_sources.proofs.asked.asked_by.Goals as goal

pub returns : goal.returns
returns c =
    asked_as c.args.realm.now c.args.bytes.now c.args.packets.now c.args.record.now c.in_ok-given.given c.is_challenge-challenged.result c.is_some.result
    c.is_some-2.result c.in_ok-wrong.wrong c.in_ok-name.name c.in_ok-given.ensures c.is_challenge-challenged.ensures c.is_some.ensures c.in_ok-wrong.ensures
    c.is_some-2.ensures c.in_ok-name.ensures
