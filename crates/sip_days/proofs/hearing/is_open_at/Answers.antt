use Rattle.std.proofs.Common.{◌∙◌, ap}
use Rattle.sip_days.specs.Changing.{is_open}
use Rattle.sip_days.proofs.Opened.{at_none, at_place}
use Rattle.sip_days.proofs.hearing.is_open_at.Goals as goal

pub returns-then-place-calls : goal.returns-then-place-calls
returns-then-place-calls c =
    c.is_open.ensures ∙ ap is_open c.index-calls-place.is
    ∙ at_place is_open c.args.calls.now c.args.place c.index-calls-place.result c.if-place-calls.true

pub returns : goal.returns
returns c = at_none is_open c.args.calls.now c.args.place c.if-place-calls.false
