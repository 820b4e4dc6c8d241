use Rattle.std.proofs.Common.{rules}
use Rattle.sip_uri.proofs.Dots.{one_alone, two_alone, three_alone, four_alone, too_many}
use Rattle.sip_uri.proofs.addr.ip_of.Goals as goal

pub returns-in_err-second : goal.returns-in_err-second
returns-in_err-second c = rw c.from_residual-in_err-second.ensures (one_alone c.args.text.now c.in_ok-first.first _ c.in_ok-first.ensures c.in_err-second.ensures)

pub returns-in_err-third : goal.returns-in_err-third
returns-in_err-third c =
    rw c.from_residual-in_err-third.ensures
    (two_alone c.args.text.now c.in_ok-first.first c.in_ok-second.second _ _ c.in_ok-first.ensures c.in_ok-second.ensures c.in_err-third.ensures)

pub returns-in_err-fourth : goal.returns-in_err-fourth
returns-in_err-fourth c =
    rw c.from_residual-in_err-fourth.ensures
    (three_alone c.args.text.now c.in_ok-first.first c.in_ok-second.second c.in_ok-third.third _ _ _ c.in_ok-first.ensures c.in_ok-second.ensures c.in_ok-third.ensures
    c.in_err-fourth.ensures)

pub returns-in_default-None : goal.returns-in_default-None
returns-in_default-None c =
    four_alone c.args.text.now c.in_ok-first.first c.in_ok-second.second c.in_ok-third.third c.in_ok-fourth.field-0.0 _ _ _ _
    c.in_ok-first.ensures c.in_ok-second.ensures c.in_ok-third.ensures c.in_ok-fourth.ensures (search rules)

pub returns-in_default-Some : goal.returns-in_default-Some
returns-in_default-Some c =
    too_many c.args.text.now c.in_ok-first.first c.in_ok-second.second c.in_ok-third.third c.in_ok-fourth.field-0.0 _ _ _ _ c.in_default-Some.field-0-1.now
    c.in_ok-first.ensures c.in_ok-second.ensures c.in_ok-third.ensures c.in_ok-fourth.ensures (search rules)
