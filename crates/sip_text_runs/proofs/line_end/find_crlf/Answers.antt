use Rattle.std.proofs.Common.{◌+◌, ◌-◌, drop, length, take, refl}
use Rattle.sip_text_runs.proofs.LineEnds.{found, goes_on, none_left, rest_is}
use Rattle.sip_text_runs.proofs.line_end.find_crlf.Goals as goal

pub returns-in-Some-crlf_ending : goal.returns-in-Some-crlf_ending
returns-in-Some-crlf_ending c =
    found c.args.bytes.now (take (length c.args.bytes.now - c.loop-next.from) (drop c.loop-next.from c.args.bytes.now)) c.loop-next.from c.in-Some.next
    (c.loop-next.from + c.in-Some.next) c.in-Some-crlf_ending.at c.loop-next.invariant (rest_is c.loop-next.from c.args.bytes.now) c.in-Some.ensures refl
    c.in-Some-crlf_ending.ensures

pub loop-next-preserved : goal.loop-next-preserved
loop-next-preserved c =
    goes_on c.args.bytes.now (take (length c.args.bytes.now - c.loop-next.from) (drop c.loop-next.from c.args.bytes.now)) c.loop-next.from c.in-Some.next
    (c.loop-next.from + c.in-Some.next) (c.loop-next.from + c.in-Some.next + 1) c.loop-next.invariant (rest_is c.loop-next.from c.args.bytes.now)
    c.in-Some.ensures refl refl c.in_default-crlf_ending.ensures

pub returns : goal.returns
returns c =
    none_left c.args.bytes.now (take (length c.args.bytes.now - c.loop-next.from) (drop c.loop-next.from c.args.bytes.now)) c.loop-next.from
    c.loop-next.invariant (rest_is c.loop-next.from c.args.bytes.now) c.in_default.ensures
