use Rattle.sip_message.proofs.Names.{named}
use Rattle.sip_message.proofs.NamedLines.{named_line, value_fits, text_fits, whole_line}
use Rattle.sip_message.proofs.lines.named_line.Goals as goal

pub slice_before-requires : goal.slice_before-requires
slice_before-requires c = value_fits c.args.bytes.now c.slice_from.result.now c.in_ok-value.value.now c.in_ok-value.after.now c.in_ok-at.at c.slice_from.ensures.value
    c.in_ok-at.ensures.within.1 c.in_ok-value.ensures.whole

pub returns-clause-line : goal.returns-clause-line
returns-clause-line c =
    (named_line c.args.bytes.now c.slice_from.result.now c.slice_before.result.now c.slice_before-2.result.now c.in_ok-value.value.now c.in_ok-value.after.now
    c.in_ok-at.at c.in_ok-at.ensures.within.0 c.in_ok-at.ensures.within.1 c.in_ok-at.ensures.token
    c.in_ok-at.ensures.mark c.slice_from.ensures.value c.in_ok-value.ensures.whole c.in_ok-value.ensures.text c.slice_before.ensures.value
    c.slice_before-2.ensures.value).1

pub returns-clause-named : goal.returns-clause-named
returns-clause-named c =
    (named_line c.args.bytes.now c.slice_from.result.now c.slice_before.result.now c.slice_before-2.result.now c.in_ok-value.value.now c.in_ok-value.after.now
    c.in_ok-at.at c.in_ok-at.ensures.within.0 c.in_ok-at.ensures.within.1 c.in_ok-at.ensures.token
    c.in_ok-at.ensures.mark c.slice_from.ensures.value c.in_ok-value.ensures.whole c.in_ok-value.ensures.text c.slice_before.ensures.value
    c.slice_before-2.ensures.value).0

pub slice_before-requires-3 : goal.slice_before-requires-3
slice_before-requires-3 c = text_fits c.args.bytes.now c.slice_from.result.now c.in_ok-value.value.now c.in_ok-value.after.now c.in_ok-at.at c.slice_from.ensures.value
    c.in_ok-at.ensures.within.1 c.in_ok-value.ensures.whole

pub returns-clause-whole : goal.returns-clause-whole
returns-clause-whole c =
    whole_line c.args.bytes.now c.slice_from.result.now c.slice_before.result.now c.slice_before-2.result.now c.in_ok-value.value.now c.in_ok-value.after.now
    c.slice_before-3.result.now c.in_ok-at.at c.in_ok-at.ensures.within.1
    (named_line c.args.bytes.now c.slice_from.result.now c.slice_before.result.now c.slice_before-2.result.now c.in_ok-value.value.now c.in_ok-value.after.now
    c.in_ok-at.at c.in_ok-at.ensures.within.0 c.in_ok-at.ensures.within.1 c.in_ok-at.ensures.token
    c.in_ok-at.ensures.mark c.slice_from.ensures.value c.in_ok-value.ensures.whole c.in_ok-value.ensures.text c.slice_before.ensures.value
    c.slice_before-2.ensures.value).0
    (named c.args.bytes.now c.slice_before-2.result.now c.slice_from.result.now c.in_ok-at.at c.in_ok-at.ensures.within.0 c.in_ok-at.ensures.within.1
    c.in_ok-at.ensures.token c.in_ok-at.ensures.mark c.slice_before-2.ensures.value c.slice_from.ensures.value)
    c.in_ok-value.ensures.whole c.slice_before-2.ensures.value c.slice_before-3.ensures.value
