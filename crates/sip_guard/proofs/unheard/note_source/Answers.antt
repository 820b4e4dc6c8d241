use Rattle.std.proofs.Common.{ap, sym, arith, ◌∙◌, position}
use Rattle.sip_guard.specs.Unheard.{is_of}
use Rattle.sip_guard.proofs.Counting.{one_more, noted_one, noted_new, noted_full}
use Rattle.sip_guard.proofs.unheard.note_source.Goals as goal

pub returns-in-Some-clause-noted : goal.returns-in-Some-clause-noted
returns-in-Some-clause-noted c =
    noted_one c.args.ip c.args.sources.now.items c.in-Some.place c.count_one.new.source c.index_mut.result.now
    (ap (position (is_of c.args.ip)) (sym c.as_slice.ensures.value) ∙ sym c.in-Some.ensures)
    (c.count_one.ensures ∙ ap one_more c.index_mut.ensures.value)

pub returns-in-None-clause-noted : goal.returns-in-None-clause-noted
returns-in-None-clause-noted c =
    c.push_reserved.ensures.items
    ∙ noted_new c.args.ip c.args.sources.now.items (ap (position (is_of c.args.ip)) (sym c.as_slice.ensures.value) ∙ sym c.in-None.ensures)
    (omega (arith, c.if-len-lt-MOST_SOURCES.true, c.len.ensures))

pub returns-else-len-lt-MOST_SOURCES-clause-noted : goal.returns-else-len-lt-MOST_SOURCES-clause-noted
returns-else-len-lt-MOST_SOURCES-clause-noted c =
    noted_full c.args.ip c.args.sources.now.items (ap (position (is_of c.args.ip)) (sym c.as_slice.ensures.value) ∙ sym c.in-None.ensures)
    (omega (arith, c.if-len-lt-MOST_SOURCES.false, c.len.ensures))
