use Rattle.std.proofs.Common.{false, ap, sym, arith, ◌∙◌, position}
use Rattle.sipd_status.specs.Tries.{is_of, one_wrong}
use Rattle.sipd_status.proofs.Trying.{tried_full, tried_new, tried_one}
use Rattle.sipd_status.proofs.tries.add_wrong.Goals as goal

pub returns-in-Some-clause-noted : goal.returns-in-Some-clause-noted
returns-in-Some-clause-noted c =
    tried_one (one_wrong c.args.name) (record { ip = c.args.ip; name = c.args.name; wrong = 1; is_right = false }) c.args.sources.now.items
    c.in-Some.place c.count_wrong.new.source c.index_mut.result.now
    (ap (position (is_of c.args.ip)) (sym c.as_slice.ensures.value) ∙ sym c.in-Some.ensures)
    (c.count_wrong.ensures ∙ ap (one_wrong c.args.name) c.index_mut.ensures.value)

pub returns-in-None-clause-noted : goal.returns-in-None-clause-noted
returns-in-None-clause-noted c =
    c.push_reserved.ensures.items
    ∙ tried_new (one_wrong c.args.name) (record { ip = c.args.ip; name = c.args.name; wrong = 1; is_right = false }) c.args.sources.now.items
    (ap (position (is_of c.args.ip)) (sym c.as_slice.ensures.value) ∙ sym c.in-None.ensures)
    (omega (arith, c.if-len-lt-MOST_SOURCES.true, c.len.ensures))

pub returns-in-None-2-clause-noted : goal.returns-in-None-2-clause-noted
returns-in-None-2-clause-noted c =
    tried_full (one_wrong c.args.name) (record { ip = c.args.ip; name = c.args.name; wrong = 1; is_right = false }) c.args.sources.now.items
    (ap (position (is_of c.args.ip)) (sym c.as_slice.ensures.value) ∙ sym c.in-None-2.ensures)
    (omega (arith, c.if-len-lt-MOST_SOURCES.false, c.len.ensures))
