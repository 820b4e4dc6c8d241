use Rattle.sipd_tools.proofs.LastOnes.{last_is, last_stated, unread_first, without_last}
use Rattle.sipd_tools.proofs.against.last_of.Goals as goal
use Rattle.std.proofs.lemmas.Result.{err_from_is_err_and}
use Rattle.std.proofs.Common.{inl, refl}
use Rattle.sipd_old_record.specs.Readers.{most_asks}

pub returns-in_err-lines-clause-refused : goal.returns-in_err-lines-clause-refused
returns-in_err-lines-clause-refused g c =
    let p = err_from_is_err_and c.from_residual.result c.from_residual.ensures.1 in
    rw (p.1, p.2) (record { asks = most_asks; left_of = refl; why = inl refl })

pub returns-in_err-first-clause-refused : goal.returns-in_err-first-clause-refused
returns-in_err-first-clause-refused g c =
    let p = err_from_is_err_and c.from_residual-in_err-first.result c.from_residual-in_err-first.ensures.1 in
    rw (p.1, p.2) (unread_first _ _ _ _ _ _ c.in_ok-lines.lines c.first_of.new.lines.asks c.in_ok-lines.ensures c.first_of.ensures.asked c.in_err-first.ensures.refused)

pub returns-clause-last : goal.returns-clause-last
returns-clause-last g c = last_is c.last_behind.result _ _ _ c.in_ok-lines.lines c.first_of.new.lines c.in_ok-first.first c.in_ok-lines.ensures
    c.in_ok-first.ensures.first c.last_behind.ensures.last

pub returns-clause-stated : goal.returns-clause-stated
returns-clause-stated g c = last_stated c.last_behind.result _ _ _ c.in_ok-lines.lines c.first_of.new.lines c.in_ok-first.first c.in_ok-first.ensures.first
    c.last_behind.ensures.last

pub returns-clause-refused : goal.returns-clause-refused
returns-clause-refused g c =
    without_last c.last_behind.result _ _ _ _ _ _ _ c.in_ok-lines.lines c.first_of.new.lines c.in_ok-first.first c.last_behind.new.lines.asks c.in_ok-lines.ensures
    c.in_ok-first.ensures.first c.first_of.ensures.asked
    c.last_behind.ensures.asked c.last_behind.ensures.refused
