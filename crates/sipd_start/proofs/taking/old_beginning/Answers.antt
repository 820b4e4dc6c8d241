use Rattle.std.proofs.lemmas.Result.{err_from_is_err_and}
use Rattle.sipd_start.proofs.OldBeginnings.{begun_of, states_of, unbegun_of}
use Rattle.sipd_start.proofs.taking.old_beginning.Goals as goal

pub returns-in_err-first-clause-refused : goal.returns-in_err-first-clause-refused
returns-in_err-first-clause-refused g c =
    let p = err_from_is_err_and c.from_residual-in_err-first.result c.from_residual-in_err-first.ensures.1 in
    rw (p.1, p.2) (unbegun_of c.args.stated.now.bytes c.args.stated.now.digest _ c.args.head.now (g.I.TellingReader.remaining c.args.reader.now)
    (g.I.TellingReader.remaining c.own_configuration.new.reader) c.in-Ok.own c.in_ok-lines.lines
    c.own_configuration.new.lines c.in_err-first.field-0.0 c.in_ok-lines.ensures.new c.in-Ok.ensures.own c.in-Ok.ensures.none c.in_err-first.ensures.refused)

pub returns-clause-states : goal.returns-clause-states
returns-clause-states g c =
    states_of c.args.head.now (g.I.TellingReader.remaining c.args.reader.now) (g.I.TellingReader.remaining c.own_configuration.new.reader) c.args.stated.now.bytes
    c.in-Ok.own c.in_ok-first.first c.in_ok-lines.lines
    c.own_configuration.new.lines c.in-Ok.ensures.own c.in_ok-first.ensures.own c.in_ok-first.ensures.states

pub returns-clause-begun : goal.returns-clause-begun
returns-clause-begun g c =
    begun_of c.args.stated.now.bytes c.args.stated.now.digest c.args.head.now (g.I.TellingReader.remaining c.args.reader.now)
    (g.I.TellingReader.remaining c.own_configuration.new.reader) c.in-Ok.own c.in_ok-first.first c.in_ok-lines.lines
    c.own_configuration.new.lines c.in_ok-lines.ensures.new c.in-Ok.ensures.own c.in-Ok.ensures.none c.in_ok-first.ensures.own c.in_ok-first.ensures.file
