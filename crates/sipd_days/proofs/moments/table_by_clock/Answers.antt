use Rattle.sipd_days.specs.Choosing.{form_of}
use Rattle.sipd_days.proofs.Timed.{other_clock, own_clock}
use Rattle.sipd_days.proofs.moments.table_by_clock.Goals as goal

pub returns-in-None : goal.returns-in-None
returns-in-None g c =
    own_clock c.in_ok-first.first c.args.table (form_of c.args.call.now.csv c.args.call.now.json) c.args.time c.in-None.ensures.same
    (rw c.form_of-form.ensures at c.in_ok-first.ensures)

pub returns-in-Some : goal.returns-in-Some
returns-in-Some g c =
    other_clock c.table_in_file-in-Some.result c.in_ok-first.first c.in-Some.clock.ahead c.args.table
    (form_of c.args.call.now.csv c.args.call.now.json) c.args.time c.in-Some.ensures.other (rw c.form_of-form.ensures at c.in_ok-first.ensures)
    (rw c.form_of-form.ensures at c.table_in_file-in-Some.ensures)
