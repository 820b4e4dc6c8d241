use Rattle.std.specs.Prelude.{option_map}
use Rattle.std.proofs.Common.{inr, ◌∙◌}
use Rattle.std.proofs.lemmas.Result.{err_from_is_err_and}
use Rattle.sipd_telling.specs.run.Due.{standing_of}
use Rattle.sipd_days.proofs.Timed.{no_text, table_shown}
use Rattle.sipd_days.proofs.day_at.table_at.Goals as goal

pub returns-in_err-telling-clause-refused : goal.returns-in_err-telling-clause-refused
returns-in_err-telling-clause-refused g c =
    let p = err_from_is_err_and c.from_residual.result c.from_residual.ensures.1 in
    rw (p.1, p.2) (inr c.in_err-telling.ensures.refused)

pub returns-clause-shown : goal.returns-clause-shown
returns-clause-shown g c =
    table_shown c.args.table c.args.form c.what_is_told_is_lawful.ensures c.phones_grow_by_a_step.ensures.told c.calls_grow_by_a_step.ensures.told
    c.sources_grow_by_a_step.ensures.told c.tell_table.result c.args.head.now c.args.named (g.I.TellingReader.has_failed c.tell_table.new.events)
    c.tell_table.new.telling.lines.asks (g.I.TellingReader.asked c.args.events.now) (g.I.TellingReader.asked c.tell_table.new.events)
    c.in_ok-telling.telling.engine.server (standing_of c.in_ok-telling.telling.engine) c.in_ok-telling.telling.lines
    (g.I.TellingReader.remaining c.args.events.now) (g.I.TellingReader.remaining c.begin.new.reader) c.args.time (option_map (λ k. k.ahead) c.args.clock)
    c.clock_by-taken.result.ahead c.in_ok-telling.ensures.begun (c.tell_table.ensures.asked ∙ c.in_ok-telling.ensures.asked) c.clock_by-taken.ensures
    c.tell_table.ensures.told c.tell_table.ensures.taken

pub returns-clause-refused : goal.returns-clause-refused
returns-clause-refused g c =
    no_text c.tell_table.result c.args.head.now c.args.named (g.I.TellingReader.has_failed c.tell_table.new.events) (g.I.TellingReader.asked c.args.events.now)
    (g.I.TellingReader.asked c.tell_table.new.events) (g.I.TellingReader.remaining c.args.events.now) c.tell_table.ensures.refused
