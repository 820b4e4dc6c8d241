use Rattle.std.specs.Prelude.{option_map}
use Rattle.sipd_days.proofs.Timed.{was_table}
use Rattle.sipd_days.proofs.day_at.table_of.Goals as goal

pub returns : goal.returns
returns g c =
    was_table c.table_at.result c.args.table c.args.form c.args.head.now c.args.named (g.I.TellingReader.has_failed c.table_at.new.events)
    (g.I.TellingReader.asked c.args.events.now) (g.I.TellingReader.asked c.table_at.new.events) (g.I.TellingReader.remaining c.args.events.now) c.args.time
    (option_map (λ k. k.ahead) c.args.clock) c.table_at.ensures.shown
