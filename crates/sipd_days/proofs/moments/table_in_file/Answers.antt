use Rattle.std.specs.Prelude.{option_map}
use Rattle.sipd_days.proofs.Timed.{in_its_file}
use Rattle.sipd_days.proofs.moments.table_in_file.Goals as goal

pub returns-in-Ok : goal.returns-in-Ok
returns-in-Ok g c =
    in_its_file c.in-Ok.day c.in_file.result c.args.table c.args.form c.args.time (option_map (λ k. k.ahead) c.args.clock) c.in_file.ensures.text
    c.in_file.ensures.taken c.in_file.ensures.in_force c.in_file.ensures.end c.in-Ok.ensures
