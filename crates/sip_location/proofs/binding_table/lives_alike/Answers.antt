use Rattle.std.proofs.Common.{sym, ap, ◌∙◌}
use Rattle.sip_location.specs.Alive.{lives}
use Rattle.sip_location.proofs.Alive.{lives_there}
use Rattle.sip_location.proofs.binding_table.lives_alike.Goals as goal

pub returns : goal.returns
returns c = λ is.
    lives_there c.args.filed.now.aor c.lent-aor.result c.args.now c.args.filed.now.rows c.rows_at.result.now c.args.other.now.rows c.lent-aor.ensures
    c.rows_at.ensures (sym (ap (lives c.args.now) c.as_slice.ensures) ∙ c.live_alike.ensures is)
