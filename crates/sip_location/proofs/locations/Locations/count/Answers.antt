use Rattle.std.proofs.Common.{◌∙◌, sym, ap, length}
use Rattle.std.specs.Prelude.{filter}
use Rattle.sip_location.specs.Binding.{is_live}
use Rattle.sip_location.proofs.Keeping.{as_many}
use Rattle.sip_location.proofs.Planning.{live_of_own}
use Rattle.sip_location.proofs.locations.Locations.count.Goals as goal

pub returns : goal.returns
returns c =
    rw (← c.self.view_is)
    (c.live_count.ensures ∙ as_many c.args.aor.now c.args.now c.rows_of.result.now ∙ ap (λ rows. length (filter (is_live c.args.now) rows)) c.rows_of.ensures
    ∙ ap length (sym (live_of_own c.args.aor.now c.args.now c.self.inside.filing.rows)))
