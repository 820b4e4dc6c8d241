use Rattle.std.proofs.Common.{◌∙◌, sym, ap}
use Rattle.std.specs.Prelude.{filter}
use Rattle.sip_uri.specs.declared.aor.Aor.{Aor}
use Rattle.sip_location.specs.Binding.{is_live}
use Rattle.sip_location.specs.AorBindings.{bindings_of}
use Rattle.sip_location.proofs.Planning.{live_of_own}
use Rattle.sip_location.proofs.locations.Locations.live.Goals as goal

pub returns : goal.returns
returns c =
    let own = c.new.ensures ∙ ap (λ (a : Aor). bindings_of a c.rows_of.result.now) c.of.ensures ∙ c.rows_of.ensures in
    rw (← c.self.view_is) (c.new-2.ensures ∙ ap (filter (is_live c.args.now)) own ∙ sym (live_of_own c.args.aor.now c.args.now c.self.inside.filing.rows))
