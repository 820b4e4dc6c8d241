use Rattle.std.proofs.Common.{◌≡◌, ◌∙◌}
use Rattle.std.specs.Prelude.{filter}
use Rattle.std.proofs.lemmas.Result.{IfOk-weaker}
use Rattle.sip_location.specs.Binding.{is_live, live}
use Rattle.sip_location.specs.AorBindings.{bindings_of}
use Rattle.sip_location.proofs.Keeping.{live_of_kept}
use Rattle.sip_location.proofs.read_binding.standing_of.Goals as goal

pub returns : goal.returns
returns c =
    let rows = bindings_of c.args.aor.now c.args.rows.now in
    IfOk-weaker c.read_live.result (λ bindings. bindings.items ≡ filter (is_live c.args.now) rows) (λ bindings. bindings.items ≡ live c.args.aor.now c.args.now rows)
    (λ bindings is. is ∙ live_of_kept c.args.aor.now c.args.now c.args.rows.now) c.read_live.ensures
