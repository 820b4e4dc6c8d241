use Rattle.std.proofs.Common.{◌≡◌, ◌∙◌, List, map, ap}
use Rattle.sip_location.specs.AorBindings.{bindings_of}
use Rattle.sip_location.specs.KeptBinding.{KeptBinding, kept_of}
use Rattle.sip_location.specs.Registration.{edited}
use Rattle.sip_location.proofs.Keeping.{kept_again}
use Rattle.sip_location.proofs.Planning.{edited_are_own}
use Rattle.sip_location.proofs.locations.planned.Goals as goal

pub returns-clause-plan : goal.returns-clause-plan
returns-clause-plan c =
    let r = c.args.request.now in
    let rows = bindings_of r.aor c.args.rows.now in
    let made = c.in_ok-bindings.ensures.plan rows (c.as_slice.ensures.value ∙ c.in_ok-standing.ensures) in
    let kept : c.in_ok-rows.rows ≡ map kept_of (edited rows r c.args.now) = c.in_ok-rows.ensures ∙ ap (map kept_of) (c.as_slice-2.ensures ∙ made.1) in
    (made.0, ap (λ (k : List KeptBinding). bindings_of r.aor k) kept ∙ kept_again r.aor (edited rows r c.args.now) (edited_are_own rows r c.args.now))
