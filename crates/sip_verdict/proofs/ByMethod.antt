-- What a request is for, by its method.
use Rattle.std.proofs.Common.{◌≡◌, Bool, true, false, cond, refl, ◌∙◌, ap}
use Rattle.std.specs.Prelude.{Option}
use Rattle.sip_uri.specs.declared.aor.Aor.{Aor}
use Rattle.sip_uri.specs.declared.uri.Uri.{Uri}
use Rattle.sip_location.specs.Registering.{aor_or_nobody}

-- the Request-URI decides of what is no REGISTER alone
pub target_by_method : (target named : Aor) (is_register : Bool) (read uri : Option Uri) → target ≡ cond is_register named (aor_or_nobody read)
    → (is_register ≡ false → read ≡ uri)
    → target ≡ cond is_register named (aor_or_nobody uri)
target_by_method target named true read uri is same = is
target_by_method target named false read uri is same = is ∙ ap aor_or_nobody (same refl)
