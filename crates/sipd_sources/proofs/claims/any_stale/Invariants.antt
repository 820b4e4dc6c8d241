use Rattle.std.proofs.Common.{◌≡◌, drop}
use Rattle.std.specs.List.{list_any}
use Rattle.sipd_sources.specs.Claims.{is_stale}
use Rattle.sipd_sources.proofs.claims.any_stale.Given as goal

-- the fields that are left decide
abbrev pub invariant-loop-field : goal.invariant-loop-field
invariant-loop-field l = list_any is_stale (drop l.field-index l.fields) ≡ list_any is_stale l.fields
