-- The codes by which addresses of record are found. No binding depends on them.
use Rattle.std.specs.Prelude.{ℕ, ◌^◌, fold}
use Rattle.sip_base.specs.Code.{mixed}
use Rattle.sip_uri.specs.declared.aor.Aor.{Aor}

-- how many codes there are
unfoldable pub code_count : ℕ
code_count = 2 ^ 64

-- the code of a user, an `@` and a host
unfoldable pub code_of : Aor → ℕ
code_of aor = fold mixed (mixed (fold mixed 14695981039346656037 aor.user) 64) aor.host
