-- Addresses of record.
use Rattle.std.specs.Prelude.{ℕ, Bool, ◌&&◌, List, [], Option, Some, None}
use Rattle.std.specs.Option.{unwrap_or}
use Rattle.std.specs.Str.{bytes_eq}
use Rattle.sip_text.specs.Words.{without_case}
use Rattle.sip_text.specs.Escapes.{unescaped}
use Rattle.sip_uri.specs.declared.user.UserInfo.{UserInfo}
use Rattle.sip_uri.specs.declared.uri.Uri.{Uri}
use Rattle.sip_uri.specs.declared.aor.Aor.{Aor}

-- the user that a URI names, without escapes; none is the empty one. A user with a bad escape, which no URI of the grammar has, is
-- taken as it stands.
abbrev pub user_named : Option UserInfo → List ℕ
user_named None = []
user_named (Some info) = unwrap_or (unescaped info.user) info.user

-- the address of record that a URI names (RFC 3261 10.3 step 5: escapes resolved, parameters dropped)
abbrev pub aor_of : Uri → Aor
aor_of u = record { user = user_named u.userinfo; host = without_case u.host }

-- whether two addresses of record are the same, byte by byte
abbrev pub is_same_aor : Aor → Aor → Bool
is_same_aor left right = bytes_eq left.user right.user && bytes_eq left.host right.host
