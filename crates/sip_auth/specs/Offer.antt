-- What a challenge offers (RFC 8760 2.3).
use Rattle.std.specs.Prelude.{◌≡◌, Bool, is_some, List, None}
use Rattle.std.specs.List.{list_any}
use Rattle.sip_policy.specs.declared.user.User.{User}

-- SHA-256 is offered where some user could answer by it
abbrev pub offers_sha256 : List User → Bool
offers_sha256 users = list_any (λ user. is_some user.a1_sha256) users

-- a user who has an H(A1) by MD5 alone
abbrev pub HasMd5Alone : User → Type 0
HasMd5Alone user = user.a1_sha256 ≡ None

-- a user without an H(A1) by SHA-256, else the same
abbrev pub with_md5_alone : User → User
with_md5_alone user = record user { a1_sha256 = None }
