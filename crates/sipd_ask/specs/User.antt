-- The table of a user, with the digests of the password.
use Rattle.std.specs.Prelude.{ℕ, Bool, true, false, ◌&&◌, ◌==◌, not, nat_le, is_some, if◌then◌else◌, List, [], ◌∷◌, ◌++◌, length, codes, Option}
use Rattle.std.specs.Prelude.{Some, None, Result, Ok}
use Rattle.std.specs.List.{list_any}
use Rattle.std.specs.Str.{byte, bytes_eq}
use Rattle.sip_digest.specs.Answers.{a1_of}
use Rattle.sip_digest.specs.declared.algorithm.Algorithm.TheVariants as By
use Rattle.sip_policy.specs.declared.user.User.{User}
use Rattle.sip_policy.specs.User.{is_users_name}
use Rattle.sip_config_types.specs.declared.config.Config.{Config}
use Rattle.sip_config_values.specs.Grammar.{is_name, is_realm}
use Rattle.sipd_ask.specs.declared.user.UserDigests.{UserDigests}
use Rattle.sipd_ask.specs.declared.user.UserDigests.TheVariants.{Md5, Both}
use Rattle.sipd_ask.specs.declared.error.QuestionError.{QuestionError}
use Rattle.sipd_ask.specs.declared.error.QuestionError.TheVariants.{BadName, BadRealm, EmptyPassword, LongPassword, TakenName, OtherRealm}
use Rattle.sipd_ask.specs.Fronts.{front_before}
use Rattle.sipd_ask.specs.Refusals.{◌>>=◌, confirmed}

-- ---- the password

-- a text without the CR at its end, if one stands there
abbrev pub without_cr : List ℕ → List ℕ
without_cr [] = []
without_cr (b ∷ []) = if b == 13 then [] else b ∷ []
without_cr (b ∷ c ∷ rest) = b ∷ without_cr (c ∷ rest)

-- the first line of a text, without its LF and a CR before that
abbrev pub first_line : List ℕ → List ℕ
first_line text = without_cr (front_before 10 text)

-- ---- the table

-- a realm that a configuration takes, without `:`, which parts realm and password where they are digested
abbrev pub is_digested_realm : List ℕ → Bool
is_digested_realm realm = is_realm realm && not (list_any (λ b. b == byte ":") realm)

-- whether there is a byte
abbrev pub has_bytes : List ℕ → Bool
has_bytes [] = false
has_bytes (b ∷ bs) = true

-- a key with a text, on a line of its own
abbrev pub key_line : List ℕ → List ℕ → List ℕ
key_line key text = key ++ codes " = \"" ++ text ++ codes "\"\n"

-- `a1_sha256`, where both digests are wanted
abbrev pub sha256_line : UserDigests → List ℕ → List ℕ
sha256_line Md5 a1_sha256 = []
sha256_line Both a1_sha256 = key_line (codes "a1_sha256") a1_sha256

-- `[[user]]` with `name` and the digests
abbrev pub table_with : UserDigests → List ℕ → List ℕ → List ℕ → List ℕ
table_with digests name a1 a1_sha256 =
    codes "[[user]]\n" ++ key_line (codes "name") name ++ key_line (codes "a1") a1 ++ sha256_line digests a1_sha256

-- the same of name, realm and password (RFC 2617 3.2.2.2; RFC 7616 3.4.2)
abbrev pub table_of : UserDigests → List ℕ → List ℕ → List ℕ → List ℕ
table_of digests name realm password = table_with digests name (a1_of By.Md5 name realm password) (a1_of By.Sha256 name realm password)

-- the same, or why there is none; a password has 1 to 1,024 bytes (this project's profile)
abbrev pub user_table : List ℕ → List ℕ → List ℕ → UserDigests → Result (List ℕ) QuestionError
user_table name realm password digests = do
  _ ← confirmed (is_name name) BadName
  _ ← confirmed (is_digested_realm realm) BadRealm
  _ ← confirmed (has_bytes password) EmptyPassword
  _ ← confirmed (nat_le (length password) 1024) LongPassword
  Ok (table_of digests name realm password)

-- ---- a user more of a configuration

-- which digests a user needs beside these: both where one of them has both, since every phone is offered both then
abbrev pub digests_beside : List User → UserDigests
digests_beside users = if list_any (λ user. is_some user.a1_sha256) users then Both else Md5

-- whether a realm, if one is said, is this one
abbrev pub is_realm_said : List ℕ → Option (List ℕ) → Bool
is_realm_said realm None = true
is_realm_said realm (Some said) = bytes_eq said realm

-- the table of a user whose name isn't there yet, in the realm of a configuration and with the digests that its users have
abbrev pub added_user : Config → List ℕ → Option (List ℕ) → List ℕ → Result (List ℕ) QuestionError
added_user config name realm password = do
  _ ← confirmed (is_realm_said config.realm realm) OtherRealm
  _ ← confirmed (not (is_users_name config.users name)) TakenName
  user_table name config.realm password (digests_beside config.users)
