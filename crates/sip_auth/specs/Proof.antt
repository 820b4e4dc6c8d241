-- Who a request proves to come from (RFC 2617 3.2.2, 3.3; RFC 3261 22; RFC 8760 2).
use Rattle.std.specs.Prelude.{ℕ, Bool, true, false, ◌&&◌, is_some, if◌then◌else◌, List, [], ◌∷◌, codes, Option, Some, None, find}
use Rattle.std.specs.Option.{option_and_then}
use Rattle.std.specs.Result.{result_ok}
use Rattle.std.specs.Str.{bytes_eq}
use Rattle.sip_text.specs.Words.{is_same_text}
use Rattle.sip_uri.specs.declared.uri.Uri.{Uri}
use Rattle.sip_uri_equality.specs.Equality.{same}
use Rattle.sip_uri.specs.Reading.{reading_of}
use Rattle.sip_digest.specs.declared.algorithm.Algorithm.{Algorithm}
use Rattle.sip_digest.specs.declared.algorithm.Algorithm.TheVariants.{Md5, Sha256}
use Rattle.sip_digest.specs.Algorithm.{name_of}
use Rattle.sip_digest.specs.Protection.{Protection}
use Rattle.sip_digest.specs.Credential.{Credential, count_of}
use Rattle.sip_digest.specs.Nonces.{worth_of, spent_by}
use Rattle.sip_digest.specs.declared.nonces.Nonce.{Nonce}
use Rattle.sip_digest.specs.declared.nonces.Worth.{Worth}
use Rattle.sip_message_fields.specs.declared.field_name.FieldName.{FieldName}
use Rattle.sip_message_fields.specs.declared.field_name.FieldName.TheVariants as Name
use Rattle.sip_message_fields.specs.declared.field.Field.{Field}
use Rattle.sip_message_form.specs.declared.message.Start.{Start}
use Rattle.sip_message_form.specs.declared.message.Start.TheVariants.{Request, Status}
use Rattle.sip_message_form.specs.declared.message.Message.{Message}
use Rattle.sip_header_credentials.specs.declared.credentials.Credentials.{Credentials}
use Rattle.sip_message_fields.specs.Values.{values_of}
use Rattle.sip_header_credentials.specs.Credentials.{credentials_of, is_realm}
use Rattle.sip_policy.specs.declared.user.User.{User}
use Rattle.sip_policy.specs.User.{is_named}

-- A request proves to come from the user of a name by a credential; or would, but for the nonce of it; or proves nothing.
pub data Proof : Type 0 where
  Right : List ℕ → Credential → Proof
  Stale : Proof
  Wrong : Proof

-- ---- the credential that counts

-- credentials, if they are for a realm
abbrev pub for_realm : List ℕ → Option Credentials → Option Credentials
for_realm realm credentials = option_and_then (λ c. if is_realm realm c.realm then Some c else None) credentials

-- the first of two, if it is there
abbrev pub or_else : Option Credentials → Option Credentials → Option Credentials
or_else None others = others
or_else (Some c) others = Some c

-- the first Digest credentials for a realm; a value that isn't well-formed is none (RFC 3261 22.3)
abbrev pub first_for_realm : List ℕ → List (List ℕ) → Option Credentials
first_for_realm realm [] = None
first_for_realm realm (value ∷ values) = or_else (for_realm realm (credentials_of value)) (first_for_realm realm values)

-- the field for credentials: a registrar is a user agent server, and for every other request this server is a proxy (RFC 3261 22.2, 22.3)
abbrev pub credentials_field : List ℕ → FieldName
credentials_field method = if bytes_eq method (codes "REGISTER") then Name.Authorization else Name.ProxyAuthorization

-- ---- what it claims

-- a user's name, and the credential that is to prove it
pub record Claim : Type 0 where
  pub name : List ℕ
  pub credential : Credential

-- the algorithm of a name, in any case; MD5 where none is named (RFC 2617 3.2.1; RFC 8760 2.1)
abbrev pub algorithm_of : Option (List ℕ) → Option Algorithm
algorithm_of None = Some Md5
algorithm_of (Some name) = if is_same_text name (name_of Md5) then Some Md5 else if is_same_text name (name_of Sha256) then Some Sha256 else None

-- no quality of protection, or `auth` with a count and a nonce of the client's (RFC 2617 3.2.2)
abbrev pub protection_of : Option (List ℕ) → Option (List ℕ) → Option (List ℕ) → Option (Option Protection)
protection_of None _ _ = Some None
protection_of (Some qop) (Some count) (Some client) = if bytes_eq qop (codes "auth")
    then Some (Some (record { nc = count; cnonce = client })) else None
protection_of (Some qop) _ _ = None

-- an algorithm goes without a quality of protection only where RFC 2617 let it: SHA-256 needs one (RFC 7616 3.4)
abbrev pub is_protected : Algorithm → Option Protection → Bool
is_protected Md5 protection = true
is_protected Sha256 protection = is_some protection

-- a claim with all its parts, or none
abbrev pub claim_with : List ℕ → Algorithm → Option Protection → Option (List ℕ) → Option (List ℕ) → Option (List ℕ) → Option (List ℕ) → Option Claim
claim_with method algorithm protection (Some name) (Some text) (Some uri) (Some response) =
    Some (record {
      name = name;
      credential = record { algorithm = algorithm; method = method; uri = uri; nonce = text; protection = protection; response = response };
    })
claim_with method algorithm protection _ _ _ _ = None

-- a claim by an algorithm, with a quality of protection where it needs one
abbrev pub claim_by : List ℕ → Credentials → Algorithm → Option Protection → Option Claim
claim_by method c algorithm protection =
    if is_protected algorithm protection then claim_with method algorithm protection c.username c.nonce c.uri c.response else None

-- what credentials claim for a request of a method: they have a user's name, a nonce, a URI and a response, by an algorithm that is known
abbrev pub claim_of : List ℕ → Credentials → Option Claim
claim_of method c =
    option_and_then (λ algorithm. option_and_then (claim_by method c algorithm) (protection_of c.qop c.nc c.cnonce)) (algorithm_of c.algorithm)

-- ---- what it is worth

-- whether two URIs are there and are equal
abbrev pub are_equal_uris : Option Uri → Option Uri → Bool
are_equal_uris (Some left) (Some right) = same left right
are_equal_uris left right = false

-- whether two texts are SIP URIs that are equal (RFC 3261 19.1.4)
abbrev pub is_equal_uri : List ℕ → List ℕ → Bool
is_equal_uri left right = are_equal_uris (result_ok (reading_of left)) (result_ok (reading_of right))

-- what a claim proves by what its credential is worth
abbrev pub judged : Claim → Worth → Proof
judged claim Worth.Right = Right claim.name claim.credential
judged claim Worth.Stale = Stale
judged claim Worth.Wrong = Wrong

-- the H(A1) of a user by an algorithm; that by SHA-256 isn't configured for each
abbrev pub key_of : User → Algorithm → Option (List ℕ)
key_of user Md5 = Some user.a1
key_of user Sha256 = user.a1_sha256

-- a claim by an H(A1), or none
abbrev pub proof_with_key : List Nonce → ℕ → Claim → Option (List ℕ) → Proof
proof_with_key nonces now claim None = Wrong
proof_with_key nonces now claim (Some a1) = judged claim (worth_of nonces a1 claim.credential now)

-- a claim to be a configured user, or none
abbrev pub proof_by : List Nonce → ℕ → Claim → Option User → Proof
proof_by nonces now claim None = Wrong
proof_by nonces now claim (Some user) = proof_with_key nonces now claim (key_of user claim.credential.algorithm)

-- a claim is for the Request-URI as it came, and has a count of eight digits where it has one
abbrev pub proof_from : List User → List Nonce → ℕ → List ℕ → Option Claim → Proof
proof_from users nonces now uri None = Wrong
proof_from users nonces now uri (Some claim) =
    if is_some (count_of claim.credential) && is_equal_uri claim.credential.uri uri then proof_by nonces now claim (find (is_named claim.name) users)
    else Wrong

-- what a request line and fields prove
abbrev pub proof_in : List ℕ → List User → List Nonce → ℕ → List Field → Start → Proof
proof_in realm users nonces now fields (Request method uri version) =
    proof_from users nonces now uri (option_and_then (claim_of method) (first_for_realm realm (values_of (credentials_field method) fields)))
proof_in realm users nonces now fields (Status code reason) = Wrong

-- what a request proves to a realm with these users at a moment, with the nonces that were issued
abbrev pub proof_of : List ℕ → List User → List Nonce → ℕ → Message → Proof
proof_of realm users nonces now m = proof_in realm users nonces now m.fields m.start

-- ---- what follows

-- the proven user
abbrev pub proven : Proof → Option (List ℕ)
proven (Right name credential) = Some name
proven Stale = None
proven Wrong = None

-- whether the nonce alone was wrong (RFC 2617 3.2.1: stale)
abbrev pub is_stale : Proof → Bool
is_stale (Right name credential) = false
is_stale Stale = true
is_stale Wrong = false

-- the nonces after a proof was taken: a right credential counts as used, whatever becomes of the request (RFC 2617 3.2.2: nonce-count)
abbrev pub used : List Nonce → ℕ → Proof → List Nonce
used nonces now (Right name credential) = spent_by nonces credential now
used nonces now Stale = nonces
used nonces now Wrong = nonces
