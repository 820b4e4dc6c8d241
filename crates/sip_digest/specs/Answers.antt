-- The answers of Digest access authentication (RFC 2617 3.2.2; RFC 7616 3.4; RFC 8760 2.1).
use Rattle.std.specs.Prelude.{ℕ, List, [], ◌∷◌, codes, Option, Some, None}
use Rattle.std.specs.List.{join_with_byte}
use Rattle.std.specs.Str.{byte}
use Rattle.md5.specs.Md5.{md5}
use Rattle.sha2.specs.Sha256.{sha256}
use Rattle.hex.specs.Hex.{encode_lower}
use Rattle.sip_digest.specs.Protection.{Protection}
use Rattle.sip_digest.specs.declared.algorithm.Algorithm.{Algorithm}
use Rattle.sip_digest.specs.declared.algorithm.Algorithm.TheVariants.{Md5, Sha256}

-- H of RFC 2617 3.2.1, as digits in lower case: 32 of the MD5 of RFC 1321, 64 of the SHA-256 of
-- FIPS 180-4 (RFC 8760 2.2)
abbrev pub hash : Algorithm → List ℕ → List ℕ
hash Md5 text = encode_lower (md5 text)
hash Sha256 text = encode_lower (sha256 text)

-- parts with a `:` between each two
abbrev pub parted : List (List ℕ) → List ℕ
parted parts = join_with_byte (byte ":") parts

-- H(A1) of a user's name, realm and password (RFC 2617 3.2.2.2; RFC 7616 3.4.2)
abbrev pub a1_of : Algorithm → List ℕ → List ℕ → List ℕ → List ℕ
a1_of algorithm name realm password = hash algorithm (parted (name ∷ realm ∷ password ∷ []))

-- H(A2) of a request's method and URI (RFC 2617 3.2.2.3; RFC 7616 3.4.3)
abbrev pub a2_of : Algorithm → List ℕ → List ℕ → List ℕ
a2_of algorithm method uri = hash algorithm (parted (method ∷ uri ∷ []))

-- what is answered: H(A1), the nonce, the quality of protection if there is one, and H(A2)
abbrev pub answered : List ℕ → List ℕ → Option Protection → List ℕ → List (List ℕ)
answered a1 nonce None a2 = a1 ∷ nonce ∷ a2 ∷ []
answered a1 nonce (Some protection) a2 = a1 ∷ nonce ∷ protection.nc ∷ protection.cnonce ∷ codes "auth" ∷ a2 ∷ []

-- the request-digest of RFC 2617 3.2.2.1 and RFC 7616 3.4.1: of H(A1), method, URI and nonce, and the
-- quality of protection if there is one
abbrev pub answer_of : Algorithm → List ℕ → List ℕ → List ℕ → List ℕ → Option Protection → List ℕ
answer_of algorithm a1 method uri nonce protection =
    hash algorithm (parted (answered a1 nonce protection (a2_of algorithm method uri)))
