-- Challenges (RFC 2617 3.2.1; RFC 8760 2.3).
use Rattle.std.specs.Prelude.{ℕ, Bool, true, false, List, [], ◌∷◌, ◌++◌, map, codes, if◌then◌else◌}
use Rattle.sip_message_fields.specs.declared.field_name.FieldName.{FieldName}
use Rattle.sip_message_fields.specs.declared.field.Field.{Field}
use Rattle.sip_digest.specs.declared.algorithm.Algorithm.{Algorithm}
use Rattle.sip_digest.specs.declared.algorithm.Algorithm.TheVariants.{Md5, Sha256}
use Rattle.sip_digest.specs.Algorithm.{name_of}

-- what says that only the nonce was wrong (RFC 2617 3.2.1, stale)
abbrev pub stale_part : Bool → List ℕ
stale_part stale = if stale then codes ", stale=true" else []

-- what says by which algorithm it is to be answered, and with which quality of protection
abbrev pub algorithm_part : Algorithm → List ℕ
algorithm_part algorithm = codes "\", algorithm=" ++ name_of algorithm ++ codes ", qop=\"auth\""

-- the value of WWW-Authenticate and of Proxy-Authenticate by an algorithm (RFC 2617 3.2.1)
abbrev pub challenge : Algorithm → List ℕ → List ℕ → Bool → List ℕ
challenge algorithm realm nonce stale = codes "Digest realm=\"" ++ realm ++ codes "\", nonce=\"" ++ nonce ++ algorithm_part algorithm
    ++ stale_part stale

-- the algorithms that are offered, with SHA-256 or without: the one that is to be preferred comes first (RFC 8760 2.3)
abbrev pub offered : Bool → List Algorithm
offered false = Md5 ∷ []
offered true = Sha256 ∷ Md5 ∷ []

-- a challenge: a field of one name for each algorithm that is offered, all with one nonce, and all of them stale or none
abbrev pub challenge_fields : FieldName → Bool → List ℕ → List ℕ → Bool → List Field
challenge_fields name with_sha256 realm nonce stale =
    map (λ algorithm. record { name = name; value = challenge algorithm realm nonce stale }) (offered with_sha256)
