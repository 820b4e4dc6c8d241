-- Credentials of users.
use Rattle.std.specs.Prelude.{ℕ, List, ◌++◌, codes}
use Rattle.sip_policy.specs.Examples.{mufasas_a1}
use Rattle.sip_auth.specs.Examples.{said}
use Rattle.sip_auth.specs.Proof.{Claim}

-- a value with a realm and a user's name
abbrev pub of_user : List ℕ → List ℕ → List ℕ
of_user realm name = codes "Digest realm=\"" ++ realm ++ codes "\", username=\"" ++ name ++ codes "\""

-- Mufasa's right answer to the first nonce, with this count
abbrev pub counted : List ℕ → Claim
counted count = record { name = codes "Mufasa"; credential = said mufasas_a1 (codes "REGISTER") (codes "sip:host.com") count }
