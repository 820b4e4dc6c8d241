-- The names of the algorithms.
use Rattle.std.specs.Prelude.{ℕ, List, codes}
use Rattle.sip_digest.specs.declared.algorithm.Algorithm.{Algorithm}
use Rattle.sip_digest.specs.declared.algorithm.Algorithm.TheVariants.{Md5, Sha256}

-- what an algorithm is called in a challenge and in credentials (RFC 2617 3.2.1; RFC 8760 2.1)
abbrev pub name_of : Algorithm → List ℕ
name_of Md5 = codes "MD5"
name_of Sha256 = codes "SHA-256"
