-- The lines of a record's file that hold digests (this project's profile).
use Rattle.std.specs.Prelude.{List, ℕ, ◌++◌, codes}
use Rattle.hex.specs.Hex.{encode_lower}

-- `sealed DIGEST`: the digest (SHA-256, FIPS 180-4) of all that stands before it in 64 hexadecimal digits in lower case, and LF
abbrev pub seal_line : List ℕ → List ℕ
seal_line digest = codes "sealed " ++ encode_lower digest ++ codes "\n"

-- `follows NAME DIGEST`: the name of the file of the record that this one follows, the digest in its last line, and LF
abbrev pub follows_line : List ℕ → List ℕ → List ℕ
follows_line name digest = codes "follows " ++ (name ++ (codes " " ++ (encode_lower digest ++ codes "\n")))
