-- The quality of protection of an answer (RFC 2617 3.2.2).
use Rattle.std.specs.Prelude.{ℕ, ◌==◌, if◌then◌else◌, List, length, Option, Some, None}
use Rattle.sip_digest.specs.HexNumber.{hex_number_of}
use Rattle.sip_digest.specs.declared.protection.Protection.{Protection as Given}

-- what an answer with the quality of protection `auth` says of itself: the count of the nonce's uses
-- as it was sent, and the client's own nonce
pub record Protection : Type 0 where
  pub nc : List ℕ
  pub cnonce : List ℕ

-- the bytes of a quality of protection that a call is given
abbrev pub seen : Option Given → Option Protection
seen None = None
seen (Some given) = Some (record { nc = given.nc.now; cnonce = given.cnonce.now })

-- the number in eight hexadecimal digits, in either case; other text counts nothing (RFC 2617 3.2.2)
abbrev pub count_in : List ℕ → Option ℕ
count_in nc = if length nc == 8 then hex_number_of nc else None

-- which use of the nonce an answer is: without a quality of protection the first
abbrev pub count_with : Option Protection → Option ℕ
count_with None = Some 1
count_with (Some protection) = count_in protection.nc
