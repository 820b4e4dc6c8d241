-- What a request says to prove its user (RFC 2617 3.2.2; RFC 8760 2.4).
use Rattle.std.specs.Prelude.{ℕ, Bool, List, Option}
use Rattle.std.specs.Str.{bytes_eq}
use Rattle.sip_digest.specs.Protection.{Protection, seen, count_with}
use Rattle.sip_digest.specs.Answers.{answer_of}
use Rattle.sip_digest.specs.declared.algorithm.Algorithm.{Algorithm}
use Rattle.sip_digest.specs.declared.credential.Credential.{Credential as Given}

-- of a credential the algorithm, URI, nonce, quality of protection and response, and its request's method
pub record Credential : Type 0 where
  pub algorithm : Algorithm
  pub method : List ℕ
  pub uri : List ℕ
  pub nonce : List ℕ
  pub protection : Option Protection
  pub response : List ℕ

-- the bytes of a credential that a call is given
abbrev pub shown : Given → Credential
shown c = record {
  algorithm = c.algorithm;
  method = c.method.now;
  uri = c.uri.now;
  nonce = c.nonce.now;
  protection = seen c.protection;
  response = c.response.now;
}

-- whether the response is, byte by byte, the answer of the user of this H(A1), which is of the same algorithm
abbrev pub is_answer : List ℕ → Credential → Bool
is_answer a1 c = bytes_eq c.response (answer_of c.algorithm a1 c.method c.uri c.nonce c.protection)

-- which use of the nonce a credential says it is (RFC 2617 3.2.2: nonce-count)
abbrev pub count_of : Credential → Option ℕ
count_of c = count_with c.protection
