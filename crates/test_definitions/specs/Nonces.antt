-- Mufasa's answers to the first nonce (RFC 2617 3.5), for a REGISTER.
use Rattle.std.specs.Prelude.{ℕ, List, [], ◌∷◌, codes, Option, Some, None}
use Rattle.sip_digest.specs.declared.algorithm.Algorithm.TheVariants.{Md5}
use Rattle.sip_digest.specs.declared.nonces.Nonce.{Nonce}
use Rattle.sip_digest.specs.Answers.{answer_of}
use Rattle.sip_digest.specs.Credential.{Credential}
use Rattle.sip_digest.specs.Protection.{Protection}

-- H(A1) of Mufasa, whose password is `Circle Of Life` (RFC 2617 3.5)
abbrev pub mufasas_a1 : List ℕ
mufasas_a1 = codes "939e7578ed9e3c518a452acee763bce9"

-- the first nonce, issued at 1,000 and used as often as this
abbrev pub used_often : ℕ → List Nonce
used_often count = record { word = 1; since = 1000; count = count } ∷ []

-- his answer with this quality of protection
abbrev pub answering : Option Protection → Credential
answering protection = record {
  algorithm = Md5;
  method = codes "REGISTER";
  uri = codes "sip:host.com";
  nonce = codes "00000000000000000000000000000001";
  protection = protection;
  response = answer_of Md5 mufasas_a1 (codes "REGISTER") (codes "sip:host.com") (codes "00000000000000000000000000000001") protection;
}

-- without one, as of RFC 2069
abbrev pub by_rfc_2069 : Credential
by_rfc_2069 = answering None

-- with this count, and the client's own nonce of RFC 2617 3.5
abbrev pub counting : List ℕ → Credential
counting count = answering (Some (record { nc = count; cnonce = codes "0a4f113b" }))
