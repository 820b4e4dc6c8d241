-- Requests with credentials, and what they prove to the sample's users.
use Rattle.std.specs.Prelude.{ℕ, List, [], ◌∷◌, ◌++◌, codes, Some}
use Rattle.sip_message_fields.specs.declared.field_name.FieldName.{FieldName}
use Rattle.sip_message_form.specs.declared.message.Start.TheVariants.{Request}
use Rattle.sip_message_form.specs.declared.message.Message.{Message}
use Rattle.sip_route.specs.Examples.{sample_realm}
use Rattle.sip_digest.specs.declared.algorithm.Algorithm.TheVariants.{Md5}
use Rattle.sip_digest.specs.Answers.{answer_of}
use Rattle.sip_digest.specs.Credential.{Credential}
use Rattle.sip_digest.specs.Protection.{Protection}
use Rattle.sip_digest.specs.declared.nonces.Nonce.{Nonce}
use Rattle.sip_policy.specs.Examples.{sample_users}
use Rattle.sip_auth.specs.Proof.{Proof, proof_of}

-- the text of the first nonce
abbrev pub nonce : List ℕ
nonce = codes "00000000000000000000000000000001"

-- a count, with the client's own nonce of RFC 2617 3.5
abbrev pub protected : List ℕ → Protection
protected count = record { nc = count; cnonce = codes "0a4f113b" }

-- the value that answers that nonce for a request, by the H(A1) of a user
abbrev pub credential : List ℕ → List ℕ → List ℕ → List ℕ → List ℕ → List ℕ
credential name a1 method uri count =
    codes "Digest username=\"" ++ name ++ codes "\", realm=\"testrealm@host.com\", nonce=\"00000000000000000000000000000001\", uri=\""
    ++ uri ++ codes "\", response=\""
    ++ answer_of Md5 a1 method uri nonce (Some (protected count))
    ++ codes "\", algorithm=MD5, cnonce=\"0a4f113b\", qop=auth, nc=" ++ count

-- what it says
abbrev pub said : List ℕ → List ℕ → List ℕ → List ℕ → Credential
said a1 method uri count =
    record {
      algorithm = Md5;
      method = method;
      uri = uri;
      nonce = nonce;
      protection = Some (protected count);
      response = answer_of Md5 a1 method uri nonce (Some (protected count));
    }

-- a request whose one field is this value
abbrev pub request_with : List ℕ → List ℕ → FieldName → List ℕ → Message
request_with method uri name value =
    record { start = Request method uri (codes "SIP/2.0"); fields = record { name = name; value = value } ∷ []; body = [] }

-- the first nonce, issued at 1,000 and used as often as this
abbrev pub used_often : ℕ → List Nonce
used_often count = record { word = 1; since = 1000; count = count } ∷ []

-- what a request proves at 2,000 with that nonce
abbrev pub proof_with : ℕ → Message → Proof
proof_with count m = proof_of sample_realm sample_users (used_often count) 2000 m
