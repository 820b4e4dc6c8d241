-- A wrong password, and credentials of two realms in one request, for the worked examples.
use Rattle.std.specs.Prelude.{ℕ, List, [], ◌∷◌, codes}
use Rattle.sip_message_fields.specs.declared.field_name.FieldName.TheVariants as Name
use Rattle.sip_message_form.specs.declared.message.Start.TheVariants.{Request}
use Rattle.sip_message_form.specs.declared.message.Message.{Message}
use Rattle.sip_route.specs.Examples.{sample_realm}
use Rattle.sip_digest.specs.declared.algorithm.Algorithm.TheVariants.{Md5}
use Rattle.sip_digest.specs.Answers.{a1_of}
use Rattle.sip_policy.specs.Examples.{mufasas_a1}
use Rattle.sip_auth.specs.Examples.{credential}

-- H(A1) of Mufasa with the password `Circle of Life`, which isn't his
abbrev pub wrong_a1 : List ℕ
wrong_a1 = a1_of Md5 (codes "Mufasa") sample_realm (codes "Circle of Life")

-- his answer to the first nonce for a REGISTER
abbrev pub mufasas_credential : List ℕ
mufasas_credential = credential (codes "Mufasa") mufasas_a1 (codes "REGISTER") (codes "sip:host.com") (codes "00000001")

-- a credential for the realm `far.net`
abbrev pub foreign_credential : List ℕ
foreign_credential =
    codes "Digest username=\"Mufasa\", realm=\"far.net\", nonce=\"00000000000000000000000000000001\", uri=\"sip:host.com\", response=\"6629fae49393a05397450978507c4ef1\""

-- a REGISTER with two fields of credentials
abbrev pub register_with_both : List ℕ → List ℕ → Message
register_with_both first second = record {
  start = Request (codes "REGISTER") (codes "sip:host.com") (codes "SIP/2.0");
  fields = record { name = Name.Authorization; value = first } ∷ record { name = Name.Authorization; value = second } ∷ [];
  body = [];
}
