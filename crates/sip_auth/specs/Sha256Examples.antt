-- Credentials by SHA-256. The responses were made by another program.
use Rattle.std.specs.Prelude.{ℕ, List, [], ◌∷◌, ◌++◌, codes, Some}
use Rattle.sip_message_fields.specs.declared.field_name.FieldName.TheVariants as Name
use Rattle.sip_message_form.specs.declared.message.Message.{Message}
use Rattle.sip_route.specs.Examples.{sample_realm}
use Rattle.sip_policy.specs.declared.user.User.{User}
use Rattle.sip_policy.specs.Examples.{user_of, mufasas_a1}
use Rattle.sip_auth.specs.Examples.{request_with, used_often}
use Rattle.sip_auth.specs.Proof.{Proof, proof_of}

-- help, with an H(A1) by SHA-256, and Mufasa, with none
abbrev pub users : List User
users =
    user_of (codes "Mufasa") mufasas_a1 []
    ∷ record (user_of (codes "help") (codes "22222222222222222222222222222222") [])
    { a1_sha256 = Some (codes "3333333333333333333333333333333333333333333333333333333333333333") }
    ∷ []

-- a REGISTER by which a user answers the first nonce with a response; what else the credentials say
abbrev pub register_by : List ℕ → List ℕ → List ℕ → Message
register_by name response rest =
    request_with (codes "REGISTER") (codes "sip:host.com") Name.Authorization
    (codes "Digest username=\"" ++ name
    ++ codes "\", realm=\"testrealm@host.com\", nonce=\"00000000000000000000000000000001\", uri=\"sip:host.com\", response=\"" ++ response
    ++ codes "\"" ++ rest)

-- what it proves at 2,000, where the nonce was used as often as this
abbrev pub proof_with : ℕ → Message → Proof
proof_with count m = proof_of sample_realm users (used_often count) 2000 m

-- help, by MD5, with the first count
abbrev pub first_by_md5 : Message
first_by_md5 = register_by (codes "help") (codes "85d4d673c58c2ed45136af95f6d881d3") (codes ", qop=auth, nc=00000001, cnonce=\"0a4f113b\"")

-- help, by SHA-256, with the first count, its algorithm under this name
abbrev pub first_by : List ℕ → Message
first_by algorithm =
    register_by (codes "help") (codes "d5ee3152de6918d9ebcaa077718b4eb280b52898374121409c51acda27b0ec49")
    (codes ", algorithm=" ++ algorithm ++ codes ", qop=auth, nc=00000001, cnonce=\"0a4f113b\"")

-- help, by SHA-256, with the second count
abbrev pub second_by_sha256 : Message
second_by_sha256 =
    register_by (codes "help") (codes "b294f093c5952c827e67fc37859077f90d6ad0d1b248be0d753ca3d42e598480")
    (codes ", algorithm=SHA-256, qop=auth, nc=00000002, cnonce=\"0a4f113b\"")

-- help, by SHA-256, without a quality of protection
abbrev pub without_qop : Message
without_qop = register_by (codes "help") (codes "ae5075a1ccb5dfae216acc24e053273bb343763c6612863a2068cf3ce99af053") (codes ", algorithm=SHA-256")

-- Mufasa, by SHA-256, of his H(A1) by MD5
abbrev pub of_other_key : Message
of_other_key =
    register_by (codes "Mufasa") (codes "7a3e5a80f523592da2a5126b8bfca29caaea77b28c3f2626aaa715c4fd071e15")
    (codes ", algorithm=SHA-256, qop=auth, nc=00000001, cnonce=\"0a4f113b\"")
