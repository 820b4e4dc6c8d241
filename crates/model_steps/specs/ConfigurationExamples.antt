-- The sample configuration with a window, and with a second key, for the worked examples.
use Rattle.std.specs.Prelude.{ℕ, false, List, [], ◌∷◌, ◌++◌, codes, pos, Some}
use Rattle.sip_message_fields.specs.declared.field_name.FieldName.TheVariants as Name
use Rattle.sip_message_form.specs.declared.message.Start.TheVariants.{Request}
use Rattle.sip_message_form.specs.declared.message.Message.{Message}
use Rattle.sip_edit_response.specs.Examples as Replies
use Rattle.model_verdict.specs.edit.OnwardExamples as Onward
use Rattle.sip_policy.specs.declared.user.User.{User}
use Rattle.sip_policy.specs.declared.window.Window.{Window}
use Rattle.sip_policy.specs.Examples.{user_of, mufasas_a1, alices_a1, rules_with}
use Rattle.sip_config_types.specs.Sample as Settings
use Rattle.model_verdict.specs.state.declared.proxy_state.ProxyState.{ProxyState}
use Rattle.model_verdict.specs.state.State.{first_state}
use Rattle.model_verdict.specs.state.declared.server.Server.{Server}
use Rattle.model_verdict.specs.Verdict.{message_verdict}
use Rattle.model_steps.specs.Effect.{Effect, counted, effect_of}
use Rattle.model_steps.specs.Examples.{arriving_at, authorized}

-- what a message does to a server
abbrev pub effect_on : Server → ProxyState → ℕ → ℕ → ℕ → Message → Effect
effect_on server state number now port m =
    effect_of server (arriving_at number now port) m (message_verdict server state (arriving_at number now port) m false)
    (counted (arriving_at number now port) state)

-- ---- rule 4 with a window

-- the sample's server an hour ahead of UTC, whose rule 4 has a window
abbrev pub windowed : Window → Server
windowed window = record { config = record Settings.sample { rules = rules_with window; offset = pos 60 }; word = 0 }

-- an INVITE to help, who has no binding, at a moment
abbrev pub called_at : Window → ℕ → Effect
called_at window now = effect_on (windowed window) (first_state 1) 1 now 5070 Onward.invite

-- ---- help with a second key

-- help's H(A1) by SHA-256
abbrev pub helps_key : List ℕ
helps_key = codes "3333333333333333333333333333333333333333333333333333333333333333"

-- the sample's users, of whom help has it
abbrev pub users : List User
users =
    user_of (codes "Mufasa") mufasas_a1 (codes "staff" ∷ [])
    ∷ user_of (codes "alice") alices_a1 []
    ∷ record (user_of (codes "help") (codes "22222222222222222222222222222222") []) { a1_sha256 = Some helps_key }
    ∷ []

-- the sample's server with these users
abbrev pub keyed : Server
keyed = record { config = record Settings.sample { users = users }; word = 0 }

-- Mufasa's first REGISTER, which has no credential
abbrev pub challenged_twice : Effect
challenged_twice = effect_on keyed (first_state 1) 1 1000 5062 Replies.register

-- the responses to the nonce of that, which another program made: Mufasa's by MD5
abbrev pub mufasas_by_md5 : List ℕ
mufasas_by_md5 =
    codes "Digest username=\"Mufasa\", realm=\"testrealm@host.com\", nonce=\"00000000000000000000000000000001\", uri=\"sip:host.com\", response=\"bd9454039b0b6bed147dae94f4738ec0\", qop=auth, nc=00000001, cnonce=\"0a4f113b\""

-- his by SHA-256, of his key by MD5
abbrev pub mufasas_by_sha256 : List ℕ
mufasas_by_sha256 =
    codes "Digest username=\"Mufasa\", realm=\"testrealm@host.com\", nonce=\"00000000000000000000000000000001\", uri=\"sip:host.com\", response=\"7a3e5a80f523592da2a5126b8bfca29caaea77b28c3f2626aaa715c4fd071e15\", algorithm=SHA-256, qop=auth, nc=00000001, cnonce=\"0a4f113b\""

-- his second REGISTER with one of them
abbrev pub answered_by : List ℕ → Effect
answered_by value = effect_on keyed challenged_twice.state 2 2000 5062 (authorized value)

-- what help's credentials begin with
abbrev pub helps_credential : List ℕ → List ℕ
helps_credential rest = codes "Digest username=\"help\", realm=\"testrealm@host.com\", nonce=\"00000000000000000000000000000001\", uri=\"sip:host.com\", response="
    ++ rest

-- help's, by MD5 with the first count
abbrev pub first_by_md5 : List ℕ
first_by_md5 = helps_credential (codes "\"85d4d673c58c2ed45136af95f6d881d3\", qop=auth, nc=00000001, cnonce=\"0a4f113b\"")

-- by SHA-256 with the first count
abbrev pub first_by_sha256 : List ℕ
first_by_sha256 =
    helps_credential (codes
    "\"d5ee3152de6918d9ebcaa077718b4eb280b52898374121409c51acda27b0ec49\", algorithm=SHA-256, qop=auth, nc=00000001, cnonce=\"0a4f113b\"")

-- by SHA-256 with the second count
abbrev pub second_by_sha256 : List ℕ
second_by_sha256 =
    helps_credential (codes
    "\"b294f093c5952c827e67fc37859077f90d6ad0d1b248be0d753ca3d42e598480\", algorithm=SHA-256, qop=auth, nc=00000002, cnonce=\"0a4f113b\"")

-- a REGISTER of help's with a branch, a CSeq number and a credential
abbrev pub helps_register : List ℕ → List ℕ → List ℕ → Message
helps_register branch number value =
    record {
      start = Request (codes "REGISTER") (codes "sip:host.com") (codes "SIP/2.0");
      fields =
          record { name = Name.Via; value = codes "SIP/2.0/UDP 127.0.0.1:5062;branch=z9hG4bK" ++ branch }
          ∷ record { name = Name.MaxForwards; value = codes "70" }
          ∷ record { name = Name.From; value = codes "<sip:help@host.com>;tag=a1" }
          ∷ record { name = Name.To; value = codes "<sip:help@host.com>" }
          ∷ record { name = Name.CallId; value = codes "h1" }
          ∷ record { name = Name.CSeq; value = number ++ codes " REGISTER" }
          ∷ record { name = Name.Contact; value = codes "<sip:help@127.0.0.1:5082>" }
          ∷ record { name = Name.Authorization; value = value }
          ∷ [];
      body = [];
    }

-- help answers by MD5
abbrev pub once : Effect
once = effect_on keyed challenged_twice.state 2 2000 5082 (helps_register (codes "x1") (codes "2") first_by_md5)

-- then by SHA-256, with the count that was used by MD5
abbrev pub twice : Effect
twice = effect_on keyed once.state 3 3000 5082 (helps_register (codes "x2") (codes "3") first_by_sha256)

-- then with the next count
abbrev pub thrice : Effect
thrice = effect_on keyed twice.state 4 4000 5082 (helps_register (codes "x3") (codes "4") second_by_sha256)
