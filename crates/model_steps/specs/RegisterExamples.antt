-- REGISTERs beside what else is known, for the worked examples.
use Rattle.std.specs.Prelude.{ℕ, List, [], ◌∷◌, ◌++◌, codes}
use Rattle.sip_uri.specs.declared.aor.Aor.{Aor}
use Rattle.sip_uri.specs.Examples.{user_at}
use Rattle.sip_hops.specs.Examples.{at_port}
use Rattle.sip_message_fields.specs.declared.field_name.FieldName.TheVariants as Name
use Rattle.sip_message_form.specs.declared.message.Message.{Message}
use Rattle.sip_message_form.specs.Text.{text_of}
use Rattle.sip_digest.specs.declared.nonces.Nonce.{Nonce}
use Rattle.sip_location.specs.declared.binding.Binding.{Binding}
use Rattle.model_steps.specs.Effect.{Effect, datagram_effect}
use Rattle.model_steps.specs.Examples.{sample, arriving_at, whole_effect, challenge_effect, registering_by, authorized, mufasas, alices}
use Rattle.model_steps.specs.Examples.{binding_until}

-- Mufasa's REGISTER with his credential, where these bindings are known
abbrev pub registered_beside : List Binding → Effect
registered_beside rows =
    whole_effect (record challenge_effect.state { bindings = rows }) (arriving_at 2 2000 5062)
    (authorized (mufasas (codes "REGISTER") (codes "sip:host.com")))

-- two bindings of help's: one that lives, and one that has expired
abbrev pub others : List Binding
others = binding_until 3602000 ∷ binding_until 2000 ∷ []

-- alice's REGISTER for Mufasa's address, which was denied, once more as a new request
abbrev pub denied_again : Effect
denied_again =
    whole_effect (record (registering_by (alices (codes "REGISTER") (codes "sip:host.com"))).state { requests = [] }) (arriving_at 3 3000 5062)
    (authorized (alices (codes "REGISTER") (codes "sip:host.com")))

-- ---- an interval that is too brief

-- Mufasa's REGISTER with his credential, for a contact that he binds for 59 seconds
abbrev pub brief_register : Message
brief_register =
    let m : Message = authorized (mufasas (codes "REGISTER") (codes "sip:host.com")) in
    record m { fields = m.fields ++ record { name = Name.Expires; value = codes "59" } ∷ [] }

-- it comes after the first challenge, as a datagram
abbrev pub brief_effect : Effect
brief_effect = datagram_effect sample challenge_effect.state (arriving_at 2 2000 5062) (text_of brief_register)

-- the same message where these bindings are known
abbrev pub brief_beside : List Binding → Effect
brief_beside rows = whole_effect (record challenge_effect.state { bindings = rows }) (arriving_at 2 2000 5062) brief_register

-- the answer: a 423 that says the shortest interval (RFC 3261 8.2.6, 10.3 step 7, 20.23, 21.4.17)
abbrev pub brief_text : List ℕ
brief_text =
    codes "SIP/2.0 423 Interval Too Brief\r\n"
    ++ codes "Via: SIP/2.0/UDP 127.0.0.1:5062;branch=z9hG4bKreg2\r\n"
    ++ codes "From: <sip:Mufasa@host.com>;tag=a1\r\n"
    ++ codes "To: <sip:Mufasa@host.com>;tag=0000000000000000.2\r\n"
    ++ codes "Call-ID: c1@127.0.0.1\r\n"
    ++ codes "CSeq: 2 REGISTER\r\n"
    ++ codes "Min-Expires: 60\r\n"
    ++ codes "Content-Length: 0\r\n\r\n"

-- the first nonce, issued at 1,000 and used once
abbrev pub used_nonce : Nonce
used_nonce = record { word = 1; since = 1000; count = 1 }

-- ---- a user with a binding who makes another

-- the address of record Mufasa@host.com
abbrev pub mufasa : Aor
mufasa = record { user = codes "Mufasa"; host = codes "host.com" }

-- a binding of Mufasa's at a port, until a moment
abbrev pub mufasa_at : List ℕ → ℕ → Binding
mufasa_at port expires_at = record {
  aor = mufasa;
  uri = at_port (user_at (codes "Mufasa") (codes "127.0.0.1")) port;
  call_id = codes "c9";
  cseq = 1;
  expires_at = expires_at;
}

-- two users' bindings: one of Mufasa's that has expired, one of help's, and one of Mufasa's that has 1,800 seconds left but for a part of one
abbrev pub known_before : List Binding
known_before = mufasa_at (codes "5066") 2000 ∷ binding_until 3602000 ∷ mufasa_at (codes "5064") 1801001 ∷ []

-- the 200 to Mufasa's REGISTER for port 5062 then (RFC 3261 10.3 step 8)
abbrev pub both_text : List ℕ
both_text =
    codes "SIP/2.0 200 OK\r\n"
    ++ codes "Via: SIP/2.0/UDP 127.0.0.1:5062;branch=z9hG4bKreg2\r\n"
    ++ codes "From: <sip:Mufasa@host.com>;tag=a1\r\n"
    ++ codes "To: <sip:Mufasa@host.com>;tag=0000000000000000.2\r\n"
    ++ codes "Call-ID: c1@127.0.0.1\r\n"
    ++ codes "CSeq: 2 REGISTER\r\n"
    ++ codes "Contact: <sip:Mufasa@127.0.0.1:5064>;expires=1800\r\n"
    ++ codes "Contact: <sip:Mufasa@127.0.0.1:5062>;expires=3600\r\n"
    ++ codes "Content-Length: 0\r\n\r\n"
