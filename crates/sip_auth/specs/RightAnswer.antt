-- What a right proof rests on.
use Rattle.std.specs.Prelude.{◌≡◌, ◌<◌, ℕ, true, List, Contains, Some}
use Rattle.sip_message_form.specs.declared.message.Start.TheVariants.{Request}
use Rattle.sip_message_form.specs.declared.message.Message.{Message}
use Rattle.sip_message_fields.specs.Values.{values_of}
use Rattle.sip_header_credentials.specs.declared.credentials.Credentials.{Credentials}
use Rattle.sip_header_credentials.specs.Credentials.{credentials_of, is_realm}
use Rattle.sip_digest.specs.Answers.{answer_of}
use Rattle.sip_digest.specs.Credential.{Credential, count_of}
use Rattle.sip_digest.specs.NonceText.{nonce_text}
use Rattle.sip_digest.specs.Nonces.{IsLive}
use Rattle.sip_digest.specs.declared.nonces.Nonce.{Nonce}
use Rattle.sip_policy.specs.declared.user.User.{User}
use Rattle.sip_auth.specs.Proof.{claim_of, credentials_field, is_equal_uri, key_of}

-- A credential proves a user: some value of the request's field for credentials says it, for this realm and for its Request-URI; its
-- response is the answer by the key of a configured
-- user of that name, by its algorithm; it names a nonce that was issued and lives, and its count is above that of the nonce (RFC
-- 2617 3.2.2, RFC 3261 22).
pub record IsRightAnswer (realm : List ℕ) (users : List User) (nonces : List Nonce) (now : ℕ) (m : Message) (name : List ℕ) (c : Credential)
    : Type 0 where
  pub method : List ℕ
  pub uri : List ℕ
  pub version : List ℕ
  pub is_request : m.start ≡ Request method uri version
  pub value : List ℕ
  pub is_in_field : Contains (values_of (credentials_field method) m.fields) value
  pub credentials : Credentials
  pub is_read : credentials_of value ≡ Some credentials
  pub is_for_realm : is_realm realm credentials.realm ≡ true
  pub is_claim : claim_of method credentials ≡ Some (record { name = name; credential = c })
  pub is_for_uri : is_equal_uri c.uri uri ≡ true
  pub user : User
  pub is_configured : Contains users user
  pub has_name : user.name ≡ name
  pub key : List ℕ
  pub is_key : key_of user c.algorithm ≡ Some key
  pub is_answer : c.response ≡ answer_of c.algorithm key c.method c.uri c.nonce c.protection
  pub row : Nonce
  pub was_issued : Contains nonces row
  pub is_its_text : c.nonce ≡ nonce_text row.word
  pub is_live : IsLive now row
  pub count : ℕ
  pub is_count : count_of c ≡ Some count
  pub is_fresh : row.count < count
