-- What a request proves is the same by nonces that say the same (RFC 2617 3.2.2, 3.3; RFC 3261 22).
use Rattle.std.proofs.Common.{◌≡◌, ℕ, cond, List, refl, ap, Option, Some, None, find}
use Rattle.std.specs.Prelude.{◌&&◌, is_some}
use Rattle.std.specs.Option.{option_and_then}
use Rattle.sip_digest.specs.declared.nonces.Nonce.{Nonce}
use Rattle.sip_digest.specs.Credential.{count_of}
use Rattle.sip_message_fields.specs.Values.{values_of}
use Rattle.sip_message_form.specs.declared.message.Start.{Start}
use Rattle.sip_message_form.specs.declared.message.Start.TheVariants.{Request, Status}
use Rattle.sip_message_form.specs.declared.message.Message.{Message}
use Rattle.sip_policy.specs.declared.user.User.{User}
use Rattle.sip_policy.specs.User.{is_named}
use Rattle.sip_auth.specs.Proof.{Proof, Wrong, Claim, judged, key_of, proof_with_key, proof_by, proof_from, proof_in, proof_of, is_equal_uri, claim_of}
use Rattle.sip_auth.specs.Proof.{first_for_realm, credentials_field}
use Rattle.sip_model.specs.Nonces.{SameNonces}
use Rattle.sip_model.proofs.SameNonces.{worth_same}

module _ (now : ℕ) (left right : List Nonce) (h : SameNonces now left right) where
  with_key : (claim : Claim) (key : Option (List ℕ)) → proof_with_key left now claim key ≡ proof_with_key right now claim key
  with_key claim None = refl
  with_key claim (Some a1) = ap (judged claim) (worth_same a1 claim.credential now left right h)

  by_user : (claim : Claim) (user : Option User) → proof_by left now claim user ≡ proof_by right now claim user
  by_user claim None = refl
  by_user claim (Some user) = with_key claim (key_of user claim.credential.algorithm)

  from_claim : (users : List User) (uri : List ℕ) (claim : Option Claim) → proof_from users left now uri claim ≡ proof_from users right now uri claim
  from_claim users uri None = refl
  from_claim users uri (Some claim) =
      ap (λ (proof : Proof). cond (is_some (count_of claim.credential) && is_equal_uri claim.credential.uri uri) proof Wrong)
      (by_user claim (find (is_named claim.name) users))

  pub proof_same : (realm : List ℕ) (users : List User) (m : Message) → proof_of realm users left now m ≡ proof_of realm users right now m
  proof_same realm users m = by_start m.start where
    by_start : (start : Start) → proof_in realm users left now m.fields start ≡ proof_in realm users right now m.fields start
    by_start (Request method uri version) =
        from_claim users uri (option_and_then (claim_of method) (first_for_realm realm (values_of (credentials_field method) m.fields)))
    by_start (Status code reason) = refl
