-- MD5 alone, and what SHA-256 needs.
use Rattle.std.proofs.Common.{◌≡◌, ℕ, Bool, true, false, cond, List, [], ◌∷◌, ◌↔◌, map, Option, Some, None, refl, ap}
use Rattle.std.specs.Prelude.{find, is_some, ◌&&◌, ◌||◌}
use Rattle.std.specs.List.{AllByRecursion}
use Rattle.std.specs.Option.{option_and_then}
use Rattle.sip_digest.specs.declared.algorithm.Algorithm.{Algorithm}
use Rattle.sip_digest.specs.declared.algorithm.Algorithm.TheVariants.{Md5, Sha256}
use Rattle.sip_digest.specs.declared.nonces.Nonce.{Nonce}
use Rattle.sip_digest.specs.Protection.{Protection}
use Rattle.sip_digest.specs.Credential.{count_of}
use Rattle.sip_header_credentials.specs.declared.credentials.Credentials.{Credentials}
use Rattle.sip_policy.specs.declared.user.User.{User}
use Rattle.sip_policy.specs.User.{is_named}
use Rattle.sip_auth.specs.Offer.{offers_sha256, HasMd5Alone, with_md5_alone}
use Rattle.sip_auth.specs.Proof.{Proof, Claim, Wrong, algorithm_of, protection_of, claim_with, claim_by, claim_of, key_of, proof_with_key, proof_by, proof_from}
use Rattle.sip_auth.specs.Proof.{is_equal_uri}

-- ---- MD5 alone

no_key : (key : Option (List ℕ)) → is_some key ≡ false → key ≡ None
no_key None e = refl
no_key (Some key) e = absurd cc

none_offers : (users : List User) → AllByRecursion HasMd5Alone users → offers_sha256 users ≡ false
none_offers [] alone = refl
none_offers (user ∷ users) alone = rw (alone.0) (none_offers users alone.1)

alone_by : (user : User) (users : List User) (b : Bool) → is_some user.a1_sha256 ≡ b → (b || offers_sha256 users) ≡ false
    → (offers_sha256 users ≡ false → AllByRecursion HasMd5Alone users) → AllByRecursion HasMd5Alone (user ∷ users)
alone_by user users true is none others = absurd cc
alone_by user users false is none others = (no_key user.a1_sha256 is, others none)

all_alone : (users : List User) → offers_sha256 users ≡ false → AllByRecursion HasMd5Alone users
all_alone [] none = tt
all_alone (user ∷ users) none = alone_by user users (is_some user.a1_sha256) refl none (all_alone users)

pub alone_is : (users : List User) → AllByRecursion HasMd5Alone users ↔ (offers_sha256 users ≡ false)
alone_is users = (none_offers users, all_alone users)

without_key : (nonces : List Nonce) (now : ℕ) (claim : Claim) (user : User) (algorithm : Algorithm) → HasMd5Alone user → (algorithm ≡ Md5 → ⊥)
    → proof_with_key nonces now claim (key_of user algorithm) ≡ Wrong
without_key nonces now claim user Md5 alone other = absurd (other refl)
without_key nonces now claim user Sha256 alone other = rw alone refl

-- nobody answers by another algorithm
nobody_by : (nonces : List Nonce) (now : ℕ) (claim : Claim) (users : List User) → AllByRecursion HasMd5Alone users → (claim.credential.algorithm ≡ Md5 → ⊥)
    → proof_by nonces now claim (find (is_named claim.name) users) ≡ Wrong
nobody_by nonces now claim [] alone other = refl
nobody_by nonces now claim (user ∷ users) alone other =
    elim (is_named claim.name user) as (λ b. proof_by nonces now claim (cond b (Some user) (find (is_named claim.name) users)) ≡ Wrong) [
      | true ↦ without_key nonces now claim user claim.credential.algorithm alone.0 other
      | false ↦ nobody_by nonces now claim users alone.1 other
    ]

wrong_both : (b : Bool) (proof : Proof) → proof ≡ Wrong → cond b proof Wrong ≡ Wrong
wrong_both true proof is = is
wrong_both false proof is = refl

pub only_md5 : (users : List User) (nonces : List Nonce) (now : ℕ) (uri : List ℕ) (claim : Claim)
    → AllByRecursion HasMd5Alone users → (claim.credential.algorithm ≡ Md5 → ⊥) → proof_from users nonces now uri (Some claim) ≡ Wrong
only_md5 users nonces now uri claim alone other =
    wrong_both (is_some (count_of claim.credential) && is_equal_uri claim.credential.uri uri) _ (nobody_by nonces now claim users alone other)

-- ---- what MD5 needs

same_key : (user : User) (algorithm : Algorithm) → algorithm ≡ Md5 → key_of user algorithm ≡ key_of (with_md5_alone user) algorithm
same_key user Md5 is = refl
same_key user Sha256 is = absurd cc

same_by : (nonces : List Nonce) (now : ℕ) (claim : Claim) (users : List User) → claim.credential.algorithm ≡ Md5
    → proof_by nonces now claim (find (is_named claim.name) users) ≡ proof_by nonces now claim (find (is_named claim.name) (map with_md5_alone users))
same_by nonces now claim [] md5 = refl
same_by nonces now claim (user ∷ users) md5 =
    elim (is_named claim.name user) as (λ b. proof_by nonces now claim (cond b (Some user) (find (is_named claim.name) users))
    ≡ proof_by nonces now claim (cond b (Some (with_md5_alone user)) (find (is_named claim.name) (map with_md5_alone users)))) [
      | true ↦ ap (λ (key : Option (List ℕ)). proof_with_key nonces now claim key) (same_key user claim.credential.algorithm md5)
      | false ↦ same_by nonces now claim users md5
    ]

pub same_worth : (users : List User) (nonces : List Nonce) (now : ℕ) (uri : List ℕ) (claim : Claim) → claim.credential.algorithm ≡ Md5
    → proof_from users nonces now uri (Some claim) ≡ proof_from (map with_md5_alone users) nonces now uri (Some claim)
same_worth users nonces now uri claim md5 =
    ap (λ (proof : Proof). cond (is_some (count_of claim.credential) && is_equal_uri claim.credential.uri uri) proof Wrong) (same_by nonces now claim users md5)

-- ---- what is claimed

record Says (claim : Claim) (algorithm : Algorithm) (protection : Option Protection) : Type 0 where
  by : claim.credential.algorithm ≡ algorithm
  protected : claim.credential.protection ≡ protection

claim_is : (x y : Claim) → Some x ≡ Some y → y ≡ x
claim_is x y e = cc

says : (method : List ℕ) (algorithm : Algorithm) (protection : Option Protection) (name text uri response : Option (List ℕ)) (claim : Claim)
    → claim_with method algorithm protection name text uri response ≡ Some claim → Says claim algorithm protection
says method algorithm protection (Some name) (Some text) (Some uri) (Some response) claim is =
    let same = claim_is _ claim is in
    record { by = ap (λ (k : Claim). k.credential.algorithm) same; protected = ap (λ (k : Claim). k.credential.protection) same }
says method algorithm protection (Some name) (Some text) (Some uri) None claim is = absurd cc
says method algorithm protection (Some name) (Some text) None response claim is = absurd cc
says method algorithm protection (Some name) None uri response claim is = absurd cc
says method algorithm protection None text uri response claim is = absurd cc

by_md5 : (method : List ℕ) (c : Credentials) (protection : Option (Option Protection)) (claim : Claim)
    → option_and_then (claim_by method c Md5) protection ≡ Some claim → claim.credential.algorithm ≡ Md5
by_md5 method c None claim is = absurd cc
by_md5 method c (Some protection) claim is = (says method Md5 protection c.username c.nonce c.uri c.response claim is).by

pub unnamed_is_md5 : (method : List ℕ) (c : Credentials) (claim : Claim) → c.algorithm ≡ None → claim_of method c ≡ Some claim → claim.credential.algorithm ≡ Md5
unnamed_is_md5 method c claim unnamed is = by_md5 method c (protection_of c.qop c.nc c.cnonce) claim (rw unnamed at is)

protected_by : (method : List ℕ) (c : Credentials) (algorithm : Option Algorithm) (protection : Option (Option Protection)) (claim : Claim)
    → option_and_then (λ a. option_and_then (claim_by method c a) protection) algorithm ≡ Some claim
    → claim.credential.algorithm ≡ Sha256 → claim.credential.protection ≡ None → ⊥
protected_by method c None protection claim is by none = absurd cc
protected_by method c (Some algorithm) None claim is by none = absurd cc
protected_by method c (Some Md5) (Some protection) claim is by none =
    let said = (says method Md5 protection c.username c.nonce c.uri c.response claim is).by in absurd cc
protected_by method c (Some Sha256) (Some None) claim is by none = absurd cc
protected_by method c (Some Sha256) (Some (Some protection)) claim is by none =
    let said = (says method Sha256 (Some protection) c.username c.nonce c.uri c.response claim is).protected in absurd cc

pub sha256_protected : (method : List ℕ) (c : Credentials) (claim : Claim) → claim_of method c ≡ Some claim
    → claim.credential.algorithm ≡ Sha256 → claim.credential.protection ≡ None → ⊥
sha256_protected method c claim is by none = protected_by method c (algorithm_of c.algorithm) (protection_of c.qop c.nc c.cnonce) claim is by none
