-- What a right claim uses up, by the count and the word of its nonce that were read before.
use Rattle.std.proofs.Common.{◌≡◌, ℕ, List, Option, ap, ◌∙◌}
use Rattle.std.specs.Option.{option_map_or}
use Rattle.sip_digest.specs.declared.nonces.Nonce.{Nonce}
use Rattle.sip_digest.specs.Credential.{count_of}
use Rattle.sip_digest.specs.NonceText.{word_of}
use Rattle.sip_digest.specs.Nonces.{counted, spent_by}
use Rattle.sip_auth.specs.Proof.{Claim}

pub spent_so : (rows : List Nonce) (claim own : Claim) (count word : Option ℕ) (now : ℕ) → count ≡ count_of claim.credential → word ≡ word_of claim.credential.nonce
    → claim ≡ own → option_map_or (λ n. option_map_or (λ w. counted w n rows now) word rows) count rows ≡ spent_by rows own.credential now
spent_so rows claim own count word now counts words same =
    ap (λ (o : Option ℕ). option_map_or (λ n. option_map_or (λ w. counted w n rows now) word rows) o rows) counts
    ∙ ap (λ (o : Option ℕ). option_map_or (λ n. option_map_or (λ w. counted w n rows now) o rows) (count_of claim.credential) rows) words
    ∙ ap (λ (d : Claim). spent_by rows d.credential now) same
