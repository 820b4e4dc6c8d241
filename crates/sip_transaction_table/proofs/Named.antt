-- What a CANCEL names has the digest that the CANCEL knows.
use Rattle.std.proofs.Common.{◌≡◌, ℕ, ◌==◌, ◌++◌, Bool, true, false, cond, List, refl, ◌∙◌, ap}
use Rattle.std.specs.Prelude.{◌&&◌, not, codes, fold}
use Rattle.std.specs.Str.{bytes_eq}
use Rattle.std.specs.Cmp.Lexicographic.{bytes_decides}
use Rattle.std.proofs.lemmas.Bool.Decides.{Decides-eqb}
use Rattle.sip_base.specs.WordHasher as sip
use Rattle.sip_base.specs.declared.word_hasher.WordHasher.{WordHasher}
use Rattle.sip_transaction_table.specs.declared.key.TransactionKey.{TransactionKey}
use Rattle.sip_transaction_table.specs.Key.{is_cancelled_by}
use Rattle.sip_transaction_table.specs.Digest.{text_fed, sender_fed, sender_digest, named_digest, digest_of}

both : (a b : Bool) → (a && b) ≡ true → (a ≡ true) × (b ≡ true)
both true true is = (refl, refl)
both true false is = absurd (cc)
both false true is = absurd (cc)
both false false is = absurd (cc)

fails : (t : Bool) → not t ≡ true → t ≡ false
fails false is = refl
fails true is = absurd (cc)

pub has_digest : (secret : WordHasher) (cancel key : TransactionKey) → is_cancelled_by cancel key ≡ true → digest_of secret key ≡ named_digest secret cancel
unfolding digest_of
has_digest secret cancel key is =
    let branches : Bool = bytes_eq key.branch cancel.branch in
    let hosts : Bool = bytes_eq key.host cancel.host in
    let ports : Bool = key.port == cancel.port in
    let cancels : Bool = bytes_eq key.method (codes "CANCEL") in
    let first = both (branches && hosts && ports && not cancels) (not (bytes_eq key.method (codes "ACK"))) is in
    let second = both (branches && hosts && ports) (not cancels) first.0 in
    let third = both (branches && hosts) ports second.0 in
    let fourth = both branches hosts third.0 in
    ap (λ (t : Bool). cond t (sip.finish (fold sip.write secret (sender_fed key.branch key.host key.port ++ text_fed key.method)))
    (sender_digest secret key.branch key.host key.port)) (fails cancels second.1)
    ∙ ap (λ (b : List ℕ). sender_digest secret b key.host key.port) ((bytes_decides key.branch cancel.branch).0 fourth.0)
    ∙ ap (λ (h : List ℕ). sender_digest secret cancel.branch h key.port) ((bytes_decides key.host cancel.host).0 fourth.1)
    ∙ ap (sender_digest secret cancel.branch cancel.host) ((Decides-eqb key.port cancel.port).0 third.1)
