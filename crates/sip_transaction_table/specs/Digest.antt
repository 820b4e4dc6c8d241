-- A key as a number, which nobody can foresee who doesn't know the secret. A CANCEL's key has one of its own; any other has the number that
-- the CANCEL of its request knows, too, which has another method on the same branch and sent-by (RFC 3261 9.1).
use Rattle.std.specs.Prelude.{ℕ, List, [], ◌∷◌, ◌++◌, length, fold, codes, if◌then◌else◌}
use Rattle.std.specs.Hash as fed
use Rattle.std.specs.Str.{bytes_eq}
use Rattle.sip_base.specs.WordHasher as sip
use Rattle.sip_base.specs.declared.word_hasher.WordHasher.{WordHasher}
use Rattle.sip_transaction_table.specs.declared.key.TransactionKey.{TransactionKey}

-- a text, after its length
abbrev pub text_fed : List ℕ → List (List ℕ)
text_fed text = fed.usize (length text) ++ text ∷ []

-- a branch and a sent-by
abbrev pub sender_fed : List ℕ → List ℕ → ℕ → List (List ℕ)
sender_fed branch host port = text_fed branch ++ text_fed host ++ fed.u64 port

-- their hash by a hasher that was fed a secret
unfoldable pub sender_digest : WordHasher → List ℕ → List ℕ → ℕ → ℕ
sender_digest secret branch host port = sip.finish (fold sip.write secret (sender_fed branch host port))

-- the hash of each key that a CANCEL with this key names
abbrev pub named_digest : WordHasher → TransactionKey → ℕ
named_digest secret cancel = sender_digest secret cancel.branch cancel.host cancel.port

-- the hash of a key
unfoldable pub digest_of : WordHasher → TransactionKey → ℕ
digest_of secret key =
    if bytes_eq key.method (codes "CANCEL") then sip.finish (fold sip.write secret (sender_fed key.branch key.host key.port ++ text_fed key.method))
    else sender_digest secret key.branch key.host key.port
