-- How the nonces are kept (this project's choice). The rows of a bucket, which is the low bits of a word, are
-- linked from the newest to the oldest, so that a look-up passes them alone.
use Rattle.std.specs.Prelude.{◌≡◌, ◌≢◌, ℕ, ◌+◌, ◌-◌, ◌%◌, ◌<◌, ◌≤◌, List, map, length, get_or}
use Rattle.sip_digest.specs.declared.nonces.Nonce.{Nonce}
use Rattle.sip_digest.specs.declared.nonces.NonceRow.{NonceRow}

-- the bucket of a word
abbrev pub bucket_of : ℕ → ℕ
bucket_of word = word % 4096

-- the nonces in rows
abbrev pub nonces_in : List NonceRow → List Nonce
nonces_in rows = map (λ r. r.nonce) rows

-- the buckets of nonces' words
abbrev pub buckets_of : List Nonce → List ℕ
buckets_of nonces = map (λ n. bucket_of n.word) nonces

-- how many rows each of them passes on the way to the next older one of its bucket
abbrev pub gaps_in : List NonceRow → List ℕ
gaps_in rows = map (λ r. r.gap) rows

-- how many turns passed since a mark; turns are counted round 2^16
abbrev pub passed_since : ℕ → ℕ → ℕ
passed_since mark turn = (turn + (65536 - mark)) % 65536

-- of the first `end` rows the newest one of a bucket is the last of the first `front`, if there is one
pub record IsNewest (bucket : ℕ) (buckets : List ℕ) (end front : ℕ) : Type 0 where
  pub within : front ≤ end
  pub none_behind : (j : ℕ) → front ≤ j → j < end → get_or buckets j 0 ≢ bucket
  pub stands : (j : ℕ) → j < front → get_or buckets j 0 ≡ bucket → get_or buckets (front - 1) 0 ≡ bucket

-- each row's gap leads to the next older one of its bucket
abbrev pub AreLinked : List ℕ → List ℕ → Type 0
AreLinked buckets gaps = (i : ℕ) → i < length buckets → IsNewest (get_or buckets i 0) buckets i (i - get_or gaps i 0)

-- at most 4,096 rows are linked, and each bucket's mark leads to its newest one
pub record AreKept (buckets gaps : List ℕ) (turn : ℕ) (marks : List ℕ) : Type 0 where
  pub few : length buckets ≤ 4096
  pub gapped : length gaps ≡ length buckets
  pub linked : AreLinked buckets gaps
  pub marked : (bucket : ℕ) → bucket < 4096 → IsNewest bucket buckets (length buckets) (length buckets - passed_since (get_or marks bucket 0) turn)
  pub sized : length marks ≡ 4096
