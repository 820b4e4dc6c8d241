-- The rows of a table.
use Rattle.std.specs.Prelude.{◌≡◌, ℕ, ◌==◌, false, List, count_by, map}
use Rattle.std.specs.List.{AllPairs}
use Rattle.sip_base.specs.declared.word_hasher.WordHasher.{WordHasher}
use Rattle.sip_transaction_table.specs.declared.key.TransactionKey.{TransactionKey}
use Rattle.sip_transaction_table.specs.Key.{same_key}
use Rattle.sip_transaction_table.specs.Digest.{digest_of}
use Rattle.sip_transaction_table.specs.Keys.{Filed, count_in}

-- What a table shows: its rows in rising order of their numbers, how many more can be added with no memory, and the secret under which
-- their keys are hashed.
pub record Rows (R : Type 0) : Type 0 where
  pub rows : List R
  pub room : ℕ
  pub secret : WordHasher

-- Keys differ from row to row, and each is filed, and nothing else; its digest is known.
pub record AreFiled {R : Type 0} (key : R → TransactionKey) (rows : List R) (filed : Filed) : Type 0 where
  pub apart : AllPairs (λ a b. same_key (key a) (key b) ≡ false) rows
  pub counted : (d : ℕ) → count_by (λ r. digest_of filed.secret (key r) == d) rows ≡ count_in d filed.entries
  pub digested : filed.digests ≡ map (λ r. digest_of filed.secret (key r)) rows
