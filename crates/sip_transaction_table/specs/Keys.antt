-- How many keys are filed under each digest.
use Rattle.std.specs.Prelude.{ℕ, ◌+◌, List, nat_eq}
use Rattle.std.specs.Option.{option_map_or}
use Rattle.std.specs.Map.{lookup}
use Rattle.sip_base.specs.declared.word_hasher.WordHasher.{WordHasher}
use Rattle.sip_transaction_table.specs.declared.keys.KeyHint.{KeyHint}

-- What a file of keys shows: its secret, what it holds by digest, in an order that nothing rests on, the digests in the order of the rows, and how
-- many more keys it takes with no memory.
pub record Filed : Type 0 where
  pub secret : WordHasher
  pub entries : List (ℕ × KeyHint)
  pub digests : List ℕ
  pub room : ℕ

-- how many keys a hint counts
abbrev pub counted : KeyHint → ℕ
counted hint = hint.others + 1

-- how many keys of a digest are filed
abbrev pub count_in : ℕ → List (ℕ × KeyHint) → ℕ
count_in digest entries = option_map_or counted (lookup (nat_eq digest) entries) 0
