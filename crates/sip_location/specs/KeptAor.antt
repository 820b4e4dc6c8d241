-- An address of record in one block: the length of its user in four bytes, its user and its host.
use Rattle.std.specs.Prelude.{ℕ, ◌+◌, List, take, drop}
use Rattle.std.specs.Int.{w32, from_le_bytes}
use Rattle.sip_uri.specs.declared.aor.Aor.{Aor}

-- the length of the user, which the first four bytes of a block say
abbrev pub user_length : List ℕ → ℕ
user_length block = from_le_bytes w32 block

-- the address of record that a block says
abbrev pub aor_in : List ℕ → Aor
aor_in block = record { user = take (user_length block) (drop 4 block); host = drop (4 + user_length block) block }
