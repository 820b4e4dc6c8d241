-- A hasher under a secret.
use Rattle.std.specs.Prelude.{ℕ, fold}
use Rattle.std.specs.Hash as fed
use Rattle.sip_base.specs.WordHasher as sip
use Rattle.sip_base.specs.declared.word_hasher.WordHasher.{WordHasher}

-- a hasher that was fed the secret and nothing else
abbrev pub fed_first : ℕ → WordHasher
fed_first keys = fold sip.write sip.initial (fed.u128 keys)
