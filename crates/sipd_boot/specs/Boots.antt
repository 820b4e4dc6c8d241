-- With which numbers a server starts: those that a source gives, in the order in which they are drawn.
use Rattle.std.specs.Prelude.{ℕ, ◌+◌, ◌*◌, ◌^◌}
use Rattle.rand_core.specs.Stream.{Stream, next_u64}
use Rattle.sip_event.specs.declared.event.Boot.{Boot}

-- the next two numbers of a source as one, the high half first
abbrev pub secret_from : Stream → ℕ
secret_from words = (next_u64 words).0 * 2 ^ 64 + (next_u64 (next_u64 words).1).0

-- what is left of the source then
abbrev pub behind_secret : Stream → Stream
behind_secret words = (next_u64 (next_u64 words).1).1

-- a new start: the next number is its word, the first datagram has the number 1, and the two numbers behind are its secret
abbrev pub new_boot : Stream → Boot
new_boot words = record { word = (next_u64 words).0; first = 1; keys = secret_from (next_u64 words).1 }

-- what is left of the source then
abbrev pub behind_boot : Stream → Stream
behind_boot words = behind_secret (next_u64 words).1
