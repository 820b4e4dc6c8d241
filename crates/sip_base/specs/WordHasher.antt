-- SipHash-1-3 over whole words, as functions of a `WordHasher`.
use Rattle.std.specs.Prelude.{ℕ, zero, suc, ◌+◌, ◌*◌, ◌/◌, ◌%◌, ◌^◌, ◌-◌, List, [], ◌∷◌, length, drop, fold, bit_xor, nat_lt, if◌then◌else◌}
use Rattle.std.specs.Int.{w64, rotate_left, from_le_bytes}
use Rattle.sip_base.specs.declared.word_hasher.WordHasher.{WordHasher}

-- a sum of 64 bits
abbrev pub wrapping_add : ℕ → ℕ → ℕ
wrapping_add x y = (x + y) % 2 ^ 64

-- the state with both keys 0
unfoldable pub initial : WordHasher
initial = record { v0 = 0x736f_6d65_7073_6575; v1 = 0x646f_7261_6e64_6f6d; v2 = 0x6c79_6765_6e65_7261; v3 = 0x7465_6462_7974_6573 }

-- the state after one SipRound
unfoldable pub round : WordHasher → WordHasher
round s =
    let a0 = wrapping_add s.v0 s.v1 in
    let a2 = wrapping_add s.v2 s.v3 in
    let a1 = bit_xor (rotate_left w64 s.v1 13) a0 in
    let a3 = bit_xor (rotate_left w64 s.v3 16) a2 in
    let b2 = wrapping_add a2 a1 in
    let b0 = wrapping_add (rotate_left w64 a0 32) a3 in
    record { v0 = b0; v1 = bit_xor (rotate_left w64 a1 17) b2; v2 = rotate_left w64 b2 32; v3 = bit_xor (rotate_left w64 a3 21) b0 }

-- the state after a word
unfoldable pub write_word : WordHasher → ℕ → WordHasher
write_word s m =
    let t = round (record { v0 = s.v0; v1 = s.v1; v2 = s.v2; v3 = bit_xor s.v3 m }) in
    record { v0 = bit_xor t.v0 m; v1 = t.v1; v2 = t.v2; v3 = t.v3 }

-- a word with one byte more
unfoldable pub with_byte : ℕ → ℕ → ℕ
with_byte word b = wrapping_add (word * 256 % 2 ^ 64) b

-- the last eight bytes of a text, the lowest first; of a shorter text all bytes, the last of them the lowest
abbrev pub last_word : List ℕ → ℕ
last_word text = if nat_lt (length text) 8 then fold with_byte 0 text else from_le_bytes w64 (drop (length text - 8) text)

-- so many whole words at the front of a text, and a last word where more bytes follow them
abbrev pub words_before : ℕ → ℕ → List ℕ → List ℕ
words_before last zero [] = []
words_before last zero (b ∷ text) = last ∷ []
words_before last (suc count) text = from_le_bytes w64 text ∷ words_before last count (drop 8 text)

-- the state after the rest of a text whose last word is this
unfoldable pub write_rest : WordHasher → ℕ → List ℕ → WordHasher
write_rest s last rest = fold write_word s (words_before last (length rest / 8) rest)

-- the state after a text: its whole words, and where bytes are left behind them its last eight
unfoldable pub write : WordHasher → List ℕ → WordHasher
write s text = write_rest s (last_word text) text

-- what `finish` answers
unfoldable pub finish : WordHasher → ℕ
finish s =
    let u = round (round (round (record { v0 = s.v0; v1 = s.v1; v2 = bit_xor s.v2 255; v3 = s.v3 }))) in
    bit_xor (bit_xor (bit_xor u.v0 u.v1) u.v2) u.v3
