-- The first line of a record (this project's profile).
use Rattle.std.specs.Prelude.{◌≡◌, ◌<◌, ◌^◌, ℕ, List, [], ◌∷◌, ◌++◌, length, drop, nat_eq, decimal, codes, if◌then◌else◌, Option, Some, None, option_map}
use Rattle.std.specs.Option.{option_or}
use Rattle.std.specs.Int.{from_be_bytes, w64}
use Rattle.std.specs.List.{starts_with}
use Rattle.std.specs.Result.{result_ok}
use Rattle.hex.specs.Hex.{decode_sized, encode_lower, IsBytes}
use Rattle.sip_text.specs.Numbers.{hex_text, plain_decimal_of}
use Rattle.sip_text.specs.Splits.{split_at_byte}
use Rattle.sip_replay_script.specs.Script.{◌>>=◌}
use Rattle.sip_journal.specs.declared.record_head.RecordHead.{RecordHead}
use Rattle.sip_journal.specs.declared.record_mark.RecordMark.{RecordMark}
use Rattle.sip_journal.specs.declared.record_mark.RecordMark.TheVariants.{Whole, Broken, Left}

-- the first word of a record, in six bytes, and a blank: it is whole; it lacks events; another start went on from it
abbrev pub mark_front : RecordMark → List ℕ
mark_front Whole = codes "record "
mark_front Broken = codes "broken "
mark_front Left = codes "left   "

-- `MARK WORD FIRST DIGEST`
abbrev pub head_line : RecordHead → List ℕ
head_line head = mark_front head.mark ++ (hex_text head.word ++ 32 ∷ (decimal head.first ++ 32 ∷ encode_lower head.digest))

-- with its LF
abbrev pub head_text : RecordHead → List ℕ
head_text head = mark_front head.mark ++ (hex_text head.word ++ 32 ∷ (decimal head.first ++ 32 ∷ (encode_lower head.digest ++ 10 ∷ [])))

-- a word of 64 bits, a number that has one, and 32 bytes
pub record HasHeadTypes (head : RecordHead) : Type 0 where
  pub word : head.word < 2 ^ 64
  pub first : head.first < 2 ^ 64
  pub long : length head.digest ≡ 32
  pub bytes : IsBytes head.digest

-- the word that 16 hexadecimal digits write
abbrev pub word_in : List ℕ → Option ℕ
word_in digits = option_map (λ bytes. from_be_bytes w64 bytes) (result_ok (decode_sized digits 8))

-- the digest that 64 hexadecimal digits write
abbrev pub digest_in : List ℕ → Option (List ℕ)
digest_in digits = result_ok (decode_sized digits 32)

-- a mark and what stands behind it, where a line begins with it
abbrev pub behind_mark : List ℕ → RecordMark → Option (RecordMark × List ℕ)
behind_mark line mark =
    if starts_with nat_eq line (mark_front mark) then Some (mark, drop (length (mark_front mark)) line) else None

-- the mark of a line, and what stands behind it
abbrev pub mark_in : List ℕ → Option (RecordMark × List ℕ)
mark_in line = option_or (behind_mark line Whole) (option_or (behind_mark line Broken) (behind_mark line Left))

-- MARK, WORD, FIRST and DIGEST
abbrev pub head_from : RecordMark → List ℕ → List ℕ → List ℕ → Option RecordHead
head_from mark word_digits first_digits digest_digits = do
  number ← word_in word_digits
  start ← plain_decimal_of first_digits
  bytes ← digest_in digest_digits
  Some (record { mark = mark; word = number; first = start; digest = bytes })

-- what a first line says, without its LF
abbrev pub head_of : List ℕ → Option RecordHead
head_of line = do
  a ← mark_in line
  b ← split_at_byte 32 a.1
  c ← split_at_byte 32 b.1
  head_from a.0 b.0 c.0 c.1
