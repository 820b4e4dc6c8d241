-- A first line that was written is read back.
use Rattle.std.proofs.Common.{◌≡◌, ℕ, zero, suc, ◌<◌, ◌≤◌, ◌+◌, ◌*◌, ◌^◌, true, List, [], ◌∷◌, ◌++◌, length, decimal, Option, Some, refl, sym, ap, ◌∙◌, arith}
use Rattle.std.proofs.Common.{length-append, append_assoc}
use Rattle.std.specs.Prelude.{Ok, option_map}
use Rattle.std.specs.Int.{byte_at, bytes_high_first, to_be_bytes, from_be_bytes, w64}
use Rattle.std.specs.List.{list_all}
use Rattle.std.specs.Result.{result_ok}
use Rattle.std.proofs.lemmas.Nat.{from_be_bytes-to_be_bytes_8}
use Rattle.hex.specs.Hex.{lower_digits, encode_lower, decode_sized, IsBytes}
use Rattle.hex.proofs.HexLemmas.{length-encode_with, decode_of-encode_lower, decode_sized-twice}
use Rattle.sip_text.specs.Numbers.{hex_text}
use Rattle.sip_text.proofs.PlainDecimals.{plain_read}
use Rattle.sip_uri.specs.Host.{is_not}
use Rattle.sip_uri.proofs.Tests.{all_join, split_again}
use Rattle.sip_replay_script.specs.Lines.{IsLine}
use Rattle.sip_replay_script.proofs.WrittenEvents.{no_end, encoded_others, number_short}
use Rattle.sip_journal.specs.declared.record_head.RecordHead.{RecordHead}
use Rattle.sip_journal.specs.declared.record_mark.RecordMark.{RecordMark}
use Rattle.sip_journal.specs.declared.record_mark.RecordMark.TheVariants.{Whole, Broken, Left}
use Rattle.sip_journal.specs.RecordHead.{head_line, head_text, head_of, mark_front, mark_in, word_in, digest_in, HasHeadTypes}
use Rattle.sip_audit.proofs.Words.{number_others}

byte_small : (k n : ℕ) → byte_at k n < 256
byte_small zero n = omega arith
byte_small (suc k) n = omega arith

are_bytes : (k n : ℕ) → IsBytes (bytes_high_first k n)
are_bytes zero n i = omega arith
are_bytes (suc k) n zero = byte_small k n
are_bytes (suc k) n (suc i) = are_bytes k n i

digits_long : (bytes : List ℕ) (n : ℕ) → length bytes ≡ n → length (encode_lower bytes) ≡ 2 * n
digits_long bytes n long = let size : length (encode_lower bytes) ≡ 2 * length bytes = length-encode_with lower_digits bytes in omega (arith, size, long)

sized_again : (bytes : List ℕ) (n : ℕ) → length bytes ≡ n → IsBytes bytes → decode_sized (encode_lower bytes) n ≡ Ok bytes
sized_again bytes n long are = decode_sized-twice (encode_lower bytes) n (digits_long bytes n long) ∙ decode_of-encode_lower bytes are

word_again : (word : ℕ) → word < 2 ^ 64 → word_in (hex_text word) ≡ Some word
word_again word lt =
    ap (λ (r : Option (List ℕ)). option_map (λ bytes. from_be_bytes w64 bytes) r) (ap result_ok (sized_again (to_be_bytes w64 word) 8 refl (are_bytes 8 word)))
    ∙ ap (λ (n : ℕ). Some n) (from_be_bytes-to_be_bytes_8 word lt)

digest_again : (bytes : List ℕ) → length bytes ≡ 32 → IsBytes bytes → digest_in (encode_lower bytes) ≡ Some bytes
digest_again bytes long are = ap result_ok (sized_again bytes 32 long are)

pub head_joined : (head : RecordHead) → head_text head ≡ head_line head ++ 10 ∷ []
head_joined head =
    ap (λ (l : List ℕ). mark_front head.mark ++ (hex_text head.word ++ 32 ∷ l)) (sym (append_assoc (decimal head.first) (32 ∷ encode_lower head.digest) (10 ∷ [])))
    ∙ ap (λ (l : List ℕ). mark_front head.mark ++ l) (sym (append_assoc (hex_text head.word) (32 ∷ (decimal head.first ++ 32 ∷ encode_lower head.digest)) (10 ∷ [])))
    ∙ sym (append_assoc (mark_front head.mark) (hex_text head.word ++ 32 ∷ (decimal head.first ++ 32 ∷ encode_lower head.digest)) (10 ∷ []))

mark_again : (mark : RecordMark) (rest : List ℕ) → mark_in (mark_front mark ++ rest) ≡ Some (mark, rest)
mark_again Whole rest = refl
mark_again Broken rest = refl
mark_again Left rest = refl

mark_single : (mark : RecordMark) → list_all (is_not 10) (mark_front mark) ≡ true
mark_single Whole = refl
mark_single Broken = refl
mark_single Left = refl

mark_long : (mark : RecordMark) → length (mark_front mark) ≡ 7
mark_long Whole = refl
mark_long Broken = refl
mark_long Left = refl

module _ (head : RecordHead) (is : HasHeadTypes head) where
  pub head_read : head_of (head_line head) ≡ Some head
  head_read =
      rw (
        mark_again head.mark (hex_text head.word ++ 32 ∷ (decimal head.first ++ 32 ∷ encode_lower head.digest)),
        split_again 32 (hex_text head.word) (decimal head.first ++ 32 ∷ encode_lower head.digest) (encoded_others 32 refl refl (to_be_bytes w64 head.word)) refl,
        split_again 32 (decimal head.first) (encode_lower head.digest) (number_others 32 refl head.first is.first) refl,
        word_again head.word is.word,
        plain_read head.first is.first,
        digest_again head.digest is.long is.bytes,
      ) refl

  line_single : list_all (is_not 10) (hex_text head.word ++ 32 ∷ (decimal head.first ++ 32 ∷ encode_lower head.digest)) ≡ true
  line_single =
      all_join (is_not 10) (hex_text head.word) (32 ∷ (decimal head.first ++ 32 ∷ encode_lower head.digest)) (encoded_others 10 refl refl (to_be_bytes w64 head.word))
      (all_join (is_not 10) (decimal head.first) (32 ∷ encode_lower head.digest) (number_others 10 refl head.first is.first) (encoded_others 10 refl refl head.digest))

  pub head_is_line : IsLine (head_line head)
  head_is_line = record {
    short =
        let word : length (hex_text head.word) ≡ 2 * 8 = digits_long (to_be_bytes w64 head.word) 8 refl in
        let first : length (decimal head.first) ≤ 20 = number_short head.first is.first in
        let digest : length (encode_lower head.digest) ≡ 2 * 32 = digits_long head.digest 32 is.long in
        let whole : length (hex_text head.word ++ 32 ∷ (decimal head.first ++ 32 ∷ encode_lower head.digest))
        ≡ length (hex_text head.word) + length (32 ∷ (decimal head.first ++ 32 ∷ encode_lower head.digest)) =
        length-append (hex_text head.word) (32 ∷ (decimal head.first ++ 32 ∷ encode_lower head.digest)) in
        let rest : length (decimal head.first ++ 32 ∷ encode_lower head.digest) ≡ length (decimal head.first) + length (32 ∷ encode_lower head.digest) =
        length-append (decimal head.first) (32 ∷ encode_lower head.digest) in
        let front : length (mark_front head.mark) ≡ 7 = mark_long head.mark in
        let line : length (head_line head) ≡ length (mark_front head.mark) + length (hex_text head.word ++ 32 ∷ (decimal head.first ++ 32 ∷ encode_lower head.digest)) =
        length-append (mark_front head.mark) (hex_text head.word ++ 32 ∷ (decimal head.first ++ 32 ∷ encode_lower head.digest)) in
        omega (arith, word, first, digest, whole, rest, front, line);
    single = no_end (head_line head) (all_join (is_not 10) (mark_front head.mark) (hex_text head.word ++ 32 ∷ (decimal head.first ++ 32 ∷ encode_lower head.digest))
        (mark_single head.mark) line_single);
  }
