use Rattle.std.proofs.Common.{◌≡◌, ◌∙◌, ℕ, List, [], ◌∷◌, ◌/◌, ◌%◌, ap, refl, get_or, slice_index, w64}
use Rattle.std.specs.Int.{to_be_bytes}
use Rattle.hex.specs.Hex.{lower_digits, encode_lower, encode_with}
use Rattle.sip_text.proofs.numbers.hex_text.Goals as goal

-- the digits of eight bytes
abbrev pub digits_of : List ℕ → List ℕ
digits_of bytes =
    slice_index lower_digits (get_or bytes 0 0 / 16)
    ∷ slice_index lower_digits (get_or bytes 0 0 % 16)
    ∷ slice_index lower_digits (get_or bytes 1 0 / 16)
    ∷ slice_index lower_digits (get_or bytes 1 0 % 16)
    ∷ slice_index lower_digits (get_or bytes 2 0 / 16)
    ∷ slice_index lower_digits (get_or bytes 2 0 % 16)
    ∷ slice_index lower_digits (get_or bytes 3 0 / 16)
    ∷ slice_index lower_digits (get_or bytes 3 0 % 16)
    ∷ slice_index lower_digits (get_or bytes 4 0 / 16)
    ∷ slice_index lower_digits (get_or bytes 4 0 % 16)
    ∷ slice_index lower_digits (get_or bytes 5 0 / 16)
    ∷ slice_index lower_digits (get_or bytes 5 0 % 16)
    ∷ slice_index lower_digits (get_or bytes 6 0 / 16)
    ∷ slice_index lower_digits (get_or bytes 6 0 % 16)
    ∷ slice_index lower_digits (get_or bytes 7 0 / 16)
    ∷ slice_index lower_digits (get_or bytes 7 0 % 16)
    ∷ []

eight : (number : ℕ) → digits_of (to_be_bytes w64 number) ≡ encode_lower (to_be_bytes w64 number)
unfolding encode_with
eight number = refl

pub returns : goal.returns
returns c =
    rw (
      c.high_digit.ensures,
      c.low_digit.ensures,
      c.high_digit-2.ensures,
      c.low_digit-2.ensures,
      c.high_digit-3.ensures,
      c.low_digit-3.ensures,
      c.high_digit-4.ensures,
      c.low_digit-4.ensures,
      c.high_digit-5.ensures,
      c.low_digit-5.ensures,
      c.high_digit-6.ensures,
      c.low_digit-6.ensures,
      c.high_digit-7.ensures,
      c.low_digit-7.ensures,
      c.high_digit-8.ensures,
      c.low_digit-8.ensures,
    )
    (ap digits_of c.to_be_bytes-bytes.ensures ∙ eight c.args.number)
