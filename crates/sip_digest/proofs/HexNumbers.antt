-- Hexadecimal digits, read from the left, with the number so far.
use Rattle.std.proofs.Common.{◌≡◌, ℕ, suc, ◌+◌, ◌*◌, ◌^◌, ◌<◌, ◌≤◌, Bool, true, false, cond, List, [], ◌∷◌, Option, Some, None, refl, arith, add-one}
use Rattle.std.proofs.Math.Nat.{pow-suc, pow-le-pow_right}
use Rattle.std.specs.Prelude.{◌&&◌}
use Rattle.std.specs.List.{list_all}
use Rattle.std.specs.Char.{digit_value}
use Rattle.std.specs.Str.Parse.{digits_value_after}
use Rattle.sip_digest.specs.HexNumber.{is_hex_digit, hex_number_of}

-- what is read after a number, of hexadecimal digits alone
abbrev pub hex_on : ℕ → List ℕ → Option ℕ
hex_on n [] = Some n
hex_on n (b ∷ bs) = cond (is_hex_digit b) (hex_on (n * 16 + digit_value b) bs) None

one_test : (digit all : Bool) (value rest : Option ℕ) → cond all value None ≡ rest → cond (digit && all) value None ≡ cond digit rest None
one_test true all value rest is = is
one_test false all value rest is = refl

hex_from : (n : ℕ) (bs : List ℕ) → cond (list_all is_hex_digit bs) (Some (digits_value_after 16 n bs)) None ≡ hex_on n bs
hex_from n [] = refl
hex_from n (b ∷ bs) = one_test (is_hex_digit b) (list_all is_hex_digit bs) _ _ (hex_from (n * 16 + digit_value b) bs)

pub hex_is : (bs : List ℕ) → hex_number_of bs ≡ hex_on 0 bs
hex_is bs = hex_from 0 bs

-- one more digit
pub one_more : (n d i : ℕ) → n < 16 ^ i → d < 16 → n * 16 + d < 16 ^ (i + 1)
one_more n d i lt small = let e : 16 ^ (i + 1) ≡ 16 ^ i * 16 = rw add-one (pow-suc 16 i) in omega (arith, e)

-- a number with room for one more digit, of at most 32
pub fits : (n i : ℕ) → n < 16 ^ i → i < 32 → n * 16 + 16 ≤ 2 ^ 128
fits n i lt le =
    let e : 16 ^ suc i ≡ 16 ^ i * 16 = pow-suc 16 i in
    let most : 16 ^ suc i ≤ 16 ^ 32 = pow-le-pow_right {n = 16} (omega arith) {i = suc i} {j = 32} (omega arith) in
    omega (arith, e, most)
