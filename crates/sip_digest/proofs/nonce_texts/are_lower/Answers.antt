use Rattle.std.proofs.Common.{ℕ, leb, cond, bit_and, Fits, w8, refl, arith}
use Rattle.std.proofs.lemmas.List.{take_all}
use Rattle.std.proofs.lemmas.Simd.{Each1-from_get_or, below_from_Fits, chunk-fits, length-chunk, zip2_splat}
use lib.Lanes.{chunk}
use Rattle.sip_digest.proofs.LowerLanes.{all_right, one_wrong, splat_is, wrong_bits, zipped}
use Rattle.sip_digest.proofs.nonce_texts.are_lower.Goals as goal

pub returns-clause-right : goal.returns-clause-right
returns-clause-right c =
    let digits = c.args.digits.now in
    let v = chunk 0 16 digits in
    let long = length-chunk 0 16 digits (omega (arith, c.requires)) in
    let ge : ℕ → ℕ → ℕ = λ a b. cond (leb a b) 255 0 in
    λ none. all_right digits _ (below_from_Fits w8 digits (Each1-from_get_or (Fits w8) digits 0 (λ k lt. c.type_inv.digits k))) c.requires none
    (wrong_bits _ v digits (zipped bit_and _ _ v (zipped ge _ _ v (splat_is v 16 10 long) (zip2_splat {Y = ℕ} _ v 16 48 long))
    (zipped ge _ _ v (splat_is v 16 6 long) (zip2_splat {Y = ℕ} _ v 16 97 long)))
    (take_all 16 digits (omega (arith, c.requires))) long (below_from_Fits w8 v (chunk-fits w8 0 16 digits (λ k. c.type_inv.digits k))) refl)

pub returns-clause-wrong : goal.returns-clause-wrong
returns-clause-wrong c =
    let digits = c.args.digits.now in
    let v = chunk 0 16 digits in
    let long = length-chunk 0 16 digits (omega (arith, c.requires)) in
    let ge : ℕ → ℕ → ℕ = λ a b. cond (leb a b) 255 0 in
    λ some. one_wrong digits _ some
    (wrong_bits _ v digits (zipped bit_and _ _ v (zipped ge _ _ v (splat_is v 16 10 long) (zip2_splat {Y = ℕ} _ v 16 48 long))
    (zipped ge _ _ v (splat_is v 16 6 long) (zip2_splat {Y = ℕ} _ v 16 97 long)))
    (take_all 16 digits (omega (arith, c.requires))) long (below_from_Fits w8 v (chunk-fits w8 0 16 digits (λ k. c.type_inv.digits k))) refl)
