use Rattle.std.proofs.Common.{ℕ, ltb, cond, map, w8, refl, ap, ◌∙◌, arith}
use Rattle.std.proofs.lemmas.List.{take_all}
use Rattle.std.proofs.lemmas.Simd.{below_from_Fits, chunk-fits, length-chunk, map-map, zip2_splat}
use lib.Lanes.{chunk, top}
use Rattle.sip_digest.proofs.LowerLanes.{chosen, splat_is, values_are, zipped}
use Rattle.sip_digest.proofs.nonce_texts.lane_values.Goals as goal

pub returns : goal.returns
returns c =
    let digits = c.args.digits.now in
    let v = chunk 0 16 digits in
    let long = length-chunk 0 16 digits (omega (arith, c.requires)) in
    values_are _ v digits
    (chosen _ _ _ v (ap (map (top 7)) (zipped (λ (a b : ℕ). cond (ltb a b) 255 0) _ _ v (zip2_splat {Y = ℕ} _ v 16 48 long) (splat_is v 16 10 long))
    ∙ map-map (top 7) _ v) (zip2_splat {Y = ℕ} _ v 16 48 long) (zip2_splat {Y = ℕ} _ v 16 87 long))
    (take_all 16 digits (omega (arith, c.requires))) (below_from_Fits w8 v (chunk-fits w8 0 16 digits (λ k. c.type_inv.digits k))) refl
