use Rattle.std.proofs.Common.{ℕ, ltb, cond, map, ap, ◌∙◌}
use Rattle.std.proofs.lemmas.Simd.{map-map, zip2_splat}
use lib.Lanes.{top}
use Rattle.sip_digest.proofs.LowerLanes.{chosen, digits_are}
use Rattle.sip_digest.proofs.nonce_texts.lane_digits.Goals as goal

pub returns : goal.returns
returns c =
    let v = c.args.values in
    digits_are v (chosen _ _ _ v (ap (map (top 7)) (zip2_splat {Y = ℕ} (λ (a b : ℕ). cond (ltb a b) 255 0) v 32 10 c.requires) ∙ map-map (top 7) _ v)
    (zip2_splat {Y = ℕ} _ v 32 48 c.requires) (zip2_splat {Y = ℕ} _ v 32 87 c.requires))
