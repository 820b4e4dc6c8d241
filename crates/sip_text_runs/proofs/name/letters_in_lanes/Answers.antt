use Rattle.std.proofs.Common.{ℕ, leb, cond, bit_and, refl, arith}
use Rattle.std.proofs.lemmas.Simd.{zip2_splat, length-chunk}
use lib.Lanes.{chunk}
use Rattle.httparse.proofs.LaneLemmas.{joined, splat_is, run_in}
use Rattle.sip_text_runs.specs.Name.{is_letter_or_dash}
use Rattle.sip_text_runs.proofs.name.letters_in_lanes.Goals as goal

pub returns : goal.returns
returns c =
    let v = chunk 0 16 c.args.bytes.now in
    let long = length-chunk 0 16 c.args.bytes.now c.requires in
    run_in is_letter_or_dash c.args.bytes.now 0 16 _ _ c.requires (omega arith) c.type_inv.bytes c.first_set.ensures _
    (joined bit_and _ _ v (joined (λ a b. cond (leb a b) 255 0) _ _ v (splat_is v 16 26 long)
    (joined _ _ _ v (zip2_splat {Y = ℕ} _ v 16 32 long) (splat_is v 16 97 long))) (zip2_splat {Y = ℕ} _ v 16 45 long)) refl
