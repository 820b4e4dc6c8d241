-- A text that is too short to begin with the word `datagram` and a space.
use Rattle.std.proofs.Common.{◌≡◌, ◌<◌, ℕ, false, List, length, take, refl, ap, arith}
use Rattle.std.specs.Prelude.{codes}
use Rattle.std.specs.Str.{bytes_eq}
use Rattle.std.proofs.lemmas.List.{length-take}
use Rattle.sip_audit.proofs.Words.{differs_from}

pub too_short : (text : List ℕ) → length text < 9 → bytes_eq (take 9 text) (codes "datagram ") ≡ false
too_short text short =
    let few : length (take 9 text) < 9 = omega (arith, short, length-take 9 text) in
    differs_from (take 9 text) (codes "datagram ") (bytes_eq (take 9 text) (codes "datagram ")) refl (λ is. absurd (omega (arith, few, ap length is)))
