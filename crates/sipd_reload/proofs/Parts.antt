-- What a reader gave, part by part.
use Rattle.std.proofs.Common.{◌≡◌, ◌<◌, ◌≤◌, ℕ, ◌+◌, ◌-◌, List, [], ◌++◌, length, Option, None, Some, sym, ◌∙◌, ap, subst, arith, append-nil, length-append}
use Rattle.std.proofs.KnownBytes.{Keeps-refl, Keeps-trans, Consumes-nil, Consumes-trans}
use Rattle.std.specs.Io.KnownBytes.{Consumes, IsAtEnd, Keeps}
use Rattle.sipd_reload.specs.File.{Grows, IsAll, IsLonger, most_bytes}

pub keeps_itself : (a : Option (List ℕ)) → Keeps a a
keeps_itself a = Keeps-refl a

pub keeps_both : (a b c : Option (List ℕ)) → Keeps a b → Keeps b c → Keeps a c
keeps_both a b c first second = Keeps-trans a b c first second

pub keeps_consumes : (a b c : Option (List ℕ)) (bytes : List ℕ) → Keeps a b → Consumes b c bytes → Consumes a c bytes
keeps_consumes None b c bytes kept given = tt
keeps_consumes (Some x) None c bytes kept given = absurd kept
keeps_consumes (Some x) (Some y) None bytes kept given = given
keeps_consumes (Some x) (Some y) (Some z) bytes kept given = sym kept ∙ given

pub consumes_nothing : (a : Option (List ℕ)) → Consumes a a []
consumes_nothing a = Consumes-nil a

pub consumes_both : (a b c : Option (List ℕ)) (front back : List ℕ) → Consumes a b front → Consumes b c back → Consumes a c (front ++ back)
consumes_both a b c front back first second = Consumes-trans a b c front back first second

pub grows : (a b : Option (List ℕ)) (old new part : List ℕ) → Consumes a b part → new ≡ old ++ part → 0 < length part → length old + length part ≤ most_bytes + 1
    → Grows a b old new
grows a b old new part given grown some few = record {
  part = part;
  given = given;
  grown = grown;
  more = omega (arith, ap length grown, length-append old part, some);
  few = omega (arith, ap length grown, length-append old part, few);
}

pub more_there : (a b : Option (List ℕ)) (old new : List ℕ) → Grows a b old new → length new ≤ most_bytes → most_bytes - length new < most_bytes - length old
more_there a b old new h short = let more : length old < length new = h.more in omega (arith, more, short)

pub consumes_grown : (a b c : Option (List ℕ)) (old new : List ℕ) → Consumes a b old → Grows b c old new → Consumes a c new
consumes_grown a b c old new first second = subst (λ (l : List ℕ). Consumes a c l) (sym second.grown) (consumes_both a b c old second.part first second.given)

-- nothing more was given
nothing_behind : (a b c : Option (List ℕ)) (bytes : List ℕ) → Consumes a b bytes → Consumes b c [] → Consumes a c bytes
nothing_behind a b c bytes given none = subst (λ (l : List ℕ). Consumes a c l) (append-nil bytes) (consumes_both a b c bytes [] given none)

pub is_all : (a b c : Option (List ℕ)) (bytes all : List ℕ) → Consumes a b bytes → Consumes b c [] → IsAtEnd c → all ≡ bytes → length bytes ≤ most_bytes → IsAll a c all
is_all a b c bytes all given none over same short = subst (λ (l : List ℕ). IsAll a c l) (sym same)
    (record { given = nothing_behind a b c bytes given none; over = over; short = short })

-- one byte more was given than is read
pub is_longer : (a b c : Option (List ℕ)) (old new : List ℕ) → Consumes a b old → Grows b c old new → most_bytes < length new → IsLonger a c
is_longer a b c old new first second long =
    record { bytes = new; given = consumes_grown a b c old new first second; long = let few : length new ≤ most_bytes + 1 = second.few in omega (arith, few, long) }
