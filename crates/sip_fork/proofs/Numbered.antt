-- The numbers of requests rise, also after one was opened, changed or closed.
use Rattle.std.proofs.Common.{◌≡◌, ℕ, zero, suc, ◌<◌, List, [], ◌∷◌, ◌++◌, length, map, get_or, set, remove, ap, arith}
use Rattle.std.specs.List.{AllByRecursion}
use Rattle.sip_dialog_updates.specs.state.declared.open_request.OpenRequest.{OpenRequest}
use Rattle.sip_request.specs.declared.request.Request.{Request}
use Rattle.sip_request.specs.transactions_model.Kept.{AreNumbered}

abbrev seen : List Request → List OpenRequest
seen rows = map (λ (r : Request). r.open_request) rows

-- the numbers of some are above this one
abbrev AreAbove : ℕ → List Request → Type 0
AreAbove n rows = AllByRecursion (λ (x : OpenRequest). n < x.number) (seen rows)

above-set : (n : ℕ) (rows : List Request) (i : ℕ) (r next : Request) → i < length rows → get_or rows i r ≡ r → next.open_request.number ≡ r.open_request.number
    → AreAbove n rows → AreAbove n (set rows i next)
above-set n [] i r next within is same all = absurd (omega (arith, within))
above-set n (x ∷ rows) zero r next within is same all = (omega (arith, all.0, ap (λ (y : Request). y.open_request.number) is, same), all.1)
above-set n (x ∷ rows) (suc i) r next within is same all = (all.0, above-set n rows i r next (omega (arith, within)) is same all.1)

pub numbered-set : (rows : List Request) (i : ℕ) (r next : Request) → i < length rows → get_or rows i r ≡ r → next.open_request.number ≡ r.open_request.number
    → AreNumbered (seen rows) → AreNumbered (seen (set rows i next))
numbered-set [] i r next within is same h = absurd (omega (arith, within))
numbered-set (x ∷ rows) zero r next within is same h = (lower rows h.0, h.1) where
  number_is : x.open_request.number ≡ next.open_request.number
  number_is = omega (arith, ap (λ (y : Request). y.open_request.number) is, same)

  lower : (ys : List Request) → AreAbove x.open_request.number ys → AreAbove next.open_request.number ys
  lower [] all = tt
  lower (y ∷ ys) all = (omega (arith, all.0, number_is), lower ys all.1)
numbered-set (x ∷ rows) (suc i) r next within is same h =
    (above-set x.open_request.number rows i r next (omega (arith, within)) is same h.0, numbered-set rows i r next (omega (arith, within)) is same h.1)

above-remove : (n : ℕ) (rows : List Request) (i : ℕ) → i < length rows → AreAbove n rows → AreAbove n (remove rows i)
above-remove n [] i within all = absurd (omega (arith, within))
above-remove n (x ∷ rows) zero within all = all.1
above-remove n (x ∷ rows) (suc i) within all = (all.0, above-remove n rows i (omega (arith, within)) all.1)

pub numbered-remove : (rows : List Request) (i : ℕ) → i < length rows → AreNumbered (seen rows) → AreNumbered (seen (remove rows i))
numbered-remove [] i within h = absurd (omega (arith, within))
numbered-remove (x ∷ rows) zero within h = h.1
numbered-remove (x ∷ rows) (suc i) within h = (above-remove x.open_request.number rows i (omega (arith, within)) h.0, numbered-remove rows i (omega (arith, within)) h.1)

above-push : (n : ℕ) (rows : List Request) (next : Request) → n < next.open_request.number → AreAbove n rows → AreAbove n (rows ++ next ∷ [])
above-push n [] next low all = (low, tt)
above-push n (x ∷ rows) next low all = (all.0, above-push n rows next low all.1)

pub numbered-push : (rows : List Request) (next : Request) → AllByRecursion (λ (r : Request). r.open_request.number < next.open_request.number) rows
    → AreNumbered (seen rows) → AreNumbered (seen (rows ++ next ∷ []))
numbered-push [] next last h = (tt, tt)
numbered-push (x ∷ rows) next last h = (above-push x.open_request.number rows next last.0 h.0, numbered-push rows next last.1 h.1)
