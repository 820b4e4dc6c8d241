-- Totals in order.
use Rattle.std.proofs.Common.{◌≡◌, ℕ, suc, ◌+◌, ◌<◌, ◌≤◌, Bool, true, false, cond, List, [], ◌∷◌, map, length, take, get_or, Bor, refl, sym, ◌∙◌, ap, arith, add-one, is_lt}
use Rattle.std.specs.Prelude.{insert}
use Rattle.std.proofs.lemmas.List.{map-append, take_more}
use Rattle.std.proofs.lemmas.List.Sums.{fold_push}
use Rattle.sipd_report.specs.declared.totals.Total.{Total}
use Rattle.sipd_report.specs.Totals.{shown_total, lent_total, order_of, placed, place_among, in_order}

pub place_among-le : (t : List ℕ × ℕ) (rows : List (Bor Total)) → place_among t rows ≤ length rows
place_among-le t [] = omega arith
place_among-le t (row ∷ rows) = by (is_lt (order_of t (lent_total row))) (place_among-le t rows)
  where
    by : (first : Bool) → place_among t rows ≤ length rows → cond first 0 (place_among t rows + 1) ≤ suc (length rows)
    by true h = omega arith
    by false h = omega (arith, h)

-- where it belongs it is put
pub placed_is : (x : Bor Total) (rows : List (Bor Total))
    → map lent_total (insert rows (place_among (lent_total x) rows) x) ≡ placed (lent_total x) (map lent_total rows)
placed_is x [] = refl
placed_is x (row ∷ rows) = by (is_lt (order_of (lent_total x) (lent_total row))) (placed_is x rows)
  where
    by : (first : Bool) → map lent_total (insert rows (place_among (lent_total x) rows) x) ≡ placed (lent_total x) (map lent_total rows)
        → map lent_total (insert (row ∷ rows) (cond first 0 (place_among (lent_total x) rows + 1)) x)
        ≡ cond first (lent_total x ∷ lent_total row ∷ map lent_total rows) (lent_total row ∷ placed (lent_total x) (map lent_total rows))
    by true h = refl
    by false h = rw add-one (ap (λ l. lent_total row ∷ l) h)

-- one total more
pub in_order_more : (totals : List Total) (i : ℕ) (d : Total) → i < length totals
    → placed (shown_total (get_or totals i d)) (in_order (map shown_total (take i totals))) ≡ in_order (map shown_total (take (i + 1) totals))
in_order_more totals i d within =
    sym (fold_push (λ rows total. placed total rows) [] (map shown_total (take i totals)) (shown_total (get_or totals i d)))
    ∙ ap in_order (sym (map-append shown_total (take i totals) (get_or totals i d ∷ [])) ∙ ap (map shown_total) (sym (take_more totals i d within)))
