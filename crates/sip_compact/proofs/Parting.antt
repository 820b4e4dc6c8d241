-- Parts of lists, in their order.
use Rattle.std.proofs.Common.{◌≡◌, ℕ, ◌+◌, ◌<◌, List, [], ◌∷◌, ◌++◌, length, take, drop, get_or, take-append-drop, refl, sym, ap, subst, ◌∙◌, arith, inl, inr, append-nil}
use Rattle.std.specs.Prelude.{Option, option_to_list, Result, Ok, Err, OnOk, OnErr}
use Rattle.std.proofs.lemmas.Grind.{take_at_read}
use Rattle.std.proofs.lemmas.List.{map-append, take_all, take-take}
use Rattle.sip_compact.specs.declared.row.Place.{Place}
use Rattle.sip_compact.specs.declared.row.Row.{Row}
use Rattle.sip_compact.specs.declared.choice.ShorterItem.{ShorterItem}
use Rattle.sip_compact.specs.declared.choice.ShorterItem.TheVariants.{Line, Omitted}
use Rattle.sip_compact.specs.Parts.{IsPart, lines_in, place_of, places_of}

-- ---- any lists

pub part_of_itself : {X : Type 0} (xs : List X) → IsPart xs xs
part_of_itself [] = tt
part_of_itself (x ∷ xs) = inl (refl, part_of_itself xs)

pub part_further : {X : Type 0} (part whole more : List X) → IsPart part whole → IsPart part (whole ++ more)
part_further [] whole more h = tt
part_further (x ∷ part) [] more h = absurd h
part_further (x ∷ part) (y ∷ whole) more (inl h) = inl (h.0, part_further part whole more h.1)
part_further (x ∷ part) (y ∷ whole) more (inr h) = inr (part_further (x ∷ part) whole more h)

pub part_push : {X : Type 0} (part whole : List X) (x : X) → IsPart part whole → IsPart (part ++ x ∷ []) (whole ++ x ∷ [])
part_push [] [] x h = inl (refl, tt)
part_push [] (y ∷ whole) x h = inr (part_push [] whole x tt)
part_push (z ∷ part) [] x h = absurd h
part_push (z ∷ part) (y ∷ whole) x (inl h) = inl (h.0, part_push part whole x h.1)
part_push (z ∷ part) (y ∷ whole) x (inr h) = inr (part_push (z ∷ part) whole x h)

-- ---- places that were told

pub part_itself : (xs ys : List Place) → ys ≡ xs → IsPart ys xs
part_itself xs ys same = subst (λ (part : List Place). IsPart part xs) (sym same) (part_of_itself xs)

pub part_kept : (xs ys : List Place) (place : Place) → IsPart ys xs → IsPart ys (xs ++ place ∷ [])
part_kept xs ys place h = part_further ys xs (place ∷ []) h

pub part_added : (xs ys zs : List Place) (place : Place) → IsPart ys xs → zs ≡ ys ++ place ∷ [] → IsPart zs (xs ++ place ∷ [])
part_added xs ys zs place h is = subst (λ (part : List Place). IsPart part (xs ++ place ∷ [])) (sym is) (part_push ys xs place h)

pub part_pushed : (xs ys zs : List Place) (place : Place) → ys ≡ xs ++ place ∷ [] → IsPart zs ys → IsPart zs (xs ++ place ∷ [])
part_pushed xs ys zs place is h = subst (λ (whole : List Place). IsPart zs whole) is h

pub pushed_part : {X E : Type 0} (r : Result X E) (xs ys : List Place) (place : Place) → OnOk r (ys ≡ xs ++ place ∷ []) → OnErr r (ys ≡ xs)
    → IsPart ys (xs ++ place ∷ [])
pushed_part (Ok x) xs ys place added same = part_pushed xs ys ys place added (part_of_itself ys)
pushed_part (Err e) xs ys place added same = part_kept xs ys place (part_itself xs ys same)

-- ---- rows

pub places_push : (rows : List Row) (row : Row) → places_of (rows ++ row ∷ []) ≡ places_of rows ++ place_of row ∷ []
places_push rows row = map-append place_of rows (row ∷ [])

pub places_pop : (rows left : List Row) (last : Option Row) → rows ≡ left ++ option_to_list last → IsPart (places_of left) (places_of rows)
places_pop rows left last is =
    let all : places_of rows ≡ places_of left ++ places_of (option_to_list last) = ap places_of is ∙ map-append place_of left (option_to_list last) in
    subst (λ (whole : List Place). IsPart (places_of left) whole) (sym all) (part_further (places_of left) (places_of left) _ (part_of_itself (places_of left)))

-- the next row
front_more : (rows : List Row) (at : ℕ) (other : Row) → at < length rows
    → places_of (take (at + 1) rows) ≡ places_of (take at rows) ++ place_of (get_or rows at other) ∷ []
front_more rows at other lt = ap places_of (take_at_read rows at other lt).1 ∙ places_push (take at rows) (get_or rows at other)

pub part_more : (rows kept more : List Row) (at : ℕ) (other : Row) → at < length rows → more ≡ kept ++ get_or rows at other ∷ []
    → IsPart (places_of kept) (places_of (take at rows)) → IsPart (places_of more) (places_of (take (at + 1) rows))
part_more rows kept more at other lt grown h =
    let row = get_or rows at other in
    subst (λ (whole : List Place). IsPart (places_of more) whole) (sym (front_more rows at other lt))
    (part_added (places_of (take at rows)) (places_of kept) (places_of more) (place_of row) h (ap places_of grown ∙ places_push kept row))

-- one that isn't taken
take_grows : (rows : List Row) (at : ℕ) → take (at + 1) rows ≡ take at rows ++ drop at (take (at + 1) rows)
take_grows rows at =
    sym (take-append-drop at (take (at + 1) rows)) ∙ ap (λ (l : List Row). l ++ drop at (take (at + 1) rows)) (take-take at (at + 1) rows (omega arith))

pub part_less : (rows : List Row) (part : List Place) (at : ℕ) → IsPart part (places_of (take at rows)) → IsPart part (places_of (take (at + 1) rows))
part_less rows part at h =
    let more = drop at (take (at + 1) rows) in
    subst (λ (whole : List Place). IsPart part whole) (sym (ap places_of (take_grows rows at) ∙ map-append place_of (take at rows) more))
    (part_further part (places_of (take at rows)) (places_of more) h)

pub whole_there : (rows : List Row) (part : List Place) (count : ℕ) → count ≡ length rows → IsPart part (places_of (take count rows)) → IsPart part (places_of rows)
whole_there rows part count is h =
    subst (λ (whole : List Row). IsPart part (places_of whole)) (take_all count rows (omega (arith, is))) h

-- ---- choices

lines_append : (xs ys : List ShorterItem) → lines_in (xs ++ ys) ≡ lines_in xs ++ lines_in ys
lines_append [] ys = refl
lines_append (Line place ∷ xs) ys = ap (λ (ps : List Place). place ∷ ps) (lines_append xs ys)
lines_append (Omitted count ∷ xs) ys = lines_append xs ys

pub lines_push : (xs : List ShorterItem) (place : Place) → lines_in (xs ++ Line place ∷ []) ≡ lines_in xs ++ place ∷ []
lines_push xs place = lines_append xs (Line place ∷ [])

pub lines_gap : (xs : List ShorterItem) (count : ℕ) → lines_in (xs ++ Omitted count ∷ []) ≡ lines_in xs
lines_gap xs count = lines_append xs (Omitted count ∷ []) ∙ append-nil (lines_in xs)

pub lines_more : (rows : List Row) (xs ys : List ShorterItem) (at : ℕ) (other : Row) → at < length rows
    → lines_in ys ≡ lines_in xs ++ place_of (get_or rows at other) ∷ [] → IsPart (lines_in xs) (places_of (take at rows))
    → IsPart (lines_in ys) (places_of (take (at + 1) rows))
lines_more rows xs ys at other lt grown h =
    subst (λ (whole : List Place). IsPart (lines_in ys) whole) (sym (front_more rows at other lt))
    (part_added (places_of (take at rows)) (lines_in xs) (lines_in ys) (place_of (get_or rows at other)) h grown)

pub lines_kept : (xs ys : List ShorterItem) (whole : List Place) → lines_in ys ≡ lines_in xs → IsPart (lines_in xs) whole → IsPart (lines_in ys) whole
lines_kept xs ys whole same h = subst (λ (part : List Place). IsPart part whole) (sym same) h
