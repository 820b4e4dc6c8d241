-- Rows and lines, one behind the other.
use Rattle.std.proofs.Common.{◌≡◌, ℕ, suc, ◌+◌, ◌<◌, List, [], ◌∷◌, ◌++◌, length, get_or, take, sym, ap, ◌∙◌, arith, append_assoc, append-nil}
use Rattle.std.proofs.lemmas.List.{length-take-le, take_more}
use Rattle.sip_uri.specs.declared.addr.Addr.{Addr}
use Rattle.sipd_ladder.specs.declared.rung.AddrName.{AddrName}
use Rattle.sipd_ladder.specs.declared.rung.Rung.{Rung}
use Rattle.sipd_ladder_picture.specs.Picture.{place_text, places_from}
use Rattle.sipd_ladder_picture.specs.Rows.{rows_from, rung_row}

-- ---- rows

pub joined_rows : (first : ℕ) (places : List Addr) (row : ℕ) (rungs others : List Rung) → rows_from first places row (rungs ++ others)
    ≡ rows_from first places row rungs ++ rows_from first places (row + length rungs) others
joined_rows first places row [] others = let here : row ≡ row + 0 = omega arith in ap (λ n. rows_from first places n others) here
joined_rows first places row (rung ∷ rungs) others =
    let on : suc row + length rungs ≡ row + suc (length rungs) = omega arith in
    ap (λ (l : List ℕ). rung_row first places row rung ++ l)
    (joined_rows first places (suc row) rungs others
    ∙ ap (λ n. rows_from first places (suc row) rungs ++ rows_from first places n others) on)
    ∙ sym (append_assoc (rung_row first places row rung) (rows_from first places (suc row) rungs) (rows_from first places (row + suc (length rungs)) others))

-- one row more
one_row_more : (first : ℕ) (places : List Addr) (rungs : List Rung) (row : ℕ) (rung : Rung) → length rungs ≡ row
    → rows_from first places 0 (rungs ++ rung ∷ []) ≡ rows_from first places 0 rungs ++ rung_row first places row rung
one_row_more first places rungs row rung long =
    let here : 0 + length rungs ≡ row = omega (arith, long) in
    joined_rows first places 0 rungs (rung ∷ [])
    ∙ ap (λ n. rows_from first places 0 rungs ++ rows_from first places n (rung ∷ [])) here
    ∙ ap (λ (l : List ℕ). rows_from first places 0 rungs ++ l) (append-nil (rung_row first places row rung))

-- the rows so far, and one more behind them
pub next_row : (first : ℕ) (places : List Addr) (rungs : List Rung) (row : ℕ) (other : Rung) (old here new : List ℕ) → row < length rungs
    → here ≡ old ++ rows_from first places 0 (take row rungs) → new ≡ here ++ rung_row first places row (get_or rungs row other)
    → new ≡ old ++ rows_from first places 0 (take (row + 1) rungs)
next_row first places rungs row other old here new lt h1 h2 =
    let long : length (take row rungs) ≡ row = length-take-le row rungs (omega (arith, lt)) in
    let rung : Rung = get_or rungs row other in
    h2 ∙ ap (λ (l : List ℕ). l ++ rung_row first places row rung) h1
    ∙ append_assoc old (rows_from first places 0 (take row rungs)) (rung_row first places row rung)
    ∙ ap (λ (l : List ℕ). old ++ l)
    (sym (one_row_more first places (take row rungs) row rung long) ∙ sym (ap (λ (l : List Rung). rows_from first places 0 l) (take_more rungs row other lt)))

-- ---- lines

joined_places : (names : List AddrName) (rows place : ℕ) (places others : List Addr) → places_from names rows place (places ++ others)
    ≡ places_from names rows place places ++ places_from names rows (place + length places) others
joined_places names rows place [] others = let here : place ≡ place + 0 = omega arith in ap (λ n. places_from names rows n others) here
joined_places names rows place (addr ∷ places) others =
    let on : suc place + length places ≡ place + suc (length places) = omega arith in
    ap (λ (l : List ℕ). place_text names rows place addr ++ l)
    (joined_places names rows (suc place) places others
    ∙ ap (λ n. places_from names rows (suc place) places ++ places_from names rows n others) on)
    ∙ sym (append_assoc (place_text names rows place addr) (places_from names rows (suc place) places) (places_from names rows (place + suc (length places)) others))

one_place_more : (names : List AddrName) (rows : ℕ) (places : List Addr) (place : ℕ) (addr : Addr) → length places ≡ place
    → places_from names rows 0 (places ++ addr ∷ []) ≡ places_from names rows 0 places ++ place_text names rows place addr
one_place_more names rows places place addr long =
    let here : 0 + length places ≡ place = omega (arith, long) in
    joined_places names rows 0 places (addr ∷ [])
    ∙ ap (λ n. places_from names rows 0 places ++ places_from names rows n (addr ∷ [])) here
    ∙ ap (λ (l : List ℕ). places_from names rows 0 places ++ l) (append-nil (place_text names rows place addr))

-- the lines so far, and one more behind them
pub next_place : (names : List AddrName) (rows : ℕ) (places : List Addr) (place : ℕ) (other : Addr) (old here new : List ℕ) → place < length places
    → here ≡ old ++ places_from names rows 0 (take place places) → new ≡ here ++ place_text names rows place (get_or places place other)
    → new ≡ old ++ places_from names rows 0 (take (place + 1) places)
next_place names rows places place other old here new lt h1 h2 =
    let long : length (take place places) ≡ place = length-take-le place places (omega (arith, lt)) in
    let addr : Addr = get_or places place other in
    h2 ∙ ap (λ (l : List ℕ). l ++ place_text names rows place addr) h1
    ∙ append_assoc old (places_from names rows 0 (take place places)) (place_text names rows place addr)
    ∙ ap (λ (l : List ℕ). old ++ l)
    (sym (one_place_more names rows (take place places) place addr long)
    ∙ sym (ap (λ (l : List Addr). places_from names rows 0 l) (take_more places place other lt)))
