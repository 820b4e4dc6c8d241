-- An entry in the place of its key.
use Rattle.std.proofs.Common.{◌≡◌, ◌<◌, ◌≤◌, ℕ, suc, ◌+◌, Bool, true, false, cond, not, List, [], ◌∷◌, ◌++◌, length, refl, ◌∙◌, ap, arith, slice_set}
use Rattle.std.specs.Prelude.{if◌then◌else◌}
use Rattle.std.specs.List.{position_or_len}
use Rattle.sipd_page_sections.specs.declared.entries.Entry.{Entry}
use Rattle.sipd_page_sections.specs.Entries.{is_of, with_entry}

-- its place, or how many there are
abbrev pub place : List ℕ → List Entry → ℕ
place key rows = position_or_len (is_of key) rows

-- ---- it is there

there_by : (new row : Entry) (rows : List Entry) (same : Bool)
    → (place new.key rows < length rows → slice_set rows (place new.key rows) new ≡ with_entry new rows)
    → cond {A = ℕ} (not same) (1 + place new.key rows) 0 < suc (length rows)
    → slice_set (row ∷ rows) (cond {A = ℕ} (not same) (1 + place new.key rows) 0) new ≡ (if same then new ∷ rows else row ∷ with_entry new rows)
there_by new row rows true go within = refl
there_by new row rows false go within =
    let behind : 1 + place new.key rows ≡ suc (place new.key rows) = omega arith in
    ap (λ (n : ℕ). slice_set (row ∷ rows) n new) behind ∙ ap (λ (l : List Entry). row ∷ l) (go (omega (arith, within)))

pub put_there : (new : Entry) (rows : List Entry) → place new.key rows < length rows → slice_set rows (place new.key rows) new ≡ with_entry new rows
put_there new [] within = absurd (omega (arith, within))
put_there new (row ∷ rows) within = there_by new row rows (is_of new.key row) (put_there new rows) within

-- ---- it isn't there

last_by : (new row : Entry) (rows : List Entry) (same : Bool) → (length rows ≤ place new.key rows → rows ++ new ∷ [] ≡ with_entry new rows)
    → suc (length rows) ≤ cond {A = ℕ} (not same) (1 + place new.key rows) 0
    → (row ∷ rows) ++ new ∷ [] ≡ (if same then new ∷ rows else row ∷ with_entry new rows)
last_by new row rows true go past = absurd (omega (arith, past))
last_by new row rows false go past = ap (λ (l : List Entry). row ∷ l) (go (omega (arith, past)))

pub put_last : (new : Entry) (rows : List Entry) → length rows ≤ place new.key rows → rows ++ new ∷ [] ≡ with_entry new rows
put_last new [] past = refl
put_last new (row ∷ rows) past = last_by new row rows (is_of new.key row) (put_last new rows) past

-- ---- the steps

-- an entry was put in its place
pub put_over : (new : Entry) (rows made : List Entry) (n : ℕ) → n ≡ place new.key rows → n < length rows → made ≡ slice_set rows n new
    → made ≡ with_entry new rows
put_over new rows made n at within puts =
    puts ∙ ap (λ (k : ℕ). slice_set rows k new) at ∙ put_there new rows (omega (arith, at, within))

-- or behind all
pub put_behind : (new : Entry) (rows made : List Entry) (n : ℕ) → n ≡ place new.key rows → length rows ≤ n → made ≡ rows ++ new ∷ []
    → made ≡ with_entry new rows
put_behind new rows made n at past puts = puts ∙ put_last new rows (omega (arith, at, past))
