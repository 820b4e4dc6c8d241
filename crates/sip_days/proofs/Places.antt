-- An address in its place.
use Rattle.std.proofs.Common.{◌≡◌, ◌<◌, ◌≤◌, ℕ, suc, ◌+◌, Bool, true, false, cond, not, List, [], ◌∷◌, ◌++◌, length, refl, ◌∙◌, ap, arith, slice_set}
use Rattle.std.specs.Prelude.{if◌then◌else◌}
use Rattle.std.specs.List.{position_or_len}
use Rattle.sip_uri.specs.declared.aor.Aor.{Aor}
use Rattle.sip_days.specs.declared.registered.Registered.{Registered}
use Rattle.sip_days.specs.Phones.{is_of, with_registered}

-- its place, or how many there are
abbrev pub place : Aor → List Registered → ℕ
place aor rows = position_or_len (is_of aor) rows

-- ---- it is there

there_by : (new row : Registered) (rows : List Registered) (same : Bool)
    → (place new.aor rows < length rows → slice_set rows (place new.aor rows) new ≡ with_registered new rows)
    → cond {A = ℕ} (not same) (1 + place new.aor rows) 0 < suc (length rows)
    → slice_set (row ∷ rows) (cond {A = ℕ} (not same) (1 + place new.aor rows) 0) new ≡ (if same then new ∷ rows else row ∷ with_registered new rows)
there_by new row rows true go within = refl
there_by new row rows false go within =
    let behind : 1 + place new.aor rows ≡ suc (place new.aor rows) = omega arith in
    ap (λ (n : ℕ). slice_set (row ∷ rows) n new) behind ∙ ap (λ (l : List Registered). row ∷ l) (go (omega (arith, within)))

pub put_there : (new : Registered) (rows : List Registered) → place new.aor rows < length rows → slice_set rows (place new.aor rows) new ≡ with_registered new rows
put_there new [] within = absurd (omega (arith, within))
put_there new (row ∷ rows) within = there_by new row rows (is_of new.aor row) (put_there new rows) within

-- ---- it isn't there

last_by : (new row : Registered) (rows : List Registered) (same : Bool) → (length rows ≤ place new.aor rows → rows ++ new ∷ [] ≡ with_registered new rows)
    → suc (length rows) ≤ cond {A = ℕ} (not same) (1 + place new.aor rows) 0
    → (row ∷ rows) ++ new ∷ [] ≡ (if same then new ∷ rows else row ∷ with_registered new rows)
last_by new row rows true go past = absurd (omega (arith, past))
last_by new row rows false go past = ap (λ (l : List Registered). row ∷ l) (go (omega (arith, past)))

pub put_last : (new : Registered) (rows : List Registered) → length rows ≤ place new.aor rows → rows ++ new ∷ [] ≡ with_registered new rows
put_last new [] past = refl
put_last new (row ∷ rows) past = last_by new row rows (is_of new.aor row) (put_last new rows) past

-- ---- the steps

-- an address was put in its place
pub put_over : (new : Registered) (rows made : List Registered) (n : ℕ) → n ≡ place new.aor rows → n < length rows → made ≡ slice_set rows n new
    → made ≡ with_registered new rows
put_over new rows made n at within puts =
    puts ∙ ap (λ (k : ℕ). slice_set rows k new) at ∙ put_there new rows (omega (arith, at, within))

-- or behind all
pub put_behind : (new : Registered) (rows made : List Registered) (n : ℕ) → n ≡ place new.aor rows → length rows ≤ n → made ≡ rows ++ new ∷ []
    → made ≡ with_registered new rows
put_behind new rows made n at past puts = puts ∙ put_last new rows (omega (arith, at, past))
