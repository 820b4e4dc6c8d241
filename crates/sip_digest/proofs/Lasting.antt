-- Where the first nonce stands that lives, and lists that are the same, each from a place on.
use Rattle.std.proofs.Common.{◌≡◌, ℕ, zero, suc, ◌+◌, ◌-◌, ◌<◌, ◌≤◌, Bool, true, false, cond, List, [], ◌∷◌, length, drop, take, get_or}
use Rattle.std.proofs.Common.{Option, None, refl, sym, ap, ◌∙◌, arith}
use Rattle.std.specs.Prelude.{slice_get}
use Rattle.std.specs.Option.{option_map_or}
use Rattle.std.proofs.lemmas.List.{drop_all, drop_more, length-drop, length-map, take_all, take_more_same}
use Rattle.std.proofs.lemmas.Option.{get_or_from_slice_get, slice_get-get_or, slice_get_past}
use Rattle.sip_digest.specs.declared.nonces.Nonce.{Nonce}
use Rattle.sip_digest.specs.declared.nonces.NonceRow.{NonceRow}
use Rattle.sip_digest.specs.Nonces.{is_live, lasting}
use Rattle.sip_digest.specs.Rows.{nonces_in}
use Rattle.sip_digest.proofs.Lookups.{blank}

-- ---- the first that lives

-- whether a nonce stands in a place and lives
abbrev lives_at : ℕ → List Nonce → ℕ → Bool
lives_at now ns place = option_map_or (is_live now) (slice_get ns place) false

-- what is read there is what the test asks
lives_there : (now : ℕ) (ns : List Nonce) (place : ℕ) → place < length ns → is_live now (get_or ns place blank) ≡ lives_at now ns place
lives_there now ns place lt = ap (λ (o : Option Nonce). option_map_or (is_live now) o false) (sym (slice_get-get_or ns place blank lt))

-- what lasts of the nonces from a place on goes by whether the first of them lives
lasts_by : (now : ℕ) (ns : List Nonce) (place : ℕ) (t : Bool) → place < length ns → lives_at now ns place ≡ t
    → lasting now (drop place ns) ≡ cond t (get_or ns place blank ∷ drop (place + 1) ns) (lasting now (drop (place + 1) ns))
lasts_by now ns place t lt is =
    ap (lasting now) (drop_more ns place blank lt)
    ∙ ap (λ (b : Bool). cond b (get_or ns place blank ∷ drop (place + 1) ns) (lasting now (drop (place + 1) ns))) (lives_there now ns place lt ∙ is)

-- from one on that lives they last
pub lasts_here : (now : ℕ) (ns : List Nonce) (place : ℕ) → place < length ns → lives_at now ns place ≡ true → drop place ns ≡ lasting now (drop place ns)
lasts_here now ns place lt is = drop_more ns place blank lt ∙ sym (lasts_by now ns place true lt is)

-- one that doesn't is passed
pub lasts_behind : (now : ℕ) (ns : List Nonce) (place : ℕ) → place < length ns → lives_at now ns place ≡ false
    → lasting now (drop (place + 1) ns) ≡ lasting now (drop place ns)
lasts_behind now ns place lt is = sym (lasts_by now ns place false lt is)

-- behind the last nothing lasts
pub none_lasts : (now : ℕ) (ns : List Nonce) (place : ℕ) → length ns ≤ place → drop place ns ≡ lasting now (drop place ns)
none_lasts now ns place le = let none : drop place ns ≡ [] = drop_all place ns le in none ∙ sym (ap (lasting now) none)

-- ---- places

-- as many nonces as rows
pub as_many : (rows : List NonceRow) → length (nonces_in rows) ≡ length rows
as_many rows = length-map rows (λ (r : NonceRow). r.nonce)

-- no row stands past the last
pub none_at : (rows : List NonceRow) (place : ℕ) → length rows ≤ place → slice_get (nonces_in rows) place ≡ None
none_at rows place le = slice_get_past (nonces_in rows) place (omega (arith, as_many rows, le))

-- how many stand from a place on
pub many_from : (rows : List NonceRow) (from many len : ℕ) → len ≡ length rows → many ≡ len - from → many ≡ length (drop from (nonces_in rows))
many_from rows from many len is count = omega (arith, is, count, as_many rows, length-drop from (nonces_in rows))

-- ---- from a place on

at_behind : (ns : List Nonce) (from at : ℕ) → slice_get (drop from ns) at ≡ slice_get ns (from + at)
at_behind ns zero at = ap (λ (k : ℕ). slice_get ns k) (let same : at ≡ 0 + at = omega arith in same)
at_behind [] (suc from) at = refl
at_behind (n ∷ ns) (suc from) at =
    at_behind ns from at ∙ ap (λ (k : ℕ). slice_get (n ∷ ns) k) (let same : suc (from + at) ≡ suc from + at = omega arith in same)

-- lists that are the same from places on have the same behind them
pub alike_at : (left right : List Nonce) (mine others at : ℕ) → drop mine left ≡ drop others right → slice_get left (mine + at) ≡ slice_get right (others + at)
alike_at left right mine others at same =
    sym (at_behind left mine at) ∙ ap (λ (ns : List Nonce). slice_get ns at) same ∙ at_behind right others at

-- one place further
pub alike_more : (left right : List Nonce) (mine others at : ℕ) → at < length (drop mine left) → at < length (drop others right)
    → slice_get left (mine + at) ≡ slice_get right (others + at) → take at (drop mine left) ≡ take at (drop others right)
    → take (at + 1) (drop mine left) ≡ take (at + 1) (drop others right)
alike_more left right mine others at in_left in_right same so =
    let here : slice_get (drop mine left) at ≡ slice_get (drop others right) at = at_behind left mine at ∙ same ∙ sym (at_behind right others at) in
    take_more_same (drop mine left) (drop others right) at blank in_left in_right so
    (get_or_from_slice_get (drop mine left) at (get_or (drop others right) at blank) blank (here ∙ slice_get-get_or (drop others right) at blank in_right))

-- at the end
pub alike_all : (left right : List Nonce) (at : ℕ) → length left ≤ at → length right ≤ at → take at left ≡ take at right → left ≡ right
alike_all left right at in_left in_right so = sym (take_all at left in_left) ∙ so ∙ take_all at right in_right
