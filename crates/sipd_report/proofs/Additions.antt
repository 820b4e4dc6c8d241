-- One more of a text.
use Rattle.std.proofs.Common.{◌≡◌, ℕ, zero, suc, ◌+◌, ◌<◌, ◌≤◌, Bool, true, false, cond, List, [], ◌∷◌, ◌++◌, map, length, set, get_or, Option, Some, None}
use Rattle.std.proofs.Common.{Vec, Global, refl, sym, ◌∙◌, ap, ap₂, subst, arith, option_map, if◌then◌else◌}
use Rattle.std.specs.Option.{option_or}
use Rattle.std.specs.Map.{KeepsOthers}
use Rattle.std.specs.HashMap.{HashMap, Updates}
use Rattle.std.specs.Str.{bytes_eq}
use Rattle.std.specs.Cmp.Lexicographic.{same_text}
use Rattle.sipd_report.specs.declared.totals.Total.{Total}
use Rattle.sipd_report.specs.Totals.{capped, one_more, shown_total, first_total, first_place, place_of, counted_at, AreFirst}

-- ---- a text that stands there

abbrev before : ℕ → ℕ
before zero = zero
before (suc n) = n

abbrev is_zero : Option ℕ → Bool
is_zero None = false
is_zero (Some zero) = true
is_zero (Some (suc n)) = false

false_true : false ≡ true → ⊥
false_true e = cc

-- where it doesn't stand first it stands among the others
later_place : (place : Option ℕ) (n : ℕ) → option_map suc place ≡ Some (suc n) → place ≡ Some n
later_place None n e = absurd cc
later_place (Some m) n e = ap (option_map before) e

not_first : (place : Option ℕ) → option_map suc place ≡ Some 0 → ⊥
not_first None e = cc
not_first (Some m) e = false_true (ap is_zero e)

only_first : (n : ℕ) → Some 0 ≡ Some (suc n) → ⊥
only_first n e = false_true (sym (ap is_zero e))

pub found : (totals : List Total) (text : List ℕ) (place : ℕ) → first_place totals text ≡ Some place
    → map shown_total (counted_at place totals) ≡ one_more (map shown_total totals) text
found [] text place e = absurd cc
found (t ∷ ts) text place e = by (bytes_eq text t.text) place e (found ts text)
  where
    by : (same : Bool) (place : ℕ) → (if same then Some 0 else option_map suc (first_place ts text)) ≡ Some place
        → ((n : ℕ) → first_place ts text ≡ Some n → map shown_total (counted_at n ts) ≡ one_more (map shown_total ts) text)
        → map shown_total (counted_at place (t ∷ ts))
        ≡ (if same then (t.text, capped (t.count + 1)) ∷ map shown_total ts else shown_total t ∷ one_more (map shown_total ts) text)
    by true zero e rest = refl
    by true (suc n) e rest = absurd (only_first n e)
    by false zero e rest = absurd (not_first (first_place ts text) e)
    by false (suc n) e rest = ap (λ l. shown_total t ∷ l) (rest n (later_place (first_place ts text) n e))

-- a count moves no text
counted_there : (totals : List Total) (place : ℕ) (text : List ℕ) → first_place (counted_at place totals) text ≡ first_place totals text
counted_there [] place text = refl
counted_there (t ∷ ts) zero text = refl
counted_there (t ∷ ts) (suc n) text = ap (λ o. if bytes_eq text t.text then Some 0 else option_map suc o) (counted_there ts n text)

pub first_counted : (place : List ℕ → Option ℕ) (totals : List Total) (n : ℕ) → AreFirst place totals → AreFirst place (counted_at n totals)
first_counted place totals n h = record { first = λ text. h.first text ∙ sym (counted_there totals n text) }

-- what a write at a place is
pub counts_there : (totals : List Total) (place : ℕ) (d e : Total) (n : ℕ) → place < length totals → d ≡ get_or totals place d → e ≡ get_or totals place e
    → n ≡ capped (e.count + 1) → set totals place (record { text = d.text; count = n }) ≡ counted_at place totals
counts_there [] place d e n within at same is = absurd (omega (arith, within))
counts_there (t ∷ ts) zero d e n within at same is =
    ap (λ (text : List ℕ). record { text = text; count = n } ∷ ts) (ap (λ (x : Total). x.text) at)
    ∙ ap (λ (m : ℕ). record t { count = m } ∷ ts) (is ∙ ap (λ (x : Total). capped (x.count + 1)) same)
counts_there (t ∷ ts) (suc i) d e n within at same is = ap (λ l. t ∷ l) (counts_there ts i d e n (omega (arith, within)) at same is)

pub counts_nowhere : (totals : List Total) (place : ℕ) → length totals ≤ place → totals ≡ counted_at place totals
counts_nowhere [] place past = refl
counts_nowhere (t ∷ ts) zero past = absurd (omega (arith, past))
counts_nowhere (t ∷ ts) (suc n) past = ap (λ l. t ∷ l) (counts_nowhere ts n (omega (arith, past)))

-- ---- a text that comes for the first time

nowhere : (place : Option ℕ) → option_map suc place ≡ None → place ≡ None
nowhere None e = refl
nowhere (Some n) e = absurd cc

pub not_found : (totals : List Total) (text : List ℕ) → first_place totals text ≡ None
    → map shown_total (totals ++ first_total text ∷ []) ≡ one_more (map shown_total totals) text
not_found [] text e = refl
not_found (t ∷ ts) text e = by (bytes_eq text t.text) e (not_found ts text)
  where
    by : (same : Bool) → (if same then Some 0 else option_map suc (first_place ts text)) ≡ None
        → (first_place ts text ≡ None → map shown_total (ts ++ first_total text ∷ []) ≡ one_more (map shown_total ts) text)
        → shown_total t ∷ map shown_total (ts ++ first_total text ∷ [])
        ≡ (if same then (t.text, capped (t.count + 1)) ∷ map shown_total ts else shown_total t ∷ one_more (map shown_total ts) text)
    by true e rest = absurd cc
    by false e rest = ap (λ l. shown_total t ∷ l) (rest (nowhere (first_place ts text) e))

-- the first place of a text, where one more stands behind the others
place_behind : (totals : List Total) (u : Total) (text : List ℕ)
    → first_place (totals ++ u ∷ []) text ≡ option_or (first_place totals text) (if bytes_eq text u.text then Some (length totals) else None)
place_behind [] u text = refl
place_behind (t ∷ ts) u text = by (bytes_eq text t.text) (bytes_eq text u.text) (first_place ts text) (place_behind ts u text)
  where
    by : (same last : Bool) (place : Option ℕ) → first_place (ts ++ u ∷ []) text ≡ option_or place (if last then Some (length ts) else None)
        → (if same then Some 0 else option_map suc (first_place (ts ++ u ∷ []) text))
        ≡ option_or (if same then Some 0 else option_map suc place) (if last then Some (suc (length ts)) else None)
    by true last place rest = refl
    by false last (Some n) rest = ap (option_map suc) rest
    by false true None rest = ap (option_map suc) rest
    by false false None rest = ap (option_map suc) rest

or_none : (place : Option ℕ) → option_or place None ≡ place
or_none None = refl
or_none (Some n) = refl

pub first_more : (old new : List ℕ → Option ℕ) (totals : List Total) (text : List ℕ) → AreFirst old totals → old text ≡ None
    → ((other : List ℕ) → new other ≡ cond (bytes_eq other text) (Some (length totals)) (old other)) → AreFirst new (totals ++ first_total text ∷ [])
first_more old new totals text h none grew = record {
  first = λ other. grew other ∙ by other (bytes_eq other text) refl ∙ sym (place_behind totals (first_total text) other);
}
  where
    by : (other : List ℕ) (same : Bool) → bytes_eq other text ≡ same
        → cond same (Some (length totals)) (old other) ≡ option_or (first_place totals other) (if bytes_eq other text then Some (length totals) else None)
    by other true e =
        let is : other ≡ text = same_text other text (sym e) in
        let absent : first_place totals other ≡ None = ap (first_place totals) is ∙ sym (h.first text) ∙ none in
        sym (ap₂ (λ (o : Option ℕ) (b : Bool). option_or o (if b then Some (length totals) else None)) absent e)
    by other false e =
        h.first other
        ∙ sym (ap (λ (b : Bool). option_or (first_place totals other) (if b then Some (length totals) else None)) e ∙ or_none (first_place totals other))

-- ---- what an insertion is to the places of texts

abbrev pub Key : Type 0
Key = Vec ℕ Global

abbrev pub same_key : Key → Key → Bool
same_key key other = bytes_eq key.items other.items

bytes_congr : (a b c : List ℕ) → bytes_eq a b ≡ true → bytes_eq a c ≡ bytes_eq b c
bytes_congr a b c e = ap (λ (text : List ℕ). bytes_eq text c) (same_text a b (sym e))

-- a key leads to its place, and each other text to where it led before
pub place_more : {S : Type 0} (old new : HashMap Key ℕ S) (key : Key) (text : List ℕ) (at : ℕ) → key.items ≡ text → Updates same_key old new key (Some at)
    → (other : List ℕ) → place_of new other ≡ cond (bytes_eq other text) (Some at) (place_of old other)
unfolding KeepsOthers
place_more {S} old new key text at is updates other =
    by (bytes_eq other key.items) refl ∙ ap (λ (t : List ℕ). cond (bytes_eq other t) (Some at) (place_of old other)) is
  where
    by : (b : Bool) → bytes_eq other key.items ≡ b → place_of new other ≡ cond b (Some at) (place_of old other)
    by true e = subst (λ (t : List ℕ). place_of new t ≡ Some at) (sym (same_text other key.items (sym e))) updates.1
    by false e = updates.3 (λ k. bytes_eq other k.items) (λ x y same. bytes_congr other x.items y.items same) apart
      where
        apart : (k : Key) → bytes_eq key.items k.items ≡ true → bytes_eq other k.items ≡ false
        apart k same = ap (bytes_eq other) (sym (same_text key.items k.items (sym same))) ∙ e
