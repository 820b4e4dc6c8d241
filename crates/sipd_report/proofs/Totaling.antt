-- Totals are counts.
use Rattle.std.proofs.Common.{◌≡◌, ℕ, ◌+◌, Bool, true, false, cond, List, [], ◌∷◌, refl, sym, ◌∙◌, ap, subst, arith, if◌then◌else◌}
use Rattle.std.specs.Prelude.{count_by, fold}
use Rattle.std.specs.Str.{bytes_eq}
use Rattle.std.specs.Cmp.Lexicographic.{same_text}
use Rattle.std.proofs.lemmas.Cmp.{nat_list_eq_equiv}
use Rattle.std.proofs.lemmas.List.Sums.{sum_by-append}
use Rattle.sipd_report.specs.Totals.{capped, one_more, totals_of, total_for}

-- what a total becomes by one more of a text
abbrev one_more_if : Bool → ℕ → ℕ
one_more_if same total = if same then capped (total + 1) else total

first_row : (b : Bool) → (if b then 1 else 0) ≡ one_more_if b 0
first_row true = refl
first_row false = refl

this_row : (b : Bool) (count rest : ℕ) → (if b then capped (count + 1) else rest) ≡ one_more_if b (if b then count else rest)
this_row true count rest = refl
this_row false count rest = refl

other_row : (text row other : List ℕ) (count total more : ℕ) (b : Bool) → bytes_eq text row ≡ b → bytes_eq other row ≡ false
    → more ≡ one_more_if (bytes_eq text other) total
    → (if b then count else more) ≡ one_more_if (bytes_eq text other) (if b then count else total)
other_row text row other count total more true f e rest =
    let is : text ≡ row = same_text text row (sym f) in
    let none : bytes_eq text other ≡ false = ap (λ t. bytes_eq t other) is ∙ nat_list_eq_equiv.symm row other ∙ e in
    ap (λ b. one_more_if b count) (sym none)
other_row text row other count total more false f e rest = rest

one_more_total : (text : List ℕ) (rows : List (List ℕ × ℕ)) (other : List ℕ) → total_for text (one_more rows other)
    ≡ one_more_if (bytes_eq text other) (total_for text rows)
one_more_total text [] other = first_row (bytes_eq text other)
one_more_total text (row ∷ rows) other = by (bytes_eq other row.0) refl (one_more_total text rows other)
  where
    by : (same : Bool) → bytes_eq other row.0 ≡ same → total_for text (one_more rows other) ≡ one_more_if (bytes_eq text other) (total_for text rows)
        → total_for text (if same then (row.0, capped (row.1 + 1)) ∷ rows else row ∷ one_more rows other)
        ≡ one_more_if (bytes_eq text other) (if bytes_eq text row.0 then row.1 else total_for text rows)
    by true e rest =
        let is : row.0 ≡ other = sym (same_text other row.0 (sym e)) in
        subst (λ (o : List ℕ). (if bytes_eq text row.0 then capped (row.1 + 1) else total_for text rows)
        ≡ one_more_if (bytes_eq text o) (if bytes_eq text row.0 then row.1 else total_for text rows)) is
        (this_row (bytes_eq text row.0) row.1 (total_for text rows))
    by false e rest = other_row text row.0 other row.1 (total_for text rows) (total_for text (one_more rows other)) (bytes_eq text row.0) refl e rest

-- a count goes on from what was counted
capped_if : (b : Bool) (total n : ℕ) → total ≡ capped n → one_more_if b total ≡ capped (n + cond b 1 0)
capped_if true total n is = omega (arith, is)
capped_if false total n is = omega (arith, is)

totals_from : (text : List ℕ) (texts : List (List ℕ)) (rows : List (List ℕ × ℕ)) (n : ℕ) → total_for text rows ≡ capped n
    → total_for text (fold one_more rows texts) ≡ capped (n + count_by (bytes_eq text) texts)
totals_from text [] rows n is = is ∙ ap capped same
  where
    same : n ≡ n + 0
    same = omega arith
totals_from text (t ∷ ts) rows n is =
    let count : count_by (bytes_eq text) (t ∷ ts) ≡ (0 + cond (bytes_eq text t) 1 0) + count_by (bytes_eq text) ts =
    sum_by-append (λ u. cond (bytes_eq text u) 1 0) (t ∷ []) ts in
    let sum : (n + cond (bytes_eq text t) 1 0) + count_by (bytes_eq text) ts ≡ n + count_by (bytes_eq text) (t ∷ ts) = omega (arith, count) in
    totals_from text ts (one_more rows t) (n + cond (bytes_eq text t) 1 0) (one_more_total text rows t ∙ capped_if (bytes_eq text t) (total_for text rows) n is)
    ∙ ap capped sum

-- the total of each text is how often it stands in the list
pub total_is_count : (text : List ℕ) (texts : List (List ℕ)) → total_for text (totals_of texts) ≡ capped (count_by (bytes_eq text) texts)
total_is_count text texts =
    let from : 0 + count_by (bytes_eq text) texts ≡ count_by (bytes_eq text) texts = omega arith in
    totals_from text texts [] 0 refl ∙ ap capped from
