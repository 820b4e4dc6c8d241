-- Keys in their column.
use Rattle.std.proofs.Common.{◌≡◌, ℕ, ◌-◌, ◌≤◌, List, [], ◌++◌, length, codes, sym, ap, ◌∙◌, arith, append-nil, length-append, length-drop}
use Rattle.std.proofs.lemmas.List.{drop_all}
use Rattle.sipd_ask.specs.Show.{blanks_behind, key_column}

-- nothing is left of the blanks behind a key that is as long as the longest one
pub none_left : (n : ℕ) → 12 ≤ n → [] ≡ blanks_behind n
none_left n long = sym (drop_all n (codes "            ") long)

-- a key and its blanks
pub whole_column : (key : List ℕ) → length key ≤ 12 → length (key_column key) ≡ 13
unfolding key_column
whole_column key short =
    let left : length (blanks_behind (length key)) ≡ 12 - length key = length-drop (length key) (codes "            ") in
    omega (arith, short, left, length-append key (blanks_behind (length key)), length-append (key ++ blanks_behind (length key)) (codes " "))

-- a key that is longer than the column
pub one_blank : (key : List ℕ) → 12 ≤ length key → key_column key ≡ key ++ codes " "
unfolding key_column
one_blank key long =
    ap (λ (blanks : List ℕ). key ++ blanks ++ codes " ") (sym (none_left (length key) long))
    ∙ ap (λ (front : List ℕ). front ++ codes " ") (append-nil key)
