-- Moments that are looked at, one after the other; and the most of numbers.
use Rattle.std.proofs.Common.{◌≡◌, ◌≤◌, ℕ, ◌+◌, List, [], ◌∷◌, ◌++◌, append_assoc, arith, add-one, sym, ◌∙◌, ap}
use Rattle.std.specs.Prelude.{fold}
use Rattle.sipd_page_sections.specs.declared.entries.Entry.{Entry}
use Rattle.sipd_page_sections.specs.Notes.{look_at, looked}
use Rattle.sipd_page_sections.specs.Picture.{most_of, with_most}

pub one_more : (rows : List Entry) (first n : ℕ) (old before after : List ℕ) → before ≡ old ++ looked rows first n
    → after ≡ before ++ look_at rows first n ∷ [] → after ≡ old ++ looked rows first (n + 1)
one_more rows first n old before after so_far puts =
    puts ∙ ap (λ (l : List ℕ). l ++ look_at rows first n ∷ []) so_far
    ∙ append_assoc old (looked rows first n) (look_at rows first n ∷ [])
    ∙ ap (λ (k : ℕ). old ++ looked rows first k) (sym (add-one n))

-- no number is more than the most
most_from : (live : List ℕ) (n : ℕ) → n ≤ fold with_most n live
most_from [] n = omega arith
most_from (value ∷ live) n =
    let here : n ≤ with_most n value = omega arith in
    let behind : with_most n value ≤ fold with_most (with_most n value) live = most_from live (with_most n value) in
    omega (arith, here, behind)

pub most_some : (live : List ℕ) → 1 ≤ most_of live
most_some live = most_from live 1
