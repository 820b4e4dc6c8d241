-- A line, from point to point.
use Rattle.std.proofs.Common.{◌≡◌, ◌<◌, ◌≤◌, ℕ, ◌+◌, List, ◌++◌, length, drop, get_or, append_assoc, append-nil, sym, ◌∙◌, ap}
use Rattle.std.proofs.lemmas.List.{at_drop_all, at_drop_more}
use Rattle.sipd_page_sections.specs.Picture.{point, points}

pub one_more : (count most : ℕ) (live : List ℕ) (i value : ℕ) (before after all : List ℕ) → i < length live → value ≡ get_or live i value
    → before ++ points i count most (drop i live) ≡ all → after ≡ before ++ point i count most value
    → after ++ points (i + 1) count most (drop (i + 1) live) ≡ all
one_more count most live i value before after all lt is so_far puts =
    let rest : List ℕ = points (i + 1) count most (drop (i + 1) live) in
    ap (λ (l : List ℕ). l ++ rest) puts
    ∙ append_assoc before (point i count most value) rest
    ∙ ap (λ (v : ℕ). before ++ (point i count most v ++ rest)) is
    ∙ sym (at_drop_more (λ (l : List ℕ). before ++ points i count most l) live i value lt)
    ∙ so_far

pub at_end : (count most : ℕ) (live : List ℕ) (i : ℕ) (now all : List ℕ) → length live ≤ i → now ++ points i count most (drop i live) ≡ all → now ≡ all
at_end count most live i now all past so_far =
    sym (append-nil now) ∙ sym (at_drop_all (λ (l : List ℕ). now ++ points i count most l) live i past) ∙ so_far
