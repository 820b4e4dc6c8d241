-- Where a binding goes among others.
use Rattle.std.proofs.Common.{◌≡◌, ℕ, suc, ◌+◌, ◌≤◌, List, [], ◌∷◌, length, Bool, true, false, refl, sym, ◌∙◌, ap, arith}
use Rattle.std.specs.Prelude.{◌<◌, ◌-◌, ◌++◌, ◌||◌, take, drop, set, insert}
use Rattle.std.proofs.lemmas.List.{length-drop}
use Rattle.std.specs.List.{list_any, position_or_len}
use Rattle.sip_uri.specs.declared.uri.Uri.{Uri}
use Rattle.sip_uri_equality.specs.Equality.{same}
use Rattle.sip_location.specs.declared.binding.Binding.{Binding}
use Rattle.sip_location.specs.Binding.{without_contact, put}

-- the place of the first binding with an equal contact
abbrev pub place : Uri → List Binding → ℕ
place uri bs = position_or_len (λ b. same b.uri uri) bs

-- that place is no further than the others are many
pub place-le : (uri : Uri) (bs : List Binding) → place uri bs ≤ length (without_contact uri bs)
place-le uri [] = omega arith
place-le uri (b ∷ bs) = by_test (same b.uri uri) refl (place-le uri bs) where
  by_test : (t : Bool) → same b.uri uri ≡ t → place uri bs ≤ length (without_contact uri bs) → place uri (b ∷ bs) ≤ length (without_contact uri (b ∷ bs))
  by_test true e more = rw e (omega arith)
  by_test false e more = rw e (omega (arith, more))

-- a place that is one further behind a binding more
insert_behind : (x b : Binding) (bs : List Binding) (i : ℕ) → insert (b ∷ bs) (1 + i) x ≡ b ∷ insert bs i x
insert_behind x b bs i = let e : 1 + i ≡ suc i = omega arith in rw e refl

-- what is put at that place among the others is put as it is to be
pub put_is : (binding : Binding) (bs : List Binding) → insert (without_contact binding.uri bs) (place binding.uri bs) binding ≡ put binding bs
put_is binding [] = refl
put_is binding (b ∷ bs) = by_test (same b.uri binding.uri) refl (put_is binding bs) where
  by_test : (t : Bool) → same b.uri binding.uri ≡ t → insert (without_contact binding.uri bs) (place binding.uri bs) binding ≡ put binding bs
      → insert (without_contact binding.uri (b ∷ bs)) (place binding.uri (b ∷ bs)) binding ≡ put binding (b ∷ bs)
  by_test true e more = rw e refl
  by_test false e more = rw e (insert_behind binding b (without_contact binding.uri bs) (place binding.uri bs) ∙ ap (λ rest. b ∷ rest) more)

-- a binding to which none is equal goes last
pub put_last : (binding : Binding) (bs : List Binding) → length bs ≤ place binding.uri bs → bs ++ binding ∷ [] ≡ put binding bs
put_last binding [] none = refl
put_last binding (b ∷ bs) none = by_test (same b.uri binding.uri) refl (put_last binding bs) where
  by_test : (t : Bool) → same b.uri binding.uri ≡ t → (length bs ≤ place binding.uri bs → bs ++ binding ∷ [] ≡ put binding bs)
      → (b ∷ bs) ++ binding ∷ [] ≡ put binding (b ∷ bs)
  by_test true e more = let here : place binding.uri (b ∷ bs) ≡ 0 = rw e refl in absurd (omega (arith, here, none))
  by_test false e more =
      let behind : place binding.uri (b ∷ bs) ≡ 1 + place binding.uri bs = rw e refl in
      rw e (ap (λ (rest : List Binding). b ∷ rest) (more (omega (arith, behind, none))))

-- where none is equal, none goes
none_goes : (uri : Uri) (bs : List Binding) → list_any (λ b. same b.uri uri) bs ≡ false → without_contact uri bs ≡ bs
none_goes uri [] none = refl
none_goes uri (b ∷ bs) none = by_test (same b.uri uri) refl none (none_goes uri bs) where
  by_test : (t : Bool) → same b.uri uri ≡ t → (t || list_any (λ b. same b.uri uri) bs) ≡ false → (list_any (λ b. same b.uri uri) bs ≡ false → without_contact uri bs ≡ bs)
      → without_contact uri (b ∷ bs) ≡ b ∷ bs
  by_test true e none more = absurd cc
  by_test false e none more = rw e (ap (λ (rest : List Binding). b ∷ rest) (more none))

all_taken : (bs : List Binding) → take (length bs) bs ≡ bs
all_taken [] = refl
all_taken (b ∷ bs) = ap (λ (rest : List Binding). b ∷ rest) (all_taken bs)

-- the bindings behind a place, as a slice to the end has them
pub rest_taken : (n : ℕ) (bs : List Binding) → take (length bs - n) (drop n bs) ≡ drop n bs
rest_taken n bs = ap (λ (m : ℕ). take m (drop n bs)) (sym (length-drop n bs)) ∙ all_taken (drop n bs)

-- a binding takes the place of the one that is equal to it, where there is one alone
pub put_over : (binding : Binding) (bs : List Binding) → place binding.uri bs < length bs
    → list_any (λ b. same b.uri binding.uri) (drop (place binding.uri bs + 1) bs) ≡ false
    → set bs (place binding.uri bs) binding ≡ put binding bs
put_over binding [] within none = absurd (omega (arith, within))
put_over binding (b ∷ bs) within none = by_test (same b.uri binding.uri) refl (put_over binding bs) where
  by_test : (t : Bool) → same b.uri binding.uri ≡ t
      → (place binding.uri bs < length bs → list_any (λ b. same b.uri binding.uri) (drop (place binding.uri bs + 1) bs) ≡ false
      → set bs (place binding.uri bs) binding ≡ put binding bs)
      → set (b ∷ bs) (place binding.uri (b ∷ bs)) binding ≡ put binding (b ∷ bs)
  by_test true e more =
      let here : place binding.uri (b ∷ bs) ≡ 0 = rw e refl in
      let behind : list_any (λ b. same b.uri binding.uri) bs ≡ false = sym (ap (λ (n : ℕ). list_any (λ b. same b.uri binding.uri) (drop (n + 1) (b ∷ bs))) here) ∙ none in
      ap (λ (n : ℕ). set (b ∷ bs) n binding) here ∙ rw e (ap (λ (rest : List Binding). binding ∷ rest) (sym (none_goes binding.uri bs behind)))
  by_test false e more =
      let there : place binding.uri (b ∷ bs) ≡ suc (place binding.uri bs) = rw e (omega arith) in
      let further : suc (place binding.uri bs) + 1 ≡ suc (place binding.uri bs + 1) = omega arith in
      let behind : list_any (λ b. same b.uri binding.uri) (drop (place binding.uri bs + 1) bs) ≡ false =
      sym (ap (λ (n : ℕ). list_any (λ b. same b.uri binding.uri) (drop n (b ∷ bs))) (ap (λ (n : ℕ). n + 1) there ∙ further)) ∙ none in
      ap (λ (n : ℕ). set (b ∷ bs) n binding) there ∙ rw e (ap (λ (rest : List Binding). b ∷ rest) (more (omega (arith, there, within)) behind))
