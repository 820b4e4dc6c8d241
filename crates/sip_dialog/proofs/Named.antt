-- The digests are those of the rows' names, whatever happens to the rows.
use Rattle.std.proofs.Common.{◌≡◌, ℕ, zero, suc, ◌-◌, ◌≤◌, ◌<◌, List, [], ◌∷◌, ◌++◌, length, map, cond, Bool, true, false, refl, sym, ◌∙◌, ap, ap₂, subst, arith}
use Rattle.std.proofs.Common.{slice_get, get_or, set, take, Some, swap, swap_remove}
use Rattle.std.specs.Prelude.{◌&&◌, count_by}
use Rattle.std.proofs.lemmas.List.{length-map, map-set, set-get_or, map_push, get_or-map}
use Rattle.std.proofs.lemmas.List.Sums.{sum_by_push, sum_by-set, sum_by-swap_remove}
use Rattle.std.proofs.lemmas.Option.{slice_get_within, get_or_from_slice_get}
use Rattle.sip_base.specs.declared.word_hasher.WordHasher.{WordHasher}
use Rattle.sip_dialog.specs.declared.dialog.DialogId.{DialogId}
use Rattle.sip_dialog.specs.SameNames.{alike}
use Rattle.sip_dialog.specs.Naming.{digest_of}
use Rattle.sip_dialog.specs.Rows.{names, AreNamed, StandsNowhere}
use Rattle.sip_dialog.proofs.Alone.{Row}
use Rattle.sip_dialog.proofs.Places.{count_swapped}
use Rattle.sip_dialog.proofs.Sameness.{count_alike}

and_true : (b : Bool) → b ≡ (b && true)
and_true true = refl
and_true false = refl

module _ {X Y : Type 0} (f : X → Y) where
  map_take : (n : ℕ) (xs : List X) → map f (take n xs) ≡ take n (map f xs)
  map_take zero [] = refl
  map_take zero (x ∷ xs) = refl
  map_take (suc n) [] = refl
  map_take (suc n) (x ∷ xs) = ap (λ (l : List Y). f x ∷ l) (map_take n xs)

  map_swap : (xs : List X) (a b : ℕ) → a < length xs → b < length xs → map f (swap xs a b) ≡ swap (map f xs) a b
  map_swap [] a b lt_a lt_b = refl
  map_swap (x ∷ xs) a b lt_a lt_b =
      map-set f (set (x ∷ xs) a (get_or (x ∷ xs) b x)) b (get_or (x ∷ xs) a x)
      ∙ ap (λ (l : List Y). set l b (f (get_or (x ∷ xs) a x))) (map-set f (x ∷ xs) a (get_or (x ∷ xs) b x))
      ∙ ap₂ (λ (v w : Y). set (set (f x ∷ map f xs) a v) b w) (sym (get_or-map f (x ∷ xs) b x (f x) lt_b)) (sym (get_or-map f (x ∷ xs) a x (f x) lt_a))

  map_swap_remove : (xs : List X) (at : ℕ) (d : X) (e : Y) → at < length xs → map f (swap_remove xs at d) ≡ swap_remove (map f xs) at e
  map_swap_remove xs at d e lt =
      map_take (length xs - 1) (set xs at (get_or xs (length xs - 1) d))
      ∙ ap (take (length xs - 1)) (map-set f xs at (get_or xs (length xs - 1) d))
      ∙ ap (λ (v : Y). take (length xs - 1) (set (map f xs) at v)) (sym (get_or-map f xs (length xs - 1) d e (omega (arith, lt))))
      ∙ ap (λ (n : ℕ). take (n - 1) (set (map f xs) at (get_or (map f xs) (n - 1) e))) (sym (length-map xs f))

module _ (secret : WordHasher) (digests : List ℕ) (rows : List Row) (named : AreNamed secret digests rows) where
  pub named_length : length digests ≡ length rows
  named_length = ap (λ (l : List ℕ). length l) named.digested ∙ length-map rows (λ (r : Row). digest_of secret r.0)

  pub named_swapped : (a b : ℕ) → a < length rows → b < length rows → AreNamed secret (swap digests a b) (swap rows a b)
  named_swapped a b lt_a lt_b = record {
    digested = ap (λ (l : List ℕ). swap l a b) named.digested ∙ sym (map_swap (λ (r : Row). digest_of secret r.0) rows a b lt_a lt_b);
    alone = λ id. omega (arith, named.alone id, count_swapped rows a b lt_a lt_b (λ r. names id r.0));
  }

  pub named_removed : (at : ℕ) (other : Row) → at < length rows → AreNamed secret (swap_remove digests at 0) (swap_remove rows at other)
  named_removed at other lt = record {
    digested = ap (λ (l : List ℕ). swap_remove l at 0) named.digested ∙ sym (map_swap_remove (λ (r : Row). digest_of secret r.0) rows at other 0 lt);
    alone = λ id. omega (arith, named.alone id, sum_by-swap_remove (λ r. cond {A = ℕ} (names id r.0) 1 0) rows at other lt);
  }

  pub named_set : (at : ℕ) (x y : Row) → slice_get rows at ≡ Some x → y.0 ≡ x.0 → AreNamed secret digests (set rows at y)
  named_set at x y there same = record {
    digested = named.digested
        ∙ sym (set-get_or (map (λ (r : Row). digest_of secret r.0) rows) at 0)
        ∙ ap (set (map (λ (r : Row). digest_of secret r.0) rows) at) (get_or-map (λ (r : Row). digest_of secret r.0) rows at x 0 lt
        ∙ ap (λ (r : Row). digest_of secret r.0) is ∙ ap (digest_of secret) (sym same))
        ∙ sym (map-set (λ (r : Row). digest_of secret r.0) rows at y);
    alone = λ id.
        let was : cond {A = ℕ} (names id (get_or rows at x).0) 1 0 ≡ cond {A = ℕ} (names id y.0) 1 0 =
        ap (λ (r : Row). cond {A = ℕ} (names id r.0) 1 0) is ∙ ap (λ (k : DialogId). cond {A = ℕ} (names id k) 1 0) (sym same) in
        omega (arith, named.alone id, sum_by-set (λ r. cond {A = ℕ} (names id r.0) 1 0) rows at y x lt, was);
  }
    where
      lt : at < length rows
      lt = slice_get_within rows at x there

      is : get_or rows at x ≡ x
      is = get_or_from_slice_get rows at x x there

  -- one more, whose name no row has
  named_pushed : (row : Row) → StandsNowhere row.0 rows → AreNamed secret (digests ++ digest_of secret row.0 ∷ []) (rows ++ row ∷ [])
  named_pushed row nowhere = record {
    digested = ap (λ (l : List ℕ). l ++ digest_of secret row.0 ∷ []) named.digested ∙ sym (map_push (λ (r : Row). digest_of secret r.0) rows row);
    alone = λ id. by_test id (names id row.0) refl;
  }
    where
      none : (id : DialogId) → names id row.0 ≡ true → count_by (λ r. names id r.0) rows ≡ 0
      none id e = count_alike (λ (r : Row). names id r.0) (λ r. names row.0 r.0 && true) rows (λ r. alike.congr id row.0 r.0 e ∙ and_true (names row.0 r.0))
          ∙ nowhere.none (λ r. true)

      by_test : (id : DialogId) (t : Bool) → names id row.0 ≡ t → count_by (λ r. names id r.0) (rows ++ row ∷ []) ≤ 1
      by_test id true e =
          let one : cond {A = ℕ} (names id row.0) 1 0 ≡ 1 = rw e refl in
          omega (arith, sum_by_push (λ r. cond {A = ℕ} (names id r.0) 1 0) rows row, one, none id e)
      by_test id false e =
          let here : cond {A = ℕ} (names id row.0) 1 0 ≡ 0 = rw e refl in
          omega (arith, sum_by_push (λ r. cond {A = ℕ} (names id r.0) 1 0) rows row, here, named.alone id)

  -- the one that an answer begins
  pub named_begun : (row : Row) (id : DialogId) (d : ℕ) (pushed : List ℕ) (new : List Row) → row.0 ≡ id → d ≡ digest_of secret id → pushed ≡ digests ++ d ∷ []
      → new ≡ rows ++ row ∷ [] → StandsNowhere id rows
      → AreNamed secret pushed new
  named_begun row id d pushed new same is digests_are rows_are nowhere =
      let last : digests ++ d ∷ [] ≡ digests ++ digest_of secret row.0 ∷ [] = ap (λ (n : ℕ). digests ++ n ∷ []) (is ∙ ap (digest_of secret) (sym same)) in
      let none : StandsNowhere row.0 rows = subst (λ (k : DialogId). StandsNowhere k rows) (sym same) nowhere in
      subst (λ (l : List ℕ). AreNamed secret l new) (sym (digests_are ∙ last)) (subst (λ (l : List Row). AreNamed secret (digests ++ digest_of secret row.0 ∷ []) l)
      (sym rows_are) (named_pushed row none))
