-- Rows whose keys are filed.
use Rattle.std.proofs.Common.{◌≡◌, ℕ, ◌+◌, ◌≤◌, ◌<◌, ◌==◌, Bool, true, false, cond, List, [], ◌∷◌, ◌++◌, length, get_or, set, slice_get, position, remove, map, take}
use Rattle.std.proofs.Common.{drop, zero, suc, Some, None, refl, sym, ◌∙◌, ap, arith, ◌⊎◌, inl, inr}
use Rattle.std.specs.Prelude.{count_by, if◌then◌else◌}
use Rattle.std.specs.Option.{option_map}
use Rattle.std.proofs.lemmas.Bool.{cases_lt}
use Rattle.std.proofs.lemmas.Bool.Decides.{nat_tests}
use Rattle.std.proofs.lemmas.List.Quantifiers.{all_pairs_push, all_pairs_remove}
use Rattle.std.proofs.lemmas.List.Edits.{get_or-remove_below, get_or-remove_above, length-remove}
use Rattle.std.proofs.lemmas.List.Sums.{sum_by_push, sum_by-set, sum_by-remove, get_or-le-sum_by, count_by-le-length}
use Rattle.std.proofs.lemmas.List.{length-map, map-append, drop-map, take-map}
use Rattle.std.proofs.lemmas.Option.{slice_get_within, slice_get-map, same_Some, get_or_from_slice_get}
use Rattle.sip_transaction_table.specs.declared.key.TransactionKey.{TransactionKey}
use Rattle.sip_transaction_table.specs.Key.{same_key, is_cancelled_by}
use Rattle.sip_transaction_table.specs.Digest.{digest_of, named_digest}
use Rattle.sip_transaction_table.specs.Keys.{Filed, count_in}
use Rattle.sip_transaction_table.specs.Rows.{AreFiled}
use Rattle.sip_transaction_table.proofs.Places.{first_at, nowhere, none_passes, all_pairs_set}
use Rattle.sip_transaction_table.proofs.SameKey.{decides, turned}
use Rattle.sip_transaction_table.proofs.Named.{has_digest}

-- ---- lists of digests

map-set_same : {X Y : Type 0} (f : X → Y) (xs : List X) (i : ℕ) (x y : X) → slice_get xs i ≡ Some x → f y ≡ f x → map f (set xs i y) ≡ map f xs
map-set_same f [] i x y at e = refl
map-set_same f (z ∷ xs) zero x y at e = ap (λ v. v ∷ map f xs) (e ∙ sym (ap f (get_or_from_slice_get (z ∷ xs) zero x x at)))
map-set_same f (z ∷ xs) (suc i) x y at e = ap (λ vs. f z ∷ vs) (map-set_same f xs i x y at e)

remove-map : {X Y : Type 0} (f : X → Y) (xs : List X) (i : ℕ) → map f (remove xs i) ≡ remove (map f xs) i
remove-map f xs i =
    map-append f (take i xs) (drop (suc i) xs) ∙ ap (λ ys. ys ++ map f (drop (suc i) xs)) (sym (take-map f i xs))
    ∙ ap (λ ys. take i (map f xs) ++ ys) (sym (drop-map f (suc i) xs))

module _ {R : Type 0} (key : R → TransactionKey) where
  -- whether a row has a key
  abbrev has : TransactionKey → R → Bool
  has k r = same_key (key r) k

  -- whether a row's key has a digest
  abbrev files : Filed → ℕ → R → Bool
  files filed d r = digest_of filed.secret (key r) == d

  -- rows whose keys differ
  abbrev Apart : R → R → Type 0
  Apart a b = same_key (key a) (key b) ≡ false

  -- a row whose key is filed counts
  at_least_one : (rows : List R) (filed : Filed) (i : ℕ) (r : R) → slice_get rows i ≡ Some r → 1 ≤ count_by (files filed (digest_of filed.secret (key r))) rows
  at_least_one rows filed i r at =
      let d : ℕ = digest_of filed.secret (key r) in
      let within = slice_get_within rows i r at in
      let here : cond {A = ℕ} (files filed d (get_or rows i r)) 1 0 ≡ cond {A = ℕ} (d == d) 1 0 =
      ap (λ (x : R). cond {A = ℕ} (files filed d x) 1 0) (get_or_from_slice_get rows i r r at) in
      let one : cond {A = ℕ} (d == d) 1 0 ≡ 1 = grind (arith, nat_tests) in
      omega (arith, get_or-le-sum_by (λ x. cond (files filed d x) 1 0) rows i r within, here, one)

  pub counts_once : (rows : List R) (filed : Filed) (i : ℕ) (r : R) → AreFiled key rows filed → slice_get rows i ≡ Some r
      → 1 ≤ count_in (digest_of filed.secret (key r)) filed.entries
  counts_once rows filed i r h at = let some = at_least_one rows filed i r at in omega (arith, some, h.counted (digest_of filed.secret (key r)))

  -- no more keys are filed than rows stand
  pub counts_few : (rows : List R) (filed : Filed) (d : ℕ) → AreFiled key rows filed → count_in d filed.entries ≤ length rows
  counts_few rows filed d h = omega (arith, h.counted d, count_by-le-length (files filed d) rows)

  -- where no key of its digest is filed, a key has no row
  pub not_filed : (rows : List R) (filed : Filed) (k : TransactionKey) → AreFiled key rows filed → count_in (digest_of filed.secret k) filed.entries ≡ 0
      → position (has k) rows ≡ None
  not_filed rows filed k h none = nowhere (has k) rows (λ i x lt. by_test i x lt (has k (get_or rows i x)) refl) where
    by_test : (i : ℕ) (x : R) → i < length rows → (t : Bool) → has k (get_or rows i x) ≡ t → t ≡ false
    by_test i x lt false is = refl
    by_test i x lt true is =
        let e : key (get_or rows i x) ≡ k = (decides (key (get_or rows i x)) k).0 is in
        let d : ℕ = digest_of filed.secret k in
        let here : digest_of filed.secret (key (get_or rows i x)) ≡ d = ap (digest_of filed.secret) e in
        let one : cond {A = ℕ} (files filed d (get_or rows i x)) 1 0 ≡ 1 = grind (arith, nat_tests, here) in
        absurd (omega (arith, get_or-le-sum_by (λ y. cond (files filed d y) 1 0) rows i x lt, one, none, h.counted d))

  -- a row that has a key is the first one that has it
  pub place_of : (rows : List R) (filed : Filed) (i : ℕ) (r : R) (k : TransactionKey) → AreFiled key rows filed → slice_get rows i ≡ Some r → same_key (key r) k ≡ true
      → position (has k) rows ≡ Some i
  place_of rows filed i r k h at passes =
      let e : key r ≡ k = (decides (key r) k).0 passes in
      let is : get_or rows i r ≡ r = get_or_from_slice_get rows i r r at in
      first_at (has k) rows i r at passes (λ j lt. ap (same_key (key (get_or rows j r))) (sym (ap key is ∙ e)) ∙ h.apart j i r lt (slice_get_within rows i r at))

  -- a row that a CANCEL names counts under the digest that it knows
  named_counts : (filed : Filed) (k : TransactionKey) (r : R) → is_cancelled_by k (key r) ≡ true → cond {A = ℕ} (files filed (named_digest filed.secret k) r) 1 0 ≡ 1
  named_counts filed k r is = let same : digest_of filed.secret (key r) ≡ named_digest filed.secret k = has_digest filed.secret k (key r) is in
      grind (arith, nat_tests, same)

  -- where no key of that digest is filed, no row is named
  pub none_named : (rows : List R) (filed : Filed) (k : TransactionKey) → AreFiled key rows filed → count_in (named_digest filed.secret k) filed.entries ≡ 0
      → position (λ r. is_cancelled_by k (key r)) rows ≡ None
  none_named rows filed k h none = nowhere (λ r. is_cancelled_by k (key r)) rows (λ i x lt. by_test i x lt (is_cancelled_by k (key (get_or rows i x))) refl) where
    by_test : (i : ℕ) (x : R) → i < length rows → (t : Bool) → is_cancelled_by k (key (get_or rows i x)) ≡ t → t ≡ false
    by_test i x lt false is = refl
    by_test i x lt true is =
        let d : ℕ = named_digest filed.secret k in
        absurd (omega (arith, get_or-le-sum_by (λ y. cond (files filed d y) 1 0) rows i x lt, named_counts filed k (get_or rows i x) is, none, h.counted d))

  -- where one key of that digest is filed, a row that is named is the only one
  pub named_alone : (rows : List R) (filed : Filed) (i : ℕ) (r : R) (k : TransactionKey) → AreFiled key rows filed
      → count_in (named_digest filed.secret k) filed.entries ≡ 1
      → slice_get rows i ≡ Some r → is_cancelled_by k (key r) ≡ true → position (λ x. is_cancelled_by k (key x)) rows ≡ Some i
  named_alone rows filed i r k h one at passes =
      first_at (λ x. is_cancelled_by k (key x)) rows i r at passes (λ j lt. by_test j lt (is_cancelled_by k (key (get_or rows j r))) refl)
    where
      d : ℕ
      d = named_digest filed.secret k

      within : i < length rows
      within = slice_get_within rows i r at

      by_test : (j : ℕ) → j < i → (t : Bool) → is_cancelled_by k (key (get_or rows j r)) ≡ t → t ≡ false
      by_test j lt false is = refl
      by_test j lt true is =
          let there : get_or (remove rows i) j r ≡ get_or rows j r = get_or-remove_below rows i r j lt within in
          let second : cond {A = ℕ} (files filed d (get_or (remove rows i) j r)) 1 0 ≡ 1 =
          ap (λ (x : R). cond {A = ℕ} (files filed d x) 1 0) there ∙ named_counts filed k (get_or rows j r) is in
          let first : cond {A = ℕ} (files filed d (get_or rows i r)) 1 0 ≡ 1 =
          ap (λ (x : R). cond {A = ℕ} (files filed d x) 1 0) (get_or_from_slice_get rows i r r at) ∙ named_counts filed k r passes in
          let inside : j < length (remove rows i) = omega (arith, lt, within, length-remove rows i within) in
          absurd (omega (
            arith,
            sum_by-remove (λ x. cond (files filed d x) 1 0) rows i r within,
            get_or-le-sum_by (λ x. cond (files filed d x) 1 0) (remove rows i) j r inside,
            first,
            second,
            one,
            h.counted d,
          ))

  -- one row more
  pub pushed : (rows : List R) (old new : Filed) (row : R) → AreFiled key rows old → position (has (key row)) rows ≡ None → new.secret ≡ old.secret
      → ((d : ℕ) → count_in d new.entries ≡ count_in d old.entries + (if digest_of old.secret (key row) == d then 1 else 0))
      → new.digests ≡ old.digests ++ digest_of old.secret (key row) ∷ []
      → AreFiled key (rows ++ row ∷ []) new
  pushed rows old new row h alone same counts more = record {
    apart = all_pairs_push Apart rows row h.apart (λ k d lt. none_passes (has (key row)) rows alone k d lt);
    counted = λ d. rw same (omega (arith, sum_by_push (λ r. cond (files old d r) 1 0) rows row, h.counted d, counts d));
    digested = rw same (more ∙ (ap (λ ds. ds ++ digest_of old.secret (key row) ∷ []) h.digested ∙ sym (map-append (λ r. digest_of old.secret (key r)) rows (row ∷ []))));
  }

  -- as many keys of each digest, in another order
  pub kept : (rows : List R) (old new : Filed) → AreFiled key rows old → new.secret ≡ old.secret → ((d : ℕ) → count_in d new.entries ≡ count_in d old.entries)
      → new.digests ≡ old.digests → AreFiled key rows new
  kept rows old new h same counts stay = record {
    apart = h.apart;
    counted = λ d. rw same (h.counted d ∙ sym (counts d));
    digested = rw same (stay ∙ h.digested);
  }

  -- another row in the place of one with its key
  pub replaced : (rows : List R) (filed : Filed) (i : ℕ) (r row : R) → AreFiled key rows filed → slice_get rows i ≡ Some r → key row ≡ key r
      → AreFiled key (set rows i row) filed
  replaced rows filed i r row h at same = record {
    apart = all_pairs_set Apart rows i r row at (λ a differ. ap (same_key (key a)) same ∙ differ) (λ b differ. ap (λ k. same_key k (key b)) same ∙ differ) h.apart;
    counted = λ d.
        let within = slice_get_within rows i r at in
        let was : cond {A = ℕ} (files filed d (get_or rows i r)) 1 0 ≡ cond {A = ℕ} (files filed d r) 1 0 =
        ap (λ (x : R). cond {A = ℕ} (files filed d x) 1 0) (get_or_from_slice_get rows i r r at) in
        let is : cond {A = ℕ} (files filed d row) 1 0 ≡ cond {A = ℕ} (files filed d r) 1 0 =
        ap (λ (k : TransactionKey). cond {A = ℕ} (digest_of filed.secret k == d) 1 0) same in
        omega (arith, sum_by-set (λ x. cond (files filed d x) 1 0) rows i row r within, was, is, h.counted d);
    digested = h.digested ∙ sym (map-set_same (λ x. digest_of filed.secret (key x)) rows i r row at (ap (digest_of filed.secret) same));
  }

  -- one row less
  pub removed : (rows : List R) (old new : Filed) (i : ℕ) (r : R) → AreFiled key rows old → slice_get rows i ≡ Some r → new.secret ≡ old.secret
      → ((d : ℕ) → count_in d old.entries ≡ count_in d new.entries + (if digest_of old.secret (key r) == d then 1 else 0))
      → new.digests ≡ remove old.digests i
      → AreFiled key (remove rows i) new
  removed rows old new i r h at same counts less = record {
    apart = all_pairs_remove Apart rows i (slice_get_within rows i r at) h.apart;
    counted = λ d.
        let within = slice_get_within rows i r at in
        let was : cond {A = ℕ} (files old d (get_or rows i r)) 1 0 ≡ cond {A = ℕ} (files old d r) 1 0 =
        ap (λ (x : R). cond {A = ℕ} (files old d x) 1 0) (get_or_from_slice_get rows i r r at) in
        rw same (omega (arith, sum_by-remove (λ x. cond (files old d x) 1 0) rows i r within, was, h.counted d, counts d));
    digested = rw same (less ∙ (ap (λ ds. remove ds i) h.digested ∙ sym (remove-map (λ x. digest_of old.secret (key x)) rows i)));
  }

  -- the digest of a row's key
  pub digest_at : (rows : List R) (filed : Filed) (i : ℕ) (r : R) (d : ℕ) → AreFiled key rows filed → slice_get rows i ≡ Some r → slice_get filed.digests i ≡ Some d
      → d ≡ digest_of filed.secret (key r)
  digest_at rows filed i r d h at is =
      let seen : slice_get filed.digests i ≡ Some (digest_of filed.secret (key r)) =
      ap (λ ds. slice_get ds i) h.digested ∙ (slice_get-map (λ x. digest_of filed.secret (key x)) rows i ∙ ap (option_map (λ x. digest_of filed.secret (key x))) at) in
      same_Some d (digest_of filed.secret (key r)) (sym is ∙ seen)

  -- as many digests as rows
  pub as_many : (rows : List R) (filed : Filed) → AreFiled key rows filed → length filed.digests ≡ length rows
  as_many rows filed h = ap length h.digested ∙ length-map rows (λ r. digest_of filed.secret (key r))

  -- whose key no other row has
  pub closed : (rows : List R) (filed : Filed) (i : ℕ) (r : R) → AreFiled key rows filed → slice_get rows i ≡ Some r → position (has (key r)) (remove rows i) ≡ None
  closed rows filed i r h at =
      nowhere (has (key r)) (remove rows i) (λ k d lt. by_place k d lt (cases_lt k i))
    where
      by_place : (k : ℕ) (d : R) → k < length (remove rows i) → (k < i) ⊎ (i ≤ k) → has (key r) (get_or (remove rows i) k d) ≡ false
      by_place k d lt (inl before) =
          let there = get_or-remove_below rows i d k before (slice_get_within rows i r at) in
          ap (has (key r)) there ∙ ap (same_key (key (get_or rows k d))) (sym (ap key (get_or_from_slice_get rows i r d at)))
          ∙ h.apart k i d before (slice_get_within rows i r at)
      by_place k d lt (inr behind) =
          let there = get_or-remove_above rows i d k behind (slice_get_within rows i r at) in
          let apart = h.apart i (k + 1) d (omega (arith, behind)) (omega (arith, lt, length-remove rows i (slice_get_within rows i r at))) in
          ap (has (key r)) there ∙ turned (key r) (key (get_or rows (k + 1) d)) (ap (λ (x : R). same_key (key x) (key (get_or rows (k + 1) d)))
          (sym (get_or_from_slice_get rows i r d at)) ∙ apart)
