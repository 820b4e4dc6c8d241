-- A table has one row of a name at most, and its digest leads to it.
use Rattle.std.proofs.Common.{◌≡◌, ℕ, zero, suc, ◌+◌, ◌≤◌, ◌<◌, List, [], ◌∷◌, length, map, cond, Bool, true, false, refl, sym, ◌∙◌, ap, ap₂, subst, arith, slice_get}
use Rattle.std.proofs.Common.{get_or, position, Option, None, Some, option_map, eq-eqb}
use Rattle.std.specs.List.{position_or_len}
use Rattle.std.specs.Prelude.{◌&&◌, not, count_by, nat_eq, nat_lt, fold, MatchOption}
use Rattle.std.proofs.lemmas.Bool.Decides.{nat_tests}
use Rattle.std.proofs.lemmas.List.{length-map}
use Rattle.std.proofs.lemmas.List.Quantifiers.{position-Some}
use Rattle.std.proofs.lemmas.List.Sums.{fails_before_first}
use Rattle.std.proofs.lemmas.Option.{slice_get_within, slice_get-map, slice_get-get_or, same_Some}
use Rattle.sip_base.specs.WordHasher as sip
use Rattle.sip_base.specs.declared.word_hasher.WordHasher.{WordHasher}
use Rattle.sip_dialog.specs.declared.dialog.DialogId.{DialogId}
use Rattle.sip_dialog.specs.declared.dialog_state.DialogState.{DialogState}
use Rattle.sip_dialog.specs.Digests.{StandsOnce, IsPlace}
use Rattle.sip_dialog.specs.Naming.{digest_of}
use Rattle.sip_dialog.specs.SameNames.{fed_alike}
use Rattle.sip_dialog.specs.Rows.{names, AreNamed, StandsAt, StandsNowhere}
use Rattle.sip_dialog.proofs.Sameness.{count_first, count_map, count_alike, split_by, counted_at}

abbrev pub Row : Type 0
Row = DialogId × DialogState

pub and_turned : (x y : Bool) → (x && y) ≡ (y && x)
and_turned true true = refl
and_turned true false = refl
and_turned false true = refl
and_turned false false = refl

none_there : (p : Row → Bool) (rows : List Row) → ((k : ℕ) (d : Row) → k < length rows → p (get_or rows k d) ≡ false) → count_by p rows ≡ 0
none_there p [] h = refl
none_there p (r ∷ rows) h =
    let here : cond {A = ℕ} (p r) 1 0 ≡ 0 = ap (λ (b : Bool). cond {A = ℕ} b 1 0) (h zero r (omega arith)) in
    omega (arith, count_first p r rows, here, none_there p rows (λ k d lt. h (suc k) d (omega (arith, lt))))

place_read : (p : Row → Bool) (rows : List Row) (at : ℕ) → position p rows ≡ Some at → (row : Row) × (slice_get rows at ≡ Some row) × (p row ≡ true)
place_read p [] at e = absurd (cc)
place_read p (r ∷ rows) at e = let is = position-Some p (r ∷ rows) at r e in (get_or (r ∷ rows) at r, slice_get-get_or (r ∷ rows) at r is.0, is.1)

module _ (id : DialogId) (rows : List Row) where
  -- the rows of a name, by a further test
  split : (test : Row → Bool) → count_by (λ r. names id r.0) rows ≡ count_by (λ r. names id r.0 && test r) rows + count_by (λ r. names id r.0 && not (test r)) rows
  split test =
      let one = count_alike (λ (r : Row). test r && names id r.0) (λ r. names id r.0 && test r) rows (λ r. and_turned (test r) (names id r.0)) in
      let other = count_alike (λ (r : Row). not (test r) && names id r.0) (λ r. names id r.0 && not (test r)) rows (λ r. and_turned (not (test r)) (names id r.0)) in
      omega (arith, split_by test (λ r. names id r.0) rows, one, other)

  stands_nowhere : count_by (λ r. names id r.0) rows ≡ 0 → StandsNowhere id rows
  stands_nowhere h = record { none = λ test. omega (arith, split test, h) }

  stands_at : count_by (λ r. names id r.0) rows ≤ 1 → (at : ℕ) (row : Row) → slice_get rows at ≡ Some row → names id row.0 ≡ true → StandsAt id rows at
  stands_at once at row there named = record { row = row; there = there; named = named; alone = λ test. by_test test (test row) refl } where
    by_test : (test : Row → Bool) (t : Bool) → test row ≡ t → count_by (λ r. names id r.0 && test r) rows ≡ cond (test row) 1 0
    by_test test true is =
        let here : cond {A = ℕ} (names id row.0 && test row) 1 0 ≡ 1 = rw (named, is) refl in
        let one : cond {A = ℕ} (test row) 1 0 ≡ 1 = rw is refl in
        omega (arith, split test, once, counted_at (λ r. names id r.0 && test r) rows at row there, here, one)
    by_test test false is =
        let here : cond {A = ℕ} (names id row.0 && not (test row)) 1 0 ≡ 1 = rw (named, is) refl in
        let none : cond {A = ℕ} (test row) 1 0 ≡ 0 = rw is refl in
        omega (arith, split test, once, counted_at (λ r. names id r.0 && not (test r)) rows at row there, here, none)

  -- what a search among all finds
  pub searched : count_by (λ r. names id r.0) rows ≤ 1 → MatchOption (position (λ r. names id r.0) rows) (StandsNowhere id rows) (StandsAt id rows)
  searched once = by_place (position (λ (r : Row). names id r.0) rows) refl where
    past_all : (n len : ℕ) → cond (nat_lt n len) (Some n) None ≡ None → len ≤ n
    past_all n len e = grind (arith, nat_tests)

    by_place : (o : Option ℕ) → position (λ (r : Row). names id r.0) rows ≡ o → MatchOption o (StandsNowhere id rows) (StandsAt id rows)
    by_place None e =
        let all = past_all (position_or_len (λ (r : Row). names id r.0) rows) (length rows) e in
        stands_nowhere (none_there (λ r. names id r.0) rows (λ k d lt. fails_before_first (λ (r : Row). names id r.0) rows k d (omega (arith, all, lt))))
    by_place (Some at) e = let read = place_read (λ (r : Row). names id r.0) rows at e in stands_at once at read.0 read.1 read.2

-- what stands at an index stands within
pub within : {id : DialogId} {rows : List Row} {at : ℕ} → StandsAt id rows at → at < length rows
within {id} {rows} {at} h = slice_get_within rows at h.row h.there

-- ---- by its digest

alike_digests : (secret : WordHasher) (id stored : DialogId) → names id stored ≡ true → nat_eq (digest_of secret id) (digest_of secret stored) ≡ true
unfolding digest_of
alike_digests secret id stored e = eq-eqb _ _ (ap (λ (fed : List (List ℕ)). sip.finish (fold sip.write secret fed)) (fed_alike id stored e))

module _ (secret : WordHasher) (id : DialogId) (rows : List Row) where
  -- the rows of a name's digest: those of the name, and others
  digest_counts : count_by (nat_eq (digest_of secret id)) (map (λ (r : Row). digest_of secret r.0) rows)
      ≡ count_by (λ r. names id r.0) rows + count_by (λ r. not (names id r.0) && nat_eq (digest_of secret id) (digest_of secret r.0)) rows
  digest_counts =
      let own = count_alike (λ (r : Row). names id r.0 && nat_eq (digest_of secret id) (digest_of secret r.0)) (λ r. names id r.0) rows
      (λ r. both (names id r.0) _ (alike_digests secret id r.0)) in
      omega (
        arith,
        count_map (nat_eq (digest_of secret id)) (λ (r : Row). digest_of secret r.0) rows,
        split_by (λ r. names id r.0) (λ r. nat_eq (digest_of secret id) (digest_of secret r.0)) rows,
        own,
      )
    where
      both : (a b : Bool) → (a ≡ true → b ≡ true) → (a && b) ≡ a
      both true b h = h refl
      both false b h = refl

  -- what the digests say of it
  module _ (digests : List ℕ) (d : ℕ) (named : AreNamed secret digests rows) (is_digest : d ≡ digest_of secret id) where
    once : (o : Option ℕ) → IsPlace d digests o → IsPlace (digest_of secret id) (map (λ (r : Row). digest_of secret r.0) rows) o
    once o is = subst (λ (l : List ℕ). IsPlace (digest_of secret id) l o) named.digested (subst (λ (n : ℕ). IsPlace n digests o) is_digest is)

    -- where it is nowhere
    pub digest_nowhere : count_by (nat_eq d) digests ≡ 0 → StandsNowhere id rows
    digest_nowhere none = stands_nowhere id rows (omega (arith, digest_counts, once None none))

    module _ (at : ℕ) (is : StandsOnce d digests at) where
      pub digest_within : at < length rows
      digest_within = omega (
        arith,
        slice_get_within digests at d is.there,
        ap (λ (l : List ℕ). length l) named.digested,
        length-map rows (λ (r : Row). digest_of secret r.0),
      )

      -- where the row of this digest has the name
      pub digest_there : (row : Row) → slice_get rows at ≡ Some row → names id row.0 ≡ true → StandsAt id rows at
      digest_there row there own = stands_at id rows (omega (arith, digest_counts, (once (Some at) is).once)) at row there own

      -- and where it has another
      pub digest_of_another : (row : Row) → slice_get rows at ≡ Some row → names id row.0 ≡ false → StandsNowhere id rows
      digest_of_another row there other =
          let digest : Some (digest_of secret row.0) ≡ Some (digest_of secret id) =
          sym (slice_get-map (λ (r : Row). digest_of secret r.0) rows at ∙ ap (λ (o : Option Row). option_map (λ (r : Row). digest_of secret r.0) o) there)
          ∙ (once (Some at) is).there in
          let same : nat_eq (digest_of secret id) (digest_of secret row.0) ≡ true = eq-eqb _ _ (sym (same_Some _ _ digest)) in
          let here : cond {A = ℕ} (not (names id row.0) && nat_eq (digest_of secret id) (digest_of secret row.0)) 1 0 ≡ 1 =
          ap₂ (λ (a b : Bool). cond {A = ℕ} (not a && b) 1 0) other same in
          stands_nowhere id rows
          (omega (
            arith,
            digest_counts,
            (once (Some at) is).once,
            counted_at (λ (r : Row). not (names id r.0) && nat_eq (digest_of secret id) (digest_of secret r.0)) rows
                at row there,
            here,
          ))
