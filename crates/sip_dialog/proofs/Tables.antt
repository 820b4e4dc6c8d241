-- What the rows of a table say of the dialogs that are known.
use Rattle.std.proofs.Common.{◌≡◌, ℕ, ◌+◌, ◌≤◌, ◌<◌, List, [], ◌∷◌, ◌++◌, length, cond, ltb, Bool, true, false, refl, sym, subst, ◌∙◌, ap, ap₂, arith, map, slice_get}
use Rattle.std.proofs.Common.{get_or, Some, swap, set, length-append}
use Rattle.std.specs.Prelude.{◌&&◌, not, count_by, nat_le, nat_lt, if◌then◌else◌, IfErr, OnOk, Result, Ok, Err, ◌↔◌}
use Rattle.std.specs.List.{list_any}
use Rattle.std.proofs.lemmas.Bool.Decides.{nat_tests}
use Rattle.std.proofs.lemmas.List.Sums.{sum_by-set}
use Rattle.std.proofs.lemmas.Option.{slice_get_within, slice_get-get_or, get_or_from_slice_get}
use Rattle.sip_uri.specs.declared.addr.Addr.{Addr}
use Rattle.sip_dialog.specs.declared.dialog.DialogId.{DialogId}
use Rattle.sip_dialog.specs.declared.dialog.Dialog.{Dialog}
use Rattle.sip_dialog.specs.declared.dialog.InviteAnswer.{InviteAnswer}
use Rattle.sip_dialog.specs.declared.error.DialogError.{DialogError}
use Rattle.sip_dialog.specs.declared.error.DialogError.TheVariants.{NoMemory, Full}
use Rattle.sip_dialog.specs.declared.dialog_state.DialogState.{DialogState}
use Rattle.sip_dialog.specs.Addresses.{is_same_addr}
use Rattle.sip_dialog.specs.Dialogs.{is_known, known, is_named, holds, is_in_dialog, edited, learnt, knows, is_full_for, answered_again, begun, without_dialog}
use Rattle.sip_dialog.specs.Rows.{names, dialog_of, dialogs_in, is_recent, StandsAt, StandsNowhere, IsKnownAt, IsTakenOut}
use Rattle.sip_dialog.specs.Sameness.{SameDialogs}
use Rattle.sip_dialog.proofs.Alone.{Row, and_turned}
use Rattle.sip_dialog.proofs.Places.{count_swapped}
use Rattle.sip_dialog.proofs.Sameness.{count_first, count_filter, count_map, any_counts, count_joined, count_alike, length_same, length_counts, split_by, dialogs_joined}
use Rattle.sip_dialog.proofs.Sameness.{edited_same}

-- the dialog of a row
abbrev pub dialog : Row → Dialog
dialog r = dialog_of r.0 r.1

-- what is known, counted by rows
pub counted : (now : ℕ) (q : Dialog → Bool) (rows : List Row) → count_by q (known now (dialogs_in rows)) ≡ count_by (λ r. is_recent now r.1 && q (dialog r)) rows
counted now q rows = count_filter q (is_known now) (dialogs_in rows) ∙ count_map (λ d. is_known now d && q d) dialog rows

-- what stands at an index
row_is : {id : DialogId} {rows : List Row} {at : ℕ} (h : StandsAt id rows at) (x : Row) → slice_get rows at ≡ Some x → h.row ≡ x
row_is {id} {rows} {at} h x e = let row : Some h.row ≡ Some x = sym h.there ∙ e in cc

-- what is read at an index
pub read_at : (rows all : List Row) (at : ℕ) (x : Row) → rows ≡ all → at < length all → x ≡ get_or rows at x → slice_get all at ≡ Some x
read_at rows all at x same lt e = slice_get-get_or all at x lt ∙ ap Some (ap (λ (l : List Row). get_or l at x) (sym same) ∙ sym e)

pub read_there : {id : DialogId} {all : List Row} {at : ℕ} (rows : List Row) (x : Row) → StandsAt id all at → rows ≡ all → x ≡ get_or rows at x
    → slice_get all at ≡ Some x
read_there {id} {all} {at} rows x h same e = read_at rows all at x same (slice_get_within all at h.row h.there) e

one_or_none : (b : Bool) → ltb 0 (cond b 1 0) ≡ b
one_or_none true = refl
one_or_none false = refl

and_between : (x y z : Bool) → (x && y && z) ≡ (y && (x && z))
and_between true y z = refl
and_between false true z = refl
and_between false false z = refl

-- lists that tests count the same of
pub same_counts : (now : ℕ) (left right : List Dialog) → ((p : Dialog → Bool) → count_by p left ≡ count_by p right) → SameDialogs now left right
same_counts now left right h = λ p. count_filter p (is_known now) left ∙ h (λ d. is_known now d && p d) ∙ sym (count_filter p (is_known now) right)

-- rows that change places say the same
pub swapped_same : (rows : List Row) (a b : ℕ) → a < length rows → b < length rows → (p : Dialog → Bool)
    → count_by p (dialogs_in (swap rows a b)) ≡ count_by p (dialogs_in rows)
swapped_same rows a b inside_a inside_b = λ p. count_map p dialog (swap rows a b) ∙ count_swapped rows a b inside_a inside_b (λ r. p (dialog r))
    ∙ sym (count_map p dialog rows)

-- ---- whether a request is in a dialog

in_dialog_counts : (now : ℕ) (rows : List Row) (id : DialogId) (address : Addr)
    → is_in_dialog now (dialogs_in rows) id address ≡ ltb 0 (count_by (λ r. names id r.0 && (is_recent now r.1 && holds address (dialog r))) rows)
in_dialog_counts now rows id address =
    any_counts (λ d. is_known now d && is_named id d && holds address d) (dialogs_in rows)
    ∙ ap (ltb 0) (count_map (λ d. is_known now d && is_named id d && holds address d) dialog rows
    ∙ count_alike _ _ rows (λ r. and_between (is_recent now r.1) (names id r.0) (holds address (dialog r))))

pub in_dialog_at : (now : ℕ) (rows : List Row) (id : DialogId) (address : Addr) (at : ℕ) (x : Row) → StandsAt id rows at → slice_get rows at ≡ Some x
    → (is_recent now x.1 && list_any (is_same_addr address) x.1.addresses) ≡ is_in_dialog now (dialogs_in rows) id address
in_dialog_at now rows id address at x h e =
    ap (λ (r : Row). is_recent now r.1 && list_any (is_same_addr address) r.1.addresses) (sym (row_is h x e))
    ∙ sym (one_or_none (is_recent now h.row.1 && holds address (dialog h.row)))
    ∙ sym (ap (ltb 0) (h.alone (λ r. is_recent now r.1 && holds address (dialog r))))
    ∙ sym (in_dialog_counts now rows id address)

pub in_no_dialog : (now : ℕ) (rows : List Row) (id : DialogId) (address : Addr) → StandsNowhere id rows → false ≡ is_in_dialog now (dialogs_in rows) id address
in_no_dialog now rows id address h = sym (in_dialog_counts now rows id address ∙ ap (ltb 0) (h.none (λ r. is_recent now r.1 && holds address (dialog r))))

-- ---- whether a dialog is known

knows_counts : (now : ℕ) (rows : List Row) (id : DialogId) → knows now id (dialogs_in rows) ≡ ltb 0 (count_by (λ r. names id r.0 && is_recent now r.1) rows)
knows_counts now rows id =
    any_counts (is_named id) (known now (dialogs_in rows))
    ∙ ap (ltb 0) (counted now (is_named id) rows ∙ count_alike _ _ rows (λ r. and_turned (is_recent now r.1) (names id r.0)))

pub knows_at : (now : ℕ) (rows : List Row) (id : DialogId) (at : ℕ) (x : Row) → StandsAt id rows at → slice_get rows at ≡ Some x
    → is_recent now x.1 ≡ knows now id (dialogs_in rows)
knows_at now rows id at x h e =
    ap (λ (r : Row). is_recent now r.1) (sym (row_is h x e))
    ∙ sym (one_or_none (is_recent now h.row.1))
    ∙ sym (ap (ltb 0) (h.alone (λ r. is_recent now r.1)))
    ∙ sym (knows_counts now rows id)

pub knows_none : (now : ℕ) (rows : List Row) (id : DialogId) → StandsNowhere id rows → false ≡ knows now id (dialogs_in rows)
knows_none now rows id h = sym (knows_counts now rows id ∙ ap (ltb 0) (h.none (λ r. is_recent now r.1)))

pub recent_there : (now : ℕ) (rows : List Row) (id : DialogId) (at : ℕ) (x : Row) → StandsAt id rows at → slice_get rows at ≡ Some x → is_recent now x.1 ≡ true
    → IsKnownAt now id rows at
recent_there now rows id at x h e recent = record { stands = h; recent = ap (λ (r : Row). is_recent now r.1) (row_is h x e) ∙ recent }

-- ---- rows that are taken out

-- one that isn't known any more
pub forgotten_same : (now : ℕ) (rows new : List Row) (id : DialogId) (at : ℕ) (x : Row) → StandsAt id rows at → slice_get rows at ≡ Some x → is_recent now x.1 ≡ false
    → IsTakenOut rows at new
    → SameDialogs now (dialogs_in new) (dialogs_in rows)
forgotten_same now rows new id at x h e past taken = λ p.
    let test : Row → Bool = λ r. is_recent now r.1 && p (dialog r) in
    let old : is_recent now h.row.1 ≡ false = ap (λ (r : Row). is_recent now r.1) (row_is h x e) ∙ past in
    let here : cond (test h.row) 1 0 ≡ 0 = ap (λ (b : Bool). cond {A = ℕ} (b && p (dialog h.row)) 1 0) old in
    omega (arith, counted now p new, counted now p rows, taken h.row h.there test, here)

-- and then no row has its name
pub forgotten_there : (rows new : List Row) (id : DialogId) (at : ℕ) → StandsAt id rows at → IsTakenOut rows at new → StandsNowhere id new
forgotten_there rows new id at h taken = record {
  none = λ test.
      let here : cond (names id h.row.0 && test h.row) 1 0 ≡ cond (test h.row) 1 0 = ap (λ (b : Bool). cond {A = ℕ} (b && test h.row) 1 0) h.named in
      omega (arith, taken h.row h.there (λ r. names id r.0 && test r), h.alone test, here);
}

pub moved : (x y z : Bool) → (x && (y && z)) ≡ (y && (x && z))
moved true y z = refl
moved false true z = refl
moved false false z = refl

pub again : (x y : Bool) → (x && (x && y)) ≡ (x && y)
again true y = refl
again false y = refl

-- a dialog that ends
without_counts : (now : ℕ) (rows : List Row) (id : DialogId) (p : Dialog → Bool)
    → count_by p (known now (without_dialog now id (dialogs_in rows))) ≡ count_by (λ r. not (names id r.0) && (is_recent now r.1 && p (dialog r))) rows
without_counts now rows id p =
    count_filter p (is_known now) (without_dialog now id (dialogs_in rows))
    ∙ count_filter (λ d. is_known now d && p d) (λ d. not (is_named id d)) (known now (dialogs_in rows))
    ∙ counted now (λ d. not (is_named id d) && (is_known now d && p d)) rows
    ∙ count_alike _ _ rows (λ r. by_tests (is_recent now r.1) (names id r.0) (p (dialog r)))
  where
    by_tests : (x y z : Bool) → (x && (not y && (x && z))) ≡ (not y && (x && z))
    by_tests true y z = refl
    by_tests false true z = refl
    by_tests false false z = refl

pub ended_same : (now : ℕ) (rows new : List Row) (id : DialogId) (at : ℕ) → StandsAt id rows at → IsTakenOut rows at new
    → SameDialogs now (dialogs_in new) (without_dialog now id (dialogs_in rows))
ended_same now rows new id at h taken = λ p.
    let test : Row → Bool = λ r. is_recent now r.1 && p (dialog r) in
    omega (arith, counted now p new, without_counts now rows id p, taken h.row h.there test, split_by (λ r. names id r.0) test rows, h.alone test)

pub ended_none : (now : ℕ) (rows : List Row) (id : DialogId) → StandsNowhere id rows → SameDialogs now (dialogs_in rows) (without_dialog now id (dialogs_in rows))
ended_none now rows id h = λ p.
    let test : Row → Bool = λ r. is_recent now r.1 && p (dialog r) in
    omega (arith, counted now p rows, without_counts now rows id p, split_by (λ r. names id r.0) test rows, h.none test)

-- ---- an edit

pub put_in : (test : Row → Bool) (rows : List Row) (at : ℕ) (x y : Row) → slice_get rows at ≡ Some x
    → count_by test (set rows at y) + cond (test x) 1 0 ≡ count_by test rows + cond (test y) 1 0
put_in test rows at x y there =
    let is : cond {A = ℕ} (test (get_or rows at x)) 1 0 ≡ cond {A = ℕ} (test x) 1 0 =
    ap (λ (r : Row). cond {A = ℕ} (test r) 1 0) (get_or_from_slice_get rows at x x there) in
    omega (arith, sum_by-set (λ r. cond {A = ℕ} (test r) 1 0) rows at y x (slice_get_within rows at x there), is)

module _ (now : ℕ) (id : DialogId) (edit : Dialog → Dialog) where
  -- a dialog after the edit
  abbrev one : Dialog → Dialog
  one d = if is_named id d then edit d else d

  edited_counts : (rows : List Row) (p : Dialog → Bool) → count_by p (known now (edited now id edit (dialogs_in rows)))
      ≡ count_by (λ r. is_recent now r.1 && (is_known now (one (dialog r)) && p (one (dialog r)))) rows
  edited_counts rows p =
      count_filter p (is_known now) (map one (known now (dialogs_in rows)))
      ∙ count_map (λ d. is_known now d && p d) one (known now (dialogs_in rows))
      ∙ counted now (λ d. is_known now (one d) && p (one d)) rows

  -- rows of other names stay
  others_stay : (p : Dialog → Bool) (r : Row)
      → (not (names id r.0) && (is_recent now r.1 && (is_known now (one (dialog r)) && p (one (dialog r))))) ≡ (not (names id r.0) && (is_recent now r.1 && p (dialog r)))
  others_stay p r = by_test (names id r.0) where
    by_test : (b : Bool) → (not b && (is_recent now r.1 && (is_known now (if b then edit (dialog r) else dialog r) && p (if b then edit (dialog r) else dialog r))))
        ≡ (not b && (is_recent now r.1 && p (dialog r)))
    by_test true = refl
    by_test false = again (is_recent now r.1) (p (dialog r))

  pub edited_at : (rows : List Row) (at : ℕ) (x : Row) (w : DialogState) → StandsAt id rows at → slice_get rows at ≡ Some x → is_recent now x.1 ≡ true
      → ((k : DialogId) → dialog_of k w ≡ edit (dialog_of k x.1))
      → SameDialogs now (dialogs_in (set rows at (x.0, w))) (edited now id edit (dialogs_in rows))
  edited_at rows at x w h e recent makes = λ p.
      let before : Row → Bool = λ r. is_recent now r.1 && p (dialog r) in
      let after : Row → Bool = λ r. is_recent now r.1 && (is_known now (one (dialog r)) && p (one (dialog r))) in
      let rest = count_alike (λ r. not (names id r.0) && after r) (λ r. not (names id r.0) && before r) rows (others_stay p) in
      let named : names id x.0 ≡ true = ap (λ (r : Row). names id r.0) (sym (row_is h x e)) ∙ h.named in
      let made : one (dialog x) ≡ dialog_of x.0 w = ap (λ (b : Bool). if b then edit (dialog x) else dialog x) named ∙ sym (makes x.0) in
      let same : after x ≡ before (x.0, w) =
      ap (λ (b : Bool). b && (is_known now (one (dialog x)) && p (one (dialog x)))) recent ∙ ap (λ (d : Dialog). is_known now d && p d) made in
      let here : cond {A = ℕ} (after h.row) 1 0 ≡ cond {A = ℕ} (before (x.0, w)) 1 0 = ap (λ (r : Row). cond {A = ℕ} (after r) 1 0) (row_is h x e)
      ∙ ap (λ (b : Bool). cond {A = ℕ} b 1 0) same in
      let was : cond {A = ℕ} (before h.row) 1 0 ≡ cond {A = ℕ} (before x) 1 0 = ap (λ (r : Row). cond {A = ℕ} (before r) 1 0) (row_is h x e) in
      omega (
        arith,
        counted now p (set rows at (x.0, w)),
        edited_counts rows p,
        put_in before rows at x (x.0, w) e,
        split_by (λ r. names id r.0) before rows,
        split_by (λ r. names id r.0) after rows,
        h.alone before,
        h.alone after,
        rest,
        here,
        was,
      )

  -- where the dialog isn't known nothing changes
  unknown_stay : (ds : List Dialog) (p : Dialog → Bool) → count_by (is_named id) ds ≡ 0 → count_by (λ d. p (one d)) ds ≡ count_by p ds
  unknown_stay [] p h = refl
  unknown_stay (d ∷ ds) p h = by_test (is_named id d) refl (unknown_stay ds p) where
    by_test : (b : Bool) → is_named id d ≡ b → (count_by (is_named id) ds ≡ 0 → count_by (λ d. p (one d)) ds ≡ count_by p ds)
        → count_by (λ d. p (one d)) (d ∷ ds) ≡ count_by p (d ∷ ds)
    by_test true is rest =
        let here : cond (is_named id d) 1 0 ≡ 1 = ap (λ (b : Bool). cond {A = ℕ} b 1 0) is in
        absurd (omega (arith, count_first (is_named id) d ds, h, here))
    by_test false is rest =
        let none : count_by (is_named id) ds ≡ 0 = omega (arith, count_first (is_named id) d ds, h) in
        let here : cond (p (one d)) 1 0 ≡ cond (p d) 1 0 = ap (λ (b : Bool). cond {A = ℕ} (p (if b then edit d else d)) 1 0) is in
        omega (arith, count_first (λ d. p (one d)) d ds, count_first p d ds, rest none, here)

  no_more : (n : ℕ) → ltb 0 n ≡ false → n ≡ 0
  no_more n e = grind (arith, nat_tests)

  pub edited_unknown : (ds : List Dialog) → false ≡ knows now id ds → SameDialogs now ds (edited now id edit ds)
  edited_unknown ds h = λ p.
      let none : count_by (is_named id) (known now ds) ≡ 0 = no_more (count_by (is_named id) (known now ds)) (sym (h ∙ any_counts (is_named id) (known now ds))) in
      count_filter p (is_known now) ds
      ∙ sym (count_alike _ _ ds (λ d. again (is_known now d) (p d)))
      ∙ sym (count_filter (λ d. is_known now d && p d) (is_known now) ds)
      ∙ sym (unknown_stay (known now ds) (λ d. is_known now d && p d) none)
      ∙ sym (count_map (λ d. is_known now d && p d) one (known now ds))
      ∙ sym (count_filter p (is_known now) (map one (known now ds)))

-- an edit of the row that was met, and none where none was
pub edit_met : (now : ℕ) (id : DialogId) (edit : Dialog → Dialog) (old rows : List Row) (at : ℕ) (x : Row) (w : DialogState)
    → SameDialogs now (dialogs_in rows) (dialogs_in old) → IsKnownAt now id rows at
    → slice_get rows at ≡ Some x → ((k : DialogId) → dialog_of k w ≡ edit (dialog_of k x.1))
    → SameDialogs now (dialogs_in (set rows at (x.0, w))) (edited now id edit (dialogs_in old))
edit_met now id edit old rows at x w same h e makes =
    dialogs_joined now _ _ _ (edited_at now id edit rows at x w h.stands e (sym (ap (λ (r : Row). is_recent now r.1) (row_is h.stands x e)) ∙ h.recent) makes)
    (edited_same now id edit (dialogs_in rows) (dialogs_in old) same)

pub edit_missed : (now : ℕ) (id : DialogId) (edit : Dialog → Dialog) (old rows : List Row) → SameDialogs now (dialogs_in rows) (dialogs_in old)
    → false ≡ knows now id (dialogs_in old)
    → SameDialogs now (dialogs_in rows) (edited now id edit (dialogs_in old))
edit_missed now id edit old rows same unknown = dialogs_joined now _ _ _ same (edited_unknown now id edit (dialogs_in old) unknown)

-- ---- a dialog that becomes known

known_le : (now : ℕ) (ds : List Dialog) → length (known now ds) ≤ length ds
known_le now [] = omega arith
known_le now (d ∷ ds) = by_test (is_known now d) (known_le now ds) where
  by_test : (b : Bool) → length (known now ds) ≤ length ds → length (cond b (d ∷ known now ds) (known now ds)) ≤ length (d ∷ ds)
  by_test true le = omega (arith, le)
  by_test false le = omega (arith, le)

rows_len : (rows : List Row) → length (dialogs_in rows) ≡ length rows
rows_len [] = refl
rows_len (r ∷ rows) = omega (arith, rows_len rows)

below : (n : ℕ) → n < 4096 → true ≡ not (nat_le 4096 n)
below n lt = grind (arith, nat_tests)

turned_limit : (n : ℕ) → nat_lt n 4096 ≡ not (nat_le 4096 n)
turned_limit n = grind (arith, nat_tests)

-- fewer rows than may stand
pub place_free : (now : ℕ) (rows : List Row) → length rows < 4096 → true ≡ not (nat_le 4096 (length (known now (dialogs_in rows))))
place_free now rows lt = below (length (known now (dialogs_in rows))) (omega (arith, known_le now (dialogs_in rows), rows_len rows, lt))

-- and where none is left that isn't known
pub place_after : (now : ℕ) (old rows : List Row) → ((p : Dialog → Bool) → count_by p (dialogs_in rows) ≡ count_by p (known now (dialogs_in old)))
    → nat_lt (length rows) 4096 ≡ not (nat_le 4096 (length (known now (dialogs_in old))))
place_after now old rows h =
    let long : length rows ≡ length (known now (dialogs_in old)) = sym (rows_len rows) ∙ length_counts (dialogs_in rows) ∙ h (λ d. true)
    ∙ sym (length_counts (known now (dialogs_in old))) in
    ap (λ (n : ℕ). nat_lt n 4096) long ∙ turned_limit (length (known now (dialogs_in old)))

pub known_same : (now : ℕ) (old rows : List Dialog) → ((p : Dialog → Bool) → count_by p rows ≡ count_by p (known now old)) → SameDialogs now rows old
known_same now old rows h = λ p.
    count_filter p (is_known now) rows
    ∙ h (λ d. is_known now d && p d)
    ∙ count_filter (λ d. is_known now d && p d) (is_known now) old
    ∙ count_alike _ _ old (λ d. again (is_known now d) (p d))
    ∙ sym (count_filter p (is_known now) old)

-- one more row
pub row_added : (rows : List Row) (row : Row) → dialogs_in (rows ++ row ∷ []) ≡ dialogs_in rows ++ dialog row ∷ []
row_added [] row = refl
row_added (r ∷ rows) row = ap (λ rest. dialog r ∷ rest) (row_added rows row)

pub added_len : (rows new : List Row) (row : Row) → new ≡ rows ++ row ∷ [] → length new ≡ length rows + 1
added_len rows new row e = omega (arith, ap (λ (rs : List Row). length rs) e, length-append rows (row ∷ []))

one_more_same : (now : ℕ) (new old more : List Dialog) → SameDialogs now new old → SameDialogs now (new ++ more) (known now old ++ more)
one_more_same now new old more same = λ p.
    let test : Dialog → Bool = λ d. is_known now d && p d in
    let left = count_filter p (is_known now) (new ++ more) ∙ count_joined test new more in
    let right = count_filter p (is_known now) (known now old ++ more) ∙ count_joined test (known now old) more in
    let again_known = count_filter test (is_known now) old ∙ count_alike _ _ old (λ d. again (is_known now d) (p d)) in
    let same_p : count_by test new ≡ count_by test old = sym (count_filter p (is_known now) new) ∙ same p ∙ count_filter p (is_known now) old in
    omega (arith, left, right, again_known, same_p)

-- the dialog that an answer makes known
pub begun_same : (now : ℕ) (a : InviteAnswer) (old new : List Dialog) → SameDialogs now new old → false ≡ knows now a.id old
    → true ≡ not (nat_le 4096 (length (known now new)))
    → SameDialogs now (new ++ begun a ∷ []) (learnt now a old)
begun_same now a old new same unknown place =
    subst (λ (ds : List Dialog). SameDialogs now (new ++ begun a ∷ []) ds) (sym learns) (one_more_same now new old (begun a ∷ []) same) where
      few : (b : Bool) → true ≡ not b → b ≡ false
      few false e = refl
      few true e = absurd (cc)

      learns : learnt now a old ≡ known now old ++ begun a ∷ []
      learns = ap₂ (λ (known_there full : Bool). if known_there then edited now a.id (answered_again a) old else
          (if not known_there && full then known now old else known now old ++ begun a ∷ [])) (sym unknown)
          (ap (nat_le 4096) (sym (length_same now new old same)) ∙ few _ place)

-- a dialog that was known
pub met_again : (now : ℕ) (a : InviteAnswer) (old new : List Dialog) → true ≡ knows now a.id old → SameDialogs now new (edited now a.id (answered_again a) old)
    → SameDialogs now new (learnt now a old)
met_again now a old new there same = subst (λ (ds : List Dialog). SameDialogs now new ds) (sym learns) same where
  learns : learnt now a old ≡ edited now a.id (answered_again a) old
  learns = ap (λ (known_there : Bool). if known_there then edited now a.id (answered_again a) old else
      (if not known_there && nat_le 4096 (length (known now old)) then known now old else known now old ++ begun a ∷ [])) (sym there)

-- whether there is a place
pub place_kept : (now : ℕ) (old new : List Dialog) → SameDialogs now new old → true ≡ not (nat_le 4096 (length (known now old)))
    → true ≡ not (nat_le 4096 (length (known now new)))
place_kept now old new same place = place ∙ ap (λ (n : ℕ). not (nat_le 4096 n)) (sym (length_same now new old same))

pub full_is : (now : ℕ) (id : DialogId) (old new : List Dialog) (place : Bool) → SameDialogs now new old → false ≡ knows now id old
    → place ≡ not (nat_le 4096 (length (known now new))) → is_full_for now id old ≡ not place
full_is now id old new place same unknown is =
    ap₂ (λ (b : Bool) (n : ℕ). not b && nat_le 4096 n) (sym unknown) (sym (length_same now new old same)) ∙ twice (nat_le 4096 (length (known now new)))
    ∙ ap not (sym is) where
      twice : (b : Bool) → b ≡ not (not b)
      twice true = refl
      twice false = refl

-- what the insertion leaves
pub learnt_from_begin : (now : ℕ) (a : InviteAnswer) (old met placed new : List Row) (r : Result (Unit {0}) DialogError)
    → SameDialogs now (dialogs_in met) (dialogs_in old) → SameDialogs now (dialogs_in placed) (dialogs_in met) → false ≡ knows now a.id (dialogs_in old)
    → true ≡ not (nat_le 4096 (length (known now (dialogs_in met)))) → OnOk r ((p : Dialog → Bool)
    → count_by p (dialogs_in new) ≡ count_by p (dialogs_in placed ++ begun a ∷ []))
    → OnOk r (SameDialogs now (dialogs_in new) (learnt now a (dialogs_in old)))
learnt_from_begin now a old met placed new (Err e) same placed_same unknown place is = tt
learnt_from_begin now a old met placed new (Ok u) same placed_same unknown place is =
    dialogs_joined now _ _ _ (same_counts now (dialogs_in new) (dialogs_in placed ++ begun a ∷ []) is)
    (begun_same now a (dialogs_in old) (dialogs_in placed) (dialogs_joined now _ _ _ placed_same same) unknown
    (place_kept now (dialogs_in met) (dialogs_in placed) placed_same place))

pub full_from_begin : (r : Result (Unit {0}) DialogError) (full : Bool) → full ≡ false → IfErr r (λ e. e ≡ NoMemory) → (r ≡ Err Full) ↔ (full ≡ true)
full_from_begin (Ok u) full is memory = (λ e. absurd (cc), λ e. absurd (cc))
full_from_begin (Err f) full is memory = (λ e. absurd (cc), λ e. absurd (cc))
