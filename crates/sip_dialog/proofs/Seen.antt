-- Rows as later steps see them.
use Rattle.std.proofs.Common.{◌≡◌, ℕ, ◌+◌, ◌≤◌, Bool, true, false, cond, List, [], ◌∷◌, length, map, filter, slice_get, Some, refl, sym, ap, ◌∙◌, arith}
use Rattle.std.specs.Prelude.{◌&&◌, not, count_by, if◌then◌else◌}
use Rattle.std.specs.List.{AllByRecursion}
use Rattle.sip_uri.specs.declared.addr.Addr.{Addr}
use Rattle.sip_dialog.specs.declared.dialog.DialogId.{DialogId}
use Rattle.sip_dialog.specs.declared.dialog.Dialog.{Dialog}
use Rattle.sip_dialog.specs.declared.dialog_state.DialogState.{DialogState}
use Rattle.sip_dialog.specs.Dialogs.{is_known, known, is_named}
use Rattle.sip_dialog.specs.Rows.{dialog_of, dialogs_in, is_recent, names}
use Rattle.sip_dialog.specs.Sameness.{as_seen, SameDialogs}
use Rattle.sip_dialog.specs.Met.{IsMet, Stands}
use Rattle.sip_dialog.proofs.Alone.{Row}
use Rattle.sip_dialog.proofs.Sameness.{count_filter, count_map, counted_at, length_counts, split_by}
use Rattle.sip_dialog.proofs.Tables.{dialog}
use Rattle.sip_dialog.proofs.Permuted.{AreAlone, counted_alike}

-- ---- what of a dialog is seen

-- all of it while no 2xx to its INVITE was forwarded
pub early_seen : (d : Dialog) → d.has_success ≡ false → as_seen d ≡ d
early_seen d early = ap (λ (t : Bool). record d { number = if t then 0 else d.number }) early

abbrev numbered : Dialog → ℕ → Dialog
numbered d number = record d { number = number }

-- and after that all but which INVITE began it
pub confirmed_seen : (d : Dialog) (number : ℕ) → d.has_success ≡ true → as_seen (numbered d number) ≡ as_seen d
confirmed_seen d number confirmed =
    ap (λ (t : Bool). numbered d (if t then 0 else number)) confirmed ∙ sym (ap (λ (t : Bool). numbered d (if t then 0 else d.number)) confirmed)

-- a dialog of these parts
abbrev made_of : DialogId → ℕ → Bool → ℕ → List Addr → Dialog
made_of id number has_success since addresses = record { id = id; number = number; has_success = has_success; since = since; addresses = addresses }

-- which INVITE began both counts where neither has a 2xx
number_alike : (t u : Bool) (m n : ℕ) → t ≡ u → (t ≡ false → m ≡ n) → cond {A = ℕ} t 0 m ≡ cond {A = ℕ} u 0 n
number_alike true true m n same early = refl
number_alike true false m n same early = absurd (cc)
number_alike false true m n same early = absurd (cc)
number_alike false false m n same early = early refl

pub seen_alike : (id : DialogId) (a b : DialogState) → a.has_success ≡ b.has_success → (a.has_success ≡ false → a.number ≡ b.number) → a.since ≡ b.since
    → a.addresses ≡ b.addresses → as_seen (dialog_of id a) ≡ as_seen (dialog_of id b)
seen_alike id a b success early since addresses =
    ap (λ (n : ℕ). made_of id n a.has_success a.since a.addresses) (number_alike a.has_success b.has_success a.number b.number success early)
    ∙ ap (λ (t : Bool). made_of id (if b.has_success then 0 else b.number) t a.since a.addresses) success
    ∙ ap (λ (n : ℕ). made_of id (if b.has_success then 0 else b.number) b.has_success n a.addresses) since
    ∙ ap (λ (held : List Addr). made_of id (if b.has_success then 0 else b.number) b.has_success b.since held) addresses

-- ---- rows

-- the dialog of a row, as it is seen
abbrev seen : Row → Dialog
seen r = as_seen (dialog r)

-- the dialogs of rows that are known, as they are seen
abbrev seen_known : ℕ → List Row → List Dialog
seen_known now rows = known now (map as_seen (dialogs_in rows))

-- they are counted by rows
seen_counts : (now : ℕ) (p : Dialog → Bool) (rows : List Row) → count_by p (seen_known now rows) ≡ count_by (λ r. is_recent now r.1 && p (seen r)) rows
seen_counts now p rows =
    count_filter p (is_known now) (map as_seen (dialogs_in rows))
    ∙ count_map (λ d. is_known now d && p d) as_seen (dialogs_in rows)
    ∙ count_map (λ d. is_known now (as_seen d) && p (as_seen d)) dialog rows

-- so each has a name of its own where each row has
seen_alone : (now : ℕ) (rows : List Row) → ((id : DialogId) → count_by (λ (r : Row). names id r.0) rows ≤ 1) → AreAlone (seen_known now rows)
seen_alone now rows alone = λ id.
    let there : count_by (is_named id) (seen_known now rows) ≡ count_by (λ (r : Row). is_recent now r.1 && names id r.0) rows =
    seen_counts now (is_named id) rows in
    let parts : count_by (λ (r : Row). names id r.0) rows
    ≡ count_by (λ (r : Row). is_recent now r.1 && names id r.0) rows + count_by (λ (r : Row). not (is_recent now r.1) && names id r.0) rows =
    split_by (λ (r : Row). is_recent now r.1) (λ r. names id r.0) rows in
    omega (arith, there, parts, alone id)

-- and there are as many as rows of dialogs that are known
seen_many : (now : ℕ) (rows : List Row) → length (seen_known now rows) ≡ length (filter (λ (r : Row). is_recent now r.1) rows)
seen_many now rows =
    length_counts (seen_known now rows)
    ∙ seen_counts now (λ d. true) rows
    ∙ sym (length_counts (filter (λ (r : Row). is_recent now r.1) rows) ∙ count_filter (λ (r : Row). true) (λ r. is_recent now r.1) rows)

-- ---- one table and another

-- a dialog that is known stands among those that are, where it stands among all
stands_known : (now : ℕ) (d : Dialog) (ds : List Dialog) → is_known now d ≡ true → Stands d ds → Stands d (known now ds)
stands_known now d ds recent stands = λ test.
    let here : cond {A = ℕ} (is_known now d && test d) 1 0 ≡ cond {A = ℕ} (test d) 1 0 = ap (λ (t : Bool). cond {A = ℕ} (t && test d) 1 0) recent in
    let there : cond {A = ℕ} (is_known now d && test d) 1 0 ≤ count_by (λ (x : Dialog). is_known now x && test x) ds = stands (λ x. is_known now x && test x) in
    omega (arith, there, here, count_filter test (is_known now) ds)

-- the dialogs of rows that are met stand among those of the other table
met_known : (now : ℕ) (rows others : List Row) → AllByRecursion (IsMet now others) rows
    → AllByRecursion (λ (d : Dialog). Stands d (seen_known now others)) (seen_known now rows)
met_known now [] others met = tt
met_known now (r ∷ rows) others met = by_test (is_recent now r.1) refl (met_known now rows others met.1) where
  by_test : (t : Bool) → is_recent now r.1 ≡ t → AllByRecursion (λ (d : Dialog). Stands d (seen_known now others)) (seen_known now rows)
      → AllByRecursion (λ (d : Dialog). Stands d (seen_known now others)) (cond t (seen r ∷ seen_known now rows) (seen_known now rows))
  by_test true is rest = (stands_known now (seen r) (map as_seen (dialogs_in others)) is (met.0 is), rest)
  by_test false is rest = rest

-- as many rows of dialogs that are known, each of which is met: the same are known
pub seen_same : (now : ℕ) (rows others : List Row) → ((id : DialogId) → count_by (λ (r : Row). names id r.0) rows ≤ 1)
    → length (filter (λ (r : Row). is_recent now r.1) rows) ≡ length (filter (λ (r : Row). is_recent now r.1) others)
    → AllByRecursion (IsMet now others) rows → SameDialogs now (map as_seen (dialogs_in rows)) (map as_seen (dialogs_in others))
seen_same now rows others alone sized met =
    counted_alike (seen_known now rows) (seen_known now others) (seen_alone now rows alone) (met_known now rows others met)
    (seen_many now rows ∙ sized ∙ sym (seen_many now others))

-- a row of this name that is seen so stands among all
pub row_stands : (id : DialogId) (standing : DialogState) (rows : List Row) (at : ℕ) (x : Row) → slice_get rows at ≡ Some x → x.0 ≡ id
    → ((k : DialogId) → as_seen (dialog_of k x.1) ≡ as_seen (dialog_of k standing)) → Stands (as_seen (dialog_of id standing)) (map as_seen (dialogs_in rows))
row_stands id standing rows at x there named alike = λ test.
    let same : seen x ≡ as_seen (dialog_of id standing) = ap (λ (k : DialogId). as_seen (dialog_of k x.1)) named ∙ alike id in
    let here : cond {A = ℕ} (test (seen x)) 1 0 ≡ cond {A = ℕ} (test (as_seen (dialog_of id standing))) 1 0 = ap (λ (d : Dialog). cond {A = ℕ} (test d) 1 0) same in
    let counted : count_by test (map as_seen (dialogs_in rows)) ≡ count_by (λ (r : Row). test (seen r)) rows =
    count_map test as_seen (dialogs_in rows) ∙ count_map (λ d. test (as_seen d)) dialog rows in
    let one : cond {A = ℕ} (test (seen x)) 1 0 ≤ count_by (λ (r : Row). test (seen r)) rows = counted_at (λ (r : Row). test (seen r)) rows at x there in
    omega (arith, here, one, counted)
