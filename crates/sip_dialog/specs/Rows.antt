-- The rows of a table of dialogs.
use Rattle.std.specs.Prelude.{◌≡◌, ℕ, ◌+◌, ◌-◌, ◌<◌, ◌≤◌, Bool, true, ◌&&◌, not, nat_lt, List, length, map, count_by, get_or, slice_get}
use Rattle.std.specs.Prelude.{Some, if◌then◌else◌}
use Rattle.sip_dialog.specs.declared.dialog.DialogId.{DialogId}
use Rattle.sip_dialog.specs.declared.dialog.Dialog.{Dialog}
use Rattle.sip_dialog.specs.declared.dialog_state.DialogState.{DialogState}
use Rattle.sip_dialog.specs.DialogId.{is_same_dialog}
use Rattle.sip_dialog.specs.Naming.{digest_of}
use Rattle.sip_base.specs.declared.word_hasher.WordHasher.{WordHasher}

-- the dialog of a name and what is known of it
abbrev pub dialog_of : DialogId → DialogState → Dialog
dialog_of id s = record { id = id; number = s.number; has_success = s.has_success; since = s.since; addresses = s.addresses }

-- the dialogs of the rows
abbrev pub dialogs_in : List (DialogId × DialogState) → List Dialog
dialogs_in rows = map (λ row. dialog_of row.0 row.1) rows

-- whether a row's name is of the dialog of this name
abbrev pub names : DialogId → DialogId → Bool
names id stored = is_same_dialog stored id

-- a dialog is known for less than twelve hours after its last request
abbrev pub is_recent : ℕ → DialogState → Bool
is_recent now s = nat_lt (now - s.since) 43200000

-- whether a row's dialog isn't known any more
abbrev pub has_ended : ℕ → DialogId × DialogState → Bool
has_ended now row = not (is_recent now row.1)

-- a row of this name stands at an index, and no other row has it: tests count no more of the name's rows than this one
pub record StandsAt (id : DialogId) (rows : List (DialogId × DialogState)) (at : ℕ) : Type 0 where
  pub row : DialogId × DialogState
  pub there : slice_get rows at ≡ Some row
  pub named : names id row.0 ≡ true
  pub alone : (test : DialogId × DialogState → Bool) → count_by (λ r. names id r.0 && test r) rows ≡ (if test row then 1 else 0)

-- no row has this name
pub record StandsNowhere (id : DialogId) (rows : List (DialogId × DialogState)) : Type 0 where
  pub none : (test : DialogId × DialogState → Bool) → count_by (λ r. names id r.0 && test r) rows ≡ 0

-- a row of this name stands at an index, and its dialog is known
pub record IsKnownAt (now : ℕ) (id : DialogId) (rows : List (DialogId × DialogState)) (at : ℕ) : Type 0 where
  pub stands : StandsAt id rows at
  pub recent : is_recent now stands.row.1 ≡ true

-- at an index and behind it every row is of a dialog with a 2xx
abbrev pub HaveSuccessFrom : ℕ → List (DialogId × DialogState) → Type 0
HaveSuccessFrom early rows = (at : ℕ) (d : DialogId × DialogState) → early ≤ at → at < length rows → (get_or rows at d).1.has_success ≡ true

-- the rows of a table, how many more can be put in with no memory, and the secret of its digests
pub record Entries : Type 0 where
  pub entries : List (DialogId × DialogState)
  pub room : ℕ
  pub secret : WordHasher

-- so many rows stand in front, and behind them all are of dialogs with a 2xx
pub record IsFront (early : ℕ) (rows : List (DialogId × DialogState)) : Type 0 where
  pub within : early ≤ length rows
  pub success : HaveSuccessFrom early rows

-- no two rows have one name, and the digests are those of their names
pub record AreNamed (secret : WordHasher) (digests : List ℕ) (rows : List (DialogId × DialogState)) : Type 0 where
  pub digested : digests ≡ map (λ row. digest_of secret row.0) rows
  pub alone : (id : DialogId) → count_by (λ row. names id row.0) rows ≤ 1

-- the dialogs of the rows are all known at each moment that is earlier than this one
pub record AreKnownBefore (until : ℕ) (rows : List (DialogId × DialogState)) : Type 0 where
  pub none_ended : (now : ℕ) → now < until → count_by (has_ended now) rows ≡ 0

-- the row at an index was taken out, and no other: tests count all of the others as before
abbrev pub IsTakenOut : List (DialogId × DialogState) → ℕ → List (DialogId × DialogState) → Type 0
IsTakenOut old at new = (row : DialogId × DialogState) → slice_get old at ≡ Some row → (test : DialogId × DialogState → Bool) → count_by test new
    + (if test row then 1 else 0) ≡ count_by test old

-- what stands at an index now stood behind another
pub record StoodBehind (old : List (DialogId × DialogState)) (at : ℕ) (new : List (DialogId × DialogState)) (k : ℕ) : Type 0 where
  pub from : ℕ
  pub behind : at < from
  pub within : from < length old
  pub same : (d : DialogId × DialogState) → get_or new k d ≡ get_or old from d
