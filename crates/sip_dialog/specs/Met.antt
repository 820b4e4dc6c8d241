-- When a row of one table stands in another, as later steps see it.
use Rattle.std.specs.Prelude.{◌≡◌, ◌≤◌, ℕ, Bool, true, List, map, count_by, if◌then◌else◌}
use Rattle.sip_dialog.specs.declared.dialog.DialogId.{DialogId}
use Rattle.sip_dialog.specs.declared.dialog.Dialog.{Dialog}
use Rattle.sip_dialog.specs.declared.dialog_state.DialogState.{DialogState}
use Rattle.sip_dialog.specs.Rows.{dialog_of, dialogs_in, is_recent}
use Rattle.sip_dialog.specs.Sameness.{as_seen}

-- a dialog stands among others, by every test
abbrev pub Stands : Dialog → List Dialog → Type 0
Stands d dialogs = (test : Dialog → Bool) → (if test d then 1 else 0) ≤ count_by test dialogs

-- a row stands among those of another table as later steps see it, if its dialog is known
abbrev pub IsMet : ℕ → List (DialogId × DialogState) → DialogId × DialogState → Type 0
IsMet now others row = is_recent now row.1 ≡ true → Stands (as_seen (dialog_of row.0 row.1)) (map as_seen (dialogs_in others))
