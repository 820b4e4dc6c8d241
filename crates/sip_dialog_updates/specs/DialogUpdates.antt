-- What updates make of the dialogs that a proxy knows.
use Rattle.std.specs.Prelude.{ℕ, Bool, true, false, List, [], ◌∷◌, Option, Some, None, count_by, if◌then◌else◌}
use Rattle.sip_dialog.specs.declared.dialog.Dialog.{Dialog}
use Rattle.sip_dialog.specs.Dialogs.{learnt, taught, renewed, without_dialog, after_invite}
use Rattle.sip_dialog_updates.specs.declared.dialog_update.DialogUpdate.{DialogUpdate}
use Rattle.sip_dialog_updates.specs.declared.dialog_update.DialogUpdate.TheVariants.{Learn, Teach, Renew, End, Expire}

-- the dialogs after a update
abbrev pub after_update : ℕ → DialogUpdate → List Dialog → List Dialog
after_update now (Learn answer) dialogs = learnt now answer dialogs
after_update now (Teach id addresses) dialogs = taught now id addresses dialogs
after_update now (Renew id addresses) dialogs = renewed now id addresses dialogs
after_update now (End id) dialogs = without_dialog now id dialogs
after_update now (Expire number) dialogs = after_invite now number dialogs

-- after one, if there is one
abbrev pub after_one : ℕ → Option DialogUpdate → List Dialog → List Dialog
after_one now None dialogs = dialogs
after_one now (Some update) dialogs = after_update now update dialogs

-- after several, in their order
abbrev pub after_updates : ℕ → List DialogUpdate → List Dialog → List Dialog
after_updates now [] dialogs = dialogs
after_updates now (update ∷ updates) dialogs = after_updates now updates (after_update now update dialogs)

-- ---- room

-- whether a update may make one more dialog known
abbrev pub may_begin : DialogUpdate → Bool
may_begin (Learn answer) = true
may_begin (Teach id addresses) = false
may_begin (Renew id addresses) = false
may_begin (End id) = false
may_begin (Expire number) = false

-- the same of one, if there is one
abbrev pub begins : Option DialogUpdate → Bool
begins None = false
begins (Some update) = may_begin update

-- how many more dialogs a update may make known
abbrev pub room_for : DialogUpdate → ℕ
room_for update = if may_begin update then 1 else 0

-- how many more some updates may
abbrev pub beginnings : List DialogUpdate → ℕ
beginnings updates = count_by may_begin updates
