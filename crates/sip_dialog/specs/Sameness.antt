-- When lists say the same of the known dialogs.
use Rattle.std.specs.Prelude.{◌≡◌, ℕ, Bool, List, count_by, if◌then◌else◌}
use Rattle.sip_dialog.specs.declared.dialog.Dialog.{Dialog}
use Rattle.sip_dialog.specs.Dialogs.{known}

-- Lists say the same of the dialogs that are known at a moment: each is known in both as often, in any order.
abbrev pub SameDialogs : ℕ → List Dialog → List Dialog → Type 0
SameDialogs now left right = (p : Dialog → Bool) → count_by p (known now left) ≡ count_by p (known now right)

-- A dialog as later steps see it: which INVITE began it counts so long as no 2xx to that was forwarded, since the dialog ends when the
-- INVITE leaves the open requests, and never after that (RFC 3261 12.3).
abbrev pub as_seen : Dialog → Dialog
as_seen d = record d { number = if d.has_success then 0 else d.number }
