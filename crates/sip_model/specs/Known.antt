-- When lists say the same of the known dialogs, whichever INVITE began those that last (RFC 3261 12.3).
use Rattle.std.specs.Prelude.{ℕ, List, map}
use Rattle.sip_dialog.specs.declared.dialog.Dialog.{Dialog}
use Rattle.sip_dialog.specs.Sameness.{as_seen, SameDialogs}

-- Lists say the same of the dialogs that are known at a moment, as later steps see them: each is known in both as often, in any order.
abbrev pub SameKnown : ℕ → List Dialog → List Dialog → Type 0
SameKnown now left right = SameDialogs now (map as_seen left) (map as_seen right)
