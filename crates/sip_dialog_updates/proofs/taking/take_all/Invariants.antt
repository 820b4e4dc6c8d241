use Rattle.std.proofs.Common.{◌≡◌, ◌≤◌, length, reverse}
use Rattle.sip_dialog.specs.Sameness.{SameDialogs}
use Rattle.sip_dialog_updates.specs.DialogUpdates.{after_updates, beginnings}
use Rattle.sip_dialog_updates.proofs.taking.take_all.Given as goal

-- what the updates that are left make of the dialogs is what all of them make of those at first, there is room, and the secret stays
abbrev pub invariant-loop-update : goal.invariant-loop-update
invariant-loop-update l =
    record {
      same : SameDialogs l.now (after_updates l.now (reverse l.left.items) l.dialogs.dialogs) (after_updates l.now l.fn.updates.items l.fn.dialogs.dialogs);
      room : beginnings l.left.items ≤ l.dialogs.room;
      secret : l.dialogs.secret ≡ l.fn.dialogs.secret;
    }

abbrev pub decreases-loop-update : goal.decreases-loop-update
decreases-loop-update l = length l.left.items
