use Rattle.std.proofs.Common.{◌≡◌, ◌≤◌, ◌+◌, ℕ, List, drop}
use Rattle.std.specs.Prelude.{count_by}
use Rattle.sip_dialog.specs.declared.dialog.Dialog.{Dialog}
use Rattle.sip_state.specs.declared.server.Server.{Server}
use Rattle.sip_state.specs.Dialogs.{after_answers}
use Rattle.sip_dialog_updates.specs.DialogUpdates.{after_updates, beginnings}
use Rattle.sip_dialog_updates.specs.Telling.{is_early_or_success}
use Rattle.sip_dialog_updates.proofs.dialog_updates.put_answers.Given as goal

-- the updates so far, in front of what the answers that are left do; and how many dialogs they may make known
abbrev pub invariant-loop-up : goal.invariant-loop-up
invariant-loop-up l =
    record {
      told : (server : Server) (now : ℕ) (dialogs : List Dialog) → server.config.addresses ≡ l.hops.addresses
          → after_answers server now l.request (drop l.up-index l.upward) (after_updates now l.list.items dialogs)
          ≡ after_answers server now l.request l.upward (after_updates now l.fn.list.items dialogs);
      room : beginnings l.list.items + count_by is_early_or_success (drop l.up-index l.upward) ≤ beginnings l.fn.list.items + count_by is_early_or_success l.upward;
    }
