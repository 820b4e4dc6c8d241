use Rattle.std.proofs.Common.{List, reverse, refl, ap, ◌∙◌}
use Rattle.std.proofs.lemmas.List.{reverse-reverse}
use Rattle.sip_dialog.proofs.Sameness.{dialogs_self}
use Rattle.sip_dialog_updates.specs.declared.dialog_update.DialogUpdate.{DialogUpdate}
use Rattle.sip_dialog_updates.specs.DialogUpdates.{after_updates, may_begin}
use Rattle.sip_dialog_updates.proofs.Order.{count_reversed, next_taken, room_left}
use Rattle.sip_dialog_updates.proofs.taking.take_all.Goals as goal

pub loop-update-init : goal.loop-update-init
loop-update-init c =
    let reversed = c.reverse.ensures.items in
    record {
      same =
          dialogs_self c.args.now _ _
          (ap (λ (updates : List DialogUpdate). after_updates c.args.now updates c.args.dialogs.now.dialogs)
          (ap reverse reversed ∙ reverse-reverse c.args.updates.items));
      room = rw reversed (rw (count_reversed may_begin c.args.updates.items) c.requires);
      secret = refl;
    }

pub loop-update-preserved : goal.loop-update-preserved
loop-update-preserved c =
    record {
      same =
          next_taken c.args.now c.loop-update.left.items c.pop.new.self.items c.in-Some.update c.loop-update.dialogs.dialogs _ _ c.in-Some.ensures.items
          c.loop-update.invariant.same c.take.ensures.taken;
      room =
          room_left c.loop-update.left.items c.pop.new.self.items c.in-Some.update c.loop-update.dialogs.room _ c.in-Some.ensures.items c.loop-update.invariant.room
          c.take.ensures.room;
      secret = c.take.ensures.secret ∙ c.loop-update.invariant.secret;
    }
