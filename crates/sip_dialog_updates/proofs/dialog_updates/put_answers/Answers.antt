use Rattle.sip_dialog_updates.specs.DialogUpdates.{after_updates, beginnings}
use Rattle.sip_dialog_updates.proofs.Told.{next_told, next_counted}
use Rattle.sip_dialog_updates.proofs.dialog_updates.put_answers.Goals as goal

pub loop-up-preserved : goal.loop-up-preserved
loop-up-preserved c =
    record {
      told = λ server now dialogs e.
          next_told server now c.args.request.now c.args.upward.now c.loop-up.up-index c.up-item.result (after_updates now c.loop-up.list.items dialogs) _ _
          c.loop-up-test.true c.up-item.is
          (c.loop-up.invariant.told server now dialogs e) (c.in_ok-put_answer.ensures.told server now dialogs e);
      room =
          next_counted c.args.upward.now c.loop-up.up-index c.up-item.result (beginnings c.loop-up.list.items) _ _ c.loop-up-test.true c.up-item.is
          c.loop-up.invariant.room
          c.in_ok-put_answer.ensures.room;
    }
