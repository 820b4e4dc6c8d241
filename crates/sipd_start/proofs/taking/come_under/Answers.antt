use Rattle.std.proofs.Common.{inr, refl}
use Rattle.sipd_start.proofs.Refusals.{other_frame}
use Rattle.sipd_start.proofs.taking.come_under.Goals as goal

pub returns-in-Err-OtherFrame-clause-refused : goal.returns-in-Err-OtherFrame-clause-refused
returns-in-Err-OtherFrame-clause-refused g c =
    inr (inr (
      refl,
      other_frame c.args.stated.now.bytes c.args.engine.now.server.config c.in_ok-config.config c.change.result c.in-Err-OtherFrame.field-0 _ _ c.in-Err-OtherFrame.is
          c.in-Err-OtherFrame.field-0-is
          c.change.ensures.otherwise (λ e. cc) (rw c.as_slice.ensures at c.in_ok-config.ensures.stated),
    ))
