use Rattle.std.proofs.Common.{arith, refl}
use Rattle.sip_config_change.specs.Frame.{frame_key_of}
use Rattle.sip_resume.proofs.Stopping.{other_key}
use Rattle.sip_resume.proofs.taking.change_to.Goals as goal

pub returns-in-Err-OtherFrame-clause-refused : goal.returns-in-Err-OtherFrame-clause-refused
returns-in-Err-OtherFrame-clause-refused g c = (
  other_key c.change.result (frame_key_of c.args.engine.now.server.config c.args.config) c.in-Err-OtherFrame.key
      (grind (arith, c.in-Err-OtherFrame.is, c.in-Err-OtherFrame.field-0-is)) c.change.ensures.refused c.change.ensures.otherwise,
  refl,
)
