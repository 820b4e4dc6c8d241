use Rattle.sip_replay_script.proofs.Damaged.{other_stop}
use Rattle.sip_replay_script.proofs.cut_line.stop_at.Goals as goal

pub returns : goal.returns
returns c = other_stop c.args.line.now c.args.stop c.in_default.not-Cut
