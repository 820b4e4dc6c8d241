use Rattle.sip_replay.proofs.OfEvents.{one_script}
use Rattle.sip_replay.proofs.scripts.scripts_are_one.Goals as goal

pub returns : goal.returns
returns c = one_script c.runs_are_one.ensures.events c.script_says_one_list.ensures.one
