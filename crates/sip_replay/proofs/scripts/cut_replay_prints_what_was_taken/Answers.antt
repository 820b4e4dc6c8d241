use Rattle.sip_replay.proofs.OfEvents.{cut_prints}
use Rattle.sip_replay.proofs.scripts.cut_replay_prints_what_was_taken.Goals as goal

pub returns : goal.returns
returns c = cut_prints c.runs_are_one.ensures.events c.script_says_one_list.ensures.one c.next_event_is_one.ensures.one c.next_event_is_one.ensures.something
