use Rattle.sip_journal.proofs.Segments.{one_list_of_events, one_list_of_segments, one_whole}
use Rattle.sip_journal.proofs.segment_laws.record_says_one_list.Goals as goal

pub returns-clause-events : goal.returns-clause-events
returns-clause-events c = one_list_of_events

pub returns-clause-segments : goal.returns-clause-segments
returns-clause-segments c = one_list_of_segments

pub returns-clause-whole : goal.returns-clause-whole
returns-clause-whole c = one_whole
