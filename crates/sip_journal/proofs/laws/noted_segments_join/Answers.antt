use Rattle.sip_journal.proofs.Noting.{segment_begins, segment_goes_on, segments_both}
use Rattle.sip_journal.proofs.laws.noted_segments_join.Goals as goal

pub returns-clause-begun : goal.returns-clause-begun
returns-clause-begun c = segment_begins c.segments_join.ensures.one

pub returns-clause-further : goal.returns-clause-further
returns-clause-further c = segment_goes_on c.segments_join.ensures.further

pub returns-clause-both : goal.returns-clause-both
returns-clause-both c = segments_both c.segments_join.ensures.both
