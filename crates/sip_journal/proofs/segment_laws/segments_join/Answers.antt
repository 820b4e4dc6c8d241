use Rattle.sip_journal.proofs.Segments.{segment_one, segments_all, segments_further}
use Rattle.sip_journal.proofs.segment_laws.segments_join.Goals as goal

pub returns-clause-both : goal.returns-clause-both
returns-clause-both c = segments_all

pub returns-clause-one : goal.returns-clause-one
returns-clause-one c = segment_one

pub returns-clause-further : goal.returns-clause-further
returns-clause-further c = segments_further
