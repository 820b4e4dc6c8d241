use Rattle.sipd_reload.proofs.CourseSteps.{taken_stays, refused_stays}
use Rattle.sipd_reload.proofs.laws.known_bytes_are_not_offered.Goals as goal

pub returns-clause-taken : goal.returns-clause-taken
returns-clause-taken c = taken_stays

pub returns-clause-refused : goal.returns-clause-refused
returns-clause-refused c = refused_stays
