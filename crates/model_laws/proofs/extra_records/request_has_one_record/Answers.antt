use Rattle.model_laws.proofs.Recording.{denial_has_one, twice_refused, later_refused}
use Rattle.model_laws.proofs.extra_records.request_has_one_record.Goals as goal

pub returns-clause-is_one : goal.returns-clause-is_one
returns-clause-is_one c = denial_has_one

pub returns-clause-not_two : goal.returns-clause-not_two
returns-clause-not_two c = twice_refused

pub returns-clause-not_later : goal.returns-clause-not_later
returns-clause-not_later c = later_refused
