use Rattle.sip_engine_request.proofs.Found.{branch_within, place_within}
use Rattle.sip_engine_request.proofs.responding.found_places_are_within.Goals as goal

pub returns-clause-request : goal.returns-clause-request
returns-clause-request c = place_within

pub returns-clause-branch : goal.returns-clause-branch
returns-clause-branch c = branch_within
