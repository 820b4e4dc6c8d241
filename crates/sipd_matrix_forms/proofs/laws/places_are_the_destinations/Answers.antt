use Rattle.sipd_matrix_forms.proofs.Destined.{places, signs}
use Rattle.sipd_matrix_forms.proofs.laws.places_are_the_destinations.Goals as goal

pub returns-clause-sign : goal.returns-clause-sign
returns-clause-sign c = signs

pub returns-clause-place : goal.returns-clause-place
returns-clause-place c = places
