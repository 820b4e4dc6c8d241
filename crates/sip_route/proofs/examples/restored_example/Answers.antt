use Rattle.std.proofs.Common.{refl}
use Rattle.std.specs.Fmt.{digits}
use Rattle.sip_uri.specs.Reading.{rest_of, reading_of}
use Rattle.sip_route.proofs.examples.restored_example.Goals as goal

pub returns-clause-last : goal.returns-clause-last
unfolding digits rest_of reading_of
returns-clause-last c = refl

pub returns-clause-only : goal.returns-clause-only
unfolding digits rest_of reading_of
returns-clause-only c = refl

pub returns-clause-own_and_last : goal.returns-clause-own_and_last
unfolding digits rest_of reading_of
returns-clause-own_and_last c = refl

pub returns-clause-no_route : goal.returns-clause-no_route
unfolding digits rest_of reading_of
returns-clause-no_route c = refl

pub returns-clause-no_lr : goal.returns-clause-no_lr
unfolding digits rest_of reading_of
returns-clause-no_lr c = refl

pub returns-clause-own_route : goal.returns-clause-own_route
unfolding digits rest_of reading_of
returns-clause-own_route c = refl
