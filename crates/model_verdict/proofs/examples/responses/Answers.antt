use Rattle.std.proofs.Common.{refl}
use Rattle.std.specs.Fmt.{digits}
use Rattle.hex.specs.Hex.{encode_with}
use Rattle.model_verdict.proofs.examples.responses.Goals as goal

pub returns-clause-first : goal.returns-clause-first
unfolding digits encode_with
returns-clause-first c = refl

pub returns-clause-second : goal.returns-clause-second
unfolding digits encode_with
returns-clause-second c = refl

pub returns-clause-cancel : goal.returns-clause-cancel
unfolding digits encode_with
returns-clause-cancel c = refl

pub returns-clause-no_target : goal.returns-clause-no_target
unfolding digits encode_with
returns-clause-no_target c = refl

pub returns-clause-other_method : goal.returns-clause-other_method
unfolding digits encode_with
returns-clause-other_method c = refl

pub returns-clause-other_server : goal.returns-clause-other_server
unfolding digits encode_with
returns-clause-other_server c = refl

pub returns-clause-short : goal.returns-clause-short
unfolding digits encode_with
returns-clause-short c = refl
