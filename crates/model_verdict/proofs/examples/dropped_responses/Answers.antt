use Rattle.std.proofs.Common.{refl}
use Rattle.std.specs.Fmt.{digits}
use Rattle.hex.specs.Hex.{encode_with}
use Rattle.model_verdict.proofs.examples.dropped_responses.Goals as goal

pub returns-clause-one_via : goal.returns-clause-one_via
unfolding digits encode_with
returns-clause-one_via c = refl

pub returns-clause-to_cancel : goal.returns-clause-to_cancel
unfolding digits encode_with
returns-clause-to_cancel c = refl

pub returns-clause-no_cseq : goal.returns-clause-no_cseq
unfolding digits encode_with
returns-clause-no_cseq c = refl

pub returns-clause-two_cseqs : goal.returns-clause-two_cseqs
unfolding digits encode_with
returns-clause-two_cseqs c = refl
