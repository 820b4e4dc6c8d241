use Rattle.sipd_capture.proofs.Lengths.{same_length}
use Rattle.sipd_capture.proofs.laws.hiding_keeps_lengths.Goals as goal

pub returns : goal.returns
returns c = λ bytes. same_length bytes
