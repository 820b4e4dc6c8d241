use Rattle.std.proofs.Common.{refl}
use Rattle.sipd_capture.proofs.examples.frame_example.Goals as goal

pub returns-clause-checksum : goal.returns-clause-checksum
returns-clause-checksum c = refl

pub returns-clause-file : goal.returns-clause-file
returns-clause-file c = refl

pub returns-clause-udp : goal.returns-clause-udp
returns-clause-udp c = refl
