use Rattle.std.proofs.Common.{refl}
use Rattle.std.specs.Fmt.{digits}
use Rattle.sip_replay_print.proofs.examples.head_text_example.Goals as goal

pub returns : goal.returns
unfolding digits
returns c = refl
