use Rattle.std.proofs.Common.{refl}
use Rattle.sip_replay_script.specs.Escaped.{byte_text, escaped}
use Rattle.sip_replay_script.proofs.examples.escaped_example.Goals as goal

pub returns-clause-line : goal.returns-clause-line
unfolding byte_text escaped
returns-clause-line c = refl

pub returns-clause-others : goal.returns-clause-others
unfolding byte_text escaped
returns-clause-others c = refl
