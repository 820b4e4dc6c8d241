use Rattle.sip_model.proofs.StepParts.{step_parts}
use Rattle.sip_model.proofs.parts.steps_have_parts.Goals as goal

pub returns : goal.returns
returns c = step_parts
