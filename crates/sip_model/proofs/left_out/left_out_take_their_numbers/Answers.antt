use Rattle.sip_model.proofs.LeftOut.{run_over, says_nothing}
use Rattle.sip_model.proofs.left_out.left_out_take_their_numbers.Goals as goal

pub returns-clause-nothing : goal.returns-clause-nothing
returns-clause-nothing c = says_nothing

pub returns-clause-run : goal.returns-clause-run
returns-clause-run c = run_over
