use Rattle.sipd_page.proofs.Days.{all_lines}
use Rattle.sipd_page.proofs.laws.lines_are_those_of_the_steps.Goals as goal

pub returns : goal.returns
returns c = λ old new day told. all_lines old new day told
