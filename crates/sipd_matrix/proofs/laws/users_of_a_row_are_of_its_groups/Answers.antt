use Rattle.sipd_matrix.proofs.Groups.{groups_alike}
use Rattle.sipd_matrix.proofs.laws.users_of_a_row_are_of_its_groups.Goals as goal

pub returns : goal.returns
returns c = groups_alike
