use Rattle.model_laws.proofs.OneKey.{same_itself, same_turned, same_joined, equal_keys, same_keys, same_where_one, is_keyed}
use Rattle.model_laws.proofs.keys.keys_are_told_apart.Goals as goal

pub returns-clause-itself : goal.returns-clause-itself
returns-clause-itself c = same_itself

pub returns-clause-turned : goal.returns-clause-turned
returns-clause-turned c = same_turned

pub returns-clause-joined : goal.returns-clause-joined
returns-clause-joined c = same_joined

pub returns-clause-equal : goal.returns-clause-equal
returns-clause-equal c = λ left right. (equal_keys left right, same_keys left right)

pub returns-clause-requests : goal.returns-clause-requests
returns-clause-requests c = λ m other method other_method via other_via branch other_branch left right.
    same_where_one method via branch other_method other_via other_branch m other left right

pub returns-clause-has_key : goal.returns-clause-has_key
returns-clause-has_key c = is_keyed
