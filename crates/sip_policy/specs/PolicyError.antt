-- What a refusal says when it is printed.
use Rattle.std.specs.Prelude.{ℕ, List, codes}
use Rattle.sip_policy.specs.declared.error.PolicyError.{PolicyError}
use Rattle.sip_policy.specs.declared.error.PolicyError.TheVariants.{NoMemory, NameTwice}

abbrev pub words_of : PolicyError → List ℕ
words_of NoMemory = codes "out of memory"
words_of NameTwice = codes "two users have the same name"
