-- Refusals.
use Rattle.std.specs.Prelude.{ℕ, List, ◌++◌, codes, decimal}
use Rattle.sip_validate.specs.declared.refused.Refused.{Refused}
use Rattle.sip_validate.specs.declared.refused.Refused.TheVariants.{NoMemory, Status}

-- what a refusal says when it is printed
abbrev pub words_of : Refused → List ℕ
words_of NoMemory = codes "out of memory"
words_of (Status status extra) = codes "refused with " ++ decimal status

-- the refusal with a status and a value of Unsupported
abbrev pub refused_with : ℕ × List ℕ → Refused
refused_with refusal = Status refusal.0 refusal.1
