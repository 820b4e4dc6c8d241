-- What a refusal says when it is printed.
use Rattle.std.specs.Prelude.{ℕ, List, codes}
use Rattle.sip_audit.specs.declared.error.AuditError.{AuditError}
use Rattle.sip_audit.specs.declared.error.AuditError.TheVariants.{NoMemory, BadLine}

abbrev pub words_of : AuditError → List ℕ
words_of NoMemory = codes "out of memory"
words_of BadLine = codes "no audit line"
