-- What a refusal says when it is printed.
use Rattle.std.specs.Prelude.{ℕ, List, codes}
use Rattle.sip_hops.specs.declared.error.HopsError.{HopsError}
use Rattle.sip_hops.specs.declared.error.HopsError.TheVariants.{NoMemory}

abbrev pub words_of : HopsError → List ℕ
words_of NoMemory = codes "out of memory"
