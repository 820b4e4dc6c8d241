-- What a refusal says when it is printed.
use Rattle.std.specs.Prelude.{ℕ, List, codes}
use Rattle.sip_header.specs.declared.error.HeaderError.{HeaderError}
use Rattle.sip_header.specs.declared.error.HeaderError.TheVariants.{NoMemory, Missing, Malformed}

abbrev pub words_of : HeaderError → List ℕ
words_of NoMemory = codes "out of memory"
words_of (Missing _) = codes "a field is missing"
words_of (Malformed _) = codes "a field is malformed"
