-- What a refusal says when it is printed.
use Rattle.std.specs.Prelude.{ℕ, List, codes}
use Rattle.sip_text.specs.declared.error.TextError.{TextError}
use Rattle.sip_text.specs.declared.error.TextError.TheVariants.{NoMemory, Unbalanced, BadEscape}

abbrev pub words_of : TextError → List ℕ
words_of NoMemory = codes "out of memory"
words_of Unbalanced = codes "a quote, a bracket or an item is missing"
words_of BadEscape = codes "a bad escape"
