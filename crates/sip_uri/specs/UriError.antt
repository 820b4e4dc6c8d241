-- What a refusal says when it is printed.
use Rattle.std.specs.Prelude.{ℕ, List, codes}
use Rattle.sip_uri.specs.declared.error.UriError.{UriError}
use Rattle.sip_uri.specs.declared.error.UriError.TheVariants.{NoMemory, Scheme, Syntax}

abbrev pub words_of : UriError → List ℕ
words_of NoMemory = codes "out of memory"
words_of Scheme = codes "neither a sip nor a sips URI"
words_of Syntax = codes "no URI"
