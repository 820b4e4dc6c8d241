-- What a refusal says when it is printed.
use Rattle.std.specs.Prelude.{ℕ, List, codes}
use Rattle.sip_location.specs.declared.error.LocationError.{LocationError}
use Rattle.sip_location.specs.declared.error.LocationError.TheVariants.{NoMemory, BadStar, TooBrief, OldCSeq, TooMany}

abbrev pub words_of : LocationError → List ℕ
words_of NoMemory = codes "out of memory"
words_of BadStar = codes "a `*` that doesn't stand alone with Expires 0"
words_of TooBrief = codes "an interval below a minute"
words_of OldCSeq = codes "a CSeq that isn't higher"
words_of TooMany = codes "more than 16 bindings"
