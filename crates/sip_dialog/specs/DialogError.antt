-- What a refusal says when it is printed.
use Rattle.std.specs.Prelude.{ℕ, List, codes}
use Rattle.sip_dialog.specs.declared.error.DialogError.{DialogError}
use Rattle.sip_dialog.specs.declared.error.DialogError.TheVariants.{NoMemory, Full}

abbrev pub words_of : DialogError → List ℕ
words_of NoMemory = codes "out of memory"
words_of Full = codes "4,096 dialogs are known"
