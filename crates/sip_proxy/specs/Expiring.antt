-- What the dialogs learn where a request stays open no longer, and nothing goes to the caller.
use Rattle.std.specs.Prelude.{ℕ, List, [], ◌∷◌, Option, Some, None}
use Rattle.sip_dialog_updates.specs.declared.dialog_update.DialogUpdate.{DialogUpdate}
use Rattle.sip_dialog_updates.specs.declared.dialog_update.DialogUpdate.TheVariants.{Expire}

-- that the INVITE of this number left, if one did
abbrev pub expiring : Option ℕ → List DialogUpdate
expiring None = []
expiring (Some number) = Expire number ∷ []
