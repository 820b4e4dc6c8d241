-- What a table of dialogs shows.
use Rattle.std.specs.Prelude.{ℕ, List}
use Rattle.sip_base.specs.declared.word_hasher.WordHasher.{WordHasher}
use Rattle.sip_dialog.specs.declared.dialog.Dialog.{Dialog}

-- the dialogs that stand in it, in any order, those that aren't known any more among them; how many more can be learnt with no memory; and
-- the secret under which their names are hashed
pub record Table : Type 0 where
  pub dialogs : List Dialog
  pub room : ℕ
  pub secret : WordHasher
