-- How the lines of a head stand beside its fields: as these are written, one behind the other, or not.
use Rattle.std.specs.Prelude.{◌≡◌, ◌≤◌, ℕ, ◌-◌, List, [], ◌∷◌, ◌++◌, length, take}
use Rattle.std.specs.List.{flat_map}
use Rattle.sip_message_fields.specs.declared.field.Field.{Field}
use Rattle.sip_message_form.specs.Text.{field_text}
use Rattle.sip_message.specs.declared.stands.Stands.{Stands}
use Rattle.sip_message.specs.declared.stands.Stands.TheVariants.{AsField, AsLength, Apart}
use Rattle.sip_message.specs.declared.stands.HeadLayout.{HeadLayout}
use Rattle.sip_message.specs.declared.stands.HeadLayout.TheVariants.{Going, Ended, Parted}

-- a line with its CRLF is that of a field, which came behind others
pub record IsFieldBehind (text : List ℕ) (old new : List Field) : Type 0 where
  pub field : Field
  pub line : text ≡ field_text field
  pub more : new ≡ old ++ field ∷ []

-- a line with its CRLF gave the field that it writes, or none, or was written in another way
abbrev pub IsStanding : Stands → List ℕ → List Field → List Field → Type 0
IsStanding AsField text old new = IsFieldBehind text old new
IsStanding AsLength text old new = new ≡ old
IsStanding Apart text old new = Unit {0}

-- the same, and what follows the line is next; of a line that is written in another way nothing is said
abbrev pub IsTakenAs : Stands → List ℕ → List ℕ → List Field → List Field → List ℕ → Type 0
IsTakenAs AsField text after old new next = IsStanding AsField text old new × (next ≡ after)
IsTakenAs AsLength text after old new next = IsStanding AsLength text old new × (next ≡ after)
IsTakenAs Apart text after old new next = Unit {0}

-- how lines stand once the Content-Length is taken, behind so many fields, from which on so many bytes are left
abbrev pub run_ended : HeadLayout → ℕ → ℕ → HeadLayout
run_ended Going count left = Ended count left
run_ended (Ended n m) count left = Parted
run_ended Parted count left = Parted

-- how they stand once a line is taken
abbrev pub run_behind : HeadLayout → Stands → ℕ → ℕ → HeadLayout
run_behind run AsField count left = run
run_behind run AsLength count left = run_ended run count left
run_behind run Apart count left = Parted

-- the lines of a head in front of a rest are those of fields; or those in front of so many last bytes are those of the first so many
-- fields; or nothing is said
abbrev pub AreStanding : HeadLayout → List ℕ → List Field → List ℕ → Type 0
AreStanding Going head fields rest = head ≡ flat_map field_text fields ++ rest
AreStanding (Ended count left) head fields rest = (count ≤ length fields) × (take (length head - left) head ≡ flat_map field_text (take count fields))
AreStanding Parted head fields rest = Unit {0}
