-- A parameter looked up where the first was read apart.
use Rattle.std.proofs.Common.{◌≡◌, ℕ, true, false, List, Option, Some, None, refl}
use Rattle.sip_text.specs.Words.{is_same_text}
use Rattle.sip_header.specs.declared.parameters.Assigned.{Assigned}
use Rattle.sip_header.specs.declared.parameters.HeaderParameter.{HeaderParameter}
use Rattle.sip_header.specs.Parameters.{parameter_of}
use Rattle.sip_header.specs.FirstParameter.{behind_first}

pub first_is : (sought : List ℕ) (first : Assigned) (others : List HeaderParameter) → is_same_text first.name.now sought ≡ true
    → Some (record { name = first.name.now; value = Some first.value.now }) ≡ parameter_of sought (behind_first (Some first) others)
first_is sought first others same = rw same refl

pub is_behind_first : (sought : List ℕ) (first : Assigned) (others : List HeaderParameter) → is_same_text first.name.now sought ≡ false
    → parameter_of sought others ≡ parameter_of sought (behind_first (Some first) others)
is_behind_first sought first others other = rw other refl

pub none_first : (sought : List ℕ) (first : Option Assigned) (others : List HeaderParameter) → first ≡ None
    → parameter_of sought others ≡ parameter_of sought (behind_first first others)
none_first sought first others none = rw none refl
