-- Bindings that are filed under their addresses of record.
use Rattle.std.specs.Prelude.{◌≡◌, ◌≤◌, ◌==◌, ℕ, zero, suc, Bool, false, List, [], ◌∷◌, ◌++◌, map, filter, flat_map, length, if◌then◌else◌}
use Rattle.std.specs.Prelude.{Option, None, Some, IfSome, option_to_list}
use Rattle.sip_uri.specs.declared.aor.Aor.{Aor}
use Rattle.sip_uri.specs.Aor.{is_same_aor}
use Rattle.sip_location.specs.declared.binding.Binding.{Binding}
use Rattle.sip_location.specs.declared.aor_bindings.AorBindings.{AorBindings}
use Rattle.sip_location.specs.KeptBinding.{KeptBinding, binding_of}
use Rattle.sip_location.specs.Code.{code_of, code_count}
use Rattle.sip_location.specs.Locations.{of_aor}

-- the bindings of an address that are kept so
abbrev pub bindings_of : Aor → List KeptBinding → List Binding
bindings_of aor kept = map (binding_of aor) kept

-- the bindings of all that is filed, one after another
abbrev pub all_bindings : List AorBindings → List Binding
all_bindings filed = flat_map (λ f. bindings_of f.aor f.rows) filed

-- what stands under the codes below a number, in their order
abbrev pub filed_below : ℕ → (ℕ → Option AorBindings) → List AorBindings
filed_below zero by_code = []
filed_below (suc code) by_code = filed_below code by_code ++ option_to_list (by_code code)

-- the bindings of what stands under a code, in the order of the codes, then of a crowd
abbrev pub rows_in : (ℕ → Option AorBindings) → List AorBindings → List Binding
rows_in by_code crowd = all_bindings (filed_below code_count by_code ++ crowd)

-- whether an address is that of what is filed
abbrev pub is_filed_of : Aor → AorBindings → Bool
is_filed_of aor filed = is_same_aor filed.aor aor

-- what is filed of an address, under its code or in a crowd
abbrev pub filed_of : Aor → (ℕ → Option AorBindings) → List AorBindings → List AorBindings
filed_of aor by_code crowd = filter (is_filed_of aor) (option_to_list (by_code (code_of aor)) ++ crowd)

-- the rows of the first that is filed
abbrev pub first_rows : List AorBindings → List KeptBinding
first_rows [] = []
first_rows (filed ∷ others) = filed.rows

-- what is to be filed, which is nothing without rows
abbrev pub with_rows : AorBindings → Option AorBindings
with_rows filed = if length filed.rows == 0 then None else Some filed

-- What stands under a code is of an address with that code, and each address is filed once at most.
pub record AreFiled (by_code : ℕ → Option AorBindings) (crowd : List AorBindings) : Type 0 where
  pub coded : (code : ℕ) → IfSome (by_code code) (λ filed. code_of filed.aor ≡ code)
  pub once : (aor : Aor) → length (filed_of aor by_code crowd) ≤ 1

-- What is kept of an address is replaced: it has this, and every other its own.
pub record IsReplaced (old : List Binding) (aor : Aor) (kept : List KeptBinding) (new : List Binding) : Type 0 where
  pub own : of_aor aor new ≡ bindings_of aor kept
  pub others : (other : Aor) → is_same_aor other aor ≡ false → of_aor other new ≡ of_aor other old
