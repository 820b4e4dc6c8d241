-- When what is filed of an address of record says of its live bindings what others say.
use Rattle.std.specs.Prelude.{◌≡◌, ℕ, List, filter, nat_lt}
use Rattle.sip_location.specs.declared.binding.Binding.{Binding}
use Rattle.sip_location.specs.declared.aor_bindings.AorBindings.{AorBindings}
use Rattle.sip_location.specs.Binding.{live}
use Rattle.sip_location.specs.KeptBinding.{KeptBinding}
use Rattle.sip_location.specs.AorBindings.{bindings_of}

-- what lives at a moment of what is kept
abbrev pub lives : ℕ → List KeptBinding → List KeptBinding
lives now kept = filter (λ k. nat_lt now k.expires_at) kept

-- the address of what is filed has the same live bindings among others
abbrev pub LivesAlike : List Binding → ℕ → AorBindings → Type 0
LivesAlike others now filed = live filed.aor now (bindings_of filed.aor filed.rows) ≡ live filed.aor now others
