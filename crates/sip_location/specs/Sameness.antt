-- When rows say the same of every address of record.
use Rattle.std.specs.Prelude.{◌≡◌, ◌≤◌, ℕ, List, Result, Ok, Err}
use Rattle.sip_uri.specs.declared.aor.Aor.{Aor}
use Rattle.sip_location.specs.declared.binding.Binding.{Binding}
use Rattle.sip_location.specs.declared.error.LocationError.{LocationError}
use Rattle.sip_location.specs.Binding.{live}

-- Rows say the same from a moment on: then and later each address of record has the same live bindings, in the same order. Where
-- another address's rows stand, and expired ones, say
-- nothing.
abbrev pub SameBindings : ℕ → List Binding → List Binding → Type 0
SameBindings from left right = (aor : Aor) (moment : ℕ) → from ≤ moment → live aor moment left ≡ live aor moment right

-- the same outcome of a REGISTER: the same refusal, or rows that say the same
abbrev pub SameOutcome : ℕ → Result (List Binding) LocationError → Result (List Binding) LocationError → Type 0
SameOutcome now (Ok left) (Ok right) = SameBindings now left right
SameOutcome now (Err left) (Err right) = left ≡ right
SameOutcome now (Ok left) (Err right) = ⊥
SameOutcome now (Err left) (Ok right) = ⊥
