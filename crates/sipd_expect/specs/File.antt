-- The lines of a file of expectations, and what is answered of them together.
use Rattle.std.specs.Prelude.{ℕ, ◌⊎◌, Bool, true, false, List, [], ◌∷◌, Some, None}
use Rattle.std.specs.List.{AllByRecursion}
use Rattle.sip_text.specs.Lists.{trimmed}
use Rattle.sip_config_types.specs.declared.config.Config.{Config}
use Rattle.sipd_ask.specs.Fronts.{front_before}
use Rattle.sipd_expect.specs.declared.error.LineError.{LineError}
use Rattle.sipd_expect.specs.Line.{Answers, IsRefused}

-- what stands on a line, up to a CR and without blanks at its ends
abbrev pub line_text : List ℕ → List ℕ
line_text line = trimmed (front_before 13 line)

-- a question isn't decided as a line says
pub record Fails (config : Config) (line : List ℕ) : Type 0 where
  pub said : List ℕ
  pub answer : Answers config line (Some said)

-- a line holds or says nothing, or it fails
abbrev pub LineIs : Config → List ℕ → Bool → Type 0
LineIs config line true = Answers config (line_text line) None
LineIs config line false = Fails config (line_text line)

-- one of some lines fails
abbrev pub SomeFails : Config → List (List ℕ) → Type 0
SomeFails config [] = ⊥
SomeFails config (line ∷ lines) = LineIs config line false ⊎ SomeFails config lines

-- all lines of a file hold, or some fails
abbrev pub FileIs : Config → List (List ℕ) → Bool → Type 0
FileIs config lines true = AllByRecursion (λ line. LineIs config line true) lines
FileIs config lines false = SomeFails config lines

-- one of some lines is refused so
abbrev pub SomeRefused : Config → List (List ℕ) → LineError → Type 0
SomeRefused config [] why = ⊥
SomeRefused config (line ∷ lines) why = IsRefused config (line_text line) why ⊎ SomeRefused config lines why
