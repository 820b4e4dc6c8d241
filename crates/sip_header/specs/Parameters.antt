-- Header parameters (RFC 3261 20 and 25.1, generic-param).
use Rattle.std.specs.Prelude.{◌≡◌, ◌⊎◌, ◌++◌, ◌<◌, ℕ, Bool, length, true, false, ◌||◌, is_some, if◌then◌else◌, List, [], ◌∷◌, codes, Option}
use Rattle.std.specs.Prelude.{Some, None, option_map}
use Rattle.std.specs.Option.{option_and_then, unwrap_or}
use Rattle.std.specs.Str.{byte}
use Rattle.sip_text.specs.Words.{is_token_text, is_same_text}
use Rattle.sip_text.specs.Lists.{trimmed}
use Rattle.sip_text.specs.Escapes.{unquoted}
use Rattle.sip_text.specs.Cuts.{split_outside, parts_at, parts_behind}
use Rattle.sip_uri.specs.Host.{is_host}
use Rattle.sip_header.specs.declared.parameters.HeaderParameter.{HeaderParameter}

-- a token, a host or quoted text
abbrev pub is_value : List ℕ → Bool
is_value text = if is_token_text text then true else if is_host text then true else is_some (unquoted text)

-- `tag` and `branch` mean nothing without a value
abbrev pub needs_value : List ℕ → Bool
needs_value name = is_same_text name (codes "tag") || is_same_text name (codes "branch")

-- a text gives a name a value: behind the name's `=`, blanks around both
pub record IsAssigned (text name value : List ℕ) : Type 0 where
  pub left : List ℕ
  pub right : List ℕ
  pub whole : text ≡ left ++ byte "=" ∷ right
  pub is_name : trimmed left ≡ name
  pub is_value : trimmed right ≡ value

-- a text writes a name alone, which may stand without a value, or a name and a value
abbrev pub IsParameterBy : List ℕ → List ℕ → Option (List ℕ) → Type 0
IsParameterBy text name None = (trimmed text ≡ name) × (is_token_text name ≡ true) × (needs_value name ≡ false)
IsParameterBy text name (Some value) = IsAssigned text name value × (is_token_text name ≡ true) × (is_value value ≡ true)

-- a text writes a parameter
abbrev pub IsParameter : List ℕ → HeaderParameter → Type 0
IsParameter text parameter = IsParameterBy text parameter.name parameter.value

-- a parameter without a value
abbrev pub bare_parameter : List ℕ → Option HeaderParameter
bare_parameter name =
    if is_token_text name then (if needs_value name then None else Some (record { name = name; value = None })) else None

-- a parameter with a value
abbrev pub valued_parameter : List ℕ → List ℕ → Option HeaderParameter
valued_parameter name value =
    if is_token_text name then (if is_value value then Some (record { name = name; value = Some value }) else None) else None

-- a parameter by whether there is a `=`
abbrev pub parameter_by : List ℕ → Option (List ℕ × List ℕ) → Option HeaderParameter
parameter_by text None = bare_parameter (trimmed text)
parameter_by text (Some x) = valued_parameter (trimmed x.0) (trimmed x.1)

-- a name, and behind `=` its value as it was written
abbrev pub parameter_in : List ℕ → Option HeaderParameter
parameter_in text = parameter_by text (split_outside (byte "=") text)

-- the parameters that texts write, if each writes one
abbrev pub parameters_in : List (List ℕ) → Option (List HeaderParameter)
parameters_in [] = Some []
parameters_in (text ∷ texts) = option_and_then (λ parameter. option_map (λ others. parameter ∷ others) (parameters_in texts)) (parameter_in text)

-- the parameters that texts write; none where one of them writes none
abbrev pub said_in : List (List ℕ) → List HeaderParameter
said_in texts = unwrap_or (parameters_in texts) []

-- nothing, or a `;` and what follows it
abbrev pub closing : Option (List ℕ) → List ℕ
closing None = []
closing (Some rest) = byte ";" ∷ rest

-- a text begins with a token or with quoted text, behind which the rest stands
pub record IsValueAt (text value rest : List ℕ) : Type 0 where
  pub whole : text ≡ value ++ rest
  pub is_said : (is_token_text value ≡ true) ⊎ (is_some (unquoted value) ≡ true)

-- less is left behind a parameter
abbrev pub IsLess : List ℕ → Option (List ℕ) → Type 0
IsLess text None = Unit {0}
IsLess text (Some rest) = length rest < length text

-- A text begins with a parameter: it says this one, and then what the rest behind its `;` says.
pub record Begins (text : List ℕ) (parameter : HeaderParameter) (behind : Option (List ℕ)) : Type 0 where
  pub says : parameters_in (parts_at (byte ";") text) ≡ option_map (λ others. parameter ∷ others) (parameters_in (parts_behind (byte ";") behind))
  pub less : IsLess text behind

-- A text says parameters if what follows the first `;` does.
pub record GoesOn (text : List ℕ) (behind : Option (List ℕ)) : Type 0 where
  pub says : is_some (parameters_in (parts_at (byte ";") text)) ≡ is_some (parameters_in (parts_behind (byte ";") behind))
  pub less : IsLess text behind

-- the first parameter of a name, without case
abbrev pub parameter_of : List ℕ → List HeaderParameter → Option HeaderParameter
parameter_of name [] = None
parameter_of name (parameter ∷ others) = if is_same_text parameter.name name then Some parameter else parameter_of name others

-- the value of the first parameter of a name, if it has one
abbrev pub value_of : List ℕ → List HeaderParameter → Option (List ℕ)
value_of name parameters = option_and_then (λ parameter. parameter.value) (parameter_of name parameters)

-- the tag (RFC 3261 19.3)
abbrev pub tag_of : List HeaderParameter → Option (List ℕ)
tag_of parameters = value_of (codes "tag") parameters

-- the branch (RFC 3261 8.1.1.7)
abbrev pub branch_of : List HeaderParameter → Option (List ℕ)
branch_of parameters = value_of (codes "branch") parameters
