-- A tag that stands behind an address.
use Rattle.std.specs.Prelude.{◌≡◌, ℕ, List, Option, Some}
use Rattle.std.specs.Str.{byte}
use Rattle.sip_text.specs.Cuts.{parts_behind}
use Rattle.sip_header.specs.declared.parameters.HeaderParameter.{HeaderParameter}
use Rattle.sip_header.specs.Parameters.{parameters_in, closing, tag_of}

-- The rest of a value writes parameters, each behind a `;`, and the tag among them is this one.
pub record SaysTag (rest tag : List ℕ) : Type 0 where
  pub behind : Option (List ℕ)
  pub parameters : List HeaderParameter
  pub closed : rest ≡ closing behind
  pub says : parameters_in (parts_behind (byte ";") behind) ≡ Some parameters
  pub tagged : tag_of parameters ≡ Some tag
