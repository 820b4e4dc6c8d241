-- What a Via of this server's begins with, by which its branch is found without reading it.
use Rattle.std.specs.Prelude.{◌≡◌, ◌++◌, ℕ, true, List, drop, Option, Some}
use Rattle.std.specs.Option.{option_and_then}
use Rattle.sip_text.specs.Words.{is_token_text}
use Rattle.sip_route.specs.header.Via.{via_of}
use Rattle.sip_route.specs.Own.{own_branch}
use Rattle.sip_route.specs.declared.own.Own.{Own}
use Rattle.sip_edit.specs.declared.own_via_prefix.OwnViaPrefix.{OwnViaPrefix}

-- the branch that the value of a Via says, if the Via is this server's
abbrev pub branch_said : Own → List ℕ → Option (List ℕ)
branch_said own value = option_and_then (own_branch own) (via_of value)

-- A text is what a Via of a server begins with, up to its branch: a token behind it is the branch.
pub record IsOwnHostPort (own : Own) (text : List ℕ) : Type 0 where
  pub says : (branch : List ℕ) → is_token_text branch ≡ true → branch_said own (text ++ branch) ≡ Some branch

-- A value begins so, and the token that ends it ends this branch.
pub record EndsIn (front : OwnViaPrefix) (value branch : List ℕ) : Type 0 where
  pub rest : List ℕ
  pub whole : value ≡ front.text ++ rest
  pub token : is_token_text rest ≡ true
  pub is_branch : branch ≡ drop front.before_branch value

-- A text is what a Via of a server begins with, up to the numbers that end its branch: a token behind it ends the branch, which begins
-- at that place.
pub record IsOwnViaPrefix (own : Own) (front : OwnViaPrefix) : Type 0 where
  pub says : (rest : List ℕ) → is_token_text rest ≡ true
      → branch_said own (front.text ++ rest) ≡ Some (drop front.before_branch (front.text ++ rest))
