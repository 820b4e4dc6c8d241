-- Configured users by their names.
use Rattle.std.specs.Prelude.{◌≡◌, ℕ, Bool, true, not, ◌&&◌, List, [], ◌∷◌, Option, Vec, position}
use Rattle.std.specs.Str.{bytes_eq}
use Rattle.std.specs.HashMap.{HashMap, get_by}
use Rattle.sip_policy.specs.declared.user.User.{User}
use Rattle.sip_policy.specs.User.{is_named, is_users_name}

-- whether no two users have the same name
abbrev pub have_own_names : List User → Bool
have_own_names [] = true
have_own_names (user ∷ users) = not (is_users_name users user.name) && have_own_names users

-- the place that a name leads to
abbrev pub place_of : {A S : Type 0} → HashMap (Vec ℕ A) ℕ S → List ℕ → Option ℕ
place_of places name = get_by (λ key. bytes_eq name key.items) places

-- each name leads to the place of its user, and no two users have the same
pub record AreNamed (place : List ℕ → Option ℕ) (users : List User) : Type 0 where
  pub placed : (name : List ℕ) → place name ≡ position (is_named name) users
  pub distinct : have_own_names users ≡ true
