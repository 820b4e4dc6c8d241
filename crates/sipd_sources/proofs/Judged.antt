-- The credentials that a server judges.
use Rattle.std.proofs.Common.{◌≡◌, ℕ, Bool, true, false, List, [], ◌∷◌, Option, None, Some, refl}
use Rattle.std.specs.Prelude.{if◌then◌else◌, option_map}
use Rattle.std.specs.Option.{option_and_then}
use Rattle.sip_header_credentials.specs.declared.credentials.Credentials.{Credentials}
use Rattle.sip_header_credentials.specs.Credentials.{credentials_of, is_realm}
use Rattle.sip_auth.specs.Proof.{first_for_realm, for_realm, or_else}
use Rattle.sip_days.specs.Calls.{first_of}
use Rattle.sipd_sources.specs.Claims.{claimed, given_among}

-- the name that they have
abbrev name_in : Credentials → Option (List ℕ)
name_in c = c.username

by_realm : (c : Credentials) (is : Bool) (given : Option (Option (List ℕ))) (found : Option Credentials) → given ≡ option_map name_in found
    → first_of (if is then Some (name_in c) else None) given ≡ option_map name_in (or_else (if is then Some c else None) found)
by_realm c true given found rest = refl
by_realm c false given found rest = rest

by_value : (realm : List ℕ) (said : Option Credentials) (given : Option (Option (List ℕ))) (found : Option Credentials) → given ≡ option_map name_in found
    → first_of (option_and_then (claimed realm) said) given ≡ option_map name_in (or_else (for_realm realm said) found)
by_value realm None given found rest = rest
by_value realm (Some c) given found rest = by_realm c (is_realm realm c.realm) given found rest

pub all_judged : (realm : List ℕ) (values : List (List ℕ)) → given_among realm values ≡ option_map name_in (first_for_realm realm values)
all_judged realm [] = refl
all_judged realm (value ∷ values) = by_value realm (credentials_of value) (given_among realm values) (first_for_realm realm values) (all_judged realm values)
