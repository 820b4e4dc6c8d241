-- Each Contact of a 200 to a REGISTER is a live binding.
use Rattle.std.proofs.Common.{◌≡◌, ℕ, ◌+◌, ◌*◌, ◌/◌, ◌≤◌, ◌<◌, true, ◌&&◌, List, Contains, refl, arith}
use Rattle.std.specs.Prelude.{◌-◌}
use Rattle.std.specs.List.{AllByRecursion}
use Rattle.std.proofs.lemmas.Bool.Decides.{nat_tests}
use Rattle.sip_uri.specs.declared.aor.Aor.{Aor}
use Rattle.sip_uri.specs.Aor.{is_same_aor}
use Rattle.sip_location.specs.declared.binding.Binding.{Binding}
use Rattle.sip_location.specs.Binding.{is_live, is_of, live, seconds_left}
use Rattle.sip_location.proofs.Updates.{same_is}
use Rattle.model_steps.specs.Effect.{contact_field, contact_fields}
use Rattle.sip_model.specs.Listed.{IsListed}
use Rattle.sip_model.proofs.Lists.{all_map, all_passing, all_there}

-- seconds, a part of one counting as one
pub enough : (expires now : ℕ) → now < expires → expires ≤ now + 1000 * ((expires - now + 999) / 1000)
enough expires now later = omega (arith, later)

pub no_more : (expires now : ℕ) → now < expires → now + 1000 * ((expires - now + 999) / 1000) < expires + 1000
no_more expires now later = omega (arith, later)

-- a binding that lives
lives : (aor : Aor) (now : ℕ) (b : Binding) → (is_of aor b && is_live now b) ≡ true → (is_same_aor b.aor aor ≡ true) × (now < b.expires_at)
lives aor now b e =
    let mine : is_of aor b ≡ true = grind (arith, nat_tests) in
    let later : now < b.expires_at = grind (arith, nat_tests) in
    (mine, later)

-- is listed by its field
one_listed : (now : ℕ) (aor : Aor) (rows : List Binding) (b : Binding) → (is_of aor b && is_live now b) ≡ true → Contains rows b
    → IsListed now aor rows (contact_field now b)
one_listed now aor rows b passes there =
    let it = lives aor now b passes in
    record {
      binding = b;
      is_known = there;
      is_of_address = same_is b.aor aor it.0;
      is_live = it.1;
      seconds = seconds_left now b;
      are_enough = enough b.expires_at now it.1;
      are_no_more = no_more b.expires_at now it.1;
      is_contact = refl;
    }

-- so are all of them
pub all_listed : (now : ℕ) (aor : Aor) (rows : List Binding) → AllByRecursion (IsListed now aor rows) (contact_fields now aor rows)
all_listed now aor rows =
    all_map (IsListed now aor rows) (contact_field now) (live aor now rows)
    (all_passing (Contains rows) (λ (b : Binding). IsListed now aor rows (contact_field now b)) (λ b. is_of aor b && is_live now b) (one_listed now aor rows) rows
    (all_there rows))
