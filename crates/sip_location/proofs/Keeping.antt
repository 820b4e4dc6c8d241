-- Bindings that are kept under their address of record.
use Rattle.std.proofs.Common.{◌≡◌, ℕ, suc, List, [], ◌∷◌, length, cond, Bool, true, false, refl, ap, subst}
use Rattle.std.specs.Prelude.{filter, map, nat_lt}
use Rattle.std.specs.List.{AllByRecursion}
use Rattle.sip_uri.specs.declared.aor.Aor.{Aor}
use Rattle.sip_uri.specs.Aor.{is_same_aor}
use Rattle.sip_location.specs.declared.binding.Binding.{Binding}
use Rattle.sip_location.specs.Binding.{is_of, is_live, live}
use Rattle.sip_location.specs.KeptBinding.{KeptBinding, binding_of, kept_of}
use Rattle.sip_location.specs.AorBindings.{bindings_of}
use Rattle.sip_location.proofs.Updates.{same_is, same_itself}

-- a binding that is kept under its own address is that binding
again : (aor : Aor) (b : Binding) → is_of aor b ≡ true → binding_of aor (kept_of b) ≡ b
again aor b mine = subst (λ (a : Aor). binding_of a (kept_of b) ≡ b) (same_is b.aor aor mine) refl

pub kept_again : (aor : Aor) (bs : List Binding) → AllByRecursion (λ b. is_of aor b ≡ true) bs → bindings_of aor (map kept_of bs) ≡ bs
kept_again aor [] mine = refl
kept_again aor (b ∷ bs) mine = rw (again aor b mine.0, kept_again aor bs mine.1) refl

-- all that is kept under an address is of it
pub all_of : (aor : Aor) (kept : List KeptBinding) → filter (is_of aor) (bindings_of aor kept) ≡ bindings_of aor kept
all_of aor [] = refl
all_of aor (k ∷ ks) = rw (same_itself aor, all_of aor ks) refl

-- and of no other
pub none_of : (aor key : Aor) (kept : List KeptBinding) → is_same_aor key aor ≡ false → filter (is_of aor) (bindings_of key kept) ≡ []
none_of aor key [] other = refl
none_of aor key (k ∷ ks) other = rw (other, none_of aor key ks other) refl

-- its live bindings are those that are live
pub live_of_kept : (aor : Aor) (now : ℕ) (kept : List KeptBinding) → filter (is_live now) (bindings_of aor kept) ≡ live aor now (bindings_of aor kept)
live_of_kept aor now [] = refl
live_of_kept aor now (k ∷ ks) = rw (same_itself aor) (ap (λ (rest : List Binding). cond (nat_lt now k.expires_at) (binding_of aor k ∷ rest) rest)
    (live_of_kept aor now ks))

-- as many as are live of what is kept
pub as_many : (aor : Aor) (now : ℕ) (kept : List KeptBinding) → length (filter (λ k. nat_lt now k.expires_at) kept) ≡ length (filter (is_live now) (bindings_of aor kept))
as_many aor now [] = refl
as_many aor now (k ∷ ks) = by_test (nat_lt now k.expires_at) (as_many aor now ks) where
  by_test : (t : Bool) → length (filter (λ j. nat_lt now j.expires_at) ks) ≡ length (filter (is_live now) (bindings_of aor ks))
      → length (cond t (k ∷ filter (λ j. nat_lt now j.expires_at) ks) (filter (λ j. nat_lt now j.expires_at) ks))
      ≡ length (cond t (binding_of aor k ∷ filter (is_live now) (bindings_of aor ks)) (filter (is_live now) (bindings_of aor ks)))
  by_test true e = ap suc e
  by_test false e = e
