-- What is near a moment fits once the moment has come.
use Rattle.std.proofs.Common.{◌≡◌, ℕ, ◌+◌, ◌≤◌, ◌-◌, max, sym, subst, arith}
use Rattle.std.proofs.Math.Nat.{le-max_right}
use Rattle.sip_fork.specs.Contexts.{IsFitting}
use Rattle.sip_fork.specs.Keeping.{IsKeptAs}
use Rattle.sip_fork.specs.request.Near.{most_timers}
use Rattle.sip_forwarding.specs.transactions_model.Fits.{Fits}
use Rattle.sip_forwarding.specs.transactions_model.Near.{IsWithin}
use Rattle.sip_dialog_updates.specs.state.declared.open_request.OpenRequest.{OpenRequest}

-- what is near a moment is near every later one
abbrev pub Passes : Type 0
Passes = (bound later : ℕ) (r : OpenRequest) → bound ≤ later → IsWithin bound r → IsWithin later r

-- a moment is at most a millisecond behind the one by which timers were told
pub told : (old now reached : ℕ) → reached ≡ max old (now - 1) → now ≤ reached + 1
told old now reached e =
    let most : now - 1 ≤ max old (now - 1) = le-max_right old (now - 1) in
    omega (arith, e, most)

pub fitting : Passes → (old now reached free : ℕ) (r : OpenRequest) → reached ≡ max old (now - 1) → Fits r → IsWithin now r → most_timers r ≤ free
    → IsFitting reached free r
fitting passes old now reached free r e fits near room = record { fits = fits; within = passes now (reached + 1) r (told old now reached e) near; room = room }

pub near : Passes → (old now moment : ℕ) (r : OpenRequest) → moment ≡ max old now → IsWithin now r → IsWithin moment r
near passes old now moment r e h = subst (λ (n : ℕ). IsWithin n r) (sym e) (passes now (max old now) r (le-max_right old now) h)

pub kept : Passes → (old now moment : ℕ) (r x : OpenRequest) → moment ≡ max old now → IsKeptAs now r x → IsKeptAs moment r x
kept passes old now moment r x e k = record { fits = k.fits; within = near passes old now moment x e k.within; number = k.number; key = k.key; branches = k.branches }
