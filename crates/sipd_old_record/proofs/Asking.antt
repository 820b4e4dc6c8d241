-- How often a reader was asked, and why nothing more is had of it.
use Rattle.std.proofs.Common.{◌≡◌, ◌+◌, ◌-◌, inl, inr, ℕ, Option, Some, None, refl, sym, ap, ◌∙◌, arith, subst}
use Rattle.sip_replay_script.specs.Devices.{later}
use Rattle.sipd_old_record.specs.Readers.{HasStopped, WasAsked}

none_later : (a : Option ℕ) → later 0 a ≡ a
none_later None = refl
none_later (Some x) = let e : x + 0 ≡ x = omega arith in ap (λ (k : ℕ). Some k) e

later_sum : (a : Option ℕ) (n m : ℕ) → later m (later n a) ≡ later (n + m) a
later_sum None n m = refl
later_sum (Some x) n m = let e : (x + n) + m ≡ x + (n + m) = omega arith in ap (λ (k : ℕ). Some k) e

later_both : (a b c : Option ℕ) (n m : ℕ) → b ≡ later n a → c ≡ later m b → c ≡ later (n + m) a
later_both a b c n m h1 h2 = h2 ∙ (ap (λ (o : Option ℕ). later m o) h1 ∙ later_sum a n m)

pub none_asked : (a : Option ℕ) → WasAsked 0 a a
none_asked a = record { calls = 0; many = omega arith; counted = sym (none_later a) }

-- once more behind some times
pub asked_after : (a b c : Option ℕ) (n : ℕ) → b ≡ later n a → c ≡ later 1 b → WasAsked 0 a c
asked_after a b c n h1 h2 = record { calls = n + 1; many = omega arith; counted = later_both a b c n 1 h1 h2 }

pub asked_both : (n : ℕ) (a b c : Option ℕ) → WasAsked 0 a b → WasAsked n b c → WasAsked n a c
asked_both n a b c h1 h2 = record {
  calls = h1.calls + h2.calls;
  many = omega (arith, h2.many);
  counted = later_both a b c h1.calls h2.calls h1.counted h2.counted;
}

asked_so : (n : ℕ) (a b : Option ℕ) → b ≡ later n a → WasAsked n a b
asked_so n a b h = record { calls = n; many = omega arith; counted = h }

pub stopped_behind : (F : Type 0) (n : ℕ) (a b c : Option ℕ) → WasAsked 0 a b → HasStopped F n b c → HasStopped F n a c
stopped_behind F n a b c h (inl failed) = inl failed
stopped_behind F n a b c h (inr asked) = inr (asked_both n a b c h asked)

-- lines that may not ask any more have asked as often as they might
pub asked_out : (asks n : ℕ) (before now : Option ℕ) → later asks now ≡ later n before → asks ≡ 0 → WasAsked n before now
asked_out asks n before now h zero =
    let same : later 0 now ≡ later n before = subst (λ (k : ℕ). later k now ≡ later n before) zero h in
    asked_so n before now (sym (none_later now) ∙ same)

-- they asked some times before
pub asked_further : (asks n : ℕ) (before middle now : Option ℕ) → later asks middle ≡ later n before → WasAsked asks middle now → WasAsked n before now
asked_further asks n before middle now h asked =
    let more : ℕ = asked.calls - asks in
    let sum : asked.calls ≡ asks + more = omega (arith, asked.many) in
    let front : now ≡ later (asks + more) middle = subst (λ (k : ℕ). now ≡ later k middle) sum asked.counted in
    record {
      calls = n + more;
      many = omega arith;
      counted = front ∙ (sym (later_sum middle asks more) ∙ (ap (λ (o : Option ℕ). later more o) h ∙ later_sum before n more));
    }
