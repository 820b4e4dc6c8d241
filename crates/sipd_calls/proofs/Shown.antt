-- What a call adds, if it is shown.
use Rattle.std.proofs.Common.{◌≡◌, ℕ, Bool, true, false, List, [], ◌++◌, refl, sym, append-nil}
use Rattle.std.specs.Prelude.{if◌then◌else◌}

pub text_shown : (is shown : Bool) (old text new : List ℕ) → shown ≡ is → shown ≡ true → new ≡ old ++ text → new ≡ old ++ (if is then text else [])
text_shown true shown old text new same there adds = adds
text_shown false true old text new same there adds = absurd cc
text_shown false false old text new same there adds = absurd cc

pub text_hidden : (is shown : Bool) (old text : List ℕ) → shown ≡ is → shown ≡ false → old ≡ old ++ (if is then text else [])
text_hidden true true old text same missing = absurd cc
text_hidden true false old text same missing = absurd cc
text_hidden false shown old text same missing = sym (append-nil old)

pub kept_shown : {X : Type 0} (is shown : Bool) (before behind new : X) → shown ≡ is → shown ≡ true → new ≡ behind → new ≡ (if is then behind else before)
kept_shown true shown before behind new same there now = now
kept_shown false true before behind new same there now = absurd cc
kept_shown false false before behind new same there now = absurd cc

pub kept_hidden : {X : Type 0} (is shown : Bool) (before behind : X) → shown ≡ is → shown ≡ false → before ≡ (if is then behind else before)
kept_hidden true true before behind same missing = absurd cc
kept_hidden true false before behind same missing = absurd cc
kept_hidden false shown before behind same missing = refl
