-- What is added behind what was added.
use Rattle.std.proofs.Common.{◌≡◌, ℕ, List, ◌++◌, Result, Ok, Err, ◌∙◌, ap, append_assoc}
use Rattle.std.specs.Prelude.{OnOk}

pub more : (out here new text added : List ℕ) → here ≡ out ++ text → new ≡ here ++ added → new ≡ out ++ (text ++ added)
more out here new text added h1 h2 = h2 ∙ ap (λ (l : List ℕ). l ++ added) h1 ∙ append_assoc out text added

pub more_ok : {X E : Type 0} (result : Result X E) (out here new text added : List ℕ) → here ≡ out ++ text → OnOk result (new ≡ here ++ added)
    → OnOk result (new ≡ out ++ (text ++ added))
more_ok (Ok x) out here new text added h1 h2 = more out here new text added h1 h2
more_ok (Err e) out here new text added h1 h2 = tt
