-- Text up to its first `%`, and behind it.
use Rattle.std.proofs.Common.{◌≡◌, ℕ, zero, suc, ◌<◌, ◌≤◌, true, false, List, [], ◌∷◌, ◌++◌, length, take, drop, get_or, is_some, Option, Some, None, refl, sym, ap, ◌∙◌}
use Rattle.std.proofs.Common.{append_assoc, arith}
use Rattle.std.specs.Prelude.{◌==◌}
use Rattle.std.proofs.lemmas.List.{append-nil, take_all, drop_all, drop_more}
use Rattle.memchr.specs.Find.{NoneBefore, Nowhere, Passes, is_byte}
use Rattle.sip_text.specs.Escapes.{unescaped, with_front, BeginsEscape}

pub with_front-twice : (a b : List ℕ) (o : Option (List ℕ)) → with_front a (with_front b o) ≡ with_front (a ++ b) o
with_front-twice a b None = refl
with_front-twice a b (Some v) = ap (λ (w : List ℕ). Some w) (sym (append_assoc a b v))

with_front-nil : (o : Option (List ℕ)) → with_front [] o ≡ o
with_front-nil None = refl
with_front-nil (Some v) = refl

pub plain_one : (b : ℕ) (rest : List ℕ) → (b == 37) ≡ false → unescaped (b ∷ rest) ≡ with_front (b ∷ []) (unescaped rest)
plain_one b [] e = rw e refl
plain_one b (h ∷ []) e = rw e refl
plain_one b (h ∷ l ∷ rest) e = rw e refl

not_percent : (b : ℕ) → ((b == 37) ≡ true → ⊥) → (b == 37) ≡ false
not_percent b none = grind arith

plain_run : (k : ℕ) (text : List ℕ) → k ≤ length text → ((i : ℕ) → i < k → (get_or text i 0 == 37) ≡ true → ⊥)
    → unescaped text ≡ with_front (take k text) (unescaped (drop k text))
plain_run zero text le none = sym (with_front-nil (unescaped text))
plain_run (suc k) [] le none = absurd (omega arith)
plain_run (suc k) (b ∷ rest) le none =
    let here : (b == 37) ≡ false = not_percent b (none 0 (omega arith)) in
    let later : unescaped rest ≡ with_front (take k rest) (unescaped (drop k rest)) = plain_run k rest (omega arith) (λ i lt. none (suc i) (omega arith)) in
    plain_one b rest here ∙ ap (with_front (b ∷ [])) later ∙ with_front-twice (b ∷ []) (take k rest) (unescaped (drop k rest))

-- the first `%` of a text
abbrev pub IsPercent : List ℕ → ℕ → Type 0
IsPercent text k = NoneBefore (Passes (is_byte 37) text) 0 (length text) k × Passes (is_byte 37) text k

before_percent : (text : List ℕ) (k : ℕ) → IsPercent text k → unescaped text ≡ with_front (take k text) (unescaped (drop k text))
before_percent text k p = plain_run k text (omega (arith, p.0.high)) (λ i lt. p.0.before i (omega arith) lt)

pub begins : (text : List ℕ) (k : ℕ) → IsPercent text k → BeginsEscape (drop k text)
begins text k p = rw (drop_more text k 0 p.0.high) (is_37 _ p.1)
  where
    is_37 : (b : ℕ) → (b == 37) ≡ true → b ≡ 37
    is_37 b e = grind arith

pub goes_on : (front text after : List ℕ) (k x : ℕ) (total : Option (List ℕ)) → IsPercent text k → unescaped (drop k text) ≡ with_front (x ∷ []) (unescaped after)
    → with_front front (unescaped text) ≡ total → with_front ((front ++ take k text) ++ x ∷ []) (unescaped after) ≡ total
goes_on front text after k x total p here so_far =
    sym (with_front-twice (front ++ take k text) (x ∷ []) (unescaped after)) ∙ sym (with_front-twice front (take k text) (with_front (x ∷ []) (unescaped after)))
    ∙ ap (λ (o : Option (List ℕ)). with_front front (with_front (take k text) o)) (sym here) ∙ ap (with_front front) (sym (before_percent text k p)) ∙ so_far

pub is_bad : (front text : List ℕ) (k : ℕ) (total : Option (List ℕ)) → IsPercent text k → unescaped (drop k text) ≡ None → with_front front (unescaped text) ≡ total
    → total ≡ None
is_bad front text k total p here so_far = sym so_far ∙ ap (with_front front) (before_percent text k p ∙ ap (with_front (take k text)) here)

pub ends : (front text : List ℕ) (total : Option (List ℕ)) → Nowhere (Passes (is_byte 37) text) 0 (length text) → with_front front (unescaped text) ≡ total
    → total ≡ Some (front ++ text)
ends front text total none so_far =
    let all : unescaped text ≡ Some text = plain_run (length text) text (omega arith) (λ i lt. none i (omega arith) lt)
    ∙ rw (take_all (length text) text (omega arith), drop_all (length text) text (omega arith)) (ap (λ (v : List ℕ). Some v) (append-nil text)) in
    sym so_far ∙ ap (with_front front) all

-- what stands in front doesn't tell whether there is a rest
pub some_behind : (front : List ℕ) (o : Option (List ℕ)) → is_some (with_front front o) ≡ is_some o
some_behind front None = refl
some_behind front (Some v) = refl
