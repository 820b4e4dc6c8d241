-- Lines, one at a time.
use Rattle.std.proofs.Common.{◌≡◌, ℕ, suc, ◌<◌, Bool, true, false, cond, List, [], ◌∷◌, length, Option, Some, None, refl, sym, ap, subst, ◌∙◌, arith}
use Rattle.std.specs.Prelude.{option_map, ◌==◌}
use Rattle.sip_message.specs.Lines.{is_crlf, lines_at, line_at}
use Rattle.sip_text.specs.Lists.{onto}
use Rattle.sip_text.specs.Splits.{in_front}

-- a line before others
abbrev pub line_first : List ℕ → Option (List (List ℕ) × List ℕ) → Option (List (List ℕ) × List ℕ)
line_first line o = option_map (λ x. (line ∷ x.0, x.1)) o

abbrev pub bytes_first : List ℕ → Option (List (List ℕ) × List ℕ) → Option (List (List ℕ) × List ℕ)
bytes_first front o = option_map (λ x. (onto front x.0, x.1)) o

onto_first : (b : ℕ) (line : List ℕ) (o : Option (List (List ℕ) × List ℕ)) → bytes_first (b ∷ []) (line_first line o) ≡ line_first (b ∷ line) o
onto_first b line None = refl
onto_first b line (Some x) = refl

-- lines from within a line, by its end
abbrev from_line : Option (List ℕ × List ℕ) → Option (List (List ℕ) × List ℕ)
from_line None = None
from_line (Some x) = line_first x.0 (lines_at false x.1)

from_longer : (b : ℕ) (o : Option (List ℕ × List ℕ)) → from_line (in_front (b ∷ []) o) ≡ bytes_first (b ∷ []) (from_line o)
from_longer b None = refl
from_longer b (Some x) = sym (onto_first b x.0 (lines_at false x.1))

choose : {A B : Type 0} (f : A → B) (b : Bool) (x y : A) → f (cond b x y) ≡ cond b (f x) (f y)
choose f true x y = refl
choose f false x y = refl

within : (bytes : List ℕ) → lines_at true bytes ≡ from_line (line_at bytes)
within [] = refl
within (b ∷ []) = refl
within (b ∷ c ∷ rest) =
    let later : bytes_first (b ∷ []) (lines_at true (c ∷ rest)) ≡ from_line (in_front (b ∷ []) (line_at (c ∷ rest))) = ap (bytes_first (b ∷ [])) (within (c ∷ rest))
    ∙ sym (from_longer b (line_at (c ∷ rest))) in
    ap (λ (w : Option (List (List ℕ) × List ℕ)). cond (is_crlf b c) (line_first [] (lines_at false rest)) w) later
    ∙ sym (choose from_line (is_crlf b c) (Some ([], rest)) (in_front (b ∷ []) (line_at (c ∷ rest))))

abbrev pub is_empty : List ℕ → Bool
is_empty [] = true
is_empty (b ∷ bs) = false

-- lines from the front of a line, by its end
abbrev pub by_line : Option (List ℕ × List ℕ) → Option (List (List ℕ) × List ℕ)
by_line None = None
by_line (Some x) = cond (is_empty x.0) (Some ([], x.1)) (line_first x.0 (lines_at false x.1))

by_longer : (b : ℕ) (o : Option (List ℕ × List ℕ)) → by_line (in_front (b ∷ []) o) ≡ bytes_first (b ∷ []) (from_line o)
by_longer b None = refl
by_longer b (Some x) = sym (onto_first b x.0 (lines_at false x.1))

pub by_first_line : (bytes : List ℕ) → lines_at false bytes ≡ by_line (line_at bytes)
by_first_line [] = refl
by_first_line (b ∷ []) = refl
by_first_line (b ∷ c ∷ rest) =
    let later : bytes_first (b ∷ []) (lines_at true (c ∷ rest)) ≡ by_line (in_front (b ∷ []) (line_at (c ∷ rest))) = ap (bytes_first (b ∷ [])) (within (c ∷ rest))
    ∙ sym (by_longer b (line_at (c ∷ rest))) in
    ap (λ (w : Option (List (List ℕ) × List ℕ)). cond (is_crlf b c) (Some ([], rest)) w) later
    ∙ sym (choose by_line (is_crlf b c) (Some ([], rest)) (in_front (b ∷ []) (line_at (c ∷ rest))))

some_bytes : (n : ℕ) → (suc n == 0) ≡ false
some_bytes n = grind arith

pub empty_or : (line : List ℕ) (b : Bool) → (length line == 0) ≡ b → is_empty line ≡ b
empty_or [] b e = e
empty_or (c ∷ line) b e = sym (some_bytes (length line)) ∙ e

-- what follows a line is shorter
abbrev IsBelow : ℕ → Option (List ℕ × List ℕ) → Type 0
IsBelow n None = Unit {0}
IsBelow n (Some x) = length x.1 < n

below_longer : (n b : ℕ) (o : Option (List ℕ × List ℕ)) → IsBelow n o → IsBelow (suc n) (in_front (b ∷ []) o)
below_longer n b None h = tt
below_longer n b (Some x) h = omega arith

below_either : (n : ℕ) (t : Bool) (o p : Option (List ℕ × List ℕ)) → IsBelow n o → IsBelow n p → IsBelow n (cond t o p)
below_either n true o p h k = h
below_either n false o p h k = k

line_below : (bytes : List ℕ) → IsBelow (length bytes) (line_at bytes)
line_below [] = tt
line_below (b ∷ []) = tt
line_below (b ∷ c ∷ rest) = below_either (length (b ∷ c ∷ rest)) (is_crlf b c) (Some ([], rest)) (in_front (b ∷ []) (line_at (c ∷ rest))) (omega arith)
    (below_longer (length (c ∷ rest)) b (line_at (c ∷ rest)) (line_below (c ∷ rest)))

pub shorter : (bytes line after : List ℕ) → Some (line, after) ≡ line_at bytes → length after < length bytes
shorter bytes line after e = subst (λ (o : Option (List ℕ × List ℕ)). IsBelow (length bytes) o) (sym e) (line_below bytes)
