-- Texts without `%` say their bytes, and bytes at the front that are the same decide nothing.
use Rattle.std.proofs.Common.{◌≡◌, ℕ, Bool, true, false, List, [], ◌∷◌, map, refl, ap, ◌∙◌, arith}
use Rattle.std.specs.Prelude.{◌==◌, ◌&&◌, nat_lt}
use Rattle.std.specs.List.{list_all}
use Rattle.std.specs.Char.{to_ascii_lowercase}
use Rattle.std.specs.Ordering.{nat_cmp, ordering_then}
use Rattle.std.specs.declared.cmp.Ordering.{Ordering}
use Rattle.std.specs.declared.cmp.Ordering.TheVariants.{Equal}
use Rattle.std.specs.Cmp.Lexicographic.{slice_cmp, pointwise}
use Rattle.sip_text.specs.Words.{is_same_text}
use Rattle.sip_uri.specs.Host.{is_not}
use Rattle.sip_uri.proofs.Tests.{and_both, not_is}
use Rattle.sip_uri_equality.specs.declared.symbols.Symbol.{Symbol}
use Rattle.sip_uri_equality.specs.declared.symbols.Symbol.TheVariants.{Plain}
use Rattle.sip_uri_equality.specs.Equality.{symbols, small, is_same_symbol, says_same, says_same_no_case}
use Rattle.sip_uri_equality.specs.Order.{rank, order_of_symbols, order_of_texts}
use Rattle.sip_uri_equality.proofs.Equal.{eqb_own}

-- a byte that isn't `%` says itself
plain_first : (b : ℕ) (bs : List ℕ) → (b == 37) ≡ false → symbols (b ∷ bs) ≡ Plain b ∷ symbols bs
plain_first b [] other = refl
plain_first b (h ∷ []) other = refl
plain_first b (h ∷ l ∷ rest) other = rw other refl

-- ---- bytes at the front

same_rank : (n : ℕ) → nat_cmp n n ≡ Equal
same_rank n =
    let below : nat_lt n n ≡ false = grind arith in
    rw (below, eqb_own n) refl

pub past_says : (b : ℕ) (left right : List ℕ) → (b == 37) ≡ false → says_same (b ∷ left) (b ∷ right) ≡ says_same left right
past_says b left right other = rw (plain_first b left other, plain_first b right other, eqb_own b) refl

pub past_order : (b : ℕ) (left right : List ℕ) → (b == 37) ≡ false → order_of_texts (b ∷ left) (b ∷ right) ≡ order_of_texts left right
past_order b left right other =
    rw (plain_first b left other, plain_first b right other)
    (ap (λ (o : Ordering). ordering_then o (slice_cmp order_of_symbols (map small (symbols left)) (map small (symbols right)))) (same_rank (rank (small (Plain b)))))

-- ---- texts without `%`

plain : (text : List ℕ) → list_all (is_not 37) text ≡ true → symbols text ≡ map Plain text
plain [] none = refl
plain (b ∷ bs) none =
    let parts = and_both (is_not 37 b) (list_all (is_not 37) bs) none in
    plain_first b bs (not_is (b == 37) parts.0) ∙ ap (λ (w : List Symbol). Plain b ∷ w) (plain bs parts.1)

bytes_same : (left right : List ℕ) → pointwise is_same_symbol (map small (map Plain left)) (map small (map Plain right)) ≡ is_same_text left right
bytes_same [] [] = refl
bytes_same [] (y ∷ ys) = refl
bytes_same (x ∷ xs) [] = refl
bytes_same (x ∷ xs) (y ∷ ys) = ap (λ (t : Bool). (to_ascii_lowercase x == to_ascii_lowercase y) && t) (bytes_same xs ys)

-- such texts say the same without case where they are the same without case
pub plain_same : (left right : List ℕ) → list_all (is_not 37) left ≡ true → list_all (is_not 37) right ≡ true → says_same_no_case left right ≡ is_same_text left right
plain_same left right of_left of_right = rw (plain left of_left, plain right of_right) (bytes_same left right)
