-- What texts say: symbol by symbol, and in which order.
use Rattle.std.proofs.Common.{◌≡◌, ℕ, Bool, true, false, List, [], ◌∷◌, map, is_eq, Equal, refl, sym, subst, ◌∙◌, arith}
use Rattle.std.specs.Prelude.{◌==◌, nat_lt}
use Rattle.std.specs.Cmp.{IsTotalOrder}
use Rattle.std.specs.Cmp.Lexicographic.{slice_cmp, pointwise}
use Rattle.std.proofs.lemmas.Cmp.{on_total, lists_total, nat_cmp_total}
use Rattle.sip_uri_equality.specs.declared.symbols.Symbol.{Symbol}
use Rattle.sip_uri_equality.specs.declared.symbols.Symbol.TheVariants.{Plain, EscapedReserved}
use Rattle.sip_uri_equality.specs.Equality.{symbols, small, is_same_symbol, says_same_no_case}
use Rattle.sip_uri_equality.specs.Order.{rank, order_of_symbols, order_of_texts}

-- ---- the order

pub order_is_total : IsTotalOrder order_of_texts
order_is_total = on_total (λ (text : List ℕ). map small (symbols text)) (lists_total (on_total rank nat_cmp_total))

same_ranks : (s t : Symbol) → (rank s == rank t) ≡ is_same_symbol s t
same_ranks (Plain a) (Plain b) = grind arith
same_ranks (Plain a) (EscapedReserved b) = grind arith
same_ranks (EscapedReserved a) (Plain b) = grind arith
same_ranks (EscapedReserved a) (EscapedReserved b) = grind arith

-- ---- ties say the same

symbols_tie : (ss ts : List Symbol) → is_eq (slice_cmp order_of_symbols ss ts) ≡ pointwise is_same_symbol ss ts
symbols_tie [] [] = refl
symbols_tie [] (t ∷ ts) = refl
symbols_tie (s ∷ ss) [] = refl
symbols_tie (s ∷ ss) (t ∷ ts) = by_rank (nat_lt (rank s) (rank t)) (rank s == rank t) refl refl (symbols_tie ss ts)
  where
    by_rank : (a b : Bool) → nat_lt (rank s) (rank t) ≡ a → (rank s == rank t) ≡ b → is_eq (slice_cmp order_of_symbols ss ts) ≡ pointwise is_same_symbol ss ts
        → is_eq (slice_cmp order_of_symbols (s ∷ ss) (t ∷ ts)) ≡ pointwise is_same_symbol (s ∷ ss) (t ∷ ts)
    by_rank true true p q rest = let never : ⊥ = grind arith in absurd never
    by_rank true false p q rest = rw (p, sym (same_ranks s t) ∙ q) refl
    by_rank false true p q rest = rw (p, q, sym (same_ranks s t) ∙ q) rest
    by_rank false false p q rest = rw (p, q, sym (same_ranks s t) ∙ q) refl

pub tie_is_same : (left right : List ℕ) → is_eq (order_of_texts left right) ≡ says_same_no_case left right
tie_is_same left right = symbols_tie (map small (symbols left)) (map small (symbols right))

-- ---- the same bytes

symbol_itself : (s : Symbol) → order_of_symbols s s ≡ Equal
symbol_itself s = grind arith

symbols_itself : (ss : List Symbol) → slice_cmp order_of_symbols ss ss ≡ Equal
symbols_itself [] = refl
symbols_itself (s ∷ ss) = rw (symbol_itself s) (symbols_itself ss)

-- what is the same byte by byte ties
pub equal_tie : (left right : List ℕ) → left ≡ right → Equal ≡ order_of_texts left right
equal_tie left right same = sym (subst (λ (text : List ℕ). order_of_texts left text ≡ Equal) same (symbols_itself (map small (symbols left))))
