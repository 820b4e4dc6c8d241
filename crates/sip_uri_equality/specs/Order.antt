-- Orders in which texts, parameters and headers are put, so that many of them are compared in little time. What
-- ties in an order is the same; which of two that differ goes first is this project's choice.
use Rattle.std.specs.Prelude.{◌≡◌, ℕ, ◌+◌, ◌*◌, Bool, false, List, [], ◌∷◌, map}
use Rattle.std.specs.declared.cmp.Ordering.{Ordering}
use Rattle.std.specs.Ordering.{nat_cmp, ordering_then, is_gt}
use Rattle.std.specs.Borrow.{Bor}
use Rattle.std.specs.List.{AllByRecursion}
use Rattle.std.specs.List.Sorted.{IsPermutation}
use Rattle.std.specs.Cmp.Lexicographic.{slice_cmp}
use Rattle.sip_uri.specs.declared.parameters.UriParameter.{UriParameter}
use Rattle.sip_uri.specs.declared.headers.UriHeader.{UriHeader}
use Rattle.sip_uri_equality.specs.declared.symbols.Symbol.{Symbol}
use Rattle.sip_uri_equality.specs.declared.symbols.Symbol.TheVariants.{Plain, EscapedReserved}
use Rattle.sip_uri_equality.specs.Equality.{symbols, small, says_same_no_case}

-- the place of a symbol among all
abbrev pub rank : Symbol → ℕ
rank (Plain b) = 2 * b
rank (EscapedReserved b) = 2 * b + 1

-- two symbols by their places
abbrev pub order_of_symbols : Symbol → Symbol → Ordering
order_of_symbols a b = nat_cmp (rank a) (rank b)

-- two texts by what they say without case: symbol by symbol, then by length
abbrev pub order_of_texts : List ℕ → List ℕ → Ordering
order_of_texts left right = slice_cmp order_of_symbols (map small (symbols left)) (map small (symbols right))

-- two parameters by their names
abbrev pub order_of_names : UriParameter → UriParameter → Ordering
order_of_names p q = order_of_texts p.name q.name

-- two headers by their names, then by their values
abbrev pub order_of_headers : UriHeader → UriHeader → Ordering
order_of_headers h g = ordering_then (order_of_texts h.name g.name) (order_of_texts h.value g.value)

-- none goes behind one that follows it
abbrev pub AreInOrder : {X : Type 0} → (X → X → Ordering) → List X → Type 0
AreInOrder order [] = Unit {0}
AreInOrder order (x ∷ xs) = AllByRecursion (λ y. is_gt (order x y) ≡ false) xs × AreInOrder order xs

-- whether a list begins with a parameter of a name
abbrev pub begins_with : List ℕ → List UriParameter → Bool
begins_with name [] = false
begins_with name (p ∷ ps) = says_same_no_case name p.name

-- parameters behind references
abbrev pub those_of : {X : Type 0} → List (Bor X) → List X
those_of xs = map (λ x. x.now) xs

-- Places refer to the elements of a list, and stand in order.
pub record ArePutInOrder {X : Type 0} (order : X → X → Ordering) (xs : List X) (places : List (Bor X)) : Type 0 where
  pub moved : IsPermutation xs (those_of places)
  pub in_order : AreInOrder order (those_of places)
