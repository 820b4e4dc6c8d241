-- Addresses are told apart by their numbers, and names that were tried by the address in front of them.
use Rattle.std.proofs.Common.{◌≡◌, ◌≢◌, ◌<◌, ◌+◌, ◌*◌, ℕ, Bool, true, false, ◌||◌, cond, List, [], ◌∷◌, ◌++◌, length, Option, None, Some, refl, sym, ◌∙◌, ap, subst, arith}
use Rattle.std.specs.Prelude.{not}
use Rattle.std.specs.List.{list_any}
use Rattle.std.specs.Map.{lookup}
use Rattle.std.specs.Ordering.{is_eq, match_ordering, nat_cmp}
use Rattle.std.specs.declared.cmp.Ordering.{Ordering}
use Rattle.std.specs.declared.cmp.Ordering.TheVariants.{Less, Equal, Greater}
use Rattle.std.specs.Cmp.{nat_cmp_is}
use Rattle.std.specs.Cmp.Lexicographic.{slice_cmp}
use Rattle.std.specs.Str.{bytes_eq}
use Rattle.std.specs.BTreeMap.{insert_entry, is_at}
use Rattle.std.specs.BTreeSet.{insert_key}
use Rattle.std.proofs.lemmas.List.{append_cancel_left}
use Rattle.std.proofs.lemmas.Map.Lookups.{exact_bytes, exact_unsigned}
use Rattle.std.proofs.lemmas.Map.Text.{is_eq-slice_cmp}
use Rattle.std.proofs.lemmas.Slice.Eq.{bytes_eq-Decides}
use Rattle.sipd_sources.specs.declared.source.Source.{Source}
use Rattle.sipd_sources.specs.Source.{number_of}
use Rattle.sipd_sources.specs.Told.{is_new, with_text}
use Rattle.sipd_sources.specs.Own.{IsAddress}

-- ---- numbers

four : (a b c d e f g h : ℕ) → a < 256 → b < 256 → c < 256 → d < 256 → e < 256 → f < 256 → g < 256 → h < 256
    → a * 16777216 + b * 65536 + c * 256 + d ≡ e * 16777216 + f * 65536 + g * 256 + h → a ∷ b ∷ c ∷ d ∷ [] ≡ e ∷ f ∷ g ∷ h ∷ []
four a b c d e f g h la lb lc ld le lf lg lh same =
    let first : a ≡ e = omega (arith, la, lb, lc, ld, le, lf, lg, lh, same) in
    let second : b ≡ f = omega (arith, la, lb, lc, ld, le, lf, lg, lh, same) in
    let third : c ≡ g = omega (arith, la, lb, lc, ld, le, lf, lg, lh, same) in
    let fourth : d ≡ h = omega (arith, la, lb, lc, ld, le, lf, lg, lh, same) in
    ap (λ (x : ℕ). x ∷ b ∷ c ∷ d ∷ []) first ∙ ap (λ (x : ℕ). e ∷ x ∷ c ∷ d ∷ []) second ∙ ap (λ (x : ℕ). e ∷ f ∷ x ∷ d ∷ []) third
    ∙ ap (λ (x : ℕ). e ∷ f ∷ g ∷ x ∷ []) fourth

-- two addresses of one number are one
pub same_number : (ip other : List ℕ) → IsAddress ip → IsAddress other → number_of ip ≡ number_of other → ip ≡ other
same_number (a ∷ b ∷ c ∷ d ∷ []) (e ∷ f ∷ g ∷ h ∷ []) one two same =
    four a b c d e f g h one.1.0 one.1.1.0 one.1.1.1.0 one.1.1.1.1.0 two.1.0 two.1.1.0 two.1.1.1.0 two.1.1.1.1.0 same
same_number [] other one two same = let n = one.0 in absurd (omega (arith, n))
same_number (a ∷ []) other one two same = let n = one.0 in absurd (omega (arith, n))
same_number (a ∷ b ∷ []) other one two same = let n = one.0 in absurd (omega (arith, n))
same_number (a ∷ b ∷ c ∷ []) other one two same = let n = one.0 in absurd (omega (arith, n))
same_number (a ∷ b ∷ c ∷ d ∷ x ∷ xs) other one two same = let n = one.0 in absurd (omega (arith, n))
same_number (a ∷ b ∷ c ∷ d ∷ []) [] one two same = let n = two.0 in absurd (omega (arith, n))
same_number (a ∷ b ∷ c ∷ d ∷ []) (e ∷ []) one two same = let n = two.0 in absurd (omega (arith, n))
same_number (a ∷ b ∷ c ∷ d ∷ []) (e ∷ f ∷ []) one two same = let n = two.0 in absurd (omega (arith, n))
same_number (a ∷ b ∷ c ∷ d ∷ []) (e ∷ f ∷ g ∷ []) one two same = let n = two.0 in absurd (omega (arith, n))
same_number (a ∷ b ∷ c ∷ d ∷ []) (e ∷ f ∷ g ∷ h ∷ x ∷ xs) one two same = let n = two.0 in absurd (omega (arith, n))

-- ---- rows

at_itself : (n : ℕ) → is_at (nat_cmp n) n ≡ true
at_itself n = ap is_eq (sym (nat_cmp_is n n Equal refl))

at_one : (o : Ordering) → is_eq o ≡ true → o ≡ Equal
at_one Less h = absurd cc
at_one Equal h = refl
at_one Greater h = absurd cc

pub at_other : (n k : ℕ) → n ≢ k → is_at (nat_cmp n) k ≡ false
at_other n k unlike = by_test (is_at (nat_cmp n) k) refl where
  by_test : (t : Bool) → is_at (nat_cmp n) k ≡ t → t ≡ false
  by_test true is = absurd (unlike (exact_unsigned n k (at_one (nat_cmp n k) is)))
  by_test false is = refl

-- an entry that is put is found
pub found_own : (k : ℕ) (v : Source) (rows : List (ℕ × Source)) → lookup (is_at (nat_cmp k)) (insert_entry nat_cmp rows k v) ≡ Some v
found_own k v [] = ap (λ (t : Bool). cond t (Some v) None) (at_itself k)
found_own k v (row ∷ rows) = by_order (found_own k v rows) (nat_cmp k row.0) refl where
  by_order : lookup (is_at (nat_cmp k)) (insert_entry nat_cmp rows k v) ≡ Some v → (o : Ordering) → nat_cmp k row.0 ≡ o
      → lookup (is_at (nat_cmp k)) (match_ordering o ((k, v) ∷ row ∷ rows) ((row.0, v) ∷ rows) (row ∷ insert_entry nat_cmp rows k v)) ≡ Some v
  by_order rest Less is = ap (λ (t : Bool). cond t (Some v) (lookup (is_at (nat_cmp k)) (row ∷ rows))) (at_itself k)
  by_order rest Equal is = ap (λ (o : Ordering). cond (is_eq o) (Some v) (lookup (is_at (nat_cmp k)) rows)) is
  by_order rest Greater is = ap (λ (o : Ordering). cond (is_eq o) (Some row.1) (lookup (is_at (nat_cmp k)) (insert_entry nat_cmp rows k v))) is ∙ rest

-- and no other one is
pub found_other : (n k : ℕ) (v : Source) (rows : List (ℕ × Source)) → n ≢ k
    → lookup (is_at (nat_cmp n)) (insert_entry nat_cmp rows k v) ≡ lookup (is_at (nat_cmp n)) rows
found_other n k v [] unlike = ap (λ (t : Bool). cond t (Some v) None) (at_other n k unlike)
found_other n k v (row ∷ rows) unlike = by_order (found_other n k v rows unlike) (nat_cmp k row.0) refl where
  by_order : lookup (is_at (nat_cmp n)) (insert_entry nat_cmp rows k v) ≡ lookup (is_at (nat_cmp n)) rows → (o : Ordering) → nat_cmp k row.0 ≡ o
      → lookup (is_at (nat_cmp n)) (match_ordering o ((k, v) ∷ row ∷ rows) ((row.0, v) ∷ rows) (row ∷ insert_entry nat_cmp rows k v))
      ≡ lookup (is_at (nat_cmp n)) (row ∷ rows)
  by_order rest Less is = ap (λ (t : Bool). cond t (Some v) (lookup (is_at (nat_cmp n)) (row ∷ rows))) (at_other n k unlike)
  by_order rest Equal is =
      let apart : is_at (nat_cmp n) row.0 ≡ false = subst (λ (x : ℕ). is_at (nat_cmp n) x ≡ false) (exact_unsigned k row.0 is) (at_other n k unlike) in
      ap (λ (t : Bool). cond t (Some v) (lookup (is_at (nat_cmp n)) rows)) apart
      ∙ sym (ap (λ (t : Bool). cond t (Some row.1) (lookup (is_at (nat_cmp n)) rows)) apart)
  by_order rest Greater is = ap (λ (found : Option Source). cond (is_at (nat_cmp n) row.0) (Some row.1) found) rest

-- ---- names

or_twice : (a b : Bool) → (a || b) ≡ (a || (a || b))
or_twice true b = refl
or_twice false b = refl

pub or_swapped : (a b c : Bool) → (a || (b || c)) ≡ (b || (a || c))
or_swapped true true c = refl
or_swapped true false c = refl
or_swapped false b c = refl

-- whether a text is among some
abbrev pub is_there : List ℕ → List (List ℕ) → Bool
is_there text texts = list_any (is_at (slice_cmp nat_cmp text)) texts

there_put : (text put : List ℕ) (texts : List (List ℕ)) → is_there text (with_text put texts) ≡ (is_at (slice_cmp nat_cmp text) put || is_there text texts)
there_put text put [] = refl
there_put text put (x ∷ xs) = by_order (there_put text put xs) (slice_cmp nat_cmp put x) refl where
  by_order : is_there text (with_text put xs) ≡ (is_at (slice_cmp nat_cmp text) put || is_there text xs) → (o : Ordering) → slice_cmp nat_cmp put x ≡ o
      → is_there text (match_ordering o (put ∷ x ∷ xs) (x ∷ xs) (x ∷ with_text put xs)) ≡ (is_at (slice_cmp nat_cmp text) put || is_there text (x ∷ xs))
  by_order rest Less is = refl
  by_order rest Equal is =
      subst (λ (t : List ℕ). is_there text (x ∷ xs) ≡ (is_at (slice_cmp nat_cmp text) t || is_there text (x ∷ xs))) (sym (exact_bytes put x is))
      (or_twice (is_at (slice_cmp nat_cmp text) x) (is_there text xs))
  by_order rest Greater is =
      ap (λ (b : Bool). is_at (slice_cmp nat_cmp text) x || b) rest
      ∙ or_swapped (is_at (slice_cmp nat_cmp text) x) (is_at (slice_cmp nat_cmp text) put) (is_there text xs)

-- two tests that hold alike are one
alike : (a b : Bool) → (a ≡ true → b ≡ true) → (b ≡ true → a ≡ true) → a ≡ b
alike true true there back = refl
alike true false there back = sym (there refl)
alike false true there back = back refl
alike false false there back = refl

fronts : (a b xs ys : List ℕ) → length a ≡ length b → a ++ xs ≡ b ++ ys → a ≡ b
fronts [] [] xs ys long same = refl
fronts [] (v ∷ vs) xs ys long same = absurd (omega (arith, long))
fronts (u ∷ us) [] xs ys long same = absurd (omega (arith, long))
fronts (u ∷ us) (v ∷ vs) xs ys long same =
    let first : u ≡ v = cc in
    let rest : us ++ xs ≡ vs ++ ys = cc in
    let shorter : length us ≡ length vs = omega (arith, long) in
    ap (λ (x : ℕ). x ∷ us) first ∙ ap (λ (l : List ℕ). v ∷ l) (fronts us vs xs ys shorter rest)

-- behind one address texts are names
same_names : (ip name other : List ℕ) → is_at (slice_cmp nat_cmp (ip ++ name)) (ip ++ other) ≡ bytes_eq name other
same_names ip name other =
    is_eq-slice_cmp (ip ++ name) (ip ++ other)
    ∙ alike (bytes_eq (ip ++ name) (ip ++ other)) (bytes_eq name other)
    (λ same. (bytes_eq-Decides name other).1 (append_cancel_left ip name other ((bytes_eq-Decides (ip ++ name) (ip ++ other)).0 same)))
    (λ same. (bytes_eq-Decides (ip ++ name) (ip ++ other)).1 (ap (λ (l : List ℕ). ip ++ l) ((bytes_eq-Decides name other).0 same)))

-- behind two addresses they differ
other_names : (ip from name other : List ℕ) → length ip ≡ length from → ip ≢ from → is_at (slice_cmp nat_cmp (ip ++ name)) (from ++ other) ≡ false
other_names ip from name other long unlike =
    is_eq-slice_cmp (ip ++ name) (from ++ other) ∙ by_test (bytes_eq (ip ++ name) (from ++ other)) refl where
      by_test : (t : Bool) → bytes_eq (ip ++ name) (from ++ other) ≡ t → bytes_eq (ip ++ name) (from ++ other) ≡ false
      by_test true is = absurd (unlike (fronts ip from name other long ((bytes_eq-Decides (ip ++ name) (from ++ other)).0 is)))
      by_test false is = is

nots : (a b : Bool) → not a ≡ not b → a ≡ b
nots true true h = refl
nots true false h = absurd cc
nots false true h = absurd cc
nots false false h = refl

-- one of its own names is put
pub new_own : (ip name put : List ℕ) (tried names : List (List ℕ)) → is_new (ip ++ name) tried ≡ not (list_any (bytes_eq name) names)
    → is_new (ip ++ name) (with_text (ip ++ put) tried) ≡ not (bytes_eq name put || list_any (bytes_eq name) names)
new_own ip name put tried names h =
    ap not (there_put (ip ++ name) (ip ++ put) tried)
    ∙ ap (λ (b : Bool). not (b || is_there (ip ++ name) tried)) (same_names ip name put)
    ∙ ap (λ (b : Bool). not (bytes_eq name put || b)) (nots (is_there (ip ++ name) tried) (list_any (bytes_eq name) names) h)

-- one of another address's is
pub new_other : (ip from name put : List ℕ) (tried : List (List ℕ)) → length ip ≡ length from → ip ≢ from
    → is_new (ip ++ name) (with_text (from ++ put) tried) ≡ is_new (ip ++ name) tried
new_other ip from name put tried long unlike =
    ap not (there_put (ip ++ name) (from ++ put) tried)
    ∙ ap (λ (b : Bool). not (b || is_there (ip ++ name) tried)) (other_names ip from name put long unlike)
