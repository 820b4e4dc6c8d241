-- Keys that lead to places, in the order of these.
use Rattle.std.proofs.Common.{◌≡◌, ℕ, zero, suc, ◌+◌, ◌≤◌, ◌<◌, Bool, true, false, ◌||◌, ◌==◌, if◌then◌else◌, List, [], ◌∷◌, ◌++◌, length, take, map, slice_get, Option}
use Rattle.std.proofs.Common.{Some, None, Vec, Global, refl, sym, ap, ap₂, subst, ◌∙◌, arith}
use Rattle.std.specs.Prelude.{option_to_list, is_some, IsPermutation}
use Rattle.std.specs.List.{list_any, AllByRecursion}
use Rattle.std.specs.Str.{bytes_eq}
use Rattle.std.specs.Map.{keys_of, lookup}
use Rattle.std.specs.HashMap.{HashMap, get, PutsEntry}
use Rattle.std.proofs.lemmas.Bool.{eqb-true, eqb-false}
use Rattle.std.proofs.lemmas.List.{length-map, map-append, take_all}
use Rattle.std.proofs.lemmas.List.Elements.{All-from_recursion, recursion_from_All}
use Rattle.std.proofs.lemmas.List.Sorted.{All-permutation, IsPermutation-refl, IsPermutation-push_more, length_permutation, list_any-IsPermutation}
use Rattle.std.proofs.lemmas.Map.Made.{is_some-lookup}
use Rattle.sip_config_values.specs.InOrder.{key_at, keys_below, in_order, placed_from, ArePlaced, texts_in_order}

module _ {K : Type 0} where
  -- ---- keys with their places

  -- each key stands at its place
  abbrev IsAt : List K → K × ℕ → Type 0
  IsAt keys entry = slice_get keys entry.1 ≡ Some entry.0

  each_by : (keys : List K) (read : ℕ → Option K) (at : ℕ) → ((m : ℕ) → read (at + m) ≡ slice_get keys m)
      → AllByRecursion (λ entry. read entry.1 ≡ Some entry.0) (placed_from at keys)
  each_by [] read at h = tt
  each_by (key ∷ keys) read at h =
      (ap read (let e : at ≡ at + 0 = omega arith in e) ∙ h 0, each_by keys read (at + 1) (λ m. ap read (let e : at + 1 + m ≡ at + suc m = omega arith in e) ∙ h (suc m)))

  each_at : (keys : List K) → AllByRecursion (IsAt keys) (placed_from 0 keys)
  each_at keys = each_by keys (slice_get keys) 0 (λ m. ap (slice_get keys) (let e : 0 + m ≡ m = omega arith in e))

  there_from : (keys : List K) (at place : ℕ) → at ≤ place → place < at + length keys → list_any (λ (entry : K × ℕ). place == entry.1) (placed_from at keys) ≡ true
  there_from [] at place le lt = absurd (omega arith)
  there_from (key ∷ keys) at place le lt = by (place == at) refl (λ past. there_from keys (at + 1) place past (omega arith))
    where
      by : (here : Bool) → (place == at) ≡ here → (at + 1 ≤ place → list_any (λ (entry : K × ℕ). place == entry.1) (placed_from (at + 1) keys) ≡ true)
          → (here || list_any (λ (entry : K × ℕ). place == entry.1) (placed_from (at + 1) keys)) ≡ true
      by true is rest = refl
      by false is rest = let apart = eqb-false place at is in rest (omega arith)

  length-placed_from : (at : ℕ) (keys : List K) → length (placed_from at keys) ≡ length keys
  length-placed_from at [] = refl
  length-placed_from at (key ∷ keys) = ap suc (length-placed_from (at + 1) keys)

  placed_from_push : (at : ℕ) (keys : List K) (key : K) → placed_from at (keys ++ key ∷ []) ≡ placed_from at keys ++ (key, at + length keys) ∷ []
  placed_from_push at [] key = ap (λ (n : ℕ). (key, n) ∷ []) (omega arith)
  placed_from_push at (first ∷ keys) key =
      ap (λ (rest : List (K × ℕ)). (first, at) ∷ rest) (placed_from_push (at + 1) keys key ∙ ap (λ (n : ℕ). placed_from (at + 1) keys ++ (key, n) ∷ []) (omega arith))

  -- ---- in any order

  key_found : (keys : List K) (place : ℕ) (entries : List (K × ℕ)) → AllByRecursion (IsAt keys) entries → list_any (λ (entry : K × ℕ). place == entry.1) entries ≡ true
      → key_at place entries ≡ slice_get keys place
  key_found keys place [] each there = absurd cc
  key_found keys place (entry ∷ entries) each there = by (place == entry.1) refl there (λ h. key_found keys place entries each.1 h)
    where
      by : (here : Bool) → (place == entry.1) ≡ here → (here || list_any (λ (other : K × ℕ). place == other.1) entries) ≡ true
          → (list_any (λ (other : K × ℕ). place == other.1) entries ≡ true → key_at place entries ≡ slice_get keys place)
          → (if here then Some entry.0 else key_at place entries) ≡ slice_get keys place
      by true is h rest = sym (ap (slice_get keys) (eqb-true place entry.1 is) ∙ each.0)
      by false is h rest = rest h

  taken : (keys : List K) (place : ℕ) → place < length keys → take place keys ++ option_to_list (slice_get keys place) ≡ take (suc place) keys
  taken [] place lt = absurd (omega arith)
  taken (key ∷ keys) zero lt = refl
  taken (key ∷ keys) (suc place) lt = ap (λ (rest : List K). key ∷ rest) (taken keys place (omega arith))

  below_is : (keys : List K) (entries : List (K × ℕ)) → IsPermutation (placed_from 0 keys) entries → (place : ℕ) → place ≤ length keys
      → keys_below place entries ≡ take place keys
  below_is keys entries same zero le = refl
  below_is keys entries same (suc place) le =
      let each : AllByRecursion (IsAt keys) entries = recursion_from_All (IsAt keys) entries
      (All-permutation (IsAt keys) (placed_from 0 keys) entries same (All-from_recursion (IsAt keys) (placed_from 0 keys) (each_at keys))) in
      let there : list_any (λ (entry : K × ℕ). place == entry.1) entries ≡ true = sym
      (list_any-IsPermutation (λ (entry : K × ℕ). place == entry.1) (placed_from 0 keys) entries same) ∙ there_from keys 0 place (omega arith) (omega arith) in
      ap₂ (λ (front : List K) (key : Option K). front ++ option_to_list key) (below_is keys entries same place (omega arith)) (key_found keys place entries each there)
      ∙ taken keys place (omega arith)

  in_order_is : (keys : List K) (entries : List (K × ℕ)) → IsPermutation (placed_from 0 keys) entries → in_order entries ≡ keys
  unfolding in_order
  in_order_is keys entries same =
      let long : length entries ≡ length keys = length_permutation (placed_from 0 keys) entries same ∙ length-placed_from 0 keys in
      ap (λ (n : ℕ). keys_below n entries) long ∙ below_is keys entries same (length keys) (omega arith) ∙ take_all (length keys) keys (omega arith)

  pub order_count : (entries : List (K × ℕ)) → ArePlaced entries → length entries ≡ length (in_order entries)
  order_count entries placed = length_permutation (placed_from 0 (in_order entries)) entries placed.each ∙ length-placed_from 0 (in_order entries)

  -- ---- as the code goes

  pub none_placed : (entries : List (K × ℕ)) → entries ≡ [] → (in_order entries ≡ []) × ArePlaced entries
  none_placed entries none =
      let order : in_order entries ≡ [] = in_order_is [] entries (subst (IsPermutation []) (sym none) (IsPermutation-refl [])) in (
        order,
        record {
          each = subst (λ (keys : List K). IsPermutation (placed_from 0 keys) entries) (sym order)
              (subst (IsPermutation []) (sym none) (IsPermutation-refl []));
        },
      )

  any_entry : (test : K → Bool) (at : ℕ) (keys : List K) → list_any (λ (entry : K × ℕ). test entry.0) (placed_from at keys) ≡ list_any test keys
  any_entry test at [] = refl
  any_entry test at (key ∷ keys) = ap (λ (b : Bool). test key || b) (any_entry test (at + 1) keys)

  any_key : (test : K → Bool) (entries : List (K × ℕ)) → list_any test (keys_of entries) ≡ list_any (λ (entry : K × ℕ). test entry.0) entries
  any_key test [] = refl
  any_key test (entry ∷ entries) = ap (λ (b : Bool). test entry.0 || b) (any_key test entries)

  -- a look-up finds what passes among the keys in their order
  pub found_in_order : (test : K → Bool) (entries : List (K × ℕ)) → ArePlaced entries → is_some (lookup test entries) ≡ list_any test (in_order entries)
  found_in_order test entries placed =
      is_some-lookup test entries
      ∙ any_key test entries
      ∙ sym (list_any-IsPermutation (λ (entry : K × ℕ). test entry.0) (placed_from 0 (in_order entries)) entries placed.each)
      ∙ any_entry test 0 (in_order entries)

  one_more : (entries more : List (K × ℕ)) (key : K) (at : ℕ) → ArePlaced entries → at ≡ length entries → IsPermutation ((key, at) ∷ entries) more
      → (in_order more ≡ in_order entries ++ key ∷ []) × ArePlaced more
  one_more entries more key at placed last grown =
      let keys : List K = in_order entries in
      let count : at ≡ 0 + length keys = last ∙ length_permutation (placed_from 0 keys) entries placed.each ∙ length-placed_from 0 keys ∙ omega arith in
      let pushed : placed_from 0 keys ++ (key, at) ∷ [] ≡ placed_from 0 (keys ++ key ∷ []) = ap (λ (n : ℕ). placed_from 0 keys ++ (key, n) ∷ []) count
      ∙ sym (placed_from_push 0 keys key) in
      let all : IsPermutation (placed_from 0 (keys ++ key ∷ [])) more =
      subst (λ (list : List (K × ℕ)). IsPermutation list more) pushed (IsPermutation-push_more (placed_from 0 keys) entries more (key, at) placed.each grown) in
      let order : in_order more ≡ keys ++ key ∷ [] = in_order_is (keys ++ key ∷ []) more all in
      (order, record { each = subst (λ (list : List K). IsPermutation (placed_from 0 list) more) (sym order) all })

  -- a new key leads to the place behind the others
  pub new_last : {S : Type 0} (eq : K → K → Bool) (places more : HashMap K ℕ S) (key : K) (at : ℕ) (old : Option ℕ) → ArePlaced places.entries
      → at ≡ length places.entries
      → is_some (get eq places key) ≡ false → old ≡ get eq places key → PutsEntry eq places more key at old
      → (in_order more.entries ≡ in_order places.entries ++ key ∷ []) × ArePlaced more.entries
  new_last eq places more key at None placed last new was puts = one_more places.entries more.entries key at placed last puts
  new_last eq places more key at (Some place) placed last new was puts =
      let never : true ≡ false = ap (λ (o : Option ℕ). is_some o) was ∙ new in
      cc

-- ---- names

abbrev pub Name : Type 0
Name = Vec ℕ Global

any_text : (name : List ℕ) (keys : List Name) → list_any (λ (key : Name). bytes_eq name key.items) keys ≡ list_any (bytes_eq name) (map (λ (key : Name). key.items) keys)
any_text name [] = refl
any_text name (key ∷ keys) = ap (λ (b : Bool). bytes_eq name key.items || b) (any_text name keys)

-- whether a name is among some
pub name_found : {S : Type 0} (names : HashMap Name ℕ S) (name : List ℕ) → ArePlaced names.entries
    → is_some (lookup (λ (key : Name). bytes_eq name key.items) names.entries) ≡ list_any (bytes_eq name) (texts_in_order names)
name_found names name placed = found_in_order (λ (key : Name). bytes_eq name key.items) names.entries placed ∙ any_text name (in_order names.entries)

abbrev pub name_eq : Name → Name → Bool
name_eq name other = bytes_eq name.items other.items

-- there are as many names as keys
pub name_count : {S : Type 0} (names : HashMap Name ℕ S) → ArePlaced names.entries → length (texts_in_order names) ≡ length names.entries
name_count names placed = length-map (in_order names.entries) (λ (key : Name). key.items) ∙ sym (order_count names.entries placed)

-- a new name goes last
pub name_last : {S : Type 0} (names more : HashMap Name ℕ S) (key : Name) (name : List ℕ) (at : ℕ) (old : Option ℕ) → ArePlaced names.entries → at ≡ length names.entries
    → key.items ≡ name
    → list_any (bytes_eq name) (texts_in_order names) ≡ false → old ≡ get name_eq names key → PutsEntry name_eq names more key at old
    → (texts_in_order more ≡ texts_in_order names ++ name ∷ []) × ArePlaced more.entries
name_last names more key name at old placed last is new was puts =
    let absent : is_some (get name_eq names key) ≡ false = name_found names key.items placed ∙ ap (λ (text : List ℕ). list_any (bytes_eq text) (texts_in_order names)) is
    ∙ new in
    let both = new_last name_eq names more key at old placed last absent was puts in (
      ap (map (λ (k : Name). k.items)) both.0 ∙ map-append (λ (k : Name). k.items) (in_order names.entries) (key ∷ [])
          ∙ ap (λ (text : List ℕ). texts_in_order names ++ text ∷ []) is,
      both.1,
    )
