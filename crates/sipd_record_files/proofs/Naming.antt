-- Files that are named, one path after the other.
use Rattle.std.proofs.Common.{◌≡◌, ◌<◌, ◌≤◌, inl, inr, ℕ, ◌+◌, Result, Ok, Err, List, [], ◌∷◌, ◌++◌, length, get_or, map, take, take_all, codes, refl, sym, ◌∙◌, ap, subst, append_assoc, append-nil}
use Rattle.std.specs.Prelude.{OnOk}
use Rattle.std.proofs.lemmas.List.{map_more}
use Rattle.sipd_record_files.specs.Named.{AddsFiles, AreNamed, AreOf}
use Rattle.sipd_record_files.specs.RecordNames.{name_of}

-- one name more
pub one_name_more : {X : Type 0} (f : X → List ℕ) (xs : List X) (i : ℕ) (x : X) (old before after : List (List ℕ)) → i < length xs
    → before ≡ old ++ map f (take i xs) → after ≡ before ++ f (get_or xs i x) ∷ [] → after ≡ old ++ map f (take (i + 1) xs)
one_name_more f xs i x old before after lt so_far adds =
    adds ∙ ap (λ (l : List (List ℕ)). l ++ f (get_or xs i x) ∷ []) so_far ∙ append_assoc old (map f (take i xs)) (f (get_or xs i x) ∷ [])
    ∙ ap (λ (l : List (List ℕ)). old ++ l) (sym (map_more f xs i x lt))

-- ---- paths

first_alone : (path : List ℕ) (own : List (List ℕ)) → AreOf path own → AreNamed (path ∷ []) own
first_alone path own are = record { own = own; rest = []; cut = sym (append-nil own); are = are; others = refl }

-- what one path more names stands behind
named_behind : (paths : List (List ℕ)) (path : List ℕ) (files own : List (List ℕ)) → AreNamed paths files → AreOf path own
    → AreNamed (paths ++ path ∷ []) (files ++ own)
named_behind [] path files own h are = subst (λ (l : List (List ℕ)). AreNamed (path ∷ []) (l ++ own)) (sym h) (first_alone path own are)
named_behind (first ∷ paths) path files own h are = record {
  own = h.own;
  rest = h.rest ++ own;
  cut = ap (λ (l : List (List ℕ)). l ++ own) h.cut ∙ append_assoc h.own h.rest own;
  are = h.are;
  others = named_behind paths path h.rest own h.others are;
}

pub one_path_more : {X : Type 0} (f : X → List ℕ) (paths : List X) (i : ℕ) (x : X) (path : List ℕ) (before after : List (List ℕ)) → i < length paths
    → x ≡ get_or paths i x → path ≡ f x → AreNamed (map f (take i paths)) before → AddsFiles path before after
    → AreNamed (map f (take (i + 1) paths)) after
one_path_more {X} f paths i x path before after lt is says so_far adds =
    let named : map f (take i paths) ++ path ∷ [] ≡ map f (take (i + 1) paths) =
    ap (λ (l : List ℕ). map f (take i paths) ++ l ∷ []) (says ∙ ap f is) ∙ sym (map_more f paths i x lt) in
    subst (λ (l : List (List ℕ)). AreNamed l after) named
    (subst (λ (l : List (List ℕ)). AreNamed (map f (take i paths) ++ path ∷ []) l) (sym adds.behind)
    (named_behind (map f (take i paths)) path before adds.own so_far adds.are))

pub all_named : {X : Type 0} (f : X → List ℕ) (paths : List X) (i : ℕ) (files : List (List ℕ)) → length paths ≤ i → AreNamed (map f (take i paths)) files
    → AreNamed (map f paths) files
all_named {X} f paths i files le h = subst (λ (l : List X). AreNamed (map f l) files) (take_all i paths le) h

-- ---- what one path names

pub adds_folder : {X E : Type 0} (result : Result X E) (folder : List ℕ) (numbers : List ℕ) (old new : List (List ℕ))
    → OnOk result (new ≡ old ++ map (λ n. name_of folder n (codes "record")) numbers) → OnOk result (AddsFiles folder old new)
adds_folder (Ok x) folder numbers old new h = record {
  own = map (λ n. name_of folder n (codes "record")) numbers;
  behind = h;
  are = inr (record { numbers = numbers; names = refl });
}
adds_folder (Err e) folder numbers old new h = tt

pub adds_path : {X E : Type 0} (result : Result X E) (path : List ℕ) (old new : List (List ℕ)) → OnOk result (new ≡ old ++ path ∷ [])
    → OnOk result (AddsFiles path old new)
adds_path (Ok x) path old new h = record { own = path ∷ []; behind = h; are = inl refl }
adds_path (Err e) path old new h = tt
