-- Users and the places that their names lead to.
use Rattle.std.proofs.Common.{◌≡◌, ℕ, Bool, true, false, ◌&&◌, ◌||◌, not, cond, nat_lt, ◌+◌, ◌<◌, take, drop, get_or, List, [], ◌∷◌, ◌++◌, length, position, slice_get}
use Rattle.std.proofs.Common.{find, Option, Some, None, is_some, Vec, Global, Bor, refl, sym, ap, ap₂, ◌∙◌, subst, arith}
use Rattle.std.specs.List.{list_any, position_or_len, position_from}
use Rattle.std.specs.Option.{option_copied, option_or}
use Rattle.std.specs.Str.{bytes_eq}
use Rattle.std.specs.Map.{KeepsOthers}
use Rattle.std.specs.HashMap.{HashMap, Updates}
use Rattle.std.proofs.lemmas.Cmp.{nat_list_eq_equiv}
use Rattle.std.proofs.lemmas.Iterator.Adapters.{position_from-zero}
use Rattle.std.proofs.lemmas.List.{length-take, take_more, drop_more, take-append-drop}
use Rattle.std.proofs.lemmas.List.Folds.{find_at, list_any-append}
use Rattle.std.specs.Cmp.Lexicographic.{same_text}
use Rattle.std.proofs.lemmas.Option.{slice_get_past}
use Rattle.std.proofs.lemmas.Bool.{ltb-false}
use Rattle.sip_policy.specs.declared.user.User.{User}
use Rattle.sip_policy.specs.User.{is_named, is_users_name}
use Rattle.sip_policy.specs.Users.{have_own_names, place_of, AreNamed}

-- ---- the user at the place of a name

-- the user at a place, if there is one
abbrev pub user_at_place : List User → Option ℕ → Option User
user_at_place users None = None
user_at_place users (Some place) = slice_get users place

at_place_by : (users : List User) (n : ℕ) (within : Bool) → nat_lt n (length users) ≡ within → slice_get users n ≡ user_at_place users (cond within (Some n) None)
at_place_by users n true e = refl
at_place_by users n false e = slice_get_past users n (ltb-false n (length users) e)

-- the user of a name is the one at the place of that name
pub found_at_place : (name : List ℕ) (users : List User) → find (is_named name) users ≡ user_at_place users (position (is_named name) users)
found_at_place name users =
    let n = position_or_len (is_named name) users in
    find_at (is_named name) users ∙ at_place_by users n (nat_lt n (length users)) refl

found_some_by : (test : User → Bool) (u : User) (us : List User) (passes : Bool) → test u ≡ passes → is_some (find test us) ≡ list_any test us
    → is_some (cond passes (Some u) (find test us)) ≡ (passes || list_any test us)
found_some_by test u us true e rest = refl
found_some_by test u us false e rest = rest

-- something is found where something passes
pub found_some : (test : User → Bool) (users : List User) → is_some (find test users) ≡ list_any test users
found_some test [] = refl
found_some test (u ∷ us) = found_some_by test u us (test u) refl (found_some test us)

-- where no user has a name, none has it and passes a test
none_and : (name : List ℕ) (test : User → Bool) (users : List User) → is_users_name users name ≡ false → list_any (λ (u : User). is_named name u && test u) users ≡ false
none_and name test [] none = refl
none_and name test (u ∷ us) none = by (is_named name u) none (none_and name test us)
  where
    by : (b : Bool) → (b || is_users_name us name) ≡ false → (is_users_name us name ≡ false → list_any (λ (v : User). is_named name v && test v) us ≡ false)
        → ((b && test u) || list_any (λ (v : User). is_named name v && test v) us) ≡ false
    by true e rest = absurd cc
    by false e rest = rest e

-- what the user of a name passes, if there is one
abbrev pub passes_of : (User → Bool) → Option User → Bool
passes_of test None = false
passes_of test (Some user) = test user

or_false : (b : Bool) → (b || false) ≡ b
or_false true = refl
or_false false = refl

-- of users of different names, those of a name that pass a test are the one that is found
pub found_passes : (name : List ℕ) (test : User → Bool) (users : List User) → have_own_names users ≡ true
    → passes_of test (find (is_named name) users) ≡ list_any (λ (u : User). is_named name u && test u) users
found_passes name test [] own = refl
found_passes name test (u ∷ us) own = by (is_named name u) refl (is_users_name us u.name) refl own (found_passes name test us)
  where
    by : (b : Bool) → is_named name u ≡ b → (again : Bool) → is_users_name us u.name ≡ again → (not again && have_own_names us) ≡ true
        → (have_own_names us ≡ true → passes_of test (find (is_named name) us) ≡ list_any (λ (v : User). is_named name v && test v) us)
        → passes_of test (cond b (Some u) (find (is_named name) us)) ≡ ((b && test u) || list_any (λ (v : User). is_named name v && test v) us)
    by b e true f own rest = absurd cc
    by false e false f own rest = rest own
    by true e false f own rest =
        let is : u.name ≡ name = same_text u.name name (sym e) in
        sym (ap (λ (c : Bool). test u || c) (none_and name test us (subst (λ (n : List ℕ). is_users_name us n ≡ false) is f)) ∙ or_false (test u))

-- an element of a list passes
any_there : (test : User → Bool) (us : List User) (u : User) (rest : List User) → test u ≡ true → list_any test (us ++ u ∷ rest) ≡ true
any_there test [] u rest e = rw e refl
any_there test (v ∷ us) u rest e = ap (λ (b : Bool). test v || b) (any_there test us u rest e) ∙ or_true (test v)
  where
    or_true : (b : Bool) → (b || true) ≡ true
    or_true true = refl
    or_true false = refl

and_false : (b : Bool) → (b && false) ≡ false
and_false true = refl
and_false false = refl

-- a name that stands again makes a list one of no different names
twice : (us : List User) (u : User) (rest : List User) → is_users_name us u.name ≡ true → have_own_names (us ++ u ∷ rest) ≡ false
twice [] u rest there = absurd cc
twice (v ∷ us) u rest there = by (is_named u.name v) refl there (twice us u rest)
  where
    by : (b : Bool) → is_named u.name v ≡ b → (b || is_users_name us u.name) ≡ true → (is_users_name us u.name ≡ true → have_own_names (us ++ u ∷ rest) ≡ false)
        → (not (is_users_name (us ++ u ∷ rest) v.name) && have_own_names (us ++ u ∷ rest)) ≡ false
    by true e there rest-of = ap (λ (c : Bool). not c && have_own_names (us ++ u ∷ rest))
        (any_there (is_named v.name) us u rest (nat_list_eq_equiv.symm u.name v.name ∙ e))
    by false e there rest-of = ap (λ (c : Bool). not (is_users_name (us ++ u ∷ rest) v.name) && c) (rest-of there)
        ∙ and_false (not (is_users_name (us ++ u ∷ rest) v.name))

-- a user of a new name goes last
own_last : (us : List User) (u : User) → have_own_names us ≡ true → is_users_name us u.name ≡ false → have_own_names (us ++ u ∷ []) ≡ true
own_last [] u own new = refl
own_last (v ∷ us) u own new = by (is_named u.name v) refl (is_users_name us v.name) refl own new (own_last us u)
  where
    by : (b : Bool) → is_named u.name v ≡ b → (again : Bool) → is_users_name us v.name ≡ again → (not again && have_own_names us) ≡ true
        → (b || is_users_name us u.name) ≡ false
        → (have_own_names us ≡ true → is_users_name us u.name ≡ false → have_own_names (us ++ u ∷ []) ≡ true)
        → (not (is_users_name (us ++ u ∷ []) v.name) && have_own_names (us ++ u ∷ [])) ≡ true
    by b e true f own new rest = absurd cc
    by true e false f own new rest = absurd cc
    by false e false f own new rest =
        let last : is_named v.name u ≡ false = nat_list_eq_equiv.symm u.name v.name ∙ e in
        let none : is_users_name (us ++ u ∷ []) v.name ≡ false = list_any-append (is_named v.name) us (u ∷ []) ∙ ap₂ (λ (x y : Bool). x || (y || false)) f last in
        ap₂ (λ (x y : Bool). not x && y) none (rest own new)

-- what is lent is there where the value is
pub lent_some : (found : Option (Bor User)) → is_some found ≡ is_some (option_copied found)
lent_some None = refl
lent_some (Some user) = refl

-- ---- the places of names, user by user

push_by : (test : User → Bool) (at n m : ℕ) (passes : Bool) (o r : Option ℕ) (last : Bool) → n ≡ m → r ≡ option_or o (cond last (Some n) None)
    → cond passes (Some at) r ≡ option_or (cond passes (Some at) o) (cond last (Some m) None)
push_by test at n m true o r last same e = refl
push_by test at n m false o r last same e = e ∙ ap (λ (k : ℕ). option_or o (cond last (Some k) None)) same

position_from_push : (test : User → Bool) (at : ℕ) (us : List User) (u : User)
    → position_from test at (us ++ u ∷ []) ≡ option_or (position_from test at us) (cond (test u) (Some (at + length us)) None)
position_from_push test at [] u = ap (λ (n : ℕ). cond (test u) (Some n) None) (omega arith)
position_from_push test at (v ∷ us) u =
    push_by test at (at + 1 + length us) _ (test v) (position_from test (at + 1) us) (position_from test (at + 1) (us ++ u ∷ [])) (test u) (omega arith)
    (position_from_push test (at + 1) us u)

position_push : (test : User → Bool) (us : List User) (u : User) → position test (us ++ u ∷ []) ≡ option_or (position test us) (cond (test u) (Some (length us)) None)
position_push test us u =
    position_from-zero test (us ++ u ∷ [])
    ∙ position_from_push test 0 us u
    ∙ ap₂ (λ (o : Option ℕ) (n : ℕ). option_or o (cond (test u) (Some n) None)) (sym (position_from-zero test us)) (omega arith)

position_from_some : (test : User → Bool) (at : ℕ) (us : List User) → is_some (position_from test at us) ≡ list_any test us
position_from_some test at [] = refl
position_from_some test at (u ∷ us) = by (test u) (position_from_some test (at + 1) us)
  where
    by : (b : Bool) → is_some (position_from test (at + 1) us) ≡ list_any test us → is_some (cond b (Some at) (position_from test (at + 1) us)) ≡ (b || list_any test us)
    by true rest = refl
    by false rest = rest

position_some : (test : User → Bool) (us : List User) → is_some (position test us) ≡ list_any test us
position_some test us = ap (λ (o : Option ℕ). is_some o) (position_from-zero test us) ∙ position_from_some test 0 us

-- whether a name leads anywhere is whether it is a user's
leads : (place : List ℕ → Option ℕ) (users : List User) (name : List ℕ) → AreNamed place users → is_some (place name) ≡ is_users_name users name
leads place users name h = ap (λ (o : Option ℕ). is_some o) (h.placed name) ∙ position_some (is_named name) users

-- one more user of a new name, which leads to its place
pub named_more : (old new : List ℕ → Option ℕ) (name : List ℕ) (users : List User) (i : ℕ) (u : User) → AreNamed old (take i users) → i < length users
    → u ≡ get_or users i u
    → name ≡ u.name → ((other : List ℕ) → new other ≡ cond (bytes_eq other name) (Some i) (old other)) → old name ≡ None → AreNamed new (take (i + 1) users)
named_more old new name users i u h within at is grew free =
    let taken : take (i + 1) users ≡ take i users ++ u ∷ [] = take_more users i u within ∙ ap (λ (x : User). take i users ++ x ∷ []) (sym at) in
    let absent : is_users_name (take i users) u.name ≡ false = ap (is_users_name (take i users)) (sym is) ∙ sym (leads old (take i users) name h)
    ∙ ap (λ (o : Option ℕ). is_some o) free in
    rw taken (record {
      placed = λ other. placed other (bytes_eq other name) refl;
      distinct = own_last (take i users) u h.distinct absent;
    })
  where
    count : length (take i users) ≡ i
    count = omega (arith, length-take i users)

    passes : (other : List ℕ) → bytes_eq other name ≡ is_named other u
    passes other = ap (bytes_eq other) is ∙ nat_list_eq_equiv.symm other u.name

    pushed : (other : List ℕ) → position (is_named other) (take i users ++ u ∷ []) ≡ option_or (old other) (cond (bytes_eq other name) (Some i) None)
    pushed other =
        position_push (is_named other) (take i users) u
        ∙ ap₂ (λ (o : Option ℕ) (n : ℕ). option_or o (cond (is_named other u) (Some n) None)) (sym (h.placed other)) count
        ∙ ap (λ (b : Bool). option_or (old other) (cond b (Some i) None)) (sym (passes other))

    none_or : (o : Option ℕ) → option_or o None ≡ o
    none_or None = refl
    none_or (Some n) = refl

    placed : (other : List ℕ) (b : Bool) → bytes_eq other name ≡ b → new other ≡ position (is_named other) (take i users ++ u ∷ [])
    placed other true e =
        let same : other ≡ name = same_text other name (sym e) in
        grew other ∙ rw e (sym (pushed other ∙ ap₂ (λ (o : Option ℕ) (b : Bool). option_or o (cond b (Some i) None)) (ap old same ∙ free) e))
    placed other false e =
        grew other ∙ rw e (sym (pushed other ∙ ap (λ (b : Bool). option_or (old other) (cond b (Some i) None)) e ∙ none_or (old other)))

-- a user of a name that leads somewhere already
pub named_twice : (place : List ℕ → Option ℕ) (name : List ℕ) (users : List User) (i : ℕ) (u : User) → AreNamed place (take i users) → i < length users
    → u ≡ get_or users i u
    → name ≡ u.name → is_some (place name) ≡ true → have_own_names users ≡ false
named_twice place name users i u h within at is there =
    let split : users ≡ take i users ++ u ∷ drop (i + 1) users =
    sym (take-append-drop i users) ∙ ap (λ (rest : List User). take i users ++ rest) (drop_more users i u within ∙ ap (λ (x : User). x ∷ drop (i + 1) users) (sym at)) in
    let found : is_users_name (take i users) u.name ≡ true = ap (is_users_name (take i users)) (sym is) ∙ sym (leads place (take i users) name h) ∙ there in
    ap have_own_names split ∙ twice (take i users) u (drop (i + 1) users) found

-- ---- what an insertion is to the places of names

abbrev pub Name : Type 0
Name = Vec ℕ Global

abbrev pub key_eq : Name → Name → Bool
key_eq key other = bytes_eq key.items other.items

bytes_congr : (a b c : List ℕ) → bytes_eq a b ≡ true → bytes_eq a c ≡ bytes_eq b c
bytes_congr a b c e = ap (λ (text : List ℕ). bytes_eq text c) (same_text a b (sym e))

-- a key leads to its place, and each other name to where it led before
pub place_more : {S : Type 0} (old new : HashMap Name ℕ S) (key : Name) (name : List ℕ) (at : ℕ) → key.items ≡ name → Updates key_eq old new key (Some at)
    → (other : List ℕ) → place_of new other ≡ cond (bytes_eq other name) (Some at) (place_of old other)
unfolding KeepsOthers
place_more {S} old new key name at is updates other =
    by (bytes_eq other key.items) refl ∙ ap (λ (text : List ℕ). cond (bytes_eq other text) (Some at) (place_of old other)) is
  where
    by : (b : Bool) → bytes_eq other key.items ≡ b → place_of new other ≡ cond b (Some at) (place_of old other)
    by true e = subst (λ (text : List ℕ). place_of new text ≡ Some at) (sym (same_text other key.items (sym e))) updates.1
    by false e = updates.3 (λ k. bytes_eq other k.items) (λ x y same. bytes_congr other x.items y.items same) apart
      where
        apart : (k : Name) → bytes_eq key.items k.items ≡ true → bytes_eq other k.items ≡ false
        apart k same = ap (bytes_eq other) (sym (same_text key.items k.items (sym same))) ∙ e
