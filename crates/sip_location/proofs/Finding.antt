-- Bindings that are filed under their addresses of record, and found by codes.
use Rattle.std.proofs.Common.{◌≡◌, ◌≢◌, ◌≤◌, ◌<◌, ◌*◌, ◌^◌, ◌⊎◌, ℕ, zero, suc, List, [], ◌∷◌, ◌++◌, length, arith, cond, eqb, not, Bool, true, false, refl, sym, ◌∙◌, ap}
use Rattle.std.proofs.Common.{subst, append-nil, Option, Some, None, IfSome, fold, mod-lt, eqb-true, eq-eqb, inl, inr, eq-or-lt_of_le}
use Rattle.std.specs.Prelude.{filter, option_to_list, bit_xor}
use Rattle.std.specs.Option.{option_map_or}
use Rattle.std.proofs.lemmas.Bool.Decides.{nat_tests}
use Rattle.std.proofs.lemmas.List.Elements.{filter-append}
use Rattle.sip_uri.specs.declared.aor.Aor.{Aor}
use Rattle.sip_uri.specs.Aor.{is_same_aor}
use Rattle.sip_location.specs.declared.aor_bindings.AorBindings.{AorBindings}
use Rattle.sip_location.specs.Binding.{is_of}
use Rattle.sip_base.specs.Code.{mixed}
use Rattle.sip_location.specs.Code.{code_count, code_of}
use Rattle.sip_location.specs.KeptBinding.{KeptBinding}
use Rattle.sip_location.specs.Locations.{of_aor}
use Rattle.sip_location.specs.AorBindings.{bindings_of, all_bindings, filed_below, rows_in, is_filed_of, filed_of, first_rows, with_rows, AreFiled, IsReplaced}
use Rattle.sip_location.proofs.Filters.{filter-wider}
use Rattle.sip_location.proofs.Keeping.{all_of, none_of}
use Rattle.sip_location.proofs.Updates.{same_is, same_itself}

-- two addresses differ from either side
unlike_turned : (left right : Aor) → is_same_aor left right ≡ false → is_same_aor right left ≡ false
unlike_turned left right unlike = by_test (is_same_aor right left) refl where
  by_test : (t : Bool) → is_same_aor right left ≡ t → is_same_aor right left ≡ false
  by_test false e = e
  by_test true e = let same : is_same_aor left right ≡ true = subst (λ (x : Aor). is_same_aor x right ≡ true) (same_is right left e) (same_itself right) in absurd (cc)

-- ---- the bindings of an address are those of what is filed of it

of_all : (aor : Aor) (fs : List AorBindings) → of_aor aor (all_bindings fs) ≡ all_bindings (filter (is_filed_of aor) fs)
of_all aor [] = refl
of_all aor (f ∷ fs) = filter-append (is_of aor) (bindings_of f.aor f.rows) (all_bindings fs) ∙ by_test (is_same_aor f.aor aor) refl (of_all aor fs)
  where
    by_test : (t : Bool) → is_same_aor f.aor aor ≡ t → of_aor aor (all_bindings fs) ≡ all_bindings (filter (is_filed_of aor) fs)
        → filter (is_of aor) (bindings_of f.aor f.rows) ++ of_aor aor (all_bindings fs)
        ≡ all_bindings (cond t (f ∷ filter (is_filed_of aor) fs) (filter (is_filed_of aor) fs))
    by_test true same rest =
        let mine : filter (is_of aor) (bindings_of f.aor f.rows) ≡ bindings_of f.aor f.rows =
        subst (λ (key : Aor). filter (is_of key) (bindings_of f.aor f.rows) ≡ bindings_of f.aor f.rows) (same_is f.aor aor same) (all_of f.aor f.rows) in
        rw (mine, rest) refl
    by_test false other rest = rw (none_of aor f.aor f.rows other) rest

-- nothing of an address stands under another code than its own
elsewhere : (aor : Aor) (code : ℕ) (o : Option AorBindings) → IfSome o (λ filed. code_of filed.aor ≡ code) → code ≢ code_of aor
    → filter (is_filed_of aor) (option_to_list o) ≡ []
elsewhere aor code None coded apart = refl
elsewhere aor code (Some f) coded apart = by_test (is_same_aor f.aor aor) refl where
  by_test : (t : Bool) → is_same_aor f.aor aor ≡ t → cond t (f ∷ []) [] ≡ []
  by_test true same = absurd (apart (sym coded ∙ ap code_of (same_is f.aor aor same)))
  by_test false other = refl

module _ (aor : Aor) (by_code : ℕ → Option AorBindings) (coded : (code : ℕ) → IfSome (by_code code) (λ filed. code_of filed.aor ≡ code)) where
  below_code : (n : ℕ) → n ≤ code_of aor → filter (is_filed_of aor) (filed_below n by_code) ≡ []
  below_code zero le = refl
  below_code (suc n) le =
      let apart : n ≢ code_of aor = omega arith in
      filter-append (is_filed_of aor) (filed_below n by_code) (option_to_list (by_code n))
      ∙ rw (below_code n (omega arith), elsewhere aor n (by_code n) (coded n) apart) refl

  past_code : (n : ℕ) → code_of aor < n → filter (is_filed_of aor) (filed_below n by_code) ≡ filter (is_filed_of aor) (option_to_list (by_code (code_of aor)))
  past_code zero lt = absurd (omega arith)
  past_code (suc n) lt = filter-append (is_filed_of aor) (filed_below n by_code) (option_to_list (by_code n))
      ∙ by_place (eq-or-lt_of_le (omega arith)) (past_code n) where
        by_place : (code_of aor ≡ n) ⊎ (code_of aor < n) → (code_of aor < n → filter (is_filed_of aor) (filed_below n by_code)
            ≡ filter (is_filed_of aor) (option_to_list (by_code (code_of aor))))
            → filter (is_filed_of aor) (filed_below n by_code) ++ filter (is_filed_of aor) (option_to_list (by_code n))
            ≡ filter (is_filed_of aor) (option_to_list (by_code (code_of aor)))
        by_place (inl here) past = rw (below_code n (omega (arith, here))) (ap (λ code. filter (is_filed_of aor) (option_to_list (by_code code))) (sym here))
        by_place (inr there) past =
            let apart : n ≢ code_of aor = omega arith in
            rw (past there, elsewhere aor n (by_code n) (coded n) apart) (append-nil (filter (is_filed_of aor) (option_to_list (by_code (code_of aor)))))

folded_small : (code : ℕ) (bytes : List ℕ) → code < 2 ^ 64 → fold mixed code bytes < 2 ^ 64
unfolding mixed
folded_small code [] lt = lt
folded_small code (byte ∷ bytes) lt = folded_small (mixed code byte) bytes (mod-lt (bit_xor code byte * 1099511628211) (omega arith))

small : (aor : Aor) → code_of aor < code_count
unfolding mixed code_of code_count
small aor =
    let user = fold mixed 14695981039346656037 aor.user in
    folded_small (mixed user 64) aor.host (mod-lt (bit_xor user 64 * 1099511628211) (omega arith))

of_filed : (aor : Aor) (by_code : ℕ → Option AorBindings) (crowd : List AorBindings) → ((code : ℕ) → IfSome (by_code code) (λ filed. code_of filed.aor ≡ code))
    → of_aor aor (rows_in by_code crowd) ≡ all_bindings (filed_of aor by_code crowd)
of_filed aor by_code crowd coded =
    let p = is_filed_of aor in
    of_all aor (filed_below code_count by_code ++ crowd) ∙ ap all_bindings
    (filter-append p (filed_below code_count by_code) crowd ∙ ap (λ fs. fs ++ filter p crowd) (past_code aor by_code coded code_count (small aor))
    ∙ sym (filter-append p (option_to_list (by_code (code_of aor))) crowd))

-- ---- looking up

nothing : (fs : List AorBindings) → length fs ≤ 0 → fs ≡ []
nothing [] le = refl
nothing (f ∷ fs) le = absurd (omega arith)

only_first : (aor : Aor) (fs : List AorBindings) → length (filter (is_filed_of aor) fs) ≤ 1
    → all_bindings (filter (is_filed_of aor) fs) ≡ bindings_of aor (first_rows (filter (is_filed_of aor) fs))
only_first aor [] le = refl
only_first aor (f ∷ fs) le = by_test (is_same_aor f.aor aor) refl le (only_first aor fs) where
  by_test : (t : Bool) → is_same_aor f.aor aor ≡ t → length (cond t (f ∷ filter (is_filed_of aor) fs) (filter (is_filed_of aor) fs)) ≤ 1
      → (length (filter (is_filed_of aor) fs) ≤ 1 → all_bindings (filter (is_filed_of aor) fs) ≡ bindings_of aor (first_rows (filter (is_filed_of aor) fs)))
      → all_bindings (cond t (f ∷ filter (is_filed_of aor) fs) (filter (is_filed_of aor) fs))
      ≡ bindings_of aor (first_rows (cond t (f ∷ filter (is_filed_of aor) fs) (filter (is_filed_of aor) fs)))
  by_test true same few rest =
      rw (nothing (filter (is_filed_of aor) fs) (omega arith)) (append-nil (bindings_of f.aor f.rows) ∙ ap (λ (a : Aor). bindings_of a f.rows) (same_is f.aor aor same))
  by_test false other few rest = rest few

-- the bindings of an address are those of the first that is filed of it
pub of_first : (aor : Aor) (by_code : ℕ → Option AorBindings) (crowd : List AorBindings) → AreFiled by_code crowd
    → of_aor aor (rows_in by_code crowd) ≡ bindings_of aor (first_rows (filed_of aor by_code crowd))
of_first aor by_code crowd h = of_filed aor by_code crowd h.coded ∙ only_first aor (option_to_list (by_code (code_of aor)) ++ crowd) (h.once aor)

-- where an address is filed under its code
pub under_code : (aor sought : Aor) (code : ℕ) (by_code : ℕ → Option AorBindings) (crowd : List AorBindings) (f : AorBindings) → AreFiled by_code crowd → sought ≡ aor
    → code ≡ code_of sought → by_code code ≡ Some f → is_same_aor f.aor sought ≡ true
    → bindings_of aor f.rows ≡ of_aor aor (rows_in by_code crowd)
under_code aor sought code by_code crowd f h same is there own =
    let place : by_code (code_of aor) ≡ Some f = subst (λ (k : ℕ). by_code k ≡ Some f) (is ∙ ap code_of same) there in
    let mine : is_same_aor f.aor aor ≡ true = subst (λ (a : Aor). is_same_aor f.aor a ≡ true) same own in
    let first : first_rows (filed_of aor by_code crowd) ≡ f.rows = rw (place, mine) refl in
    sym (of_first aor by_code crowd h ∙ ap (bindings_of aor) first)

-- where it isn't
pub in_crowd : (aor sought : Aor) (code : ℕ) (by_code : ℕ → Option AorBindings) (crowd among : List AorBindings) (rows : List KeptBinding) → AreFiled by_code crowd
    → sought ≡ aor
    → code ≡ code_of sought
    → filter (is_filed_of sought) (option_to_list (by_code code)) ≡ [] → among ≡ crowd → rows ≡ first_rows (filter (is_filed_of sought) among)
    → bindings_of aor rows ≡ of_aor aor (rows_in by_code crowd)
in_crowd aor sought code by_code crowd among rows h same is none all found =
    let place : filter (is_filed_of sought) (option_to_list (by_code (code_of sought))) ≡ [] =
    subst (λ (k : ℕ). filter (is_filed_of sought) (option_to_list (by_code k)) ≡ []) is none in
    let there : filed_of sought by_code crowd ≡ filter (is_filed_of sought) crowd = filter-append (is_filed_of sought) (option_to_list (by_code (code_of sought))) crowd
    ∙ rw place refl in
    let first : rows ≡ first_rows (filed_of aor by_code crowd) =
    found ∙ ap (λ (fs : List AorBindings). first_rows (filter (is_filed_of sought) fs)) all ∙ ap first_rows (sym there)
    ∙ ap (λ (a : Aor). first_rows (filed_of a by_code crowd)) same in
    sym (of_first aor by_code crowd h ∙ ap (bindings_of aor) (sym first))

pub none_there : (sought : Aor) (place : Option AorBindings) → place ≡ None → filter (is_filed_of sought) (option_to_list place) ≡ []
none_there sought place none = rw none refl

pub other_there : (sought : Aor) (place : Option AorBindings) (f : AorBindings) → place ≡ Some f → is_same_aor f.aor sought ≡ false
    → filter (is_filed_of sought) (option_to_list place) ≡ []
other_there sought place f there other = rw (there, other) refl

-- ---- nothing is filed at first

none_below : (n : ℕ) (by_code : ℕ → Option AorBindings) → ((code : ℕ) → by_code code ≡ None) → filed_below n by_code ≡ []
none_below zero by_code none = refl
none_below (suc n) by_code none = rw (none_below n by_code none, none n) refl

pub no_rows : (by_code : ℕ → Option AorBindings) → ((code : ℕ) → by_code code ≡ None) → rows_in by_code [] ≡ []
no_rows by_code none = rw (none_below code_count by_code none) refl

-- ---- filing

none_left : (rows : List KeptBinding) → eqb (length rows) 0 ≡ true → rows ≡ []
none_left [] e = refl
none_left (b ∷ bs) e = let none : length (b ∷ bs) ≡ 0 = grind (arith, nat_tests) in absurd (omega (arith, none))

-- what is filed has the bindings of its rows
all_of_rows : (f : AorBindings) → all_bindings (option_to_list (with_rows f)) ≡ bindings_of f.aor f.rows
all_of_rows f = by_test (eqb (length f.rows) 0) refl where
  by_test : (t : Bool) → eqb (length f.rows) 0 ≡ t → all_bindings (option_to_list (cond t None (Some f))) ≡ bindings_of f.aor f.rows
  by_test true none = ap (bindings_of f.aor) (sym (none_left f.rows none))
  by_test false some = append-nil (bindings_of f.aor f.rows)

own_stays : (f : AorBindings) → filter (is_filed_of f.aor) (option_to_list (with_rows f)) ≡ option_to_list (with_rows f)
own_stays f = by_test (eqb (length f.rows) 0) where
  by_test : (t : Bool) → filter (is_filed_of f.aor) (option_to_list (cond t None (Some f))) ≡ option_to_list (cond t None (Some f))
  by_test true = refl
  by_test false = rw (same_itself f.aor) refl

other_goes : (f : AorBindings) (other : Aor) → is_same_aor other f.aor ≡ false → filter (is_filed_of other) (option_to_list (with_rows f)) ≡ []
other_goes f other unlike = by_test (eqb (length f.rows) 0) where
  by_test : (t : Bool) → filter (is_filed_of other) (option_to_list (cond t None (Some f))) ≡ []
  by_test true = refl
  by_test false = rw (unlike_turned other f.aor unlike) refl

one_at_most : (f : AorBindings) → length (option_to_list (with_rows f)) ≤ 1
one_at_most f = by_test (eqb (length f.rows) 0) where
  by_test : (t : Bool) → length (option_to_list (cond t None (Some f))) ≤ 1
  by_test true = omega arith
  by_test false = omega arith

-- a crowd that an address has left
abbrev pub without : Aor → List AorBindings → List AorBindings
without aor crowd = filter (λ filed. not (is_filed_of aor filed)) crowd

gone : (aor : Aor) (crowd : List AorBindings) → filter (is_filed_of aor) (without aor crowd) ≡ []
gone aor [] = refl
gone aor (f ∷ fs) = by_test (is_same_aor f.aor aor) refl (gone aor fs) where
  by_test : (t : Bool) → is_same_aor f.aor aor ≡ t → filter (is_filed_of aor) (without aor fs) ≡ []
      → filter (is_filed_of aor) (cond (not t) (f ∷ without aor fs) (without aor fs)) ≡ []
  by_test true same rest = rest
  by_test false other rest = rw other rest

others_stay : (aor other : Aor) (crowd : List AorBindings) → is_same_aor other aor ≡ false
    → filter (is_filed_of other) (without aor crowd) ≡ filter (is_filed_of other) crowd
others_stay aor other crowd unlike = filter-wider (is_filed_of other) (λ filed. not (is_filed_of aor filed)) crowd
    (λ f same. ap not (subst (λ (a : Aor). is_same_aor a aor ≡ false) (sym (same_is f.aor other same)) unlike))

-- What is filed of an address is replaced: it has this, and every other its own.
pub record IsFiled (old : ℕ → Option AorBindings) (crowd : List AorBindings) (f : AorBindings) (new : ℕ → Option AorBindings) (left : List AorBindings) : Type 0 where
  pub coded : (code : ℕ) → IfSome (new code) (λ filed. code_of filed.aor ≡ code)
  pub own : filed_of f.aor new left ≡ option_to_list (with_rows f)
  pub others : (other : Aor) → is_same_aor other f.aor ≡ false → filed_of other new left ≡ filed_of other old crowd

pub still_filed : (old : ℕ → Option AorBindings) (crowd : List AorBindings) (f : AorBindings) (new : ℕ → Option AorBindings) (left : List AorBindings)
    → AreFiled old crowd
    → IsFiled old crowd f new left → AreFiled new left
still_filed old crowd f new left h is = record { coded = is.coded; once = λ other. by_test other (is_same_aor other f.aor) refl } where
  by_test : (other : Aor) (t : Bool) → is_same_aor other f.aor ≡ t → length (filed_of other new left) ≤ 1
  by_test other true same = subst (λ (a : Aor). length (filed_of a new left) ≤ 1) (sym (same_is other f.aor same)) (rw is.own (one_at_most f))
  by_test other false unlike = rw (is.others other unlike) (h.once other)

pub replaced : (old : ℕ → Option AorBindings) (crowd : List AorBindings) (f : AorBindings) (new : ℕ → Option AorBindings) (left : List AorBindings) → AreFiled old crowd
    → IsFiled old crowd f new left
    → IsReplaced (rows_in old crowd) f.aor f.rows (rows_in new left)
replaced old crowd f new left h is = record {
  own = of_filed f.aor new left is.coded ∙ ap all_bindings is.own ∙ all_of_rows f;
  others = λ other unlike. of_filed other new left is.coded ∙ ap all_bindings (is.others other unlike) ∙ sym (of_filed other old crowd h.coded);
}

-- whether what stands somewhere is of another address
abbrev pub is_anothers : Aor → Option AorBindings → Bool
is_anothers aor place = option_map_or (λ filed. not (is_filed_of aor filed)) place false

anothers : (aor : Aor) (place : Option AorBindings) → is_anothers aor place ≡ true → filter (is_filed_of aor) (option_to_list place) ≡ []
anothers aor None e = refl
anothers aor (Some f) e = by_test (is_same_aor f.aor aor) e where
  by_test : (t : Bool) → not t ≡ true → cond t (f ∷ []) [] ≡ []
  by_test true bad = absurd (cc)
  by_test false ok = refl

-- the place of one address is no other's
no_others : (aor other : Aor) (place : Option AorBindings) → is_anothers aor place ≡ false → is_same_aor other aor ≡ false
    → filter (is_filed_of other) (option_to_list place) ≡ []
no_others aor other None e unlike = refl
no_others aor other (Some f) e unlike = by_test (is_same_aor f.aor aor) refl e where
  by_test : (t : Bool) → is_same_aor f.aor aor ≡ t → not t ≡ false → cond (is_same_aor f.aor other) (f ∷ []) [] ≡ []
  by_test true same ok = let apart : is_same_aor f.aor other ≡ false = subst (λ (a : Aor). is_same_aor a other ≡ false) (sym (same_is f.aor aor same))
      (unlike_turned other aor unlike) in rw apart refl
  by_test false differs bad = absurd (cc)

apart_of : (aor : Aor) (place : Option AorBindings) (crowd more : List AorBindings)
    → filter (is_filed_of aor) (option_to_list place ++ (crowd ++ more)) ≡ filter (is_filed_of aor) (option_to_list place)
    ++ (filter (is_filed_of aor) crowd ++ filter (is_filed_of aor) more)
apart_of aor place crowd more = filter-append (is_filed_of aor) (option_to_list place) (crowd ++ more)
    ∙ ap (λ fs. filter (is_filed_of aor) (option_to_list place) ++ fs) (filter-append (is_filed_of aor) crowd more)

-- in the crowd, where another address has the place under the code
pub filed_in_crowd : (by_code : ℕ → Option AorBindings) (crowd : List AorBindings) (f : AorBindings)
    → ((code : ℕ) → IfSome (by_code code) (λ filed. code_of filed.aor ≡ code))
    → is_anothers f.aor (by_code (code_of f.aor)) ≡ true
    → IsFiled by_code crowd f by_code (without f.aor crowd ++ option_to_list (with_rows f))
filed_in_crowd by_code crowd f coded taken = record {
  coded = coded;
  own = apart_of f.aor (by_code (code_of f.aor)) (without f.aor crowd) (option_to_list (with_rows f))
      ∙ rw (anothers f.aor (by_code (code_of f.aor)) taken, gone f.aor crowd) (own_stays f);
  others = λ other unlike. apart_of other (by_code (code_of other)) (without f.aor crowd) (option_to_list (with_rows f))
      ∙ rw (others_stay f.aor other crowd unlike, other_goes f other unlike, append-nil (filter (is_filed_of other) crowd))
      (sym (filter-append (is_filed_of other) (option_to_list (by_code (code_of other))) crowd));
}

-- under its code
module _ (by_code new : ℕ → Option AorBindings) (crowd : List AorBindings) (f : AorBindings) (coded : (code : ℕ)
    → IfSome (by_code code) (λ filed. code_of filed.aor ≡ code))
    (free : is_anothers f.aor (by_code (code_of f.aor)) ≡ false)
    (put : (code : ℕ) → new code ≡ cond (eqb (code_of f.aor) code) (with_rows f) (by_code code)) where
  coded_by : (t : Bool) (code : ℕ) → eqb (code_of f.aor) code ≡ t → IfSome (cond t (with_rows f) (by_code code)) (λ filed. code_of filed.aor ≡ code)
  coded_by true code same = by_rows (eqb (length f.rows) 0) where
    by_rows : (t : Bool) → IfSome (cond t None (Some f)) (λ filed. code_of filed.aor ≡ code)
    by_rows true = tt
    by_rows false = eqb-true (code_of f.aor) code same
  coded_by false code other = coded code

  place_of : new (code_of f.aor) ≡ with_rows f
  place_of = put (code_of f.aor) ∙ rw (eq-eqb (code_of f.aor) (code_of f.aor) refl) refl

  place_of_other : (other : Aor) → is_same_aor other f.aor ≡ false → filter (is_filed_of other) (option_to_list (new (code_of other)))
      ≡ filter (is_filed_of other) (option_to_list (by_code (code_of other)))
  place_of_other other unlike = ap (λ place. filter (is_filed_of other) (option_to_list place)) (put (code_of other))
      ∙ by_test (eqb (code_of f.aor) (code_of other)) refl where
        by_test : (t : Bool) → eqb (code_of f.aor) (code_of other) ≡ t → filter (is_filed_of other) (option_to_list (cond t (with_rows f) (by_code (code_of other))))
            ≡ filter (is_filed_of other) (option_to_list (by_code (code_of other)))
        by_test true same =
            other_goes f other unlike
            ∙ sym (subst (λ (code : ℕ). filter (is_filed_of other) (option_to_list (by_code code)) ≡ []) (eqb-true (code_of f.aor) (code_of other) same)
            (no_others f.aor other (by_code (code_of f.aor)) free unlike))
        by_test false differs = refl

  pub filed_under_code : IsFiled by_code crowd f new (without f.aor crowd)
  filed_under_code = record {
    coded = λ code. rw (put code) (coded_by (eqb (code_of f.aor) code) code refl);
    own = filter-append (is_filed_of f.aor) (option_to_list (new (code_of f.aor))) (without f.aor crowd)
        ∙ rw (place_of, gone f.aor crowd, own_stays f) (append-nil (option_to_list (with_rows f)));
    others = λ other unlike. filter-append (is_filed_of other) (option_to_list (new (code_of other))) (without f.aor crowd)
        ∙ rw (place_of_other other unlike, others_stay f.aor other crowd unlike) (sym
        (filter-append (is_filed_of other) (option_to_list (by_code (code_of other))) crowd));
  }

-- ---- as the code goes

pub joined : (by_code : ℕ → Option AorBindings) (crowd left last : List AorBindings) (f : AorBindings) (aor : Aor) (code : ℕ) → AreFiled by_code crowd → aor ≡ f.aor
    → code ≡ code_of aor
    → is_anothers aor (by_code code) ≡ true
    → left ≡ without aor crowd → last ≡ left ++ option_to_list (with_rows f) → IsFiled by_code crowd f by_code last
joined by_code crowd left last f aor code h same is taken left_is last_is =
    let there : is_anothers aor (by_code (code_of aor)) ≡ true = subst (λ (k : ℕ). is_anothers aor (by_code k) ≡ true) is taken in
    rw (last_is, left_is, same) (filed_in_crowd by_code crowd f h.coded (subst (λ (a : Aor). is_anothers a (by_code (code_of a)) ≡ true) same there))

pub placed : (by_code new : ℕ → Option AorBindings) (crowd left : List AorBindings) (f : AorBindings) (aor : Aor) (code : ℕ) → AreFiled by_code crowd → aor ≡ f.aor
    → code ≡ code_of aor
    → is_anothers aor (by_code code) ≡ false
    → left ≡ without aor crowd → ((k : ℕ) → new k ≡ cond (eqb code k) (with_rows f) (by_code k)) → IsFiled by_code crowd f new left
placed by_code new crowd left f aor code h same is free left_is puts =
    let own : code ≡ code_of f.aor = is ∙ ap code_of same in
    let there : is_anothers aor (by_code (code_of aor)) ≡ false = subst (λ (k : ℕ). is_anothers aor (by_code k) ≡ false) is free in
    rw (left_is, same)
    (filed_under_code by_code new crowd f h.coded (subst (λ (a : Aor). is_anothers a (by_code (code_of a)) ≡ false) same there)
    (subst (λ (k : ℕ). (other : ℕ) → new other ≡ cond (eqb k other) (with_rows f) (by_code other)) own puts))
