-- Texts whose bytes pass a test, and where they are split.
use Rattle.std.proofs.Common.{◌≡◌, ℕ, Bool, true, false, cond, List, [], ◌∷◌, ◌++◌, length, take, drop, Option, Some, None, refl, sym, ap, ◌∙◌, arith}
use Rattle.std.specs.Prelude.{◌==◌, ◌&&◌, not}
use Rattle.std.specs.List.{list_all, prefix_len}
use Rattle.std.proofs.lemmas.Bool.{eqb-true}
use Rattle.std.proofs.lemmas.List.{append-nil}
use Rattle.sip_uri.specs.Uri.{behind_mark}
use Rattle.sip_uri.specs.Host.{is_not}
use Rattle.sip_uri.specs.Reading.{first_part, part_before}
use Rattle.sip_text.specs.Splits.{in_front, split_at_byte}

pub some_is : {A : Type 0} (x y : A) → Some x ≡ Some y → x ≡ y
some_is x y e = cc

pub pair_is : {A B : Type 0} (x y : A × B) → Some x ≡ Some y → (x.0 ≡ y.0) × (x.1 ≡ y.1)
pair_is x y e =
    let p : x ≡ y = some_is x y e in
    (ap (λ q. q.0) p, ap (λ q. q.1) p)

pub and_both : (a b : Bool) → (a && b) ≡ true → (a ≡ true) × (b ≡ true)
and_both true b e = (refl, e)
and_both false b e = absurd cc

pub and_is : (a b : Bool) → a ≡ true → b ≡ true → (a && b) ≡ true
and_is a b e f = rw (e, f) refl

pub not_is : (t : Bool) → not t ≡ true → t ≡ false
not_is true e = absurd cc
not_is false e = refl

-- what is kept only if it's valid
pub valid_is : {X : Type 0} (valid : X → Bool) (x y : X) (t : Bool) → valid x ≡ t → cond t (Some x) None ≡ Some y → (x ≡ y) × (valid y ≡ true)
valid_is valid x y true is e =
    let same : x ≡ y = some_is x y e in
    (same, rw (← same) is)
valid_is valid x y false is e = absurd cc

-- a byte that doesn't pass is no byte that does
pub differs : (p : ℕ → Bool) (mark : ℕ) → p mark ≡ false → (b : ℕ) → p b ≡ true → (b == mark) ≡ false
differs p mark fails b passes = by_test (b == mark) refl
  where
    by_test : (t : Bool) → (b == mark) ≡ t → (b == mark) ≡ false
    by_test false e = e
    by_test true e =
        let same : b ≡ mark = eqb-true b mark e in
        let never : true ≡ false = sym passes ∙ ap p same ∙ fails in
        absurd cc

pub is_other : (p : ℕ → Bool) (mark : ℕ) → p mark ≡ false → (b : ℕ) → p b ≡ true → is_not mark b ≡ true
is_other p mark fails b passes = ap not (differs p mark fails b passes)

pub others : (p : ℕ → Bool) (mark : ℕ) → p mark ≡ false → (bs : List ℕ) → list_all p bs ≡ true → list_all (is_not mark) bs ≡ true
others p mark fails [] e = refl
others p mark fails (b ∷ bs) e =
    let both = and_both (p b) (list_all p bs) e in
    and_is (is_not mark b) (list_all (is_not mark) bs) (is_other p mark fails b both.0) (others p mark fails bs both.1)

pub all_join : (p : ℕ → Bool) (xs ys : List ℕ) → list_all p xs ≡ true → list_all p ys ≡ true → list_all p (xs ++ ys) ≡ true
all_join p [] ys e f = f
all_join p (x ∷ xs) ys e f =
    let both = and_both (p x) (list_all p xs) e in
    and_is (p x) (list_all p (xs ++ ys)) both.0 (all_join p xs ys both.1 f)

-- ---- at the first of a byte

pub split_again : (mark : ℕ) (front back : List ℕ) → list_all (is_not mark) front ≡ true → (mark == mark) ≡ true
    → split_at_byte mark (front ++ mark ∷ back) ≡ Some (front, back)
split_again mark [] back e same = rw same refl
split_again mark (b ∷ front) back e same =
    let both = and_both (is_not mark b) (list_all (is_not mark) front) e in
    rw (not_is (b == mark) both.0, split_again mark front back both.1 same) refl

pub never_split : (mark : ℕ) (bs : List ℕ) → list_all (is_not mark) bs ≡ true → split_at_byte mark bs ≡ None
never_split mark [] e = refl
never_split mark (b ∷ bs) e =
    let both = and_both (is_not mark b) (list_all (is_not mark) bs) e in
    rw (not_is (b == mark) both.0, never_split mark bs both.1) refl

split_longer : (mark b : ℕ) (bytes front back : List ℕ) (o : Option (List ℕ × List ℕ)) → in_front (b ∷ []) o ≡ Some (front, back)
    → ((f g : List ℕ) → o ≡ Some (f, g) → bytes ≡ f ++ mark ∷ g) → b ∷ bytes ≡ front ++ mark ∷ back
split_longer mark b bytes front back None e is = absurd cc
split_longer mark b bytes front back (Some x) e is =
    let p = pair_is (b ∷ x.0, x.1) (front, back) e in
    rw (← p.0, ← p.1) (ap (λ (w : List ℕ). b ∷ w) (is x.0 x.1 refl))

split_either : (mark b : ℕ) (bytes front back : List ℕ) (t : Bool) → (b == mark) ≡ t → split_at_byte mark (b ∷ bytes) ≡ Some (front, back)
    → ((f g : List ℕ) → split_at_byte mark bytes ≡ Some (f, g) → bytes ≡ f ++ mark ∷ g) → b ∷ bytes ≡ front ++ mark ∷ back
split_either mark b bytes front back true is e on =
    let got : Some ([], bytes) ≡ Some (front, back) = sym (rw is refl) ∙ e in
    let p = pair_is ([], bytes) (front, back) got in
    rw (← p.0, ← p.1) (ap (λ (k : ℕ). k ∷ bytes) (eqb-true b mark is))
split_either mark b bytes front back false is e on =
    let one : split_at_byte mark (b ∷ bytes) ≡ in_front (b ∷ []) (split_at_byte mark bytes) = rw is refl in
    split_longer mark b bytes front back (split_at_byte mark bytes) (sym one ∙ e) on

pub split_is : (mark : ℕ) (bytes front back : List ℕ) → split_at_byte mark bytes ≡ Some (front, back) → bytes ≡ front ++ mark ∷ back
split_is mark [] front back e = absurd cc
split_is mark (b ∷ bytes) front back e = split_either mark b bytes front back (b == mark) refl e (λ f g h. split_is mark bytes f g h)

part_by : (mark : ℕ) (text : List ℕ) (o : Option (List ℕ × List ℕ)) → split_at_byte mark text ≡ o → text ≡ (first_part text o).0 ++ behind_mark mark (first_part text o).1
part_by mark text None is = sym (append-nil text)
part_by mark text (Some x) is = split_is mark text x.0 x.1 is

-- a part and what follows it make up the text
pub part_whole : (mark : ℕ) (text : List ℕ) → text ≡ (part_before mark text).0 ++ behind_mark mark (part_before mark text).1
part_whole mark text = part_by mark text (split_at_byte mark text) refl

pub part_again : (mark : ℕ) (front : List ℕ) (after : Option (List ℕ)) → list_all (is_not mark) front ≡ true → (mark == mark) ≡ true
    → part_before mark (front ++ behind_mark mark after) ≡ (front, after)
part_again mark front None e same = ap (part_before mark) (append-nil front) ∙ ap (first_part front) (never_split mark front e)
part_again mark front (Some back) e same = ap (first_part (front ++ mark ∷ back)) (split_again mark front back e same)

-- ---- fronts

pub take_front : (xs ys : List ℕ) → take (length xs) (xs ++ ys) ≡ xs
take_front [] ys = refl
take_front (x ∷ xs) ys = ap (λ (w : List ℕ). x ∷ w) (take_front xs ys)

pub drop_front : (xs ys : List ℕ) → drop (length xs) (xs ++ ys) ≡ ys
drop_front [] ys = refl
drop_front (x ∷ xs) ys = drop_front xs ys

-- a text in which a byte stands nowhere, and then nothing or that byte
pub front_length : (mark : ℕ) (xs ys : List ℕ) → list_all (is_not mark) xs ≡ true → prefix_len (is_not mark) ys ≡ 0 → prefix_len (is_not mark) (xs ++ ys) ≡ length xs
front_length mark [] ys e stops = stops
front_length mark (x ∷ xs) ys e stops =
    let both = and_both (is_not mark x) (list_all (is_not mark) xs) e in
    let later : prefix_len (is_not mark) (xs ++ ys) ≡ length xs = front_length mark xs ys both.1 stops in
    rw (both.0, later) (omega arith)
