-- A written name is found among the spellings of its length.
use Rattle.std.proofs.Common.{◌≡◌, ◌≢◌, ℕ, Bool, true, false, cond, List, [], ◌∷◌, length, suc, refl, sym, ap, ◌∙◌, arith}
use Rattle.std.specs.Prelude.{◌==◌, ◌||◌, ◌&&◌, codes}
use Rattle.std.specs.Char.{to_ascii_lowercase}
use Rattle.std.proofs.lemmas.Bool.{eq-eqb, ne_eqb, both_ways}
use Rattle.sip_text.specs.Words.{is_same_text}
use Rattle.sip_message_fields.specs.declared.field_name.FieldName.{FieldName}
use Rattle.sip_message_fields.specs.declared.field_name.FieldName.TheVariants.{Via, CSeq, MaxForwards, ContentType, RecordRoute, Other}
use Rattle.sip_message_fields.specs.FieldName.{Known, spelling, named_in, name_of, known_names}
use Rattle.sip_message_fields.specs.Spellings.{spellings_of, of_length, is_spelled, spelled_in, name_of_length}

either : (a b : Bool) (x y : FieldName) → cond (a || b) x y ≡ cond a x (cond b x y)
either true b x y = refl
either false b x y = refl

apart : (ks : List Known) (name : List ℕ) → named_in ks name ≡ spelled_in (spellings_of ks) name
unfolding is_spelled
apart [] name = refl
apart (k ∷ ks) name =
    either (is_same_text name (spelling k.name)) (is_same_text name k.compact) k.name (named_in ks name)
    ∙ ap (λ (w : FieldName). cond (is_same_text name (spelling k.name)) k.name (cond (is_same_text name k.compact) k.name w)) (apart ks name)

second : (a b : Bool) → (a && b) ≡ true → b ≡ true
second true b e = e
second false b e = absurd cc

same_length : (a b : List ℕ) → is_same_text a b ≡ true → length a ≡ length b
same_length [] [] is = refl
same_length [] (y ∷ ys) is = absurd cc
same_length (x ∷ xs) [] is = absurd cc
same_length (x ∷ xs) (y ∷ ys) is = ap (λ (n : ℕ). suc n) (same_length xs ys (second (to_ascii_lowercase x == to_ascii_lowercase y) (is_same_text xs ys) is))

spelled_length : (a b : List ℕ) → is_spelled a b ≡ true → length a ≡ length b
unfolding is_spelled
spelled_length a b is = same_length a b is

left_step : (n : ℕ) (s : List ℕ × FieldName) (ss : List (List ℕ × FieldName)) (name : List ℕ) (l t : Bool) → length name ≡ n → (length s.0 == n) ≡ l
    → is_spelled name s.0 ≡ t → spelled_in ss name ≡ spelled_in (of_length n ss) name
    → spelled_in (s ∷ ss) name ≡ spelled_in (of_length n (s ∷ ss)) name
left_step n s ss name true t is e f rest = rw e (ap (λ (w : FieldName). cond (is_spelled name s.0) s.1 w) rest)
left_step n s ss name false false is e f rest = rw (e, f) rest
left_step n s ss name false true is e f rest = absurd (both_ways (length s.0 == n) e (eq-eqb (length s.0) n (sym (spelled_length name s.0 f) ∙ is)))

left_out : (n : ℕ) (ss : List (List ℕ × FieldName)) (name : List ℕ) → length name ≡ n → spelled_in ss name ≡ spelled_in (of_length n ss) name
left_out n [] name is = refl
left_out n (s ∷ ss) name is = left_step n s ss name (length s.0 == n) (is_spelled name s.0) is refl refl (left_out n ss name is)

pub by_length : (name : List ℕ) → name_of name ≡ name_of_length (length name) name
unfolding name_of_length
by_length name = apart known_names name ∙ left_out (length name) (spellings_of known_names) name refl

pub none_written : (name : List ℕ) → length name ≡ 0 → name_of_length (length name) name ≡ CSeq
unfolding name_of_length is_spelled
none_written [] is = refl
none_written (b ∷ bs) is = absurd (omega arith)

-- ---- lengths that no spelling has

abbrev has_length : ℕ → List (List ℕ × FieldName) → Bool
has_length n [] = false
has_length n (s ∷ ss) = (length s.0 == n) || has_length n ss

none_step : (n : ℕ) (s : List ℕ × FieldName) (ss : List (List ℕ × FieldName)) (l : Bool) → (length s.0 == n) ≡ l → (l || has_length n ss) ≡ false
    → (has_length n ss ≡ false → of_length n ss ≡ []) → of_length n (s ∷ ss) ≡ []
none_step n s ss true e h rest = absurd cc
none_step n s ss false e h rest = rw e (rest h)

none_of_length : (n : ℕ) (ss : List (List ℕ × FieldName)) → has_length n ss ≡ false → of_length n ss ≡ []
none_of_length n [] h = refl
none_of_length n (s ∷ ss) h = none_step n s ss (length s.0 == n) refl h (λ h'. none_of_length n ss h')

apart_from : (k n : ℕ) → n ≢ k → (k == n) ≡ false
apart_from k n d = ne_eqb k n (λ e. d (sym e))

pub no_such_length : (name : List ℕ) (n : ℕ) → n ≢ 0 → n ≢ 1 → n ≢ 2 → n ≢ 3 → n ≢ 4 → n ≢ 5 → n ≢ 7 → n ≢ 9 → n ≢ 11 → n ≢ 12 → n ≢ 13 → n ≢ 14 → n ≢ 16 → n ≢ 18
    → n ≢ 19 → name_of_length n name ≡ Other name
unfolding name_of_length
no_such_length name n d0 d1 d2 d3 d4 d5 d7 d9 d11 d12 d13 d14 d16 d18 d19 =
    let none : has_length n (spellings_of known_names) ≡ false = rw (
      apart_from 0 n d0,
      apart_from 1 n d1,
      apart_from 2 n d2,
      apart_from 3 n d3,
      apart_from 4 n d4,
      apart_from 5 n d5,
      apart_from 7 n d7,
      apart_from 9 n d9,
      apart_from 11 n d11,
      apart_from 12 n d12,
      apart_from 13 n d13,
      apart_from 14 n d14,
      apart_from 16 n d16,
      apart_from 18 n d18,
      apart_from 19 n d19,
    ) refl in
    ap (λ (w : List (List ℕ × FieldName)). spelled_in w name) (none_of_length n (spellings_of known_names) none)

-- ---- two lengths, written out

pub three : (name : List ℕ) → name_of_length 3 name ≡ cond (is_spelled name (codes "Via")) Via (Other name)
unfolding name_of_length
three name = refl

pub twelve : (name : List ℕ) → name_of_length 12 name
    ≡ cond (is_spelled name (codes "Content-Type")) ContentType (cond (is_spelled name (codes "Max-Forwards")) MaxForwards
    (cond (is_spelled name (codes "Record-Route")) RecordRoute (Other name)))
unfolding name_of_length
twelve name = refl
