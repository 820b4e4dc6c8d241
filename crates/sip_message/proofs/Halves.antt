-- Slices cut at a byte, and trimmed, by their lengths.
use Rattle.std.proofs.Common.{◌≡◌, ℕ, zero, suc, ◌+◌, ◌-◌, ◌≤◌, true, false, List, [], ◌∷◌, ◌++◌, length, take, drop, Some, refl, sym, ap, ◌∙◌, arith, length-append}
use Rattle.std.specs.Prelude.{reverse, ◌==◌}
use Rattle.std.specs.List.{take_while, prefix_len, list_all}
use Rattle.std.proofs.Math.Seq.{drop-append_seam}
use Rattle.std.proofs.lemmas.List.{take-append-le, take_all, drop-drop, length-drop, length-take}
use Rattle.sip_text.specs.Lists.{is_blank, trimmed, front_trimmed, end_trimmed}
use Rattle.sip_text.specs.Words.{is_token_byte, is_token_text}
use Rattle.sip_text.specs.Splits.{split_at_byte}
use Rattle.sip_message.proofs.FieldsAgain.{split_is}

pub fits : (mark : ℕ) (bytes front back : List ℕ) → Some (front, back) ≡ split_at_byte mark bytes → length front + 1 ≤ length bytes
fits mark bytes front back e = omega (arith, ap length (split_is mark bytes front back (sym e)), length-append front (mark ∷ back))

pub halves_are : (mark : ℕ) (bytes front back a b : List ℕ) → Some (front, back) ≡ split_at_byte mark bytes → a ≡ take (length front) bytes
    → b ≡ drop (length front + 1) bytes → Some (a, b) ≡ split_at_byte mark bytes
halves_are mark bytes front back a b e first second =
    let whole : bytes ≡ front ++ mark ∷ back = split_is mark bytes front back (sym e) in
    let before : a ≡ front = first ∙ ap (take (length front)) whole ∙ take-append-le (length front) front (mark ∷ back) (omega arith)
    ∙ take_all (length front) front (omega arith) in
    let behind : b ≡ back = second ∙ sym (drop-drop 1 (length front) bytes) ∙ ap (λ (w : List ℕ). drop 1 (drop (length front) w)) whole
    ∙ ap (drop 1) (drop-append_seam front (mark ∷ back)) in
    ap (λ (w : List ℕ). Some (w, b)) before ∙ ap (λ (w : List ℕ). Some (front, w)) behind ∙ e

none_of : (n : ℕ) → take {A = ℕ} n [] ≡ []
none_of zero = refl
none_of (suc n) = refl

cut_cut : (b k : ℕ) (xs : List ℕ) → take (k - b) (drop b xs) ≡ drop b (take k xs)
cut_cut zero k xs =
    let all : k - 0 ≡ k = omega arith in
    ap (λ (n : ℕ). take n xs) all
cut_cut (suc b) zero xs =
    let none : 0 - suc b ≡ 0 = omega arith in
    ap (λ (n : ℕ). take n (drop (suc b) xs)) none
cut_cut (suc b) (suc k) [] = none_of (suc k - suc b)
cut_cut (suc b) (suc k) (x ∷ xs) =
    let less : suc k - suc b ≡ k - b = omega arith in
    ap (λ (n : ℕ). take n (drop b xs)) less ∙ cut_cut b k xs

pub trimmed_is : (bytes front end middle result : List ℕ) → front ≡ front_trimmed bytes → end ≡ end_trimmed bytes → middle ≡ drop (length bytes - length front) bytes
    → result ≡ take (length end - (length bytes - length front)) middle → result ≡ trimmed bytes
trimmed_is bytes front end middle result f e m r =
    let b : ℕ = length (take_while is_blank bytes) in
    let k : ℕ = length bytes - length (take_while is_blank (reverse bytes)) in
    let few : b ≤ length bytes = blanks_fit bytes in
    let start : length bytes - length front ≡ b = omega (arith, ap length f, length-drop b bytes, few) in
    let stop : length end ≡ k = omega (arith, ap length e, length-take k bytes) in
    r ∙ ap (λ (n : ℕ). take (n - (length bytes - length front)) middle) stop ∙ ap (λ (n : ℕ). take (k - n) middle) start
    ∙ ap (take (k - b)) (m ∙ ap (λ (n : ℕ). drop n bytes) start) ∙ cut_cut b k bytes
  where
    blanks_fit : (xs : List ℕ) → length (take_while is_blank xs) ≤ length xs
    blanks_fit xs = omega (arith, length-take (prefix_len is_blank xs) xs)

-- ---- a token at the front

pub token_all : (name : List ℕ) → (length name == 0) ≡ false → list_all is_token_byte name ≡ true → is_token_text name ≡ true
token_all [] some all = absurd cc
token_all (b ∷ bs) some all = all
