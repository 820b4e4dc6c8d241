-- A branch of this server is read back as its numbers, and no other text is.
use Rattle.std.proofs.Common.{◌≡◌, ℕ, ◌<◌, ◌^◌, Bool, true, false, List, [], ◌∷◌, ◌++◌, length, take, drop, decimal, Option, Some, None, option_map, refl, sym, ap, ◌∙◌}
use Rattle.std.proofs.Common.{append_assoc, arith}
use Rattle.std.specs.Prelude.{◌==◌, if◌then◌else◌, nat_lt}
use Rattle.std.specs.Option.{option_and_then}
use Rattle.std.specs.List.{list_all}
use Rattle.std.specs.Char.{is_ascii_digit}
use Rattle.std.specs.Str.{bytes_eq}
use Rattle.std.proofs.Math.Seq.{take-append_seam, drop-append_seam}
use Rattle.std.proofs.lemmas.List.{take-append-drop}
use Rattle.std.proofs.lemmas.Slice.Eq.{bytes_eq-Decides}
use Rattle.std.proofs.lemmas.Bool.{and_parts, eqb-true, lt-ltb}
use Rattle.std.proofs.lemmas.Bool.Decides.{nat_tests}
use Rattle.sip_text.specs.Numbers.{plain_decimal_of, plain_decimal_below, under}
use Rattle.sip_text.specs.Splits.{in_front, split_at_byte}
use Rattle.sip_text.proofs.PlainDecimals.{plain_read, plain_written, digits_alone}
use Rattle.sip_edit.specs.declared.branch_id.BranchId.{BranchId}
use Rattle.sip_edit.specs.OwnVia.{branch_text}
use Rattle.sip_edit.specs.BranchId.{behind, branch_front, id_from, branch_id_of}
use Rattle.sip_uri.proofs.Dotted.{map_some, if_some}

and_then_some : {A B : Type 0} (f : A → Option B) (o : Option A) (y : B) → option_and_then f o ≡ Some y → (x : A) × (o ≡ Some x) × (f x ≡ Some y)
and_then_some f None y e = absurd cc
and_then_some f (Some x) y e = (x, refl, e)

-- ---- a front

front_found : (t : Bool) (found rest : List ℕ) → t ≡ true → found ≡ rest → (if t then Some found else None) ≡ Some rest
front_found t found rest e same = rw e (ap (λ (bs : List ℕ). Some bs) same)

behind_front : (front rest : List ℕ) → behind front (front ++ rest) ≡ Some rest
behind_front front rest =
    front_found (bytes_eq (take (length front) (front ++ rest)) front) (drop (length front) (front ++ rest)) rest
    ((bytes_eq-Decides (take (length front) (front ++ rest)) front).1 (take-append_seam front rest)) (drop-append_seam front rest)

front_back : (front text rest : List ℕ) → behind front text ≡ Some rest → text ≡ front ++ rest
front_back front text rest e =
    let got = if_some (bytes_eq (take (length front) text) front) (drop (length front) text) rest e in
    let same : take (length front) text ≡ front = (bytes_eq-Decides (take (length front) text) front).0 got.0 in
    sym (take-append-drop (length front) text) ∙ ap (λ (bs : List ℕ). bs ++ drop (length front) text) same ∙ ap (λ (bs : List ℕ). front ++ bs) got.1

-- ---- the dot

no_dot : (b : ℕ) → is_ascii_digit b ≡ true → (b == 46) ≡ false
no_dot b digit = grind (arith, nat_tests)

cut_there : (digits rest : List ℕ) → list_all is_ascii_digit digits ≡ true → split_at_byte 46 (digits ++ 46 ∷ rest) ≡ Some (digits, rest)
cut_there [] rest all = refl
cut_there (b ∷ digits) rest all =
    let both = and_parts (is_ascii_digit b) (list_all is_ascii_digit digits) all in
    rw (no_dot b both.0) (ap (in_front (b ∷ [])) (cut_there digits rest both.1))

cut_by : (b : ℕ) (bs : List ℕ) (t : Bool) (parts : List ℕ × List ℕ) → (b == 46) ≡ t
    → ((later : List ℕ × List ℕ) → split_at_byte 46 bs ≡ Some later → bs ≡ later.0 ++ 46 ∷ later.1)
    → (if t then Some ([], bs) else in_front (b ∷ []) (split_at_byte 46 bs)) ≡ Some parts → b ∷ bs ≡ parts.0 ++ 46 ∷ parts.1
cut_by b bs true parts is later e = ap (λ (k : ℕ). k ∷ bs) (eqb-true b 46 is) ∙ ap (λ (p : List ℕ × List ℕ). p.0 ++ 46 ∷ p.1) (some_same ([], bs) parts e) where
  some_same : (p q : List ℕ × List ℕ) → Some p ≡ Some q → p ≡ q
  some_same p q same = cc
cut_by b bs false parts is later e =
    let got = map_some (λ (x : List ℕ × List ℕ). (b ∷ x.0, x.1)) (split_at_byte 46 bs) parts e in
    ap (λ (r : List ℕ). b ∷ r) (later got.0 got.1) ∙ ap (λ (p : List ℕ × List ℕ). p.0 ++ 46 ∷ p.1) got.2

cut_back : (text : List ℕ) (parts : List ℕ × List ℕ) → split_at_byte 46 text ≡ Some parts → text ≡ parts.0 ++ 46 ∷ parts.1
cut_back [] parts e = absurd cc
cut_back (b ∷ bs) parts e = cut_by b bs (b == 46) parts refl (λ later same. cut_back bs later same) e

-- ---- the numbers

abbrev pub id_with : ℕ → ℕ → BranchId
id_with n k = record { number = n; target = k }

below_read : (limit k : ℕ) → k < limit → k < 2 ^ 64 → plain_decimal_below limit (decimal k) ≡ Some k
below_read limit k small lt = ap (option_and_then (under limit)) (plain_read k lt) ∙ rw (lt-ltb k limit small) refl

below_written : (limit : ℕ) (text : List ℕ) (k : ℕ) → plain_decimal_below limit text ≡ Some k → text ≡ decimal k
below_written limit text k e =
    let got = and_then_some (under limit) (plain_decimal_of text) k e in
    let same = if_some (nat_lt got.0 limit) got.0 k got.2 in
    plain_written text got.0 got.1 ∙ ap decimal same.1

both_read : (o p : Option ℕ) (n k : ℕ) → o ≡ Some n → p ≡ Some k
    → option_and_then (λ (x : ℕ). option_map (λ (y : ℕ). id_with x y) p) o ≡ Some (id_with n k)
both_read o p n k e f = rw (e, f) refl

id_read : (n k : ℕ) → n < 2 ^ 64 → k < 2 ^ 32 → id_from (decimal n) (decimal k) ≡ Some (id_with n k)
id_read n k lt small = both_read (plain_decimal_of (decimal n)) (plain_decimal_below (2 ^ 32) (decimal k)) n k (plain_read n lt)
    (below_read (2 ^ 32) k small (omega arith))

record IsId (number target : List ℕ) (id : BranchId) : Type 0 where
  number_is : number ≡ decimal id.number
  target_is : target ≡ decimal id.target

id_written : (number target : List ℕ) (id : BranchId) → id_from number target ≡ Some id → IsId number target id
id_written number target id e =
    let first = and_then_some (λ (n : ℕ). option_map (λ (k : ℕ). id_with n k) (plain_decimal_below (2 ^ 32) target)) (plain_decimal_of number) id e in
    let second = map_some (λ (k : ℕ). id_with first.0 k) (plain_decimal_below (2 ^ 32) target) id first.2 in
    record {
      number_is = plain_written number first.0 first.1 ∙ ap (λ (i : BranchId). decimal i.number) second.2;
      target_is = below_written (2 ^ 32) target second.0 second.1 ∙ ap (λ (i : BranchId). decimal i.target) second.2;
    }

-- ---- the whole

text_is : (boot n k : ℕ) → branch_text boot n k ≡ branch_front boot ++ (decimal n ++ 46 ∷ decimal k)
text_is boot n k = simp append_assoc refl

parted : (boot n k : ℕ) → n < 2 ^ 64 → option_and_then (split_at_byte 46) (behind (branch_front boot) (branch_text boot n k)) ≡ Some (decimal n, decimal k)
parted boot n k lt =
    ap (λ (text : List ℕ). option_and_then (split_at_byte 46) (behind (branch_front boot) text)) (text_is boot n k)
    ∙ ap (option_and_then (split_at_byte 46)) (behind_front (branch_front boot) (decimal n ++ 46 ∷ decimal k))
    ∙ cut_there (decimal n) (decimal k) (digits_alone n lt)

pub branch_read : (boot n k : ℕ) → n < 2 ^ 64 → k < 2 ^ 32 → branch_id_of boot (branch_text boot n k) ≡ Some (id_with n k)
branch_read boot n k lt small =
    ap (λ (o : Option (List ℕ × List ℕ)). option_and_then (λ (parts : List ℕ × List ℕ). id_from parts.0 parts.1) o) (parted boot n k lt) ∙ id_read n k lt small

pub branch_written : (boot : ℕ) (text : List ℕ) (id : BranchId) → branch_id_of boot text ≡ Some id → text ≡ branch_text boot id.number id.target
branch_written boot text id e =
    let parts = and_then_some (λ (parts : List ℕ × List ℕ). id_from parts.0 parts.1) (option_and_then (split_at_byte 46) (behind (branch_front boot) text)) id e in
    let rest = and_then_some (split_at_byte 46) (behind (branch_front boot) text) parts.0 parts.1 in
    let numbers = id_written (parts.0).0 (parts.0).1 id parts.2 in
    front_back (branch_front boot) text rest.0 rest.1
    ∙ ap (λ (r : List ℕ). branch_front boot ++ r) (cut_back rest.0 parts.0 rest.2)
    ∙ ap (λ (r : List ℕ). branch_front boot ++ (r ++ 46 ∷ (parts.0).1)) numbers.number_is
    ∙ ap (λ (r : List ℕ). branch_front boot ++ (decimal id.number ++ 46 ∷ r)) numbers.target_is
    ∙ sym (text_is boot id.number id.target)

pub branches_apart : (boot n k m j : ℕ) → n < 2 ^ 64 → k < 2 ^ 32 → m < 2 ^ 64 → j < 2 ^ 32 → branch_text boot n k ≡ branch_text boot m j → (n ≡ m) × (k ≡ j)
branches_apart boot n k m j n_lt k_lt m_lt j_lt e =
    let same = some_same (id_with n k) (id_with m j) (sym (branch_read boot n k n_lt k_lt) ∙ ap (branch_id_of boot) e ∙ branch_read boot m j m_lt j_lt) in
    (ap (λ (i : BranchId). i.number) same, ap (λ (i : BranchId). i.target) same)
  where
    some_same : (i l : BranchId) → Some i ≡ Some l → i ≡ l
    some_same i l same = cc
