-- A number whose digits are put in front, the last one first.
use Rattle.std.proofs.Common.{◌≡◌, ℕ, ◌+◌, ◌/◌, ◌%◌, ◌^◌, ◌<◌, ◌≤◌, List, [], ◌∷◌, ◌++◌, length, decimal, ◌*◌, ◌==◌, get_or, true, refl, eqb-true, sym, ap, ◌∙◌, arith}
use Rattle.std.proofs.Common.{append_assoc, length-append}
use Rattle.std.proofs.lemmas.Bool.{agree_below_at}
use Rattle.sip_replay_script.specs.declared.front.TheConstants.{PAIRS}
use Rattle.std.proofs.lemmas.Fmt.{decimal_digit, decimal_step, decimal_by_steps, length-decimal-le}

-- the last digit of more than one
pub digit_more : (n : ℕ) (behind all : List ℕ) → 10 ≤ n → n < 2 ^ 64 → decimal n ++ behind ≡ all → decimal (n / 10) ++ (48 + n % 10) ∷ behind ≡ all
digit_more n behind all some lt is =
    sym (append_assoc (decimal (n / 10)) ((48 + n % 10) ∷ []) behind) ∙ ap (λ l. l ++ behind) (sym (decimal_step n some lt)) ∙ is

-- the only digit
pub digit_only : (n : ℕ) (behind all : List ℕ) → n < 10 → decimal n ++ behind ≡ all → (48 + n) ∷ behind ≡ all
digit_only n behind all lt is = ap (λ l. l ++ behind) (sym (decimal_digit n lt)) ∙ is

-- the last two digits of more than two
pub pair_more : (n : ℕ) (behind all : List ℕ) → 100 ≤ n → n < 2 ^ 64 → decimal n ++ behind ≡ all
    → decimal (n / 100) ++ (48 + n % 100 / 10) ∷ (48 + n % 100 % 10) ∷ behind ≡ all
pair_more n behind all some lt is =
    let last : n % 10 ≡ n % 100 % 10 = omega arith in
    let next : n / 10 % 10 ≡ n % 100 / 10 = omega arith in
    let rest : n / 10 / 10 ≡ n / 100 = omega arith in
    ap (λ k. decimal k ++ (48 + n % 100 / 10) ∷ (48 + n % 100 % 10) ∷ behind) (sym rest)
    ∙ ap (λ d. decimal (n / 10 / 10) ++ (48 + d) ∷ (48 + n % 100 % 10) ∷ behind) (sym next)
    ∙ ap (λ d. decimal (n / 10 / 10) ++ (48 + n / 10 % 10) ∷ (48 + d) ∷ behind) (sym last)
    ∙ digit_more (n / 10) ((48 + n % 10) ∷ behind) all (omega arith) (omega arith) (digit_more n behind all (omega arith) lt is)

-- the only two digits
pub pair_only : (n : ℕ) (behind all : List ℕ) → 10 ≤ n → n < 100 → decimal n ++ behind ≡ all → (48 + n / 10) ∷ (48 + n % 10) ∷ behind ≡ all
pair_only n behind all some lt is = digit_only (n / 10) ((48 + n % 10) ∷ behind) all (omega arith) (digit_more n behind all some (omega arith) is)

-- the table of them
pub pair_first : (n : ℕ) → n < 100 → get_or PAIRS (2 * n) 0 ≡ 48 + n / 10
pair_first n lt = eqb-true (get_or PAIRS (2 * n) 0) (48 + n / 10) (agree_below_at (λ (k : ℕ). get_or PAIRS (2 * k) 0 == 48 + k / 10) (λ _. true) 100 n refl lt)

pub pair_second : (n : ℕ) → n < 100 → get_or PAIRS (2 * n + 1) 0 ≡ 48 + n % 10
pair_second n lt = eqb-true (get_or PAIRS (2 * n + 1) 0) (48 + n % 10) (agree_below_at (λ (k : ℕ). get_or PAIRS (2 * k + 1) 0 == 48 + k % 10) (λ _. true) 100 n refl lt)

pub some_digit : (n : ℕ) → n < 2 ^ 64 → 1 ≤ length (decimal n)
some_digit n lt =
    decimal_by_steps (λ _ ds. 1 ≤ length ds) (λ k small. omega arith) (λ k ds some least. omega (arith, least, length-append ds ((48 + k % 10) ∷ []))) n lt

-- a part that was put in front stands behind what was put in front of it
pub behind_front : (front part behind mid all : List ℕ) → mid ≡ part ++ behind → all ≡ front ++ mid → all ≡ (front ++ part) ++ behind
behind_front front part behind mid all is h = h ∙ ap (λ l. front ++ l) is ∙ sym (append_assoc front part behind)

-- four numbers joined by dots, and a port, put in front one after the other
pub address_first : (a b c d e t t1 t2 t3 t4 t5 t6 t7 t8 t9 : List ℕ) → t1 ≡ e ++ t → t2 ≡ 58 ∷ t1 → t3 ≡ d ++ t2 → t4 ≡ 46 ∷ t3 → t5 ≡ c ++ t4 → t6 ≡ 46 ∷ t5
    → t7 ≡ b ++ t6 → t8 ≡ 46 ∷ t7 → t9 ≡ a ++ t8
    → t9 ≡ (((((((((a ++ (46 ∷ [])) ++ b) ++ (46 ∷ [])) ++ c) ++ (46 ∷ [])) ++ d) ++ (58 ∷ [])) ++ e) ++ t)
address_first a b c d e t t1 t2 t3 t4 t5 t6 t7 t8 t9 is1 is2 is3 is4 is5 is6 is7 is8 is9 =
    let dot : List ℕ = 46 ∷ [] in
    let s8 : t9 ≡ (a ++ dot) ++ t7 = behind_front a dot t7 t8 t9 is8 is9 in
    let s7 : t9 ≡ ((a ++ dot) ++ b) ++ t6 = behind_front (a ++ dot) b t6 t7 t9 is7 s8 in
    let s6 : t9 ≡ (((a ++ dot) ++ b) ++ dot) ++ t5 = behind_front ((a ++ dot) ++ b) dot t5 t6 t9 is6 s7 in
    let s5 : t9 ≡ ((((a ++ dot) ++ b) ++ dot) ++ c) ++ t4 = behind_front (((a ++ dot) ++ b) ++ dot) c t4 t5 t9 is5 s6 in
    let s4 : t9 ≡ (((((a ++ dot) ++ b) ++ dot) ++ c) ++ dot) ++ t3 = behind_front ((((a ++ dot) ++ b) ++ dot) ++ c) dot t3 t4 t9 is4 s5 in
    let s3 : t9 ≡ ((((((a ++ dot) ++ b) ++ dot) ++ c) ++ dot) ++ d) ++ t2 = behind_front (((((a ++ dot) ++ b) ++ dot) ++ c) ++ dot) d t2 t3 t9 is3 s4 in
    let s2 : t9 ≡ (((((((a ++ dot) ++ b) ++ dot) ++ c) ++ dot) ++ d) ++ (58 ∷ [])) ++ t1 =
    behind_front ((((((a ++ dot) ++ b) ++ dot) ++ c) ++ dot) ++ d) (58 ∷ []) t1 t2 t9 is2 s3 in
    behind_front (((((((a ++ dot) ++ b) ++ dot) ++ c) ++ dot) ++ d) ++ (58 ∷ [])) e t t1 t9 is1 s2

-- a number has few digits, and fewer without its last
pub few_digits : (n : ℕ) → n < 2 ^ 64 → length (decimal n) ≤ 20
few_digits n small = length-decimal-le 20 n (omega arith) (omega (arith, small)) small

pub digits_less : (n : ℕ) → 10 ≤ n → n < 2 ^ 64 → length (decimal n) ≡ length (decimal (n / 10)) + 1
digits_less n some small = ap length (decimal_step n some small) ∙ length-append (decimal (n / 10)) ((48 + n % 10) ∷ [])

pub two_digits : (n : ℕ) → 10 ≤ n → n < 2 ^ 64 → 2 ≤ length (decimal n)
two_digits n some small = let less = digits_less n some small in let rest = some_digit (n / 10) (omega arith) in omega (arith, less, rest)

pub pair_less : (n : ℕ) → 100 ≤ n → n < 2 ^ 64 → length (decimal n) ≡ length (decimal (n / 100)) + 2
pair_less n some small =
    let same : n / 10 / 10 ≡ n / 100 = omega arith in
    let next : length (decimal (n / 10)) ≡ length (decimal (n / 100)) + 1 = digits_less (n / 10) (omega arith) (omega arith) ∙ ap (λ k. length (decimal k) + 1) same in
    let last = digits_less n (omega arith) small in
    omega (arith, next, last)
