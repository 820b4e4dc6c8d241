-- Lines that end in the front of a text, and texts in parts.
use Rattle.std.proofs.Common.{◌≡◌, ℕ, ◌+◌, ◌^◌, ◌<◌, ◌-◌, List, ◌++◌, length, take, get_or, min, sym, ◌∙◌, ap, append_assoc}
use Rattle.std.specs.Prelude.{count_by}
use Rattle.std.proofs.lemmas.Bool.{eq-eqb, ne_eqb}
use Rattle.std.proofs.lemmas.List.{take_min}
use Rattle.std.proofs.lemmas.List.Sums.{count_by_more_no, count_by_more_yes}
use Rattle.sipd_config_faults.specs.Encoding.{is_line_end, line_of}

pub ends_more : (xs : List ℕ) (i : ℕ) (b : ℕ) → i < length xs → b ≡ get_or xs i b → b ≡ 10 → count_by is_line_end (take (i + 1) xs) ≡ count_by is_line_end (take i xs) + 1
ends_more xs i b lt is end = count_by_more_yes is_line_end xs i b lt (eq-eqb (get_or xs i b) 10 (sym is ∙ end))

pub ends_same : (xs : List ℕ) (i : ℕ) (b : ℕ) → i < length xs → b ≡ get_or xs i b → (b ≡ 10 → ⊥)
    → count_by is_line_end (take (i + 1) xs) ≡ count_by is_line_end (take i xs)
ends_same xs i b lt is other = count_by_more_no is_line_end xs i b lt (ne_eqb (get_or xs i b) 10 (λ e. other (is ∙ e)))

pub line_number : (text : List ℕ) (place front ends number : ℕ) → front ≡ min place (length text) → ends ≡ count_by is_line_end (take front text)
    → number ≡ min (ends + 1) (2 ^ 64 - 1)
    → number ≡ line_of text place
line_number text place front ends number is count sum =
    sum ∙ ap (λ n. min (n + 1) (2 ^ 64 - 1)) (count ∙ ap (count_by is_line_end) (ap (λ n. take n text) is ∙ take_min place text))

pub five_parts : (text a b c d e t1 t2 t3 t4 t5 : List ℕ) → t1 ≡ text ++ a → t2 ≡ t1 ++ b → t3 ≡ t2 ++ c → t4 ≡ t3 ++ d → t5 ≡ t4 ++ e
    → t5 ≡ text ++ (a ++ b ++ c ++ d ++ e)
five_parts text a b c d e t1 t2 t3 t4 t5 h1 h2 h3 h4 h5 =
    let two = h2 ∙ ap (λ l. l ++ b) h1 ∙ append_assoc text a b in
    let three = h3 ∙ ap (λ l. l ++ c) two ∙ append_assoc text (a ++ b) c in
    let four = h4 ∙ ap (λ l. l ++ d) three ∙ append_assoc text (a ++ b ++ c) d in
    h5 ∙ ap (λ l. l ++ e) four ∙ append_assoc text (a ++ b ++ c ++ d) e
