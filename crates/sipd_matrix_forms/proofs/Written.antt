-- Texts that are made part by part.
use Rattle.std.proofs.Common.{◌≡◌, ℕ, List, ◌++◌, ap, ◌∙◌, append_assoc}

pub two_parts : (old a b one two : List ℕ) → one ≡ old ++ a → two ≡ one ++ b → two ≡ old ++ (a ++ b)
two_parts old a b one two h1 h2 = h2 ∙ ap (λ (text : List ℕ). text ++ b) h1 ∙ append_assoc old a b

pub three_parts : (old a b c one two three : List ℕ) → one ≡ old ++ a → two ≡ one ++ b → three ≡ two ++ c → three ≡ old ++ (a ++ b ++ c)
three_parts old a b c one two three h1 h2 h3 = two_parts old (a ++ b) c two three (two_parts old a b one two h1 h2) h3

pub five_parts : (old a b c d e one two three four five : List ℕ) → one ≡ old ++ a → two ≡ one ++ b → three ≡ two ++ c → four ≡ three ++ d → five ≡ four ++ e
    → five ≡ old ++ (a ++ b ++ c ++ d ++ e)
five_parts old a b c d e one two three four five h1 h2 h3 h4 h5 =
    two_parts old (a ++ b ++ c ++ d) e four five (two_parts old (a ++ b ++ c) d three four (three_parts old a b c one two three h1 h2 h3) h4) h5
