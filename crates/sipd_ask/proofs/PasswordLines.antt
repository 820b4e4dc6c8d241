-- A line that is read byte by byte, up to its end or so far as a password goes.
use Rattle.std.proofs.Common.{◌≡◌, ℕ, ◌≤◌, List, [], ◌∷◌, ◌++◌, length, take, Option, Some, None, sym, ◌∙◌, ap, arith, append-nil}
use Rattle.std.proofs.lemmas.List.{take_all, take-append-le}
use Rattle.sipd_ask.specs.Fronts.{front_before}
use Rattle.sipd_ask.specs.Password.{ReadsByte, HasRead, ReadsLine}

whole : (text line rest : List ℕ) → front_before 10 text ≡ line ++ front_before 10 rest → front_before 10 rest ≡ []
    → length line ≤ 1026 → line ≡ take 1026 (front_before 10 text)
whole text line rest is none short =
    sym (ap (take 1026) (is ∙ ap (λ (behind : List ℕ). line ++ behind) none ∙ append-nil line) ∙ take_all 1026 line short)

-- no byte is left
pub at_end : (old now new : Option (List ℕ)) (byte : Option ℕ) (line : List ℕ) → HasRead old now line → ReadsByte now new byte
    → byte ≡ None → length line ≤ 1026 → ReadsLine old line
at_end old now new (Some b) line has read is short = cc
at_end None now new None line has read is short = tt
at_end (Some text) None new None line has read is short = absurd has
at_end (Some text) (Some rest) None None line has read is short = absurd read.0
at_end (Some text) (Some rest) (Some new) None line has read is short =
    whole text line rest has (ap (front_before 10) (sym read.0 ∙ read.1)) short

-- an LF follows
pub at_mark : (old now new : Option (List ℕ)) (byte : Option ℕ) (mark : ℕ) (line : List ℕ) → HasRead old now line
    → ReadsByte now new byte → byte ≡ Some mark → mark ≡ 10 → length line ≤ 1026 → ReadsLine old line
at_mark old now new None mark line has read is lf short = cc
at_mark None now new (Some b) mark line has read is lf short = tt
at_mark (Some text) None new (Some b) mark line has read is lf short = absurd has
at_mark (Some text) (Some rest) None (Some b) mark line has read is lf short = absurd read
at_mark (Some text) (Some rest) (Some new) (Some b) mark line has read is lf short =
    let same : b ≡ 10 = cc in
    whole text line rest has (ap (front_before 10) (read ∙ ap (λ (first : ℕ). first ∷ new) same)) short

-- as many bytes are read as a password may have, and two
pub at_limit : (old now : Option (List ℕ)) (line : List ℕ) → HasRead old now line → length line ≡ 1026 → ReadsLine old line
at_limit None now line has full = tt
at_limit (Some text) None line has full = absurd has
at_limit (Some text) (Some rest) line has full =
    sym (ap (take 1026) has ∙ take-append-le 1026 line (front_before 10 rest) (omega arith) ∙ take_all 1026 line (omega arith))
