-- CSeq (RFC 3261 20.16).
use Rattle.std.specs.Prelude.{◌≡◌, ℕ, ◌^◌, ◌<◌, true, nat_lt, if◌then◌else◌, List, ◌∷◌, ◌++◌, Option, Some, None}
use Rattle.std.specs.Option.{option_and_then}
use Rattle.std.specs.List.{AllByRecursion}
use Rattle.sip_text.specs.Lists.{is_blank}
use Rattle.sip_text.specs.Words.{is_token_text, decimal_of}
use Rattle.sip_text.specs.Cuts.{word_at, behind_word}
use Rattle.sip_header.specs.declared.cseq.CSeq.{CSeq}

-- A value writes a CSeq: digits of a number below 2^31, one or more blanks, a method, which is a token.
pub record IsCSeq (value : List ℕ) (cseq : CSeq) : Type 0 where
  pub digits : List ℕ
  pub blank : ℕ
  pub blanks : List ℕ
  pub whole : value ≡ digits ++ ((blank ∷ blanks) ++ cseq.method)
  pub are_blank : AllByRecursion (λ b. is_blank b ≡ true) (blank ∷ blanks)
  pub is_number : decimal_of digits ≡ Some cseq.number
  pub is_below : cseq.number < 2 ^ 31
  pub is_token : is_token_text cseq.method ≡ true

-- a number below 2 ^ 31 and a method
abbrev pub cseq_from : List ℕ → ℕ → Option CSeq
cseq_from method number =
    if nat_lt number (2 ^ 31) then (if is_token_text method then Some (record { number = number; method = method }) else None) else None

-- what a value writes, read from left to right
abbrev pub cseq_of : List ℕ → Option CSeq
cseq_of value = option_and_then (cseq_from (behind_word value)) (decimal_of (word_at value))
