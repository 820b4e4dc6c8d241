-- A password that is read no further than one that is taken goes.
use Rattle.std.proofs.Common.{◌≡◌, ℕ, ◌+◌, ◌≤◌, Bool, true, false, ◌==◌, List, [], ◌∷◌, length, take, Result, Ok, Err, sym, ap, ◌∙◌, cond, arith, inl, inr}
use Rattle.std.proofs.lemmas.Bool.{lt-leb}
use Rattle.std.proofs.lemmas.Bool.Decides.{leb_tells}
use Rattle.std.proofs.lemmas.List.{take_all, length-take-le}
use Rattle.std.specs.Prelude.{nat_le}
use Rattle.sip_config_values.specs.Grammar.{is_name}
use Rattle.sipd_ask.specs.declared.error.QuestionError.{QuestionError}
use Rattle.sipd_ask.specs.declared.error.QuestionError.TheVariants.{BadName, BadRealm, LongPassword}
use Rattle.sipd_ask.specs.declared.user.UserDigests.{UserDigests}
use Rattle.sipd_ask.specs.Fronts.{front_before}
use Rattle.sipd_ask.specs.Refusals.{◌>>=◌, confirmed}
use Rattle.sipd_ask.specs.User.{without_cr, first_line, is_digested_realm, table_of, user_table}

-- what is said to a password that is too long
refused : List ℕ → List ℕ → Result (List ℕ) QuestionError
refused name realm =
    confirmed (is_name name) BadName >>= (λ ok. confirmed (is_digested_realm realm) BadRealm >>= (λ right. Err LongPassword))

too_long : (name realm password : List ℕ) (digests : UserDigests) → 1025 ≤ length password
    → user_table name realm password digests ≡ refused name realm
unfolding refused
too_long name realm [] digests long = absurd (omega arith)
too_long name realm (b ∷ bs) digests long =
    let test : nat_le (length (b ∷ bs)) 1024 ≡ false = lt-leb (length (b ∷ bs)) 1024 long in
    ap (λ (t : Bool). confirmed (is_name name) BadName >>= (λ ok. confirmed (is_digested_realm realm) BadRealm
    >>= (λ right. confirmed t LongPassword >>= (λ short. Ok (table_of digests name realm (b ∷ bs)))))) test

-- at most one byte is taken off
one_less : (line : List ℕ) → length line ≤ length (without_cr line) + 1
one_less [] = omega arith
one_less (b ∷ []) = by_end b (b == 13)
  where
    by_end : (b : ℕ) (test : Bool) → 1 ≤ length (cond {A = List ℕ} test [] (b ∷ [])) + 1
    by_end b true = omega arith
    by_end b false = omega arith
one_less (b ∷ c ∷ rest) = let others = one_less (c ∷ rest) in omega (arith, others)

by_length : (name realm line : List ℕ) (digests : UserDigests)
    → user_table name realm (without_cr (take 1026 line)) digests ≡ user_table name realm (without_cr line) digests
by_length name realm line digests =
    elim (leb_tells (length line) 1026) [
      | inl short ↦ ap (λ (l : List ℕ). user_table name realm (without_cr l) digests) (take_all 1026 line short.1)
      | inr long ↦
          let front : length (take 1026 line) ≡ 1026 = length-take-le 1026 line (omega (arith, long.1)) in
          too_long name realm (without_cr (take 1026 line)) digests (omega (arith, one_less (take 1026 line), front))
          ∙ sym (too_long name realm (without_cr line) digests (omega (arith, one_less line, long.1)))
    ]

-- what is answered to a first line that is read so far is answered to it whole
pub read_so_far : (name realm text : List ℕ) (digests : UserDigests)
    → user_table name realm (without_cr (take 1026 (front_before 10 text))) digests ≡ user_table name realm (first_line text) digests
read_so_far name realm text digests = by_length name realm (front_before 10 text) digests
