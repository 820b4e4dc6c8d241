-- What one line more changes of what is counted and told.
use Rattle.std.proofs.Common.{◌≡◌, ℕ, ◌+◌, Bool, true, false, cond, List, [], ◌∷◌, ◌++◌, ◌∙◌, ap, sym, arith, append-nil}
use Rattle.std.specs.Prelude.{count_by}
use Rattle.std.proofs.lemmas.Grind.{flat_map-append}
use Rattle.std.proofs.lemmas.List.Sums.{sum_by-append}
use Rattle.sip_config_types.specs.declared.config.Config.{Config}
use Rattle.sipd_report.specs.Entries.{is_no_entry}
use Rattle.sipd_report.specs.Totals.{capped}
use Rattle.sipd_expect.specs.Counts.{after_line, counts_of, is_entry, is_told, one_more}
use Rattle.sipd_expect.specs.LogTelling.{line_text, lines_text}

count_push : (p : List ℕ → Bool) (lines : List (List ℕ)) (line : List ℕ) → count_by p (lines ++ line ∷ []) ≡ count_by p lines + cond (p line) 1 0
count_push p lines line =
    sum_by-append (λ l. cond (p l) 1 0) lines (line ∷ []) ∙ ap (λ n. count_by p lines + n) (from_zero (cond (p line) 1 0))
  where
    from_zero : (n : ℕ) → 0 + n ≡ n
    from_zero n = omega arith

by_test : (counted : Bool) (n : ℕ) → one_more counted (capped n) ≡ capped (n + cond counted 1 0)
by_test true n = omega arith
by_test false n = omega arith

more_of : (p : List ℕ → Bool) (lines : List (List ℕ)) (line : List ℕ) → one_more (p line) (capped (count_by p lines)) ≡ capped (count_by p (lines ++ line ∷ []))
more_of p lines line = by_test (p line) (count_by p lines) ∙ ap capped (sym (count_push p lines line))

pub counts_more : (config : Config) (lines : List (List ℕ)) (line : List ℕ) → after_line config line (counts_of config lines) ≡ counts_of config (lines ++ line ∷ [])
counts_more config lines line =
    let asked = more_of is_entry lines line in
    let told = more_of (is_told config) lines line in
    let none = more_of is_no_entry lines line in
    λ i. record { asked = asked i; told = told i; none = none i }

pub text_both : (config : Config) (done rest : List (List ℕ)) → lines_text config (done ++ rest) ≡ lines_text config done ++ lines_text config rest
text_both config done rest = flat_map-append (line_text config) done rest

pub text_more : (config : Config) (done : List (List ℕ)) (line : List ℕ) → lines_text config (done ++ line ∷ []) ≡ lines_text config done ++ line_text config line
text_more config done line = text_both config done (line ∷ []) ∙ ap (λ l. lines_text config done ++ l) (append-nil (line_text config line))
