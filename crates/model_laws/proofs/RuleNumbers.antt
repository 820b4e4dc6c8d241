-- A Warning names one rule.
use Rattle.std.proofs.Common.{◌≡◌, ℕ, ◌<◌, ◌^◌, List, ◌++◌, codes, decimal, ap, arith}
use Rattle.std.proofs.lemmas.List.{append_cancel_left, append_cancel_right}
use Rattle.std.proofs.lemmas.Fmt.{decimal_injective}
use Rattle.sip_message_fields.specs.declared.field.Field.{Field}
use Rattle.sip_route.specs.declared.own.Own.{Own}
use Rattle.sip_edit_response.specs.Extras.{denial_warning}

-- what stands behind a front and before an end is one text
between : (front end one two : List ℕ) → front ++ one ++ end ≡ front ++ two ++ end → one ≡ two
between front end one two e = append_cancel_left front one two (append_cancel_right (front ++ one) (front ++ two) end e)

-- the number of a rule is all that differs
pub same_rule : (own : Own) (one two : ℕ) → one < 2 ^ 32 → two < 2 ^ 32 → denial_warning own one ≡ denial_warning own two → one ≡ two
same_rule own one two fits other_fits e =
    let texts = between (codes "399 " ++ own.host ++ codes " \"policy rule ") (codes "\"") (decimal one) (decimal two) (ap (λ (f : Field). f.value) e) in
    decimal_injective one two (omega (arith, fits)) (omega (arith, other_fits)) texts
