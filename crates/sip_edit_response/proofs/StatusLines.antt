-- The status lines that are written whole.
use Rattle.std.proofs.Common.{◌≡◌, ℕ, List, ◌++◌, sym, ap, subst, arith}
use Rattle.std.specs.Prelude.{decimal, codes}
use Rattle.sip_text.proofs.SmallDecimals.{three_digits}
use Rattle.sip_message_form.specs.declared.message.Start.TheVariants.{Status}
use Rattle.sip_message_form.specs.Text.{start_text}
use Rattle.sip_edit_response.specs.Reasons.{reason_of}

abbrev line_of : ℕ → List ℕ
line_of status = start_text (Status status (reason_of status)) ++ codes "\r\n"

by_digits : (n : ℕ) (digits : List ℕ) → digits ≡ decimal n → codes "SIP/2.0 " ++ digits ++ codes " " ++ reason_of n ++ codes "\r\n" ≡ line_of n
by_digits n digits is = ap (λ (w : List ℕ). codes "SIP/2.0 " ++ w ++ codes " " ++ reason_of n ++ codes "\r\n") is

of_status : (status n : ℕ) (line : List ℕ) → status ≡ n → line ≡ line_of n → line ≡ line_of status
of_status status n line is same = subst (λ (k : ℕ). line ≡ line_of k) (sym is) same

pub trying : (status : ℕ) → status ≡ 100 → codes "SIP/2.0 100 Trying\r\n" ≡ start_text (Status status (reason_of status)) ++ codes "\r\n"
trying status is = of_status status 100 (codes "SIP/2.0 100 Trying\r\n") is (by_digits 100 (codes "100") (three_digits 100 (omega arith) (omega arith)))

pub ok : (status : ℕ) → status ≡ 200 → codes "SIP/2.0 200 OK\r\n" ≡ start_text (Status status (reason_of status)) ++ codes "\r\n"
ok status is = of_status status 200 (codes "SIP/2.0 200 OK\r\n") is (by_digits 200 (codes "200") (three_digits 200 (omega arith) (omega arith)))

pub unauthorized : (status : ℕ) → status ≡ 401 → codes "SIP/2.0 401 Unauthorized\r\n" ≡ start_text (Status status (reason_of status)) ++ codes "\r\n"
unauthorized status is = of_status status 401 (codes "SIP/2.0 401 Unauthorized\r\n") is (by_digits 401 (codes "401") (three_digits 401 (omega arith) (omega arith)))

pub forbidden : (status : ℕ) → status ≡ 403 → codes "SIP/2.0 403 Forbidden\r\n" ≡ start_text (Status status (reason_of status)) ++ codes "\r\n"
forbidden status is = of_status status 403 (codes "SIP/2.0 403 Forbidden\r\n") is (by_digits 403 (codes "403") (three_digits 403 (omega arith) (omega arith)))
