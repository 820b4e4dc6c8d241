-- The line of a record is read as that record, and no other text is read.
use Rattle.std.proofs.Common.{◌≡◌, ℕ, true, List, [], ◌∷◌, ◌++◌, decimal, Option, Some, refl, sym, ap, subst, ◌∙◌, append_assoc}
use Rattle.std.specs.Prelude.{codes, Result, Ok, Err, IfOk}
use Rattle.std.specs.List.{list_all, flat_map}
use Rattle.sip_text.specs.Words.{is_token_text}
use Rattle.sip_text.specs.Numbers.{plain_decimal_of}
use Rattle.sip_text.proofs.PlainDecimals.{plain_read, plain_written}
use Rattle.sip_uri.specs.Host.{is_host, is_not}
use Rattle.sip_uri.specs.declared.aor.Aor.{Aor}
use Rattle.sip_uri.proofs.Tests.{some_is}
use Rattle.sip_audit.specs.declared.error.AuditError.{AuditError}
use Rattle.sip_audit.specs.declared.record.AuditOperation.{AuditOperation}
use Rattle.sip_audit.specs.declared.record.AuditOutcome.{AuditOutcome}
use Rattle.sip_audit.specs.declared.record.Record.{Record}
use Rattle.sip_audit.specs.Names.{is_name_or_none}
use Rattle.sip_audit.specs.Lines.{user_byte_text, target_text, who_text, operation_text, outcome_text, line_of, is_minute_of, IsOfRequest, IsLineOf, IsInRange}
use Rattle.sip_audit.specs.Reading.{◌>>=◌, Gives, word_before, method_of, who_of, target_of, operation_of, outcome_of, parts_of, user_of, with_user, record_of}
use Rattle.sip_audit.proofs.Words.{bind_some, word_is, word_again, number_others, method_is, method_again, method_others, who_is, who_again, who_others, target_is}
use Rattle.sip_audit.proofs.Words.{target_again, target_others, operation_is, operation_again, operation_others}
use Rattle.sip_audit.proofs.Users.{user_is, user_again, user_no_space, user_no_at}
use Rattle.sip_audit.proofs.Outcomes.{outcome_is, outcome_again}

-- ---- the words of a line

-- a line of seven words, the last of them its end
abbrev words_text : List ℕ → List ℕ → List ℕ → List ℕ → List ℕ → List ℕ → List ℕ → List ℕ
words_text at number method who target operation end = at ++ 32 ∷ (number ++ 32 ∷ (method ++ 32 ∷ (who ++ 32 ∷ (target ++ 32 ∷ (operation ++ 32 ∷ end)))))

in_words : (at number method who target operation end : List ℕ)
    → at ++ codes " " ++ number ++ codes " " ++ method ++ codes " " ++ who ++ codes " " ++ target ++ codes " " ++ operation ++ codes " " ++ end
    ≡ words_text at number method who target operation end
in_words at number method who target operation end = simp append_assoc

record_words : (r : Record) → line_of r ≡ words_text (decimal r.at) (decimal r.number) r.method (who_text r.who) (target_text r.target) (operation_text r.operation)
    (outcome_text r.minute r.outcome)
record_words r = in_words (decimal r.at) (decimal r.number) r.method (who_text r.who) (target_text r.target) (operation_text r.operation)
    (outcome_text r.minute r.outcome)

-- the same of a record whose user is as it is written
abbrev written_target : Aor → List ℕ
written_target aor = aor.user ++ 64 ∷ aor.host

abbrev written_words : Record → List ℕ
written_words r = words_text (decimal r.at) (decimal r.number) r.method (who_text r.who) (written_target r.target) (operation_text r.operation)
    (outcome_text r.minute r.outcome)

-- ---- reading, step by step

abbrev record_with : ℕ × List ℕ → ℕ × List ℕ → List ℕ × List ℕ → Option (List ℕ) × List ℕ → (List ℕ × List ℕ) × List ℕ → AuditOperation × List ℕ → Option ℕ × AuditOutcome
    → Record
record_with at number method who target operation end = record {
  at = at.0;
  number = number.0;
  method = method.0;
  who = who.0;
  target = record { user = target.0.0; host = target.0.1 };
  operation = operation.0;
  minute = end.0;
  outcome = end.1;
}

abbrev after_operation : ℕ × List ℕ → ℕ × List ℕ → List ℕ × List ℕ → Option (List ℕ) × List ℕ → (List ℕ × List ℕ) × List ℕ → AuditOperation × List ℕ → Option Record
after_operation at number method who target operation = outcome_of operation.1 >>= λ end. Some (record_with at number method who target operation end)

abbrev after_target : ℕ × List ℕ → ℕ × List ℕ → List ℕ × List ℕ → Option (List ℕ) × List ℕ → (List ℕ × List ℕ) × List ℕ → Option Record
after_target at number method who target = word_before operation_of target.1 >>= after_operation at number method who target

abbrev after_who : ℕ × List ℕ → ℕ × List ℕ → List ℕ × List ℕ → Option (List ℕ) × List ℕ → Option Record
after_who at number method who = word_before target_of who.1 >>= after_target at number method who

abbrev after_method : ℕ × List ℕ → ℕ × List ℕ → List ℕ × List ℕ → Option Record
after_method at number method = word_before who_of method.1 >>= after_who at number method

abbrev after_number : ℕ × List ℕ → ℕ × List ℕ → Option Record
after_number at number = word_before method_of number.1 >>= after_method at number

abbrev after_at : ℕ × List ℕ → Option Record
after_at at = word_before plain_decimal_of at.1 >>= after_number at

parts_in_steps : (line : List ℕ) → parts_of line ≡ (word_before plain_decimal_of line >>= after_at)
unfolding parts_of
parts_in_steps line = refl

-- ---- from the reading to the line

record AreParts (line : List ℕ) (r : Record) : Type 0 where
  written : line ≡ written_words r
  method : is_token_text r.method ≡ true
  who : is_name_or_none r.who ≡ true
  host : is_host r.target.host ≡ true
  minute : is_minute_of r.outcome r.minute ≡ true

all_words : (line r1 r2 r3 r4 r5 r6 at number method who target operation at2 number2 method2 who2 target2 operation2 end : List ℕ)
    → line ≡ at ++ 32 ∷ r1 → at ≡ at2 → r1 ≡ number ++ 32 ∷ r2 → number ≡ number2 → r2 ≡ method ++ 32 ∷ r3 → method ≡ method2 → r3 ≡ who ++ 32 ∷ r4 → who ≡ who2
    → r4 ≡ target ++ 32 ∷ r5 → target ≡ target2 → r5 ≡ operation ++ 32 ∷ r6 → operation ≡ operation2 → r6 ≡ end
    → line ≡ words_text at2 number2 method2 who2 target2 operation2 end
all_words line r1 r2 r3 r4 r5 r6 at number method who target operation at2 number2 method2 who2 target2 operation2 end e1 f1 e2 f2 e3 f3 e4 f4 e5 f5 e6 f6 e7 =
    rw (e1, f1, e2, f2, e3, f3, e4, f4, e5, f5, e6, f6, e7) refl

parts_is : (line : List ℕ) (r : Record) → parts_of line ≡ Some r → AreParts line r
parts_is line r e =
    let at = bind_some (word_before plain_decimal_of line) after_at r (sym (parts_in_steps line) ∙ e) in
    let number = bind_some (word_before plain_decimal_of at.0.1) (after_number at.0) r at.2 in
    let method = bind_some (word_before method_of number.0.1) (after_method at.0 number.0) r number.2 in
    let who = bind_some (word_before who_of method.0.1) (after_who at.0 number.0 method.0) r method.2 in
    let target = bind_some (word_before target_of who.0.1) (after_target at.0 number.0 method.0 who.0) r who.2 in
    let operation = bind_some (word_before operation_of target.0.1) (after_operation at.0 number.0 method.0 who.0 target.0) r target.2 in
    let end = bind_some (outcome_of operation.0.1) (λ end. Some (record_with at.0 number.0 method.0 who.0 target.0 operation.0 end)) r operation.2 in
    let w1 = word_is plain_decimal_of line at.0 at.1 in
    let w2 = word_is plain_decimal_of at.0.1 number.0 number.1 in
    let w3 = word_is method_of number.0.1 method.0 method.1 in
    let w4 = word_is who_of method.0.1 who.0 who.1 in
    let w5 = word_is target_of who.0.1 target.0 target.1 in
    let w6 = word_is operation_of target.0.1 operation.0 operation.1 in
    let m = method_is w3.word method.0.0 w3.meant in
    let n = who_is w4.word who.0.0 w4.meant in
    let t = target_is w5.word target.0.0 w5.meant in
    let o = outcome_is operation.0.1 end.0 end.1 in
    let read : Record = record_with at.0 number.0 method.0 who.0 target.0 operation.0 end.0 in
    subst (AreParts line) {x = read} (some_is read r end.2) (record {
      written = all_words line at.0.1 number.0.1 method.0.1 who.0.1 target.0.1 operation.0.1 w1.word w2.word w3.word w4.word w5.word w6.word
          (decimal at.0.0) (decimal number.0.0) method.0.0 (who_text who.0.0) (target.0.0.0 ++ 64 ∷ target.0.0.1) (operation_text operation.0.0)
          (outcome_text end.0.0 end.0.1)
          w1.whole (plain_written w1.word at.0.0 w1.meant) w2.whole (plain_written w2.word number.0.0 w2.meant) w3.whole m.0 w4.whole n.0 w5.whole t.0 w6.whole
          (operation_is w6.word operation.0.0 w6.meant) o.written;
      method = m.1;
      who = n.1;
      host = t.1;
      minute = o.minute;
    })

grouped : (user host : List ℕ) → user ++ 64 ∷ host ≡ user ++ codes "@" ++ host
grouped user host = sym (append_assoc user (64 ∷ []) host)

-- a record whose user is as it is written, with that user
abbrev with_plain : Record → List ℕ → Record
with_plain r user = record r { target = record { user = user; host = r.target.host } }

plain_words : (r : Record) (user : List ℕ) → flat_map user_byte_text user ≡ r.target.user → written_words r ≡ line_of (with_plain r user)
plain_words r user e =
    ap (λ (w : List ℕ). words_text (decimal r.at) (decimal r.number) r.method (who_text r.who) w (operation_text r.operation) (outcome_text r.minute r.outcome))
    (ap (λ (w : List ℕ). w ++ 64 ∷ r.target.host) (sym e) ∙ grouped (flat_map user_byte_text user) r.target.host)
    ∙ sym (record_words (with_plain r user))

pub is_line : (line : List ℕ) (r : Record) → record_of line ≡ Some r → IsLineOf line r
unfolding record_of
is_line line r e =
    let p = bind_some (parts_of line) with_user r e in
    let u = bind_some (user_of p.0.target.user) (λ user. Some (with_plain p.0 user)) r p.2 in
    let a = parts_is line p.0 p.1 in
    subst (IsLineOf line) (some_is (with_plain p.0 u.0) r u.2) (record {
      good = record { method = a.method; who = a.who; host = a.host; minute = a.minute };
      written = a.written ∙ plain_words p.0 u.0 (user_is p.0.target.user u.0 u.1);
    })

-- ---- from the line to the reading

-- a record with its user as it is written
abbrev as_written : Record → Record
as_written r = record r { target = record { user = flat_map user_byte_text r.target.user; host = r.target.host } }

target_read : (r : Record) → IsInRange r → IsOfRequest r → target_of (target_text r.target) ≡ Some (flat_map user_byte_text r.target.user, r.target.host)
target_read r fits good =
    ap target_of (sym (grouped (flat_map user_byte_text r.target.user) r.target.host))
    ∙ target_again (flat_map user_byte_text r.target.user) r.target.host (user_no_at r.target.user fits.user) good.host

target_spaceless : (r : Record) → IsInRange r → IsOfRequest r → list_all (is_not 32) (target_text r.target) ≡ true
target_spaceless r fits good =
    ap (list_all (is_not 32)) (sym (grouped (flat_map user_byte_text r.target.user) r.target.host))
    ∙ target_others (flat_map user_byte_text r.target.user) r.target.host (user_no_space r.target.user fits.user) good.host

parts_again : (r : Record) → IsInRange r → IsOfRequest r → parts_of (line_of r) ≡ Some (as_written r)
parts_again r fits good =
    let end = outcome_text r.minute r.outcome in
    let r5 = operation_text r.operation ++ 32 ∷ end in
    let r4 = target_text r.target ++ 32 ∷ r5 in
    let r3 = who_text r.who ++ 32 ∷ r4 in
    let r2 = r.method ++ 32 ∷ r3 in
    let r1 = decimal r.number ++ 32 ∷ r2 in
    let target : List ℕ × List ℕ = (flat_map user_byte_text r.target.user, r.target.host) in
    ap parts_of (record_words r)
    ∙ parts_in_steps (decimal r.at ++ 32 ∷ r1)
    ∙ ap (λ o. o >>= after_at) (word_again plain_decimal_of (decimal r.at) r1 r.at (number_others 32 refl r.at fits.at) (plain_read r.at fits.at))
    ∙ ap (λ o. o >>= after_number (r.at, r1)) (word_again plain_decimal_of (decimal r.number) r2 r.number (number_others 32 refl r.number fits.number)
    (plain_read r.number fits.number))
    ∙ ap (λ o. o >>= after_method (r.at, r1) (r.number, r2)) (word_again method_of r.method r3 r.method (method_others r.method good.method)
    (method_again r.method good.method))
    ∙ ap (λ o. o >>= after_who (r.at, r1) (r.number, r2) (r.method, r3)) (word_again who_of (who_text r.who) r4 r.who (who_others r.who good.who)
    (who_again r.who good.who))
    ∙ ap (λ o. o >>= after_target (r.at, r1) (r.number, r2) (r.method, r3) (r.who, r4))
    (word_again target_of (target_text r.target) r5 target (target_spaceless r fits good) (target_read r fits good))
    ∙ ap (λ o. o >>= after_operation (r.at, r1) (r.number, r2) (r.method, r3) (r.who, r4) (target, r5))
    (word_again operation_of (operation_text r.operation) end r.operation (operation_others r.operation) (operation_again r.operation))
    ∙ ap (λ o. o >>= λ outcome. Some (record_with (r.at, r1) (r.number, r2) (r.method, r3) (r.who, r4) (target, r5) (r.operation, end) outcome))
    (outcome_again r.minute r.outcome fits.outcome good.minute)

pub is_read : (r : Record) → IsInRange r → IsOfRequest r → record_of (line_of r) ≡ Some r
unfolding record_of
is_read r fits good =
    ap (λ o. o >>= with_user) (parts_again r fits good) ∙ ap (λ o. o >>= λ user. Some (with_plain (as_written r) user)) (user_again r.target.user fits.user)

-- ---- what reading a line gives

pub read_is_written : (line : List ℕ) (result : Result Record AuditError) → Gives (λ r. r) result (record_of line) → IfOk result (λ r. IsLineOf line r)
read_is_written line (Ok r) gives = is_line line r gives
read_is_written line (Err e) gives = tt

pub written_is_read : (line : List ℕ) (r : Record) → IsInRange r → IsLineOf line r → record_of line ≡ Some r
written_is_read line r fits is = ap record_of is.written ∙ is_read r fits is.good
