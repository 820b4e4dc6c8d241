-- How what is sent begins: an answer with `SIP/2.0` and its status, a request with its method.
use Rattle.std.proofs.Common.{◌≡◌, ℕ, ◌+◌, ◌/◌, ◌%◌, ◌≤◌, true, false, List, [], ◌∷◌, ◌++◌, length, refl, sym, ap, subst, ◌∙◌, arith, decimal, codes, append_assoc}
use Rattle.std.proofs.Common.{flat_map, bytes_eq, Option}
use Rattle.std.specs.Fmt.{digits}
use Rattle.std.proofs.lemmas.Fmt.{decimal_step}
use Rattle.std.proofs.lemmas.Bool.Decides.{nat_tests}
use Rattle.std.proofs.lemmas.Slice.Eq.{bytes_eq-Decides}
use Rattle.sip_uri.specs.declared.addr.Addr.{Addr}
use Rattle.sip_message_fields.specs.declared.field.Field.{Field}
use Rattle.sip_message_form.specs.declared.message.Start.{Start}
use Rattle.sip_message_form.specs.declared.message.Start.TheVariants.{Request, Status}
use Rattle.sip_message_form.specs.declared.message.Message.{Message}
use Rattle.sip_message_form.specs.Text.{start_text, field_text, text_of}
use Rattle.sip_edit.specs.Onward.{with_uri}
use Rattle.sip_edit.specs.OwnRequests.{ack_with, cancel_of}
use Rattle.model_steps.specs.state.declared.server.Server.{Server}
use Rattle.model_steps.specs.state.State.{is_success, is_provisional}
use Rattle.model_steps.specs.context_model.Sending.{onward_as}
use Rattle.model_steps.specs.Effect.{method_of}
use Rattle.sip_model.specs.FinalAnswers.{begins_final, begins_success}

-- ---- the first digit of a status

-- 1, as it is written
one : decimal 1 ≡ 49 ∷ []
unfolding digits
one = refl

-- 2, as it is written
two : decimal 2 ≡ 50 ∷ []
unfolding digits
two = refl

-- three digits, of which the first is that of the hundreds
first_digit : (n : ℕ) (rest : List ℕ) → 100 ≤ n → n ≤ 999 → decimal n ++ rest ≡ decimal (n / 100) ++ ((48 + n / 10 % 10) ∷ (48 + n % 10) ∷ rest)
first_digit n rest low high =
    let tens : n / 10 / 10 ≡ n / 100 = omega arith in
    ap (λ (ds : List ℕ). ds ++ rest) (decimal_step n (omega arith) (omega arith)) ∙ append_assoc (decimal (n / 10)) ((48 + n % 10) ∷ []) rest
    ∙ ap (λ (ds : List ℕ). ds ++ ((48 + n % 10) ∷ rest)) (decimal_step (n / 10) (omega arith) (omega arith))
    ∙ append_assoc (decimal (n / 10 / 10)) ((48 + n / 10 % 10) ∷ []) ((48 + n % 10) ∷ rest)
    ∙ ap (λ (k : ℕ). decimal k ++ ((48 + n / 10 % 10) ∷ (48 + n % 10) ∷ rest)) tens

-- that of a provisional status is 1
provisional_digit : (n : ℕ) (rest : List ℕ) → 100 ≤ n → n ≤ 199 → decimal n ++ rest ≡ 49 ∷ (48 + n / 10 % 10) ∷ (48 + n % 10) ∷ rest
provisional_digit n rest low high =
    let hundreds : n / 100 ≡ 1 = omega arith in
    first_digit n rest low (omega arith) ∙ ap (λ (k : ℕ). decimal k ++ ((48 + n / 10 % 10) ∷ (48 + n % 10) ∷ rest)) hundreds
    ∙ ap (λ (ds : List ℕ). ds ++ ((48 + n / 10 % 10) ∷ (48 + n % 10) ∷ rest)) one

-- that of a 2xx is 2
success_digit : (n : ℕ) (rest : List ℕ) → 200 ≤ n → n ≤ 299 → decimal n ++ rest ≡ 50 ∷ (48 + n / 10 % 10) ∷ (48 + n % 10) ∷ rest
success_digit n rest low high =
    let hundreds : n / 100 ≡ 2 = omega arith in
    first_digit n rest (omega arith) (omega arith) ∙ ap (λ (k : ℕ). decimal k ++ ((48 + n / 10 % 10) ∷ (48 + n % 10) ∷ rest)) hundreds
    ∙ ap (λ (ds : List ℕ). ds ++ ((48 + n / 10 % 10) ∷ (48 + n % 10) ∷ rest)) two

-- ---- answers

-- a message is an answer of this status
pub record HasStatus (status : ℕ) (m : Message) : Type 0 where
  pub reason : List ℕ
  pub start_is : m.start ≡ Status status reason

-- what stands behind a start line
behind : Message → List ℕ
behind m = codes "\r\n" ++ (flat_map field_text m.fields ++ (codes "Content-Length: " ++ (decimal (length m.body) ++ (codes "\r\n\r\n" ++ m.body))))

-- ten texts, one behind the other
regroup : (a b c d e f g h i j : List ℕ) → a ++ b ++ c ++ d ++ e ++ f ++ g ++ h ++ i ++ j ≡ a ++ (b ++ (c ++ (d ++ (e ++ (f ++ (g ++ (h ++ (i ++ j))))))))
regroup a b c d e f g h i j = simp append_assoc

-- the text of an answer begins with its status
answer_text : (status : ℕ) (m : Message) (h : HasStatus status m) → text_of m ≡ codes "SIP/2.0 " ++ (decimal status ++ (codes " " ++ (h.reason ++ behind m)))
unfolding behind
answer_text status m h =
    ap (λ (start : Start). start_text start ++ codes "\r\n" ++ flat_map field_text m.fields ++ codes "Content-Length: " ++ decimal
    (length m.body) ++ codes "\r\n\r\n" ++ m.body) h.start_is
    ∙ regroup (codes "SIP/2.0 ") (decimal status) (codes " ") h.reason (codes "\r\n") (flat_map field_text m.fields) (codes "Content-Length: ") (decimal (length m.body))
    (codes "\r\n\r\n") m.body

-- a provisional status, as numbers
provisional_range : (status : ℕ) → is_provisional status ≡ true → status ≤ 199
provisional_range status e = grind (arith, nat_tests)

-- a provisional answer doesn't begin as a final one
pub provisional_text : (status : ℕ) (m : Message) → HasStatus status m → 100 ≤ status → is_provisional status ≡ true → begins_final (text_of m) ≡ false
provisional_text status m h low e =
    ap begins_final (answer_text status m h)
    ∙ ap (λ (bytes : List ℕ). begins_final (codes "SIP/2.0 " ++ bytes)) (provisional_digit status (codes " " ++ (h.reason ++ behind m)) low (provisional_range status e))

-- a 2xx, as numbers
success_low : (status : ℕ) → is_success status ≡ true → 200 ≤ status
success_low status e = grind (arith, nat_tests)

success_high : (status : ℕ) → is_success status ≡ true → status ≤ 299
success_high status e = grind (arith, nat_tests)

-- a 2xx begins as one
pub success_text : (status : ℕ) (m : Message) → HasStatus status m → is_success status ≡ true → begins_success (text_of m) ≡ true
success_text status m h e =
    ap begins_success (answer_text status m h)
    ∙ ap (λ (bytes : List ℕ). begins_success (codes "SIP/2.0 " ++ bytes))
    (success_digit status (codes " " ++ (h.reason ++ behind m)) (success_low status e) (success_high status e))

-- ---- requests

-- an ACK of this server begins with its method
pub ack_text : (to : Option (List ℕ)) (sent : Message) → begins_final (text_of (ack_with to sent)) ≡ false
ack_text to sent = refl

-- so does a CANCEL
pub cancel_text : (sent : Message) → begins_final (text_of (cancel_of sent)) ≡ false
cancel_text sent = refl

-- and so does an ACK that goes onward
pub onward_text : (server : Server) (number : ℕ) (m : Message) (from : Addr) (uri : List ℕ) (target : ℕ) → bytes_eq (method_of m.start) (codes "ACK") ≡ true
    → begins_final (text_of (onward_as server number m from uri target)) ≡ false
onward_text server number m from uri target e = by_start m.start (onward_as server number m from uri target).fields (onward_as server number m from uri target).body
    e where
      by_start : (s : Start) (fields : List Field) (body : List ℕ) → bytes_eq (method_of s) (codes "ACK") ≡ true
          → begins_final (text_of (record { start = with_uri uri s; fields = fields; body = body })) ≡ false
      by_start (Request method old version) fields body is =
          subst (λ (name : List ℕ). begins_final (text_of (record { start = Request name uri version; fields = fields; body = body })) ≡ false)
          (sym ((bytes_eq-Decides method (codes "ACK")).0 is)) refl
      by_start (Status code reason) fields body is = absurd (cc)
