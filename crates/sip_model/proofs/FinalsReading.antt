-- A response that bytes say has a status from 100 on.
use Rattle.std.proofs.Common.{◌≡◌, ℕ, ◌≤◌, Bool, true, false, cond, ◌==◌, List, length, Option, Some, None, Ok, Err, Result, option_map, option_and_then, ok_or, refl, ap}
use Rattle.std.proofs.Common.{subst, ◌∙◌, arith, codes, nat_lt}
use Rattle.std.specs.List.{list_all}
use Rattle.std.specs.Str.{byte}
use Rattle.std.proofs.lemmas.Bool.Decides.{nat_tests}
use Rattle.sip_text.specs.Words.{is_token_text, decimal_of, is_same_text}
use Rattle.sip_text.specs.Splits.{split_at_byte}
use Rattle.sip_message_fields.specs.declared.field.Field.{Field}
use Rattle.sip_message_form.specs.declared.message.Start.{Start}
use Rattle.sip_message_form.specs.declared.message.Start.TheVariants.{Request, Status}
use Rattle.sip_message_form.specs.declared.message.Message.{Message}
use Rattle.sip_message_form.specs.declared.error.ReadError.{ReadError}
use Rattle.sip_message_form.specs.declared.error.ReadError.TheVariants as Refusal
use Rattle.sip_message_form.specs.Text.{text_of}
use Rattle.sip_message.specs.Lines.{after_blanks, line_at, head_at}
use Rattle.sip_message.specs.Start.{is_uri, is_unbroken, version_of, is_code, status_of, request_of, start_from, start_of}
use Rattle.sip_message.specs.Field.{entries_of, kept}
use Rattle.sip_message.specs.Body.{lengths, one_length, is_short}
use Rattle.sip_message.specs.Reading.{◌>>=◌, with_body, limited, message_from, datagram_of, reading_of}
use Rattle.model_steps.specs.verdict_model.Verdict.{message_in}
use Rattle.model_steps.specs.state.declared.proxy_state.ProxyState.{ProxyState}
use Rattle.model_steps.specs.state.Arrival.{Arrival}
use Rattle.model_steps.specs.Step.{Act}
use Rattle.sip_model.specs.Access.{IsSaidAt}
use Rattle.sip_model.proofs.FinalsLists.{followed}

-- ---- a start line

-- a status is one from 100 on
code_low : (code : ℕ) → is_code code ≡ true → 100 ≤ code
code_low code e = grind (arith, nat_tests)

-- that of a status line
status_low : (digits reason phrase : List ℕ) (code : ℕ) → status_of digits reason ≡ Some (Status code phrase) → 100 ≤ code
status_low digits reason phrase code e = by_length (length digits == 3) (list_all is_unbroken reason) e where
  by_code : (n : ℕ) (t : Bool) → is_code n ≡ t → cond t (Some (Status n reason)) None ≡ Some (Status code phrase) → 100 ≤ code
  by_code n true is whole = let same : n ≡ code = cc in subst (λ (k : ℕ). 100 ≤ k) same (code_low n is)
  by_code n false is whole = absurd (cc)

  by_length : (t u : Bool) → cond t (cond u (option_and_then (λ n. cond (is_code n) (Some (Status n reason)) None) (decimal_of digits)) None) None
      ≡ Some (Status code phrase)
      → 100 ≤ code
  by_length true true whole =
      let number = followed (decimal_of digits) (λ n. cond (is_code n) (Some (Status n reason)) None) (Status code phrase) whole in
      by_code number.0 (is_code number.0) refl number.2
  by_length true false whole = absurd (cc)
  by_length false u whole = absurd (cc)

-- a request line has none
request_none : (method uri version phrase : List ℕ) (code : ℕ) → request_of method uri version ≡ Some (Status code phrase) → 100 ≤ code
request_none method uri version phrase code e = by_tests (is_token_text method) (is_uri uri) (version_of version) e where
  by_tests : (t u : Bool) (o : Option (List ℕ)) → cond t (cond u (option_map (λ v. Request method uri v) o) None) None ≡ Some (Status code phrase) → 100 ≤ code
  by_tests true true None whole = absurd (cc)
  by_tests true true (Some v) whole = absurd (cc)
  by_tests true false o whole = absurd (cc)
  by_tests false u o whole = absurd (cc)

-- either
from_low : (first second third phrase : List ℕ) (code : ℕ) → start_from first second third ≡ Some (Status code phrase) → 100 ≤ code
from_low first second third phrase code e = by_test (is_same_text first (codes "SIP/2.0")) e where
  by_test : (t : Bool) → cond t (status_of second third) (request_of first second third) ≡ Some (Status code phrase) → 100 ≤ code
  by_test true whole = status_low second third phrase code whole
  by_test false whole = request_none first second third phrase code whole

-- a start line, cut at its spaces
start_low : (line phrase : List ℕ) (code : ℕ) → start_of line ≡ Some (Status code phrase) → 100 ≤ code
start_low line phrase code e =
    let x = followed (split_at_byte (byte " ") line) (λ x. option_and_then (λ y. start_from x.0 y.0 y.1) (split_at_byte (byte " ") x.1)) (Status code phrase) e in
    let y = followed (split_at_byte (byte " ") x.0.1) (λ y. start_from x.0.0 y.0 y.1) (Status code phrase) x.2 in
    from_low x.0.0 y.0.0 y.0.1 phrase code y.2

-- ---- a message

-- what follows where one reading is made of another
read_on : {A : Type 0} (r : Result A ReadError) (f : A → Result Message ReadError) (m : Message) → r >>= f ≡ Ok m → (x : A) × (r ≡ Ok x) × (f x ≡ Ok m)
read_on (Ok x) f m e = (x, refl, e)
read_on (Err fault) f m e = absurd (cc)

-- an answer that was there
was_there : {A : Type 0} (o : Option A) (e : ReadError) (x : A) → ok_or o e ≡ Ok x → o ≡ Some x
was_there None e x is = absurd (cc)
was_there (Some y) e x is = cc

-- within the limits a message is as it was
within : (short : Bool) (m said : Message) → limited short m ≡ Ok said → m ≡ said
within short m said e = by_tests (nat_lt 256 (length m.fields)) (nat_lt 49152 (length (text_of m))) short e where
  by_tests : (t u v : Bool) → cond t (Err Refusal.TooManyFields) (cond u (Err Refusal.TooLong) (cond v (Err (Refusal.ShortBody m)) (Ok m))) ≡ Ok said → m ≡ said
  by_tests true u v is = absurd (cc)
  by_tests false true v is = absurd (cc)
  by_tests false false true is = absurd (cc)
  by_tests false false false is = cc

-- a message begins with its start line
message_start : (start : Start) (lines : List (List ℕ)) (rest : List ℕ) (m : Message) → message_from start lines rest ≡ Ok m → start ≡ m.start
unfolding message_from
message_start start lines rest m e =
    let entries = read_on (ok_or (entries_of lines) Refusal.BadField)
    (λ entries. ok_or (one_length (lengths entries)) Refusal.BadField >>= λ n. ok_or (kept entries) Refusal.BadField >>= λ fields. limited (is_short n rest)
    (with_body start fields n rest)) m e in
    by_length entries.0 entries.2 where
      by_fields : (n : Option ℕ) (fields : List Field) → limited (is_short n rest) (with_body start fields n rest) ≡ Ok m → start ≡ m.start
      by_fields n fields is = ap (λ (x : Message). x.start) (within (is_short n rest) (with_body start fields n rest) m is)

      by_entries : (entries : List Field) (n : Option ℕ)
          → ok_or (kept entries) Refusal.BadField >>= (λ fields. limited (is_short n rest) (with_body start fields n rest)) ≡ Ok m → start ≡ m.start
      by_entries entries n is = let fields = read_on (ok_or (kept entries) Refusal.BadField)
          (λ fields. limited (is_short n rest) (with_body start fields n rest)) m is in by_fields n fields.0 fields.2

      by_length : (entries : List Field)
          → ok_or (one_length (lengths entries)) Refusal.BadField >>=
          (λ n. ok_or (kept entries) Refusal.BadField >>= λ fields. limited (is_short n rest) (with_body start fields n rest)) ≡ Ok m → start ≡ m.start
      by_length entries is =
          let n = read_on (ok_or (one_length (lengths entries)) Refusal.BadField)
          (λ n. ok_or (kept entries) Refusal.BadField >>= λ fields. limited (is_short n rest) (with_body start fields n rest)) m is in
          by_entries entries n.0 n.2

-- a datagram's response has such a status
datagram_low : (bytes : List ℕ) (m : Message) (code : ℕ) (phrase : List ℕ) → datagram_of bytes ≡ Ok m → m.start ≡ Status code phrase → 100 ≤ code
unfolding datagram_of
datagram_low bytes m code phrase e is =
    let a = read_on (ok_or (line_at (after_blanks bytes)) Refusal.NotSip)
    (λ first. ok_or (start_of first.0) Refusal.NotSip >>= λ start. ok_or (head_at first.1) Refusal.NotSip >>= λ head. message_from start head.0 head.1) m e in
    let b = read_on (ok_or (start_of a.0.0) Refusal.NotSip) (λ start. ok_or (head_at a.0.1) Refusal.NotSip >>= λ head. message_from start head.0 head.1) m a.2 in
    let c = read_on (ok_or (head_at a.0.1) Refusal.NotSip) (λ head. message_from b.0 head.0 head.1) m b.2 in
    start_low a.0.0 phrase code (was_there (start_of a.0.0) Refusal.NotSip b.0 b.1 ∙ ap Some (message_start b.0 c.0.0 c.0.1 m c.2 ∙ is))

-- so has one that is read
reading_low : (bytes : List ℕ) (m : Message) (code : ℕ) (phrase : List ℕ) → reading_of bytes ≡ Ok m → m.start ≡ Status code phrase → 100 ≤ code
unfolding reading_of
reading_low bytes m code phrase e is = by_test (nat_lt 65507 (length bytes)) e where
  by_test : (t : Bool) → cond t (Err Refusal.TooLong) (datagram_of bytes) ≡ Ok m → 100 ≤ code
  by_test true read = absurd (cc)
  by_test false read = datagram_low bytes m code phrase read is

-- ---- what a step is taken for

-- what is there once is there
same_said : (x y : Message × Bool) → Some x ≡ Some y → x ≡ y
same_said x y e = cc

-- a message whose body is whole was read
was_read : (r : Result Message ReadError) (m : Message) → message_in r ≡ Some (m, false) → r ≡ Ok m
was_read (Ok x) m e = ap (λ (y : Message × Bool). Ok y.0) (same_said (x, false) (m, false) e)
was_read (Err (Refusal.ShortBody x)) m e = let never : true ≡ false = ap (λ (y : Message × Bool). y.1) (same_said (x, true) (m, false) e) in absurd (cc)
was_read (Err Refusal.NoMemory) m e = absurd (cc)
was_read (Err Refusal.NotSip) m e = absurd (cc)
was_read (Err Refusal.BadField) m e = absurd (cc)
was_read (Err Refusal.TooLong) m e = absurd (cc)
was_read (Err Refusal.TooManyFields) m e = absurd (cc)

-- a response that a step's datagram says has a status from 100 on
pub said_low : (state : ProxyState) (act : Act) (a : Arrival) (bytes : List ℕ) (m : Message) (status : ℕ) (reason : List ℕ) → IsSaidAt state act a bytes m false
    → m.start ≡ Status status reason → 100 ≤ status
said_low state act a bytes m status reason said start = reading_low bytes m status reason (was_read (reading_of bytes) m said.says) start
