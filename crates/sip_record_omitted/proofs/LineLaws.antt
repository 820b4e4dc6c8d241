-- What a line says that stands for others, and which text it stands for.
use Rattle.std.proofs.Common.{◌≡◌, ℕ, zero, suc, ◌<◌, ◌≤◌, ◌+◌, ◌^◌, Bool, true, false, List, [], ◌∷◌, ◌++◌, length, decimal, replicate, Option, Some, None}
use Rattle.std.proofs.Common.{refl, sym, ap, subst, ◌∙◌, arith, inl, inr, append_assoc, length-append, lit<, if◌then◌else◌}
use Rattle.std.specs.Prelude.{◌==◌, nat_lt, codes, slice_index}
use Rattle.std.specs.Option.{option_and_then}
use Rattle.std.specs.Str.{bytes_eq}
use Rattle.std.specs.Fmt.{digits}
use Rattle.std.proofs.lemmas.Bool.{lt-ltb, ltb-true, ne_eqb}
use Rattle.std.proofs.lemmas.Bool.Decides.{nat_tests}
use Rattle.std.proofs.lemmas.Fmt.{length-decimal-le}
use Rattle.std.proofs.lemmas.Slice.Eq.{bytes_eq-Decides}
use Rattle.hex.specs.Hex.{encode_with}
use Rattle.sip_digest.specs.NonceText.{nonce_text}
use Rattle.sip_text.specs.Numbers.{plain_decimal_of, plain_decimal_below, under}
use Rattle.sip_text.specs.Splits.{split_at_byte}
use Rattle.sip_text.proofs.PlainDecimals.{plain_read, plain_written}
use Rattle.sip_uri.proofs.Tests.{split_again, split_is}
use Rattle.sip_event.specs.declared.event.Event.{Event}
use Rattle.sip_replay_script.specs.declared.script.EventLine.{EventLine}
use Rattle.sip_replay_script.specs.declared.script.EventLine.TheVariants.{Whole}
use Rattle.sip_replay_script.specs.Events.{ended}
use Rattle.sip_replay_script.specs.EventText.{event_text, HasTypes}
use Rattle.sip_replay_script.specs.Recorded.{SaysRecord, SaysRecorded}
use Rattle.sip_replay_script.specs.Script.{line_of, line_of_kind}
use Rattle.sip_replay_script.proofs.WrittenEvents.{written_recorded}
use Rattle.sip_replay_script.specs.Escaped.{byte_text, escaped}
use Rattle.sip_record_omitted.specs.Omitted.{count_of, expanded, left_out_line, left_out_text, omitted_datagram, omitted_in, omitted_line, omitted_of, text_for}
use Rattle.sip_record_omitted.proofs.Texts.{line_itself, so_many}

then_some : {A B : Type 0} (f : A → Option B) (o : Option A) (y : B) → option_and_then f o ≡ Some y → (x : A) × (o ≡ Some x) × (f x ≡ Some y)
then_some f None y e = absurd cc
then_some f (Some x) y e = (x, refl, e)

kept_is : (t : Bool) (n m : ℕ) → (if t then Some n else None) ≡ Some m → (t ≡ true) × (n ≡ m)
kept_is true n m e = (refl, cc)
kept_is false n m e = absurd cc

dropped_is : (t : Bool) (n m : ℕ) → (if t then None else Some n) ≡ Some m → (t ≡ false) × (n ≡ m)
dropped_is true n m e = absurd cc
dropped_is false n m e = (refl, cc)

chosen_is : (t : Bool) (o : Option ℕ) (m : ℕ) → (if t then o else None) ≡ Some m → (t ≡ true) × (o ≡ Some m)
chosen_is true o m e = (refl, e)
chosen_is false o m e = absurd cc

positive : (n : ℕ) → (n == 0) ≡ false → 1 ≤ n
positive n e = grind (arith, nat_tests)

-- ---- the number

below_is : (limit : ℕ) (text : List ℕ) (n : ℕ) → plain_decimal_below limit text ≡ Some n → (text ≡ decimal n) × (n < limit)
below_is limit text n e =
    let got = then_some (under limit) (plain_decimal_of text) n e in
    let test = kept_is (nat_lt got.0 limit) got.0 n got.2 in
    let lt : got.0 < limit = ltb-true got.0 limit test.0 in
    (plain_written text got.0 got.1 ∙ ap decimal test.1, omega (arith, lt, test.1))

count_is : (text : List ℕ) (n : ℕ) → count_of text ≡ Some n → (text ≡ decimal n) × (1 ≤ n) × (n < 2 ^ 62)
count_is text n e =
    let got = then_some (λ count. if count == 0 then None else Some count) (plain_decimal_below (2 ^ 62) text) n e in
    let test = dropped_is (got.0 == 0) got.0 n got.2 in
    let some : 1 ≤ got.0 = positive got.0 test.0 in
    let below = below_is (2 ^ 62) text got.0 got.1 in
    let lt : got.0 < 2 ^ 62 = below.1 in
    (below.0 ∙ ap decimal test.1, omega (arith, some, test.1), omega (arith, lt, test.1))

below_again : (limit n : ℕ) → n < limit → n < 2 ^ 64 → plain_decimal_below limit (decimal n) ≡ Some n
below_again limit n lt small =
    let test : nat_lt n limit ≡ true = lt-ltb n limit lt in
    ap (option_and_then (under limit)) (plain_read n small) ∙ rw test refl

count_again : (n : ℕ) → 1 ≤ n → n < 2 ^ 62 → count_of (decimal n) ≡ Some n
count_again n some lt =
    let test : (n == 0) ≡ false = ne_eqb n 0 (λ e. omega (arith, e, some)) in
    rw (below_again (2 ^ 62) n lt (omega (arith, lt)), test) refl

-- ---- the line

pub omitted_again : (count : ℕ) → 1 ≤ count → count < 2 ^ 62 → omitted_of (omitted_line count) ≡ Some count
omitted_again count some lt =
    ap (λ (o : Option (List ℕ × List ℕ)). option_and_then omitted_in o) (split_again 32 (codes "omitted") (decimal count) refl refl)
    ∙ count_again count some lt

pub omitted_is : (line : List ℕ) (count : ℕ) → omitted_of line ≡ Some count → (line ≡ omitted_line count) × (1 ≤ count) × (count < 2 ^ 62)
omitted_is line count e =
    let cut = then_some omitted_in (split_at_byte 32 line) count e in
    let test = chosen_is (bytes_eq cut.0.0 (codes "omitted")) (count_of cut.0.1) count cut.2 in
    let word : cut.0.0 ≡ codes "omitted" = (bytes_eq-Decides cut.0.0 (codes "omitted")).0 test.0 in
    let number = count_is cut.0.1 count test.1 in (
      split_is 32 line cut.0.0 cut.0.1 cut.1 ∙ ap (λ (w : List ℕ). w ++ 32 ∷ cut.0.1) word ∙ ap (λ (w : List ℕ). codes "omitted " ++ w) number.0,
      number.1,
      number.2,
    )

-- it has at most 27 bytes
pub omitted_short : (line : List ℕ) (count : ℕ) → omitted_of line ≡ Some count → length line ≤ 27
omitted_short line count e =
    let is = omitted_is line count e in
    let lt : count < 2 ^ 62 = is.2 in
    let few : length (decimal count) ≤ 19 = length-decimal-le 19 count (omega arith) (omega (arith, lt)) (omega (arith, lt)) in
    let size : length (omitted_line count) ≡ 8 + length (decimal count) = length-append (codes "omitted ") (decimal count) in
    omega (arith, few, size, ap length is.0)

-- so a longer one stands for none
pub longer_is_none : (line : List ℕ) → 28 ≤ length line → omitted_of line ≡ None
longer_is_none line long = by (omitted_of line) refl
  where
    by : (o : Option ℕ) → omitted_of line ≡ o → o ≡ None
    by None is = refl
    by (Some count) is = let few : length line ≤ 27 = omitted_short line count is in absurd (omega (arith, few, long))

-- ---- what it stands for

octet : (i : ℕ) → slice_index (0 ∷ 0 ∷ 0 ∷ 0 ∷ []) i < 256
octet zero = lit< tt
octet (suc zero) = lit< tt
octet (suc (suc zero)) = lit< tt
octet (suc (suc (suc zero))) = lit< tt
octet (suc (suc (suc (suc i)))) = lit< tt

only : (i : ℕ) → slice_index (0 ∷ []) i < 256
only zero = lit< tt
only (suc i) = lit< tt

has_types : HasTypes omitted_datagram
has_types = (lit< tt, record { four = refl; octets = octet; port = lit< tt }, only)

pub text_of_one : event_text omitted_datagram ≡ ended left_out_line
unfolding digits encode_with nonce_text byte_text escaped
text_of_one = refl

says_one : SaysRecorded (ended left_out_line) omitted_datagram
says_one = subst (λ (text : List ℕ). SaysRecorded text omitted_datagram) text_of_one (written_recorded omitted_datagram has_types refl)

says_many : (count : ℕ) → SaysRecord (replicate count omitted_datagram) (left_out_text count)
says_many zero = refl
says_many (suc n) = record { first = ended left_out_line; rest = left_out_text n; cut = refl; says = says_one; others = says_many n }

pub says_so_many : (line : List ℕ) (count : ℕ) → omitted_of line ≡ Some count → SaysRecord (replicate count omitted_datagram) (text_for line)
says_so_many line count is = subst (λ (text : List ℕ). SaysRecord (replicate count omitted_datagram) text) (sym (so_many line count is)) (says_many count)

-- ---- what says an event stands for no others

none_by_parts : (o : Option (List ℕ × List ℕ)) (said : EventLine) → option_and_then (λ parts. line_of_kind parts.0 parts.1) o ≡ Some said
    → option_and_then omitted_in o ≡ None
none_by_parts None said e = refl
none_by_parts (Some parts) said e = by (bytes_eq parts.0 (codes "omitted")) refl
  where
    by : (t : Bool) → bytes_eq parts.0 (codes "omitted") ≡ t → (if t then count_of parts.1 else None) ≡ None
    by false is = refl
    by true is =
        let same : parts.0 ≡ codes "omitted" = (bytes_eq-Decides parts.0 (codes "omitted")).0 is in
        let never : ◌≡◌ {A = Option EventLine} None (Some said) = ap (λ (word : List ℕ). line_of_kind word parts.1) (sym same) ∙ e in
        absurd cc

as_then : (text : List ℕ) → line_of text ≡ option_and_then (λ parts. line_of_kind parts.0 parts.1) (split_at_byte 32 text)
as_then text = by (split_at_byte 32 text) refl
  where
    by : (o : Option (List ℕ × List ℕ)) → split_at_byte 32 text ≡ o → line_of text ≡ option_and_then (λ parts. line_of_kind parts.0 parts.1) o
    by None is = rw is refl
    by (Some parts) is = rw is refl

pub said_is_none : (line : List ℕ) (said : EventLine) → line_of line ≡ Some said → omitted_of line ≡ None
said_is_none line said e = none_by_parts (split_at_byte 32 line) said (sym (as_then line) ∙ e)

first_itself : (first rest : List ℕ) (event : Event) → SaysRecorded first event → expanded (first ++ rest) ≡ first ++ expanded rest
first_itself first rest event (inl w) =
    ap (λ (f : List ℕ). expanded (f ++ rest)) w.text_is ∙ line_itself w.line rest w.is_line.single (said_is_none w.line (Whole event) w.says)
    ∙ ap (λ (f : List ℕ). f ++ expanded rest) (sym w.text_is)
first_itself first rest event (inr e) =
    let none : omitted_of e.line ≡ None = said_is_none e.line _ e.says in
    ap (λ (f : List ℕ). expanded (f ++ rest)) e.text_is ∙ ap (λ (l : List ℕ). expanded l) (append_assoc (ended e.line) (46 ∷ 10 ∷ []) rest)
    ∙ line_itself e.line (46 ∷ 10 ∷ rest) e.is_line.single none ∙ ap (λ (l : List ℕ). ended e.line ++ l) (line_itself (46 ∷ []) rest refl refl)
    ∙ sym (append_assoc (ended e.line) (46 ∷ 10 ∷ []) (expanded rest)) ∙ ap (λ (f : List ℕ). f ++ expanded rest) (sym e.text_is)

pub record_behind : (events : List Event) (text more : List ℕ) → SaysRecord events text → expanded (text ++ more) ≡ text ++ expanded more
record_behind [] text more none = ap (λ (t : List ℕ). expanded (t ++ more)) none ∙ ap (λ (t : List ℕ). t ++ expanded more) (sym none)
record_behind (event ∷ events) text more says =
    ap (λ (t : List ℕ). expanded (t ++ more)) says.cut ∙ ap (λ (l : List ℕ). expanded l) (append_assoc says.first says.rest more)
    ∙ first_itself says.first (says.rest ++ more) event says.says
    ∙ ap (λ (l : List ℕ). says.first ++ l) (record_behind events says.rest more says.others)
    ∙ sym (append_assoc says.first says.rest (expanded more)) ∙ ap (λ (t : List ℕ). t ++ expanded more) (sym says.cut)

pub record_itself : (events : List Event) (text : List ℕ) → SaysRecord events text → expanded text ≡ text
record_itself [] text none = ap (λ (t : List ℕ). expanded t) none ∙ sym none
record_itself (event ∷ events) text says =
    ap (λ (t : List ℕ). expanded t) says.cut ∙ first_itself says.first says.rest event says.says
    ∙ ap (λ (l : List ℕ). says.first ++ l) (record_itself events says.rest says.others) ∙ sym says.cut
