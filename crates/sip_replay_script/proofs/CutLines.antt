-- The first lines of events, field by field, and where such a line was cut.
use Rattle.std.proofs.Common.{◌≡◌, ℕ, ◌^◌, ◌<◌, ◌≤◌, Bool, true, false, List, [], ◌∷◌, ◌++◌, length, decimal, Option, Some, None, refl, sym, ap, ap₂, subst, ◌∙◌, arith}
use Rattle.std.proofs.Common.{inl, inr, append_assoc, if◌then◌else◌}
use Rattle.std.specs.Prelude.{◌⊎◌, ◌==◌, ◌&&◌, not, nat_le, nat_lt, codes}
use Rattle.std.specs.List.{list_all}
use Rattle.std.specs.Option.{option_and_then, option_map}
use Rattle.std.specs.Str.{bytes_eq}
use Rattle.std.proofs.lemmas.Slice.Eq.{bytes_eq-Decides}
use Rattle.std.proofs.lemmas.Bool.Decides.{nat_tests}
use Rattle.std.proofs.lemmas.Bool.{eqb-true, ltb-true, leb-true, le-leb}
use Rattle.std.specs.Char.{is_ascii_digit}
use Rattle.std.specs.Str.Parse.{digits_value}
use Rattle.std.proofs.lemmas.Fmt.{decimal_digit}
use Rattle.sip_uri.specs.Host.{is_not}
use Rattle.sip_text.specs.Words.{decimal_of}
use Rattle.sip_text.specs.Numbers.{has_leading_zero, plain_decimal_of, plain_decimal_below, plain_port_of, under, hex_bytes_of}
use Rattle.sip_text.specs.Splits.{split_at_byte}
use Rattle.sip_text.proofs.PlainDecimals.{plain_read, plain_written}
use Rattle.sip_uri.specs.declared.addr.Addr.{Addr}
use Rattle.sip_uri.specs.Addresses.{ip_of, ip_text, addr_of, addr_text, ip_number, ip_numbers, between_dots}
use Rattle.sip_uri.proofs.Tests.{and_both, and_is, pair_is, split_again, split_is}
use Rattle.sip_uri.proofs.Dotted.{text_written}
use Rattle.sip_digest.specs.NonceText.{word_of}
use Rattle.sip_digest.proofs.NonceTexts.{names_word}
use Rattle.sip_event.specs.declared.packet.Ticket.{Ticket}
use Rattle.sip_event.specs.declared.event.Event.TheVariants.{Datagram, Time, Fault}
use Rattle.sip_replay_script.specs.declared.script.DatagramHead.{DatagramHead}
use Rattle.sip_replay_script.specs.declared.script.EventLine.{EventLine}
use Rattle.sip_replay_script.specs.declared.script.EventLine.TheVariants.{Head, Whole}
use Rattle.sip_replay_script.specs.Escaped.{text_bytes_of}
use Rattle.sip_replay_script.specs.Script.{line_of, line_of_kind, datagram_line, text_line, hex_line, head_parts, time_line, fault_line, head_of, at_of, ticket_of}
use Rattle.sip_replay_script.specs.Script.{datagram_at, ◌>>=◌}
use Rattle.sip_replay_script.proofs.WrittenEvents.{IsSource, source_again, source_others, word_others}
use Rattle.sip_replay_script.proofs.Samples.{HasSample, IsWhole, IsNumber, IsPairs, IsWord, Parts, both_sample, number_sample, pairs_sample, word_sample, noughts_sample}
use Rattle.sip_replay_script.proofs.TextSamples.{HasEnds, IsText, both_ends, text_ends_so}
use Rattle.sip_audit.proofs.Words.{below_again, number_others}

-- ---- what a reading that gave something found

bind_some : {A B : Type 0} (o : Option A) (f : A → Option B) (y : B) → (o >>= f) ≡ Some y → (x : A) × (o ≡ Some x) × (f x ≡ Some y)
bind_some None f y e = absurd cc
bind_some (Some x) f y e = (x, refl, e)

then_some : {A B : Type 0} (f : A → Option B) (o : Option A) (y : B) → option_and_then f o ≡ Some y → (x : A) × (o ≡ Some x) × (f x ≡ Some y)
then_some f None y e = absurd cc
then_some f (Some x) y e = (x, refl, e)

map_some : {A B : Type 0} (f : A → B) (o : Option A) (y : B) → option_map f o ≡ Some y → (x : A) × (o ≡ Some x) × (f x ≡ y)
map_some f None y e = absurd cc
map_some f (Some x) y e = (x, refl, cc)

under_is : (t : Bool) (n m : ℕ) → (if t then Some n else None) ≡ Some m → (t ≡ true) × (n ≡ m)
under_is true n m e = (refl, cc)
under_is false n m e = absurd cc

some_port : (t : Bool) (n m : ℕ) → (if t then None else Some n) ≡ Some m → (t ≡ false) × (n ≡ m)
some_port true n m e = absurd cc
some_port false n m e = (refl, cc)

positive : (n : ℕ) → (n == 0) ≡ false → 1 ≤ n
positive n e = grind (arith, nat_tests)

-- a sample of what is said in other words
same_sample : (A B : List ℕ → Type 0) (s : List ℕ) → ((text : List ℕ) → A text → B text) → ((text : List ℕ) → B text → A text) → HasSample A s → HasSample B s
same_sample A B s to from h = record {
  whole = to s h.whole;
  shortest = λ text b. h.shortest text (from text b);
  finishes = λ text more b.
      let f = h.finishes text more (from (text ++ more) b) in
      record { front = f.front; tail = f.tail; cut = f.cut; short = f.short; accepts = to (text ++ f.tail) f.accepts };
}

-- ---- numbers

limited : (limit : ℕ) (text : List ℕ) (n : ℕ) → plain_decimal_below limit text ≡ Some n → IsNumber 0 limit text
limited limit text n e =
    let got = then_some (under limit) (plain_decimal_of text) n e in
    let test = under_is (nat_lt got.0 limit) got.0 n got.2 in
    record { number = got.0; written = plain_written text got.0 got.1; some = omega arith; below = ltb-true got.0 limit test.0 }

read_again : (limit : ℕ) (text : List ℕ) → limit ≤ 2 ^ 64 → (is : IsNumber 0 limit text) → plain_decimal_below limit text ≡ Some is.number
read_again limit text le is =
    let lt : is.number < limit = is.below in
    ap (plain_decimal_below limit) is.written ∙ below_again limit is.number lt (omega (arith, lt, le))

small_by : (zeros all small : Bool) (value n : ℕ) → (if zeros then None else if all && small then Some value else None) ≡ Some n → (small ≡ true) × (value ≡ n)
small_by true all small value n e = absurd cc
small_by false false small value n e = absurd cc
small_by false true false value n e = absurd cc
small_by false true true value n e = (refl, cc)

plain_small : (text : List ℕ) (n : ℕ) → plain_decimal_of text ≡ Some n → n < 2 ^ 64
plain_small [] n e = absurd cc
plain_small (d ∷ ds) n e =
    let got = small_by (has_leading_zero (d ∷ ds)) (list_all is_ascii_digit (d ∷ ds)) (nat_lt (digits_value 10 (d ∷ ds)) (2 ^ 64)) (digits_value 10 (d ∷ ds)) n e in
    let lt : digits_value 10 (d ∷ ds) < 2 ^ 64 = ltb-true (digits_value 10 (d ∷ ds)) (2 ^ 64) got.0 in
    omega (arith, lt, got.1)

plain_number : (text : List ℕ) (n : ℕ) → plain_decimal_of text ≡ Some n → IsNumber 0 (2 ^ 64) text
plain_number text n e = record { number = n; written = plain_written text n e; some = omega arith; below = plain_small text n e }

plain_again : (text : List ℕ) (is : IsNumber 0 (2 ^ 64) text) → plain_decimal_of text ≡ Some is.number
plain_again text is = ap plain_decimal_of is.written ∙ plain_read is.number is.below

no_mark : (mark least limit : ℕ) (text : List ℕ) → is_ascii_digit mark ≡ false → limit ≤ 2 ^ 64 → IsNumber least limit text → list_all (is_not mark) text ≡ true
no_mark mark least limit text none le is =
    let lt : is.number < limit = is.below in
    ap (list_all (is_not mark)) is.written ∙ number_others mark none is.number (omega (arith, lt, le))

zero_digit : 48 ∷ [] ≡ decimal 0
zero_digit = sym (decimal_digit 0 (omega arith))

one_digit : 49 ∷ [] ≡ decimal 1
one_digit = sym (decimal_digit 1 (omega arith))

moment_sample : HasSample (IsNumber 0 (2 ^ 62)) (48 ∷ [])
moment_sample = number_sample 0 (2 ^ 62) 48 zero_digit (omega arith) (omega arith) (omega arith)

-- ---- where a datagram comes from

pub record IsFrom (text : List ℕ) : Type 0 where
  pub source : Addr
  pub is : IsSource source
  pub written : text ≡ addr_text source

port_number : (text : List ℕ) (port : ℕ) → plain_port_of text ≡ Some port → (text ≡ decimal port) × (0 < port) × (port < 65536)
port_number text port e =
    let got = then_some (λ port. if port == 0 then None else Some port) (plain_decimal_below 65536 text) port e in
    let test = some_port (got.0 == 0) got.0 port got.2 in
    let some : 1 ≤ got.0 = positive got.0 test.0 in
    let below = then_some (under 65536) (plain_decimal_of text) got.0 got.1 in
    let limit = under_is (nat_lt below.0 65536) below.0 got.0 below.2 in
    let lt : below.0 < 65536 = ltb-true below.0 65536 limit.0 in
    (plain_written text below.0 below.1 ∙ ap decimal (limit.1 ∙ test.1), omega (arith, some, test.1), omega (arith, lt, limit.1, test.1))

small_number : (text : List ℕ) (n : ℕ) → ip_number text ≡ Some n → nat_le n 255 ≡ true
small_number text n e =
    let got = then_some (λ n. if nat_le n 255 && not (has_leading_zero text) then Some n else None) (decimal_of text) n e in
    let test = under_is (nat_le got.0 255 && not (has_leading_zero text)) got.0 n got.2 in
    ap (λ (k : ℕ). nat_le k 255) (sym test.1) ∙ (and_both (nat_le got.0 255) (not (has_leading_zero text)) test.0).0

small_numbers : (pieces : List (List ℕ)) (ns : List ℕ) → ip_numbers pieces ≡ Some ns → list_all (λ n. nat_le n 255) ns ≡ true
small_numbers [] ns e = let same : [] ≡ ns = cc in ap (list_all (λ n. nat_le n 255)) (sym same)
small_numbers (piece ∷ pieces) ns e =
    let first = then_some (λ n. option_map (λ ns. n ∷ ns) (ip_numbers pieces)) (ip_number piece) ns e in
    let rest = map_some (λ (ns : List ℕ). first.0 ∷ ns) (ip_numbers pieces) ns first.2 in
    ap (list_all (λ n. nat_le n 255)) (sym rest.2) ∙ and_is (nat_le first.0 255) (list_all (λ n. nat_le n 255) rest.0) (small_number piece first.0 first.1)
    (small_numbers pieces rest.0 rest.1)

read_from : (text : List ℕ) (a : Addr) → addr_of text ≡ Some a → IsFrom text
read_from text a e =
    let parts = then_some (λ parts. option_and_then (λ ip. option_map (λ port. record { ip = ip; port = port }) (plain_port_of parts.1)) (ip_of parts.0))
    (split_at_byte 58 text) a e in
    let front : List ℕ = parts.0.0 in
    let back : List ℕ = parts.0.1 in
    let ip = then_some (λ ip. option_map (λ port. record { ip = ip; port = port }) (plain_port_of back)) (ip_of front) a parts.2 in
    let port = map_some (λ port. record { ip = ip.0; port = port }) (plain_port_of back) a ip.2 in
    let ns = then_some (λ ip. if length ip == 4 then Some ip else None) (ip_numbers (between_dots front)) ip.0 ip.1 in
    let four = length_is (length ns.0 == 4) ns.0 ip.0 ns.2 in
    let number = port_number back port.0 port.1 in
    record {
      source = record { ip = ip.0; port = port.0 };
      is = record {
        four = ap length (sym four.1) ∙ eqb-true (length ns.0) 4 four.0;
        octets = ap (list_all (λ n. nat_le n 255)) (sym four.1) ∙ small_numbers (between_dots front) ns.0 ns.1;
        some = number.1;
        small = number.2;
      };
      written =
          split_is 58 text front back parts.1
          ∙ ap₂ (λ (l m : List ℕ). l ++ 58 ∷ m) (text_written front ip.0 ip.1) number.0
          ∙ sym (append_assoc (ip_text ip.0) (codes ":") (decimal port.0));
    }
  where
    length_is : (t : Bool) (x y : List ℕ) → (if t then Some x else None) ≡ Some y → (t ≡ true) × (x ≡ y)
    length_is true x y f = (refl, cc)
    length_is false x y f = absurd cc

abbrev pub Octet : List ℕ → Type 0
Octet text = IsNumber 0 256 text

abbrev pub Dotted : List ℕ → Type 0
Dotted text = Parts Octet (Parts Octet (Parts Octet (Parts Octet (IsNumber 1 65536) 58) 46) 46) 46 text

four_is : (a b c d e : List ℕ) → a ++ codes "." ++ b ++ codes "." ++ c ++ codes "." ++ d ++ codes ":" ++ e ≡ a ++ 46 ∷ (b ++ 46 ∷ (c ++ 46 ∷ (d ++ 58 ∷ e)))
four_is a b c d e = simp append_assoc refl

octet : (n : ℕ) → nat_le n 255 ≡ true → Octet (decimal n)
octet n e = let le : n ≤ 255 = leb-true n 255 e in record { number = n; written = refl; some = omega arith; below = omega (arith, le) }

by_four : (ip : List ℕ) (port : ℕ) → length ip ≡ 4 → list_all (λ n. nat_le n 255) ip ≡ true → 0 < port → port < 65536
    → Dotted (addr_text (record { ip = ip; port = port }))
by_four [] port four octets some small = absurd (omega (arith, four))
by_four (a ∷ []) port four octets some small = absurd (omega (arith, four))
by_four (a ∷ b ∷ []) port four octets some small = absurd (omega (arith, four))
by_four (a ∷ b ∷ c ∷ []) port four octets some small = absurd (omega (arith, four))
by_four (a ∷ b ∷ c ∷ d ∷ e ∷ ip) port four octets some small = absurd (omega (arith, four))
by_four (a ∷ b ∷ c ∷ d ∷ []) port four octets some small =
    let one = and_both (nat_le a 255) (list_all (λ n. nat_le n 255) (b ∷ c ∷ d ∷ [])) octets in
    let two = and_both (nat_le b 255) (list_all (λ n. nat_le n 255) (c ∷ d ∷ [])) one.1 in
    let three = and_both (nat_le c 255) (list_all (λ n. nat_le n 255) (d ∷ [])) two.1 in
    let last = and_both (nat_le d 255) true three.1 in
    record {
      first = decimal a;
      second = decimal b ++ 46 ∷ (decimal c ++ 46 ∷ (decimal d ++ 58 ∷ decimal port));
      cut = four_is (decimal a) (decimal b) (decimal c) (decimal d) (decimal port);
      is_first = octet a one.0;
      is_second = record {
        first = decimal b;
        second = decimal c ++ 46 ∷ (decimal d ++ 58 ∷ decimal port);
        cut = refl;
        is_first = octet b two.0;
        is_second = record {
          first = decimal c;
          second = decimal d ++ 58 ∷ decimal port;
          cut = refl;
          is_first = octet c three.0;
          is_second = record {
            first = decimal d;
            second = decimal port;
            cut = refl;
            is_first = octet d last.0;
            is_second = record { number = port; written = refl; some = omega (arith, some); below = small };
          };
        };
      };
    }

dotted_from : (text : List ℕ) → Dotted text → IsFrom text
dotted_from text p =
    let q = p.is_second in
    let r = q.is_second in
    let s = r.is_second in
    let a : ℕ = p.is_first.number in
    let b : ℕ = q.is_first.number in
    let c : ℕ = r.is_first.number in
    let d : ℕ = s.is_first.number in
    let port : ℕ = s.is_second.number in
    let la : a < 256 = p.is_first.below in
    let lb : b < 256 = q.is_first.below in
    let lc : c < 256 = r.is_first.below in
    let ld : d < 256 = s.is_first.below in
    let some : 1 ≤ port = s.is_second.some in
    record {
      source = record { ip = a ∷ b ∷ c ∷ d ∷ []; port = port };
      is = record {
        four = refl;
        octets = and_is _ _ (le-leb a 255 (omega (arith, la))) (and_is _ _ (le-leb b 255 (omega (arith, lb)))
            (and_is _ _ (le-leb c 255 (omega (arith, lc))) (and_is _ _ (le-leb d 255 (omega (arith, ld))) refl)));
        some = omega (arith, some);
        small = s.is_second.below;
      };
      written =
          p.cut
          ∙ ap₂ (λ (l m : List ℕ). l ++ 46 ∷ m) p.is_first.written
          (q.cut ∙ ap₂ (λ (l m : List ℕ). l ++ 46 ∷ m) q.is_first.written
          (r.cut ∙ ap₂ (λ (l m : List ℕ). l ++ 46 ∷ m) r.is_first.written
          (s.cut ∙ ap₂ (λ (l m : List ℕ). l ++ 58 ∷ m) s.is_first.written s.is_second.written)))
          ∙ sym (four_is (decimal a) (decimal b) (decimal c) (decimal d) (decimal port));
    }

from_dotted : (text : List ℕ) → IsFrom text → Dotted text
from_dotted text f = subst Dotted (sym f.written) (by_four f.source.ip f.source.port f.is.four f.is.octets f.is.some f.is.small)

octet_sample : HasSample Octet (48 ∷ [])
octet_sample = number_sample 0 256 48 zero_digit (omega arith) (omega arith) (omega arith)

port_sample : HasSample (IsNumber 1 65536) (49 ∷ [])
port_sample = number_sample 1 65536 49 one_digit (omega arith) (omega arith) (omega arith)

from_sample : HasSample IsFrom (codes "0.0.0.0:1")
from_sample =
    same_sample Dotted IsFrom (codes "0.0.0.0:1") dotted_from from_dotted
    (both_sample _ _ 46 (48 ∷ []) _ octet_sample (both_sample _ _ 46 (48 ∷ []) _ octet_sample
    (both_sample _ _ 46 (48 ∷ []) _ octet_sample (both_sample _ _ 58 (48 ∷ []) _ octet_sample port_sample))))

from_others : (text : List ℕ) → IsFrom text → list_all (is_not 32) text ≡ true
from_others text f = ap (list_all (is_not 32)) f.written ∙ source_others 32 refl refl refl f.source f.is

from_again : (text : List ℕ) (f : IsFrom text) → addr_of text ≡ Some f.source
from_again text f = ap addr_of f.written ∙ source_again f.source f.is

-- ---- the lines of the five kinds

abbrev pub Moment : List ℕ → Type 0
Moment text = IsNumber 0 (2 ^ 62) text

abbrev pub TimeLine : List ℕ → Type 0
TimeLine text = Parts (IsWhole (codes "time")) Moment 32 text

abbrev pub FaultLine : List ℕ → Type 0
FaultLine text = Parts (IsWhole (codes "fault")) (Parts Moment (Parts (IsNumber 0 (2 ^ 64)) (IsNumber 0 (2 ^ 32)) 47) 32) 32 text

abbrev pub DatagramLine : List ℕ → Type 0
DatagramLine text = Parts (IsWhole (codes "datagram")) (Parts Moment (Parts IsFrom IsWord 32) 32) 32 text

abbrev pub TextLine : List ℕ → Type 0
TextLine text = Parts (IsWhole (codes "text")) (Parts Moment (Parts IsFrom (Parts IsWord IsText 32) 32) 32) 32 text

abbrev pub HexLine : List ℕ → Type 0
HexLine text = Parts (IsWhole (codes "hex")) (Parts Moment (Parts IsFrom (Parts IsWord IsPairs 32) 32) 32) 32 text

-- ---- such a line says something

pub record Says (line : List ℕ) : Type 0 where
  pub said : EventLine
  pub says : line_of line ≡ Some said

split_so : (mark : ℕ) (text first second : List ℕ) → (mark == mark) ≡ true → text ≡ first ++ mark ∷ second → list_all (is_not mark) first ≡ true
    → split_at_byte mark text ≡ Some (first, second)
split_so mark text first second same cut none = ap (split_at_byte mark) cut ∙ split_again mark first second none same

behind_kind : (kind text first second : List ℕ) → text ≡ first ++ 32 ∷ second → first ≡ kind → text ≡ kind ++ 32 ∷ second
behind_kind kind text first second cut is = cut ∙ ap (λ (l : List ℕ). l ++ 32 ∷ second) is

word_alone : (text : List ℕ) → IsWord text → list_all (is_not 32) text ≡ true
word_alone text w = ap (list_all (is_not 32)) ((names_word text w.word).0 w.says).1 ∙ word_others 32 refl refl w.word

time_of : (second : List ℕ) (n : ℕ) → at_of second ≡ Some n → line_of (codes "time" ++ 32 ∷ second) ≡ Some (Whole (Time n))
time_of second n e = rw e refl

fault_of : (second moment rest number branch : List ℕ) (m n k : ℕ) → split_at_byte 32 second ≡ Some (moment, rest) → at_of moment ≡ Some m
    → split_at_byte 47 rest ≡ Some (number, branch) → plain_decimal_of number ≡ Some n
    → plain_decimal_below (2 ^ 32) branch ≡ Some k → line_of (codes "fault" ++ 32 ∷ second) ≡ Some (Whole (Fault m (record { «datagram» = n; branch = k })))
fault_of second moment rest number branch m n k e f g h i = rw (e, f, g, h, i) refl

datagram_of : (second moment rest source word : List ℕ) (m w : ℕ) (a : Addr) → split_at_byte 32 second ≡ Some (moment, rest) → split_at_byte 32 rest ≡ Some (source, word)
    → at_of moment ≡ Some m → addr_of source ≡ Some a
    → word_of word ≡ Some w → line_of (codes "datagram" ++ 32 ∷ second) ≡ Some (Head (record { at = m; word = w; from = a }))
datagram_of second moment rest source word m w a e f g h i = rw (e, f, g, h, i) refl

text_of : (second moment rest source more word escapes bytes : List ℕ) (m w : ℕ) (a : Addr) → split_at_byte 32 second ≡ Some (moment, rest)
    → split_at_byte 32 rest ≡ Some (source, more) → split_at_byte 32 more ≡ Some (word, escapes)
    → at_of moment ≡ Some m → addr_of source ≡ Some a → word_of word ≡ Some w → text_bytes_of escapes ≡ Some bytes
    → line_of (codes "text" ++ 32 ∷ second) ≡ Some (Whole (Datagram m w a bytes))
text_of second moment rest source more word escapes bytes m w a e f g h i j k = rw (e, f, g, h, i, j, k) refl

hex_of : (second moment rest source more word digits bytes : List ℕ) (m w : ℕ) (a : Addr) → split_at_byte 32 second ≡ Some (moment, rest)
    → split_at_byte 32 rest ≡ Some (source, more) → split_at_byte 32 more ≡ Some (word, digits)
    → at_of moment ≡ Some m → addr_of source ≡ Some a → word_of word ≡ Some w → hex_bytes_of digits ≡ Some bytes
    → line_of (codes "hex" ++ 32 ∷ second) ≡ Some (Whole (Datagram m w a bytes))
hex_of second moment rest source more word digits bytes m w a e f g h i j k = rw (e, f, g, h, i, j, k) refl

pub time_says_some : (text : List ℕ) → TimeLine text → Says text
time_says_some text p = record {
  said = Whole (Time p.is_second.number);
  says = ap line_of (behind_kind (codes "time") text p.first p.second p.cut p.is_first)
      ∙ time_of p.second p.is_second.number (read_again (2 ^ 62) p.second (omega arith) p.is_second);
}

pub fault_says_some : (text : List ℕ) → FaultLine text → Says text
fault_says_some text p =
    let q = p.is_second in
    let r = q.is_second in
    record {
      said = Whole (Fault q.is_first.number (record { «datagram» = r.is_first.number; branch = r.is_second.number }));
      says =
          ap line_of (behind_kind (codes "fault") text p.first p.second p.cut p.is_first)
          ∙ fault_of p.second q.first q.second r.first r.second q.is_first.number r.is_first.number r.is_second.number
          (split_so 32 p.second q.first q.second refl q.cut (no_mark 32 0 (2 ^ 62) q.first refl (omega arith) q.is_first))
          (read_again (2 ^ 62) q.first (omega arith) q.is_first)
          (split_so 47 q.second r.first r.second refl r.cut (no_mark 47 0 (2 ^ 64) r.first refl (omega arith) r.is_first))
          (plain_again r.first r.is_first)
          (read_again (2 ^ 32) r.second (omega arith) r.is_second);
    }

pub datagram_says_some : (text : List ℕ) → DatagramLine text → Says text
datagram_says_some text p =
    let q = p.is_second in
    let r = q.is_second in
    record {
      said = Head (record { at = q.is_first.number; word = r.is_second.word; from = r.is_first.source });
      says =
          ap line_of (behind_kind (codes "datagram") text p.first p.second p.cut p.is_first)
          ∙ datagram_of p.second q.first q.second r.first r.second q.is_first.number r.is_second.word r.is_first.source
          (split_so 32 p.second q.first q.second refl q.cut (no_mark 32 0 (2 ^ 62) q.first refl (omega arith) q.is_first))
          (split_so 32 q.second r.first r.second refl r.cut (from_others r.first r.is_first))
          (read_again (2 ^ 62) q.first (omega arith) q.is_first)
          (from_again r.first r.is_first)
          r.is_second.says;
    }

pub text_says_some : (text : List ℕ) → TextLine text → Says text
text_says_some text p =
    let q = p.is_second in
    let r = q.is_second in
    let s = r.is_second in
    record {
      said = Whole (Datagram q.is_first.number s.is_first.word r.is_first.source s.is_second.bytes);
      says =
          ap line_of (behind_kind (codes "text") text p.first p.second p.cut p.is_first)
          ∙ text_of p.second q.first q.second r.first r.second s.first s.second s.is_second.bytes q.is_first.number s.is_first.word r.is_first.source
          (split_so 32 p.second q.first q.second refl q.cut (no_mark 32 0 (2 ^ 62) q.first refl (omega arith) q.is_first))
          (split_so 32 q.second r.first r.second refl r.cut (from_others r.first r.is_first))
          (split_so 32 r.second s.first s.second refl s.cut (word_alone s.first s.is_first))
          (read_again (2 ^ 62) q.first (omega arith) q.is_first)
          (from_again r.first r.is_first)
          s.is_first.says
          s.is_second.says;
    }

pub hex_says_some : (text : List ℕ) → HexLine text → Says text
hex_says_some text p =
    let q = p.is_second in
    let r = q.is_second in
    let s = r.is_second in
    record {
      said = Whole (Datagram q.is_first.number s.is_first.word r.is_first.source s.is_second.bytes);
      says =
          ap line_of (behind_kind (codes "hex") text p.first p.second p.cut p.is_first)
          ∙ hex_of p.second q.first q.second r.first r.second s.first s.second s.is_second.bytes q.is_first.number s.is_first.word r.is_first.source
          (split_so 32 p.second q.first q.second refl q.cut (no_mark 32 0 (2 ^ 62) q.first refl (omega arith) q.is_first))
          (split_so 32 q.second r.first r.second refl r.cut (from_others r.first r.is_first))
          (split_so 32 r.second s.first s.second refl s.cut (word_alone s.first s.is_first))
          (read_again (2 ^ 62) q.first (omega arith) q.is_first)
          (from_again r.first r.is_first)
          s.is_first.says
          s.is_second.says;
    }

-- ---- a line that says something is one

kind_cases : (d x h t f : Bool) (one two three four five : Option EventLine) (said : EventLine)
    → (if d then one else if x then two else if h then three else if t then four else if f then five else None) ≡ Some said
    → ((d ≡ true) × (one ≡ Some said)) ⊎ (((x ≡ true) × (two ≡ Some said)) ⊎ (((h ≡ true) × (three ≡ Some said)) ⊎ (((t ≡ true) × (four ≡ Some said))
    ⊎ ((f ≡ true) × (five ≡ Some said)))))
kind_cases true x h t f one two three four five said e = inl (refl, e)
kind_cases false true h t f one two three four five said e = inr (inl (refl, e))
kind_cases false false true t f one two three four five said e = inr (inr (inl (refl, e)))
kind_cases false false false true f one two three four five said e = inr (inr (inr (inl (refl, e))))
kind_cases false false false false true one two three four five said e = inr (inr (inr (inr (refl, e))))
kind_cases false false false false false one two three four five said e = absurd cc

record HeadIs (moment source word : List ℕ) : Type 0 where
  is_moment : Moment moment
  is_from : IsFrom source
  is_word : IsWord word

head_is : (moment source word : List ℕ) (head : DatagramHead) → head_of moment source word ≡ Some head → HeadIs moment source word
head_is moment source word head e =
    let m = bind_some (at_of moment) (λ m. addr_of source >>= λ a. word_of word >>= λ w. Some (record { at = m; word = w; from = a })) head e in
    let a = bind_some (addr_of source) (λ a. word_of word >>= λ w. Some (record { at = m.0; word = w; from = a })) head m.2 in
    let w = bind_some (word_of word) (λ w. Some (record { at = m.0; word = w; from = a.0 })) head a.2 in
    record { is_moment = limited (2 ^ 62) moment m.0 m.1; is_from = read_from source a.0 a.1; is_word = record { word = w.0; says = w.1 } }

time_parts : (text first second : List ℕ) (said : EventLine) → text ≡ first ++ 32 ∷ second → bytes_eq first (codes "time") ≡ true → time_line second ≡ Some said
    → TimeLine text
time_parts text first second said cut kind e =
    let m = bind_some (at_of second) (λ m. Some (Whole (Time m))) said e in
    record { first = first; second = second; cut = cut; is_first = (bytes_eq-Decides first (codes "time")).0 kind; is_second = limited (2 ^ 62) second m.0 m.1 }

ticket_parts : (text : List ℕ) (t : Ticket) → ticket_of text ≡ Some t → Parts (IsNumber 0 (2 ^ 64)) (IsNumber 0 (2 ^ 32)) 47 text
ticket_parts text t e =
    let p = bind_some (split_at_byte 47 text) (λ p. plain_decimal_of p.0 >>= λ n. plain_decimal_below (2 ^ 32) p.1 >>= λ k. Some (record { «datagram» = n; branch = k }))
    t e in
    let n = bind_some (plain_decimal_of p.0.0) (λ n. plain_decimal_below (2 ^ 32) p.0.1 >>= λ k. Some (record { «datagram» = n; branch = k })) t p.2 in
    let k = bind_some (plain_decimal_below (2 ^ 32) p.0.1) (λ k. Some (record { «datagram» = n.0; branch = k })) t n.2 in
    record { first = p.0.0; second = p.0.1; cut = split_is 47 text p.0.0 p.0.1 p.1; is_first = plain_number p.0.0 n.0 n.1; is_second = limited (2 ^ 32) p.0.1 k.0 k.1 }

fault_parts : (text first second : List ℕ) (said : EventLine) → text ≡ first ++ 32 ∷ second → bytes_eq first (codes "fault") ≡ true → fault_line second ≡ Some said
    → FaultLine text
fault_parts text first second said cut kind e =
    let a = bind_some (split_at_byte 32 second) (λ a. at_of a.0 >>= λ m. ticket_of a.1 >>= λ t. Some (Whole (Fault m t))) said e in
    let m = bind_some (at_of a.0.0) (λ m. ticket_of a.0.1 >>= λ t. Some (Whole (Fault m t))) said a.2 in
    let t = bind_some (ticket_of a.0.1) (λ t. Some (Whole (Fault m.0 t))) said m.2 in
    record {
      first = first;
      second = second;
      cut = cut;
      is_first = (bytes_eq-Decides first (codes "fault")).0 kind;
      is_second = record {
        first = a.0.0;
        second = a.0.1;
        cut = split_is 32 second a.0.0 a.0.1 a.1;
        is_first = limited (2 ^ 62) a.0.0 m.0 m.1;
        is_second = ticket_parts a.0.1 t.0 t.1;
      };
    }

datagram_parts : (text first second : List ℕ) (said : EventLine) → text ≡ first ++ 32 ∷ second → bytes_eq first (codes "datagram") ≡ true
    → datagram_line second ≡ Some said
    → DatagramLine text
datagram_parts text first second said cut kind e =
    let a = bind_some (split_at_byte 32 second) (λ a. split_at_byte 32 a.1 >>= λ b. head_of a.0 b.0 b.1 >>= λ head. Some (Head head)) said e in
    let b = bind_some (split_at_byte 32 a.0.1) (λ b. head_of a.0.0 b.0 b.1 >>= λ head. Some (Head head)) said a.2 in
    let h = bind_some (head_of a.0.0 b.0.0 b.0.1) (λ head. Some (Head head)) said b.2 in
    let head = head_is a.0.0 b.0.0 b.0.1 h.0 h.1 in
    record {
      first = first;
      second = second;
      cut = cut;
      is_first = (bytes_eq-Decides first (codes "datagram")).0 kind;
      is_second = record {
        first = a.0.0;
        second = a.0.1;
        cut = split_is 32 second a.0.0 a.0.1 a.1;
        is_first = head.is_moment;
        is_second = record { first = b.0.0; second = b.0.1; cut = split_is 32 a.0.1 b.0.0 b.0.1 b.1; is_first = head.is_from; is_second = head.is_word };
      };
    }

so_behind : (B : List ℕ → Type 0) (text behind : List ℕ) → text ≡ behind → B behind → B text
so_behind B text behind e is = subst B (sym e) is

-- where a head and a field behind it are said
head_parts_are : (B : List ℕ → Type 0) (text : List ℕ) (head : DatagramHead) (behind : List ℕ) → head_parts text ≡ Some (head, behind) → B behind
    → Parts Moment (Parts IsFrom (Parts IsWord B 32) 32) 32 text
head_parts_are B text head behind e field =
    let a = bind_some (split_at_byte 32 text) (λ a. split_at_byte 32 a.1 >>= λ b. split_at_byte 32 b.1 >>= λ c. head_of a.0 b.0 c.0 >>= λ head. Some (head, c.1))
    (head, behind) e in
    let b = bind_some (split_at_byte 32 a.0.1) (λ b. split_at_byte 32 b.1 >>= λ c. head_of a.0.0 b.0 c.0 >>= λ head. Some (head, c.1)) (head, behind) a.2 in
    let c = bind_some (split_at_byte 32 b.0.1) (λ c. head_of a.0.0 b.0.0 c.0 >>= λ head. Some (head, c.1)) (head, behind) b.2 in
    let h = bind_some (head_of a.0.0 b.0.0 c.0.0) (λ head. Some (head, c.0.1)) (head, behind) c.2 in
    let last : c.0.1 ≡ behind = (pair_is (h.0, c.0.1) (head, behind) h.2).1 in
    let is = head_is a.0.0 b.0.0 c.0.0 h.0 h.1 in
    record {
      first = a.0.0;
      second = a.0.1;
      cut = split_is 32 text a.0.0 a.0.1 a.1;
      is_first = is.is_moment;
      is_second = record {
        first = b.0.0;
        second = b.0.1;
        cut = split_is 32 a.0.1 b.0.0 b.0.1 b.1;
        is_first = is.is_from;
        is_second = record {
          first = c.0.0;
          second = c.0.1;
          cut = split_is 32 b.0.1 c.0.0 c.0.1 c.1;
          is_first = is.is_word;
          is_second = so_behind B c.0.1 behind last field;
        };
      };
    }

text_line_parts : (text first second : List ℕ) (said : EventLine) → text ≡ first ++ 32 ∷ second → bytes_eq first (codes "text") ≡ true → text_line second ≡ Some said
    → TextLine text
text_line_parts text first second said cut kind e =
    let p = bind_some (head_parts second) (λ p. text_bytes_of p.1 >>= λ bytes. Some (Whole (datagram_at p.0 bytes))) said e in
    let b = bind_some (text_bytes_of p.0.1) (λ bytes. Some (Whole (datagram_at p.0.0 bytes))) said p.2 in
    record {
      first = first;
      second = second;
      cut = cut;
      is_first = (bytes_eq-Decides first (codes "text")).0 kind;
      is_second = head_parts_are IsText second p.0.0 p.0.1 p.1 (record { bytes = b.0; says = b.1 });
    }

hex_line_parts : (text first second : List ℕ) (said : EventLine) → text ≡ first ++ 32 ∷ second → bytes_eq first (codes "hex") ≡ true → hex_line second ≡ Some said
    → HexLine text
hex_line_parts text first second said cut kind e =
    let p = bind_some (head_parts second) (λ p. hex_bytes_of p.1 >>= λ bytes. Some (Whole (datagram_at p.0 bytes))) said e in
    let b = bind_some (hex_bytes_of p.0.1) (λ bytes. Some (Whole (datagram_at p.0.0 bytes))) said p.2 in
    record {
      first = first;
      second = second;
      cut = cut;
      is_first = (bytes_eq-Decides first (codes "hex")).0 kind;
      is_second = head_parts_are IsPairs second p.0.0 p.0.1 p.1 (record { bytes = b.0; says = b.1 });
    }

pub line_cases : (text : List ℕ) (said : EventLine) → line_of text ≡ Some said
    → DatagramLine text ⊎ (TextLine text ⊎ (HexLine text ⊎ (TimeLine text ⊎ FaultLine text)))
line_cases text said e =
    let p = bind_some (split_at_byte 32 text) (λ p. line_of_kind p.0 p.1) said e in
    let kind : List ℕ = p.0.0 in
    let rest : List ℕ = p.0.1 in
    let cut : text ≡ kind ++ 32 ∷ rest = split_is 32 text kind rest p.1 in
    elim (kind_cases (bytes_eq kind (codes "datagram")) (bytes_eq kind (codes "text")) (bytes_eq kind (codes "hex")) (bytes_eq kind (codes "time"))
    (bytes_eq kind (codes "fault")) (datagram_line rest) (text_line rest) (hex_line rest) (time_line rest) (fault_line rest) said p.2) [
      | inl d ↦ inl (datagram_parts text kind rest said cut d.0 d.1)
      | inr other ↦ elim other [
        | inl x ↦ inr (inl (text_line_parts text kind rest said cut x.0 x.1))
        | inr third ↦ elim third [
          | inl h ↦ inr (inr (inl (hex_line_parts text kind rest said cut h.0 h.1)))
          | inr last ↦ elim last [
            | inl t ↦ inr (inr (inr (inl (time_parts text kind rest said cut t.0 t.1))))
            | inr f ↦ inr (inr (inr (inr (fault_parts text kind rest said cut f.0 f.1))))
          ]
        ]
      ]
    ]

-- ---- where such a line is cut

pub time_sample : HasSample TimeLine (codes "time 0")
time_sample = both_sample (IsWhole (codes "time")) Moment 32 (codes "time") _ (word_sample (codes "time")) moment_sample

pub fault_sample : HasSample FaultLine (codes "fault 0 0/0")
fault_sample =
    both_sample (IsWhole (codes "fault")) _ 32 (codes "fault") _ (word_sample (codes "fault"))
    (both_sample Moment _ 32 (48 ∷ []) _ moment_sample
    (both_sample (IsNumber 0 (2 ^ 64)) (IsNumber 0 (2 ^ 32)) 47 (48 ∷ []) (48 ∷ [])
    (number_sample 0 (2 ^ 64) 48 zero_digit (omega arith) (omega arith) (omega arith))
    (number_sample 0 (2 ^ 32) 48 zero_digit (omega arith) (omega arith) (omega arith))))

pub datagram_sample : HasSample DatagramLine (codes "datagram 0 0.0.0.0:1 00000000000000000000000000000000")
datagram_sample =
    both_sample (IsWhole (codes "datagram")) _ 32 (codes "datagram") _ (word_sample (codes "datagram"))
    (both_sample Moment _ 32 (48 ∷ []) _ moment_sample (both_sample IsFrom IsWord 32 (codes "0.0.0.0:1") _ from_sample noughts_sample))

pub hex_sample : HasSample HexLine (codes "hex 0 0.0.0.0:1 00000000000000000000000000000000 00")
hex_sample =
    both_sample (IsWhole (codes "hex")) _ 32 (codes "hex") _ (word_sample (codes "hex"))
    (both_sample Moment _ 32 (48 ∷ []) _ moment_sample
    (both_sample IsFrom _ 32 (codes "0.0.0.0:1") _ from_sample
    (both_sample IsWord IsPairs 32 (codes "00000000000000000000000000000000") _ noughts_sample pairs_sample)))

-- that of a line `text` goes on by an end of its sample, or within an escape by a digit
pub text_sample : HasEnds TextLine (codes "text 0 0.0.0.0:1 00000000000000000000000000000000 n") (codes "0") (codes "f")
text_sample =
    both_ends (IsWhole (codes "text")) _ 32 (codes "text") _ (codes "0") (codes "f") (word_sample (codes "text"))
    (both_ends Moment _ 32 (48 ∷ []) _ (codes "0") (codes "f") moment_sample
    (both_ends IsFrom _ 32 (codes "0.0.0.0:1") _ (codes "0") (codes "f") from_sample
    (both_ends IsWord IsText 32 (codes "00000000000000000000000000000000") _ (codes "0") (codes "f") noughts_sample text_ends_so)))
