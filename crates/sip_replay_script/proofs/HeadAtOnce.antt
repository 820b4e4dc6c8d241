-- The head of a datagram, read from one end of its line to the other.
use Rattle.std.proofs.Common.{◌≡◌, ℕ, ◌+◌, ◌*◌, ◌-◌, ◌^◌, ◌<◌, ◌≤◌, true, List, [], ◌∷◌, ◌++◌, length, take, drop, get_or, decimal, refl, sym, ap, ◌∙◌, arith, suc}
use Rattle.std.proofs.Common.{add-one, Some, pow-add, take-append-drop, append_assoc, length-append, length-drop}
use Rattle.std.specs.Prelude.{slice_index, codes}
use Rattle.std.specs.Char.{is_ascii_digit, digit_value}
use Rattle.std.specs.Str.{all_ascii_digits}
use Rattle.std.specs.Str.Parse.{digits_value, digits_value_after}
use Rattle.std.proofs.lemmas.Str.Parse.{numerals_by_value, tells_all_ascii_digits}
use Rattle.std.proofs.lemmas.Fmt.{decimal-digits_value}
use Rattle.std.proofs.lemmas.Bool.Decides.{nat_tests}
use Rattle.std.proofs.lemmas.List.{get_or-drop, get_or-take, take_more, drop-drop, length-take-le}
use Rattle.std.proofs.Math.Nat.{pow-le-pow_right}
use Rattle.std.proofs.Math.Seq.{drop-cons}
use Rattle.std.proofs.lemmas.Bool.{le-leb}
use Rattle.sip_uri.proofs.Tests.{and_both, and_is}
use Rattle.sip_uri.specs.declared.addr.Addr.{Addr}
use Rattle.sip_uri.specs.Addresses.{addr_text}
use Rattle.sip_digest.specs.NonceText.{nonce_text, word_of}
use Rattle.sip_digest.proofs.NonceTexts.{names_word}
use Rattle.sip_replay_script.specs.Script.{IsNumberAt, IsNumberBefore, IsSourceBefore, IsWordBefore, SaysAtOnce}
use Rattle.sip_replay_script.specs.EventText.{head_before}
use Rattle.sip_event.specs.declared.event.Event.TheVariants.{Time}
use Rattle.sip_replay_script.specs.declared.script.EventLine.TheVariants.{Head, Whole}
use Rattle.sip_replay_script.proofs.WrittenEvents.{IsSource, head_says, head_single, head_short, head_more, no_end, number_short, time_says, word_long}
use Rattle.sip_audit.proofs.Words.{number_others}

-- the digits of a text from a place on write a number
pub record AreDigits (text : List ℕ) (from count number : ℕ) : Type 0 where
  pub digits : all_ascii_digits (take count (drop from text)) ≡ true
  pub value : digits_value 10 (take count (drop from text)) ≡ number
  pub small : number < 10 ^ count
  pub within : from + count ≤ length text

pub no_digits : (text : List ℕ) (from : ℕ) → from ≤ length text → AreDigits text from 0 0
no_digits text from le = record { digits = refl; value = refl; small = omega arith; within = omega (arith, le) }

digits_behind : (xs : List ℕ) (d : ℕ) → all_ascii_digits xs ≡ true → is_ascii_digit d ≡ true → all_ascii_digits (xs ++ d ∷ []) ≡ true
digits_behind [] d all is = and_is _ _ is refl
digits_behind (x ∷ xs) d all is =
    let both = and_both (is_ascii_digit x) (all_ascii_digits xs) all in
    and_is _ _ both.0 (digits_behind xs d both.1 is)

value_behind : (n : ℕ) (xs : List ℕ) (d : ℕ) → digits_value_after 10 n (xs ++ d ∷ []) ≡ digits_value_after 10 n xs * 10 + digit_value d
value_behind n [] d = refl
value_behind n (x ∷ xs) d = value_behind (n * 10 + digit_value x) xs d

pub is_digit : (c : ℕ) → is_ascii_digit c ≡ true → (digit_value c ≡ c - 48) × (c - 48 ≤ 9)
is_digit c is = (grind (arith, nat_tests), grind (arith, nat_tests))

pub one_more : (text : List ℕ) (from count number : ℕ) → AreDigits text from count number → from + count < length text
    → is_ascii_digit (slice_index text (from + count)) ≡ true
    → AreDigits text from (count + 1) (number * 10 + (slice_index text (from + count) - 48))
one_more text from count number so_far lt is =
    let d : ℕ = slice_index text (from + count) in
    let digit = is_digit d is in
    let rest : List ℕ = drop from text in
    let long : length rest ≡ length text - from = length-drop from text in
    let at : get_or rest count 0 ≡ slice_index text (from + count) = get_or-drop from text count 0 in
    let more : take (count + 1) rest ≡ take count rest ++ slice_index text (from + count) ∷ [] = take_more rest count 0 (omega (arith, long, lt))
    ∙ ap (λ d. take count rest ++ d ∷ []) at in
    let step : 10 ^ (count + 1) ≡ 10 ^ count * 10 = pow-add 10 count 1 in
    record {
      digits = ap all_ascii_digits more ∙ digits_behind (take count rest) (slice_index text (from + count)) so_far.digits is;
      value = ap (digits_value 10) more ∙ value_behind 0 (take count rest) d ∙ ap (λ n. n * 10 + digit_value d) so_far.value ∙ ap (λ k. number * 10 + k) digit.0;
      small = omega (arith, step, so_far.small, digit.1);
      within = omega (arith, lt);
    }

pub fits : (number count : ℕ) → number < 10 ^ count → count ≤ 19 → number < 10 ^ 19
fits number count lt few =
    let most : 10 ^ count ≤ 10 ^ 19 = pow-le-pow_right {n = 10} (omega arith) {i = count} {j = 19} few in
    omega (arith, lt, most)

-- one more leaves it below 2 ^ 64
pub one_more_fits : (number count most digit : ℕ) → number < 10 ^ count → count < most → most ≤ 19 → digit ≤ 9 → number * 10 + digit < 2 ^ 64
one_more_fits number count most digit lt inside few nine =
    let step : 10 ^ (count + 1) ≡ 10 ^ count * 10 = pow-add 10 count 1 in
    let all : number * 10 + digit < 10 ^ 19 = fits (number * 10 + digit) (count + 1) (omega (arith, step, lt, nine)) (omega (arith, inside, few)) in
    omega (arith, all)

-- without a leading zero they are how the number is written
pub number_is : (text : List ℕ) (from count number : ℕ) → AreDigits text from count number → 0 < count → count ≤ 19 → (slice_index text from ≡ 48 → count ≡ 1)
    → IsNumberAt text from number (from + count)
number_is text from count number so_far some few front =
    let rest : List ℕ = drop from text in
    let within : from + count ≤ length text = so_far.within in
    let long : length rest ≡ length text - from = length-drop from text in
    let size : length (take count rest) ≡ count = length-take-le count rest (omega (arith, long, within)) in
    let small : number < 10 ^ 19 = fits number count so_far.small few in
    let zero_on : from + 0 ≡ from = omega arith in
    let first : get_or (take count rest) 0 0 ≡ slice_index text from = get_or-take count rest 0 0 some ∙ get_or-drop from text 0 0 ∙ ap (λ n. get_or text n 0) zero_on in
    let same : decimal (digits_value 10 (take count rest)) ≡ take count rest =
    decimal-digits_value (numerals_by_value (λ ds. all_ascii_digits ds ≡ true) tells_all_ascii_digits) (take count rest) so_far.digits (omega (arith, size, some))
    (λ e. size ∙ front (sym first ∙ e)) (omega (arith, so_far.value, small)) in
    let written : take count rest ≡ decimal number = sym same ∙ ap decimal so_far.value in
    record {
      digits = sym (take-append-drop count rest) ∙ ap (λ l. l ++ drop count rest) written ∙ ap (λ l. decimal number ++ l) (drop-drop count from text);
      small = omega (arith, small);
      within = within;
    }

pub number_before : (text : List ℕ) (from mark number end : ℕ) → IsNumberAt text from number end → end < length text → slice_index text end ≡ mark
    → IsNumberBefore text from mark number (end + 1)
number_before text from mark number end is lt at = record {
  digits = is.digits ∙ ap (λ l. decimal number ++ l) (drop-cons text end 0 lt ∙ ap (λ b. b ∷ drop (suc end) text) at ∙ ap (λ n. mark ∷ drop n text) (sym (add-one end)));
  within = omega (arith, lt);
}

-- four numbers, and a port
pub source_before : (text : List ℕ) (from a b c d port i j k l next : ℕ) → IsNumberBefore text from 46 a i → IsNumberBefore text i 46 b j → IsNumberBefore text j 46 c k
    → IsNumberBefore text k 58 d l → IsNumberBefore text l 32 port next
    → a < 256 → b < 256 → c < 256 → d < 256 → 0 < port → port < 65536 → IsSourceBefore text from (record { ip = a ∷ b ∷ c ∷ d ∷ []; port = port }) next
source_before text from a b c d port i j k l next one two three four last la lb lc ld some small = record {
  digits =
      one.digits ∙ ap (λ r. decimal a ++ 46 ∷ r) (two.digits ∙ ap (λ r. decimal b ++ 46 ∷ r)
      (three.digits ∙ ap (λ r. decimal c ++ 46 ∷ r) (four.digits ∙ ap (λ r. decimal d ++ 58 ∷ r) last.digits)))
      ∙ sym (joined (decimal a) (decimal b) (decimal c) (decimal d) (decimal port) (32 ∷ drop next text));
  within = last.within;
  four = refl;
  octets = and_is _ _ (le-leb a 255 (omega (arith, la))) (and_is _ _ (le-leb b 255 (omega (arith, lb)))
      (and_is _ _ (le-leb c 255 (omega (arith, lc))) (and_is _ _ (le-leb d 255 (omega (arith, ld))) refl)));
  some = some;
  small = small;
}
  where
    between : (front back : List ℕ) (mark : ℕ) (rest : List ℕ) → ((front ++ mark ∷ []) ++ back) ++ rest ≡ front ++ mark ∷ (back ++ rest)
    between front back mark rest = append_assoc (front ++ mark ∷ []) back rest ∙ append_assoc front (mark ∷ []) (back ++ rest)

    joined : (a b c d e rest : List ℕ) → (a ++ codes "." ++ b ++ codes "." ++ c ++ codes "." ++ d ++ codes ":" ++ e) ++ rest ≡ a
        ++ 46 ∷ (b ++ 46 ∷ (c ++ 46 ∷ (d ++ 58 ∷ (e ++ rest))))
    joined a b c d e rest =
        between (a ++ codes "." ++ b ++ codes "." ++ c ++ codes "." ++ d) e 58 rest ∙ between (a ++ codes "." ++ b ++ codes "." ++ c) d 46 (58 ∷ (e ++ rest))
        ∙ between (a ++ codes "." ++ b) c 46 (46 ∷ (d ++ 58 ∷ (e ++ rest))) ∙ between a b 46 (46 ∷ (c ++ 46 ∷ (d ++ 58 ∷ (e ++ rest))))

-- a word, and LF
pub word_before : (text : List ℕ) (from word : ℕ) → word_of (take (from + 32 - from) (drop from text)) ≡ Some word → from + 32 < length text
    → slice_index text (from + 32) ≡ 10 → IsWordBefore text from word (from + 32)
word_before text from word says lt at = record {
  says = let size : from + 32 - from ≡ 32 = omega arith in ap (λ n. word_of (take n (drop from text))) (sym size) ∙ says;
  rest = drop (suc (from + 32)) text;
  digits =
      sym (take-append-drop 32 (drop from text))
      ∙ ap (λ l. take 32 (drop from text) ++ l) (drop-drop 32 from text ∙ drop-cons text (from + 32) 0 lt ∙ ap (λ b. b ∷ drop (suc (from + 32)) text) at);
  place = refl;
}

-- a text that begins with a line that says a head so
pub head_is : (text : List ℕ) (moment next behind word count : ℕ) (source : Addr) → take 9 text ≡ codes "datagram " → IsNumberBefore text 9 32 moment next
    → IsSourceBefore text next source behind → IsWordBefore text behind word count
    → moment < 2 ^ 62 → SaysAtOnce text (Head (record { at = moment; word = word; from = source })) count
head_is text moment next behind word count source front at from seed small =
    let named = (names_word (take 32 (drop behind text)) word).0 seed.says in
    let is_source : IsSource source = record { four = from.four; octets = from.octets; some = from.some; small = from.small } in
    let line : List ℕ = codes "datagram " ++ head_before moment word source [] in
    let tail : drop behind text ≡ nonce_text word ++ 10 ∷ seed.rest = seed.digits ∙ ap (λ l. l ++ 10 ∷ seed.rest) named.1 in
    let whole : text ≡ codes "datagram " ++ head_before moment word source (10 ∷ seed.rest) =
    sym (take-append-drop 9 text) ∙ ap (λ l. l ++ drop 9 text) front
    ∙ ap (λ l. codes "datagram " ++ l) (at.digits ∙ ap (λ l. decimal moment ++ 32 ∷ l) (from.digits ∙ ap (λ l. addr_text source ++ 32 ∷ l) tail)) in
    let cut : text ≡ line ++ 10 ∷ seed.rest = whole ∙ ap (λ l. codes "datagram " ++ l) (sym (head_more moment word source [] (10 ∷ seed.rest))) in
    let short : length (head_before moment word source []) ≤ 158 + 0 = head_short moment word source small named.0 is_source [] in
    let long : length (nonce_text word) ≡ 32 = word_long word named.0 in
    let within : behind ≤ length text = from.within in
    let place : count ≡ behind + 32 = seed.place in
    record {
      line = line;
      begins = record {
        rest = seed.rest;
        is_line = record { short = omega (arith, short); single = no_end line (head_single moment word source small named.0 is_source [] refl) };
        cut = cut;
      };
      says = head_says moment word source small named.0 is_source;
      size = omega (
        arith,
        ap length cut,
        length-append line (10 ∷ seed.rest),
        ap length tail,
        length-append (nonce_text word) (10 ∷ seed.rest),
        length-drop behind text,
        long,
        within,
        place,
      );
    }

-- a text that begins with a line that says a moment
pub time_is : (text : List ℕ) (moment next : ℕ) → take 5 text ≡ codes "time " → IsNumberBefore text 5 10 moment next → moment < 2 ^ 62
    → SaysAtOnce text (Whole (Time moment)) (next - 1)
time_is text moment next front at small =
    let line : List ℕ = codes "time " ++ decimal moment in
    let cut : text ≡ line ++ 10 ∷ drop next text = sym (take-append-drop 5 text) ∙ ap (λ l. l ++ drop 5 text) front ∙ ap (λ l. codes "time " ++ l) at.digits in
    let few : length (decimal moment) ≤ 20 = number_short moment (omega (arith, small)) in
    let within : next ≤ length text = at.within in
    record {
      line = line;
      begins = record {
        rest = drop next text;
        is_line = record { short = omega (arith, few); single = no_end line (number_others 10 refl moment (omega (arith, small))) };
        cut = cut;
      };
      says = time_says moment small;
      size = omega (arith, ap length cut, length-append line (10 ∷ drop next text), length-drop next text, within);
    }
