-- What is written of an event says it.
use Rattle.std.proofs.Common.{◌≡◌, ℕ, zero, suc, ◌<◌, ◌≤◌, ◌+◌, ◌*◌, ◌/◌, ◌%◌, ◌^◌, Bool, true, false, nat_le, List, [], ◌∷◌, ◌++◌, length, count_by, decimal}
use Rattle.std.proofs.Common.{Some, refl, sym, ap, ◌∙◌, arith, inl, inr, append_assoc, append-nil, length-append}
use Rattle.std.specs.Prelude.{◌&&◌, ◌==◌, not, codes, slice_index}
use Rattle.std.specs.List.{list_all}
use Rattle.std.specs.Char.{is_ascii_digit}
use Rattle.std.proofs.lemmas.Bool.{ltb-true, le-leb, leb-true, ne_eqb}
use Rattle.std.proofs.lemmas.Fmt.{length-decimal-le}
use Rattle.hex.specs.Hex.{lower_digits, encode_with, encode_lower, IsBytes}
use Rattle.hex.proofs.HexLemmas.{length-encode_with, decode_of-encode_lower}
use Rattle.sip_text.specs.Numbers.{plain_port_of, hex_bytes_of}
use Rattle.sip_text.proofs.PlainDecimals.{plain_read}
use Rattle.sip_uri.specs.declared.addr.Addr.{Addr}
use Rattle.sip_uri.specs.Addresses.{ip_of, ip_text, addr_of, addr_text}
use Rattle.sip_uri.specs.Host.{is_not}
use Rattle.sip_uri.proofs.Tests.{and_both, and_is, not_is, is_other, all_join, split_again}
use Rattle.sip_uri.proofs.Dotted.{text_read}
use Rattle.sip_digest.specs.NonceText.{nonce_text, word_of}
use Rattle.sip_digest.proofs.NonceTexts.{names, names_word}
use Rattle.sip_event.specs.declared.event.Event.{Event}
use Rattle.sip_event.specs.declared.event.Event.TheVariants.{Datagram, Time, Fault}
use Rattle.sip_event.specs.declared.packet.Ticket.{Ticket}
use Rattle.sip_replay_script.specs.declared.script.EventLine.TheVariants.{Head, Whole}
use Rattle.sip_replay_script.specs.Escaped.{byte_text, escaped, is_plain}
use Rattle.sip_replay_script.specs.Lines.{is_end}
use Rattle.sip_replay_script.specs.Script.{line_of}
use Rattle.sip_replay_script.specs.Events.{SaysEvent, SaysDatagram, ended}
use Rattle.sip_replay_script.specs.Recorded.{SaysRecorded}
use Rattle.sip_replay_script.specs.EventText.{event_text, head_before, older_text, is_sayable, is_moment, HasTypes, IsAddr}
use Rattle.sip_replay_script.proofs.ByteTexts.{each_text, escaped_first, escaped_none, escaped_short}
use Rattle.sip_replay_script.proofs.Unescaping.{text_again}
use Rattle.sip_audit.proofs.Words.{below_again, number_others}

-- ---- bytes that don't stand in a text

pub no_end : (text : List ℕ) → list_all (is_not 10) text ≡ true → count_by is_end text ≡ 0
no_end [] e = refl
no_end (b ∷ bs) e =
    let both = and_both (is_not 10 b) (list_all (is_not 10) bs) e in
    rw (not_is (b == 10) both.0, no_end bs both.1) refl

all_there : (p : ℕ → Bool) (xs : List ℕ) (k : ℕ) → p 0 ≡ true → list_all p xs ≡ true → p (slice_index xs k) ≡ true
all_there p [] k default all = default
all_there p (x ∷ xs) zero default all = (and_both (p x) (list_all p xs) all).0
all_there p (x ∷ xs) (suc k) default all = all_there p xs k default (and_both (p x) (list_all p xs) all).1

pub encoded_others : (mark : ℕ) → is_not mark 0 ≡ true → list_all (is_not mark) lower_digits ≡ true → (xs : List ℕ) → list_all (is_not mark) (encode_lower xs) ≡ true
unfolding encode_with
encoded_others mark default digits [] = refl
encoded_others mark default digits (b ∷ rest) =
    and_is _ _ (all_there (is_not mark) lower_digits (b / 16) default digits)
    (and_is _ _ (all_there (is_not mark) lower_digits (b % 16) default digits) (encoded_others mark default digits rest))

-- the text of a byte has no LF
plain_single : (b : ℕ) → is_plain b ≡ true → list_all (is_not 10) (b ∷ []) ≡ true
plain_single b plain = and_is (is_not 10 b) true (is_other is_plain 10 refl b plain) refl

text_single : (b : ℕ) → list_all (is_not 10) (byte_text b) ≡ true
unfolding encode_with
text_single b = each_text (λ (l : List ℕ). list_all (is_not 10) l ≡ true) b (plain_single b) refl refl refl (encoded_others 10 refl refl (b ∷ []))

escaped_single : (bytes : List ℕ) → list_all (is_not 10) (escaped bytes) ≡ true
escaped_single [] = ap (list_all (is_not 10)) escaped_none
escaped_single (b ∷ bytes) =
    ap (list_all (is_not 10)) (escaped_first b bytes) ∙ all_join (is_not 10) (byte_text b) (escaped bytes) (text_single b) (escaped_single bytes)

pub word_others : (mark : ℕ) → is_not mark 0 ≡ true → list_all (is_not mark) lower_digits ≡ true → (word : ℕ) → list_all (is_not mark) (nonce_text word) ≡ true
unfolding nonce_text
word_others mark default digits word = encoded_others mark default digits _

-- ---- where a datagram comes from

-- an address that a datagram may come from: four numbers up to 255, and a port that isn't 0
pub record IsSource (a : Addr) : Type 0 where
  pub four : length a.ip ≡ 4
  pub octets : list_all (λ n. nat_le n 255) a.ip ≡ true
  pub some : 0 < a.port
  pub small : a.port < 65536

all_octets : (ip : List ℕ) → IsBytes ip → list_all (λ n. nat_le n 255) ip ≡ true
all_octets [] are = refl
all_octets (b ∷ ip) are = let lt : b < 256 = are 0 in and_is _ _ (le-leb b 255 (omega (arith, lt))) (all_octets ip (λ i. are (suc i)))

is_some : (port : ℕ) → (port == 0) ≡ false → 0 < port
is_some zero e = absurd cc
is_some (suc n) e = omega arith

is_source : (a : Addr) → IsAddr a → not (a.port == 0) ≡ true → IsSource a
is_source a is port = record {
  four = is.four;
  octets = all_octets a.ip is.octets;
  some = is_some a.port (not_is (a.port == 0) port);
  small = let lt : a.port < 2 ^ 16 = is.port in omega (arith, lt);
}

octet_small : (n : ℕ) → nat_le n 255 ≡ true → n < 2 ^ 64
octet_small n e = let le : n ≤ 255 = leb-true n 255 e in omega (arith, le)

module _ (mark : ℕ) (digit : is_ascii_digit mark ≡ false) (dot : is_not mark 46 ≡ true) where
  octet_others : (ip : List ℕ) (k : ℕ) → list_all (λ n. nat_le n 255) ip ≡ true → list_all (is_not mark) (decimal (slice_index ip k)) ≡ true
  octet_others ip k e = number_others mark digit (slice_index ip k) (octet_small (slice_index ip k) (all_there (λ n. nat_le n 255) ip k refl e))

  dotted : (front back : List ℕ) → list_all (is_not mark) front ≡ true → list_all (is_not mark) back ≡ true → list_all (is_not mark) (front ++ 46 ∷ back) ≡ true
  dotted front back e f = all_join (is_not mark) front (46 ∷ back) e (and_is _ _ dot f)

  -- the text of four numbers, joined as `ip_text` joins them
  joined : (a b c d : List ℕ) → list_all (is_not mark) a ≡ true → list_all (is_not mark) b ≡ true → list_all (is_not mark) c ≡ true → list_all (is_not mark) d ≡ true
      → list_all (is_not mark) (a ++ codes "." ++ b ++ codes "." ++ c ++ codes "." ++ d) ≡ true
  joined a b c d e f g h =
      let one : list_all (is_not mark) (codes ".") ≡ true = and_is _ _ dot refl in
      all_join (is_not mark) (a ++ codes "." ++ b ++ codes "." ++ c ++ codes ".") d
      (all_join (is_not mark) (a ++ codes "." ++ b ++ codes "." ++ c) (codes ".")
      (all_join (is_not mark) (a ++ codes "." ++ b ++ codes ".") c
      (all_join (is_not mark) (a ++ codes "." ++ b) (codes ".")
      (all_join (is_not mark) (a ++ codes ".") b (all_join (is_not mark) a (codes ".") e one) f) one) g) one) h

  ip_others : (ip : List ℕ) → list_all (λ n. nat_le n 255) ip ≡ true → list_all (is_not mark) (ip_text ip) ≡ true
  ip_others ip e =
      joined (decimal (slice_index ip 0)) (decimal (slice_index ip 1)) (decimal (slice_index ip 2)) (decimal (slice_index ip 3))
      (octet_others ip 0 e) (octet_others ip 1 e) (octet_others ip 2 e) (octet_others ip 3 e)

  pub source_others : (colon : is_not mark 58 ≡ true) (a : Addr) → IsSource a → list_all (is_not mark) (addr_text a) ≡ true
  source_others colon a is =
      all_join (is_not mark) (ip_text a.ip ++ codes ":") (decimal a.port) (all_join (is_not mark) (ip_text a.ip) (codes ":") (ip_others a.ip is.octets)
      (and_is _ _ colon refl))
      (let lt : a.port < 65536 = is.small in number_others mark digit a.port (omega (arith, lt)))

-- ---- words that say what was written

port_again : (port : ℕ) → 0 < port → port < 65536 → plain_port_of (decimal port) ≡ Some port
port_again port some small =
    let test : (port == 0) ≡ false = ne_eqb port 0 (λ e. omega (arith, e, some)) in
    rw (below_again 65536 port small (omega (arith, small)), test) refl

pub source_again : (a : Addr) → IsSource a → addr_of (addr_text a) ≡ Some a
source_again a is =
    let cut : addr_text a ≡ ip_text a.ip ++ 58 ∷ decimal a.port = append_assoc (ip_text a.ip) (codes ":") (decimal a.port) in
    let four : ip_of (ip_text a.ip) ≡ Some a.ip = text_read a.ip is.four is.octets in
    let port : plain_port_of (decimal a.port) ≡ Some a.port = port_again a.port is.some is.small in
    ap addr_of cut ∙ rw (split_again 58 (ip_text a.ip) (decimal a.port) (ip_others 58 refl refl a.ip is.octets) refl, four, port) refl

bytes_again : (b : ℕ) (bytes : List ℕ) → IsBytes (b ∷ bytes) → hex_bytes_of (encode_lower (b ∷ bytes)) ≡ Some (b ∷ bytes)
bytes_again b bytes are =
    let size : length (encode_lower (b ∷ bytes)) ≡ 2 * length (b ∷ bytes) = length-encode_with lower_digits (b ∷ bytes) in
    let some : (length (encode_lower (b ∷ bytes)) == 0) ≡ false = ne_eqb (length (encode_lower (b ∷ bytes))) 0 (λ e. omega (arith, e, size)) in
    rw (some, decode_of-encode_lower (b ∷ bytes) are) refl

word_again : (word : ℕ) → word < 2 ^ 128 → word_of (nonce_text word) ≡ Some word
word_again word lt = (names_word (nonce_text word) word).1 (lt, refl)

pub word_long : (word : ℕ) → word < 2 ^ 128 → length (nonce_text word) ≡ 32
word_long word lt = (names (nonce_text word) word (word_again word lt)).sized

pub number_short : (n : ℕ) → n < 2 ^ 64 → length (decimal n) ≤ 20
number_short n lt = length-decimal-le 20 n (omega arith) (omega (arith, lt)) lt

-- ---- moments and faults

pub time_says : (moment : ℕ) → moment < 2 ^ 62 → line_of (codes "time " ++ decimal moment) ≡ Some (Whole (Time moment))
time_says moment lt = rw (below_again (2 ^ 62) moment lt (omega (arith, lt))) refl

written_time : (moment : ℕ) → moment < 2 ^ 62 → SaysRecorded (event_text (Time moment)) (Time moment)
written_time moment lt = inl (record {
  line = codes "time " ++ decimal moment;
  is_line = record {
    short = let few : length (decimal moment) ≤ 20 = number_short moment (omega (arith, lt)) in omega (arith, few);
    single = no_end (codes "time " ++ decimal moment) (number_others 10 refl moment (omega (arith, lt)));
  };
  text_is = refl;
  says = time_says moment lt;
})

module _ (moment : ℕ) (t : Ticket) (lt : moment < 2 ^ 62) (datagram : t.datagram < 2 ^ 64) (branch : t.branch < 2 ^ 32) where
  fault_says : line_of (codes "fault " ++ (decimal moment ++ 32 ∷ (decimal t.datagram ++ 47 ∷ decimal t.branch))) ≡ Some (Whole (Fault moment t))
  fault_says =
      rw (
        split_again 32 (decimal moment) (decimal t.datagram ++ 47 ∷ decimal t.branch) (number_others 32 refl moment (omega (arith, lt))) refl,
        below_again (2 ^ 62) moment lt (omega (arith, lt)),
        split_again 47 (decimal t.datagram) (decimal t.branch) (number_others 47 refl t.datagram datagram) refl,
        plain_read t.datagram datagram,
        below_again (2 ^ 32) t.branch branch (omega (arith, branch)),
      ) refl

  fault_short : length (decimal moment ++ 32 ∷ (decimal t.datagram ++ 47 ∷ decimal t.branch)) ≤ 62
  fault_short =
      let at : length (decimal moment) ≤ 20 = number_short moment (omega (arith, lt)) in
      let first : length (decimal t.datagram) ≤ 20 = number_short t.datagram datagram in
      let second : length (decimal t.branch) ≤ 20 = number_short t.branch (omega (arith, branch)) in
      let size : length (decimal moment ++ 32 ∷ (decimal t.datagram ++ 47 ∷ decimal t.branch))
      ≡ length (decimal moment) + length (32 ∷ (decimal t.datagram ++ 47 ∷ decimal t.branch)) =
      length-append (decimal moment) (32 ∷ (decimal t.datagram ++ 47 ∷ decimal t.branch)) in
      let rest : length (decimal t.datagram ++ 47 ∷ decimal t.branch) ≡ length (decimal t.datagram) + length (47 ∷ decimal t.branch) =
      length-append (decimal t.datagram) (47 ∷ decimal t.branch) in
      omega (arith, at, first, second, size, rest)

  fault_single : list_all (is_not 10) (decimal moment ++ 32 ∷ (decimal t.datagram ++ 47 ∷ decimal t.branch)) ≡ true
  fault_single =
      all_join (is_not 10) (decimal moment) (32 ∷ (decimal t.datagram ++ 47 ∷ decimal t.branch)) (number_others 10 refl moment (omega (arith, lt)))
      (all_join (is_not 10) (decimal t.datagram) (47 ∷ decimal t.branch) (number_others 10 refl t.datagram datagram)
      (number_others 10 refl t.branch (omega (arith, branch))))

  fault_text : event_text (Fault moment t) ≡ ended (codes "fault " ++ (decimal moment ++ 32 ∷ (decimal t.datagram ++ 47 ∷ decimal t.branch)))
  fault_text =
      ap (λ (l : List ℕ). codes "fault " ++ (decimal moment ++ 32 ∷ l)) (sym (append_assoc (decimal t.datagram) (47 ∷ decimal t.branch) (10 ∷ [])))
      ∙ ap (λ (l : List ℕ). codes "fault " ++ l) (sym (append_assoc (decimal moment) (32 ∷ (decimal t.datagram ++ 47 ∷ decimal t.branch)) (10 ∷ [])))

  written_fault : SaysRecorded (event_text (Fault moment t)) (Fault moment t)
  written_fault = inl (record {
    line = codes "fault " ++ (decimal moment ++ 32 ∷ (decimal t.datagram ++ 47 ∷ decimal t.branch));
    is_line = record {
      short = let few = fault_short in omega (arith, few);
      single = no_end
          (codes "fault " ++ (decimal moment ++ 32 ∷ (decimal t.datagram ++ 47 ∷ decimal t.branch))) fault_single;
    };
    text_is = fault_text;
    says = fault_says;
  })

-- ---- datagrams

-- a dot alone says no bytes
pub no_bytes : SaysDatagram (46 ∷ 10 ∷ []) []
no_bytes = record {
  before = [];
  whole = [];
  says = record { lines = []; text_is = refl; are_lines = λ k d none. absurd (omega (arith, none)); no_dot = refl; bytes_are = refl };
  text_is = refl;
  kept = refl;
}

-- what says an event as a record does says it
pub recorded_says : (text : List ℕ) (event : Event) → SaysRecorded text event → SaysEvent text event
recorded_says text event (inl w) = inl w
recorded_says text event (inr e) = inr (record {
  line = e.line;
  head = e.head;
  rest = 46 ∷ 10 ∷ [];
  bytes = [];
  is_line = e.is_line;
  text_is = e.text_is;
  says = e.says;
  lines = no_bytes;
  event_is = e.event_is;
})

pub head_more : (moment word : ℕ) (source : Addr) (rest more : List ℕ) → head_before moment word source rest ++ more ≡ head_before moment word source (rest ++ more)
head_more moment word source rest more =
    append_assoc (decimal moment) (32 ∷ (addr_text source ++ 32 ∷ (nonce_text word ++ rest))) more
    ∙ ap (λ (l : List ℕ). decimal moment ++ 32 ∷ l)
    (append_assoc (addr_text source) (32 ∷ (nonce_text word ++ rest)) more ∙ ap (λ (l : List ℕ). addr_text source ++ 32 ∷ l) (append_assoc (nonce_text word) rest more))

module _ (moment word : ℕ) (source : Addr) (lt : moment < 2 ^ 62) (fits : word < 2 ^ 128) (from : IsSource source) where
  text_says : (bytes : List ℕ) → IsBytes bytes → 0 < length bytes → line_of (codes "text " ++ head_before moment word source (32 ∷ escaped bytes))
      ≡ Some (Whole (Datagram moment word source bytes))
  text_says bytes are some =
      rw (
        split_again 32 (decimal moment) (addr_text source ++ 32 ∷ (nonce_text word ++ 32 ∷ escaped bytes)) (number_others 32 refl moment (omega (arith, lt))) refl,
        split_again 32 (addr_text source) (nonce_text word ++ 32 ∷ escaped bytes) (source_others 32 refl refl refl source from) refl,
        split_again 32 (nonce_text word) (escaped bytes) (word_others 32 refl refl word) refl,
        below_again (2 ^ 62) moment lt (omega (arith, lt)),
        source_again source from,
        word_again word fits,
        text_again bytes are some,
      ) refl

  hex_says : (b : ℕ) (bytes : List ℕ) → IsBytes (b ∷ bytes) → line_of (codes "hex " ++ head_before moment word source (32 ∷ encode_lower (b ∷ bytes)))
      ≡ Some (Whole (Datagram moment word source (b ∷ bytes)))
  hex_says b bytes are =
      rw (
        split_again 32 (decimal moment) (addr_text source ++ 32 ∷ (nonce_text word ++ 32 ∷ encode_lower (b ∷ bytes))) (number_others 32 refl moment (omega (arith, lt)))
            refl,
        split_again 32 (addr_text source) (nonce_text word ++ 32 ∷ encode_lower (b ∷ bytes)) (source_others 32 refl refl refl source from) refl,
        split_again 32 (nonce_text word) (encode_lower (b ∷ bytes)) (word_others 32 refl refl word) refl,
        below_again (2 ^ 62) moment lt (omega (arith, lt)),
        source_again source from,
        word_again word fits,
        bytes_again b bytes are,
      ) refl

  pub head_says : line_of (codes "datagram " ++ head_before moment word source []) ≡ Some (Head (record { at = moment; word = word; from = source }))
  head_says =
      ap (λ (l : List ℕ). line_of (codes "datagram " ++ (decimal moment ++ 32 ∷ (addr_text source ++ 32 ∷ l)))) (append-nil (nonce_text word))
      ∙ rw (
        split_again 32 (decimal moment) (addr_text source ++ 32 ∷ nonce_text word) (number_others 32 refl moment (omega (arith, lt))) refl,
        split_again 32 (addr_text source) (nonce_text word) (source_others 32 refl refl refl source from) refl,
        below_again (2 ^ 62) moment lt (omega (arith, lt)),
        source_again source from,
        word_again word fits,
      ) refl

  source_short : length (addr_text source) ≤ 104
  source_short =
      let octet = λ (k : ℕ). number_short (slice_index source.ip k) (octet_small (slice_index source.ip k) (all_there (λ n. nat_le n 255) source.ip k refl from.octets))
      in
      let port : length (decimal source.port) ≤ 20 = number_short source.port (let small : source.port < 65536 = from.small in omega (arith, small)) in
      joined_short (decimal (slice_index source.ip 0)) (decimal (slice_index source.ip 1)) (decimal (slice_index source.ip 2)) (decimal (slice_index source.ip 3))
      (decimal source.port)
      (octet 0) (octet 1) (octet 2) (octet 3) port
    where
      joined_short : (a b c d e : List ℕ) → length a ≤ 20 → length b ≤ 20 → length c ≤ 20 → length d ≤ 20 → length e ≤ 20
          → length (a ++ codes "." ++ b ++ codes "." ++ c ++ codes "." ++ d ++ codes ":" ++ e) ≤ 104
      joined_short a b c d e f g h i j = omega (
        arith,
        f,
        g,
        h,
        i,
        j,
        length-append (a ++ codes "." ++ b ++ codes "." ++ c ++ codes "." ++ d ++ codes ":") e,
        length-append (a ++ codes "." ++ b ++ codes "." ++ c ++ codes "." ++ d) (codes ":"),
        length-append (a ++ codes "." ++ b ++ codes "." ++ c ++ codes ".") d,
        length-append (a ++ codes "." ++ b ++ codes "." ++ c) (codes "."),
        length-append (a ++ codes "." ++ b ++ codes ".") c,
        length-append (a ++ codes "." ++ b) (codes "."),
        length-append (a ++ codes ".") b,
        length-append a (codes "."),
      )

  -- what stands behind the word of a line, with a rest behind it
  pub head_single : (rest : List ℕ) → list_all (is_not 10) rest ≡ true → list_all (is_not 10) (head_before moment word source rest) ≡ true
  head_single rest e =
      all_join (is_not 10) (decimal moment) (32 ∷ (addr_text source ++ 32 ∷ (nonce_text word ++ rest))) (number_others 10 refl moment (omega (arith, lt)))
      (all_join (is_not 10) (addr_text source) (32 ∷ (nonce_text word ++ rest)) (source_others 10 refl refl refl source from)
      (all_join (is_not 10) (nonce_text word) rest (word_others 10 refl refl word) e))

  pub head_short : (rest : List ℕ) → length (head_before moment word source rest) ≤ 158 + length rest
  head_short rest =
      let at : length (decimal moment) ≤ 20 = number_short moment (omega (arith, lt)) in
      let address : length (addr_text source) ≤ 104 = source_short in
      let digits : length (nonce_text word) ≡ 32 = word_long word fits in
      let first : length (head_before moment word source rest) ≡ length (decimal moment) + length (32 ∷ (addr_text source ++ 32 ∷ (nonce_text word ++ rest))) =
      length-append (decimal moment) (32 ∷ (addr_text source ++ 32 ∷ (nonce_text word ++ rest))) in
      let second : length (addr_text source ++ 32 ∷ (nonce_text word ++ rest)) ≡ length (addr_text source) + length (32 ∷ (nonce_text word ++ rest)) =
      length-append (addr_text source) (32 ∷ (nonce_text word ++ rest)) in
      let third : length (nonce_text word ++ rest) ≡ length (nonce_text word) + length rest = length-append (nonce_text word) rest in
      omega (arith, at, address, digits, first, second, third)

  written_text : (b : ℕ) (bytes : List ℕ) → IsBytes (b ∷ bytes) → length (b ∷ bytes) ≤ 65508
      → SaysRecorded (event_text (Datagram moment word source (b ∷ bytes))) (Datagram moment word source (b ∷ bytes))
  written_text b bytes are few = inl (record {
    line = codes "text " ++ head_before moment word source (32 ∷ escaped (b ∷ bytes));
    is_line = record {
      short =
          let head : length (head_before moment word source (32 ∷ escaped (b ∷ bytes))) ≤ 158 + length (32 ∷ escaped (b ∷ bytes)) =
          head_short (32 ∷ escaped (b ∷ bytes)) in
          let size : length (escaped (b ∷ bytes)) ≤ 3 * length (b ∷ bytes) = escaped_short (b ∷ bytes) in
          omega (arith, few, head, size);
      single = no_end (codes "text " ++ head_before moment word source (32 ∷ escaped (b ∷ bytes)))
          (head_single (32 ∷ escaped (b ∷ bytes)) (escaped_single (b ∷ bytes)));
    };
    text_is = ap (λ (l : List ℕ). codes "text " ++ l) (sym (head_more moment word source (32 ∷ escaped (b ∷ bytes)) (10 ∷ [])));
    says = text_says (b ∷ bytes) are (omega arith);
  })

  -- and so is what an older record has
  written_hex : (b : ℕ) (bytes : List ℕ) → IsBytes (b ∷ bytes) → length (b ∷ bytes) ≤ 65508
      → SaysRecorded (older_text moment word source (b ∷ bytes)) (Datagram moment word source (b ∷ bytes))
  written_hex b bytes are few = inl (record {
    line = codes "hex " ++ head_before moment word source (32 ∷ encode_lower (b ∷ bytes));
    is_line = record {
      short =
          let head : length (head_before moment word source (32 ∷ encode_lower (b ∷ bytes))) ≤ 158 + length (32 ∷ encode_lower (b ∷ bytes)) =
          head_short (32 ∷ encode_lower (b ∷ bytes)) in
          let size : length (encode_lower (b ∷ bytes)) ≡ 2 * length (b ∷ bytes) = length-encode_with lower_digits (b ∷ bytes) in
          omega (arith, few, head, size);
      single = no_end (codes "hex " ++ head_before moment word source (32 ∷ encode_lower (b ∷ bytes)))
          (head_single (32 ∷ encode_lower (b ∷ bytes)) (encoded_others 10 refl refl (b ∷ bytes)));
    };
    text_is = ap (λ (l : List ℕ). codes "hex " ++ l) (sym (head_more moment word source (32 ∷ encode_lower (b ∷ bytes)) (10 ∷ [])));
    says = hex_says b bytes are;
  })

  written_empty : SaysRecorded (event_text (Datagram moment word source [])) (Datagram moment word source [])
  written_empty = inr (record {
    line = codes "datagram " ++ head_before moment word source [];
    head = record { at = moment; word = word; from = source };
    is_line = record {
      short = let head : length (head_before moment word source []) ≤ 158 + 0 = head_short [] in omega (arith, head);
      single = no_end (codes "datagram " ++ head_before moment word source []) (head_single [] refl);
    };
    text_is = ap (λ (l : List ℕ). codes "datagram " ++ l)
        (sym (append_assoc (head_before moment word source []) (10 ∷ []) (46 ∷ 10 ∷ []) ∙ head_more moment word source [] (10 ∷ 46 ∷ 10 ∷ [])));
    says = head_says;
    event_is = refl;
  })

written_datagram : (moment word : ℕ) (source : Addr) (bytes : List ℕ) → moment < 2 ^ 62 → word < 2 ^ 128 → IsSource source → IsBytes bytes → length bytes ≤ 65508
    → SaysRecorded (event_text (Datagram moment word source bytes)) (Datagram moment word source bytes)
written_datagram moment word source [] lt fits from are few = written_empty moment word source lt fits from
written_datagram moment word source (b ∷ bytes) lt fits from are few = written_text moment word source lt fits from b bytes are few

moment_is : (moment : ℕ) → is_moment moment ≡ true → moment < 2 ^ 62
moment_is moment e = ltb-true moment (2 ^ 62) e

pub written_recorded : (event : Event) → HasTypes event → is_sayable event ≡ true → SaysRecorded (event_text event) event
written_recorded (Datagram moment word source bytes) is e =
    let whole = and_both (is_moment moment) (not (source.port == 0) && nat_le (length bytes) 65508) e in
    let rest = and_both (not (source.port == 0)) (nat_le (length bytes) 65508) whole.1 in
    written_datagram moment word source bytes (moment_is moment whole.0) is.0 (is_source source is.1 rest.0) is.2 (leb-true (length bytes) 65508 rest.1)
written_recorded (Time moment) is e = written_time moment (moment_is moment e)
written_recorded (Fault moment t) is e = written_fault moment t (moment_is moment e) is.0 is.1

pub older_recorded : (moment word : ℕ) (source : Addr) (b : ℕ) (bytes : List ℕ) → HasTypes (Datagram moment word source (b ∷ bytes))
    → is_sayable (Datagram moment word source (b ∷ bytes)) ≡ true → SaysRecorded (older_text moment word source (b ∷ bytes)) (Datagram moment word source (b ∷ bytes))
older_recorded moment word source b bytes is e =
    let whole = and_both (is_moment moment) (not (source.port == 0) && nat_le (length (b ∷ bytes)) 65508) e in
    let rest = and_both (not (source.port == 0)) (nat_le (length (b ∷ bytes)) 65508) whole.1 in
    written_hex moment word source (moment_is moment whole.0) is.0 (is_source source is.1 rest.0) b bytes is.2 (leb-true (length (b ∷ bytes)) 65508 rest.1)

pub written_says : (event : Event) → HasTypes event → is_sayable event ≡ true → SaysEvent (event_text event) event
written_says event is e = recorded_says (event_text event) event (written_recorded event is e)
