-- What the lines of a script say.
use Rattle.std.specs.Prelude.{◌≡◌, ◌<◌, ◌≤◌, ◌+◌, ℕ, ◌^◌, ◌==◌, ◌&&◌, true, nat_lt, nat_le, Option, Some, None, List, ◌∷◌, ◌++◌, length, slice_index, take, drop, decimal}
use Rattle.std.specs.Prelude.{codes, if◌then◌else◌}
use Rattle.std.specs.List.{list_all}
use Rattle.std.specs.Str.{bytes_eq}
use Rattle.sip_event.specs.declared.packet.Ticket.{Ticket}
use Rattle.sip_event.specs.declared.event.Event.{Event}
use Rattle.sip_event.specs.declared.event.Event.TheVariants.{Datagram, Time, Fault}
use Rattle.sip_replay_script.specs.declared.script.DatagramHead.{DatagramHead}
use Rattle.sip_replay_script.specs.declared.script.EventLine.{EventLine}
use Rattle.sip_replay_script.specs.declared.script.EventLine.TheVariants.{Head, Whole}
use Rattle.sip_uri.specs.declared.addr.Addr.{Addr}
use Rattle.sip_uri.specs.Addresses.{addr_of, addr_text}
use Rattle.sip_text.specs.Numbers.{plain_decimal_of, plain_decimal_below, hex_bytes_of}
use Rattle.sip_digest.specs.NonceText.{word_of}
use Rattle.sip_text.specs.Splits.{split_at_byte}
use Rattle.sip_replay_script.specs.Escaped.{text_bytes_of}
use Rattle.sip_replay_script.specs.Lines.{BeginsWith}

-- the second step, if the first gave a value
infixl 10 ◌>>=◌
abbrev pub ◌>>=◌ : {A B : Type 0} → Option A → (A → Option B) → Option B
None >>= f = None
(Some x) >>= f = f x

-- a moment in milliseconds: the server takes those below 2 ^ 62
abbrev pub at_of : List ℕ → Option ℕ
at_of text = plain_decimal_below (2 ^ 62) text

-- D/K: a datagram's number below 2 ^ 64, and a branch's below 2 ^ 32
abbrev pub ticket_of : List ℕ → Option Ticket
ticket_of text = do
  parts ← split_at_byte 47 text
  number ← plain_decimal_of parts.0
  branch ← plain_decimal_below (2 ^ 32) parts.1
  Some (record { «datagram» = number; branch = branch })

-- AT, IP:PORT and WORD
abbrev pub head_of : List ℕ → List ℕ → List ℕ → Option DatagramHead
head_of at_text from_text word_text = do
  moment ← at_of at_text
  source ← addr_of from_text
  seed ← word_of word_text
  Some (record { at = moment; word = seed; from = source })

-- a datagram whose bytes are given
abbrev pub datagram_at : DatagramHead → List ℕ → Event
datagram_at head bytes = Datagram head.at head.word head.from bytes

-- the event that a line begins: a datagram whose bytes are given, or what the line holds whole
abbrev pub event_of : EventLine → List ℕ → Event
event_of (Head head) bytes = datagram_at head bytes
event_of (Whole event) bytes = event

-- what stands behind the word `datagram`, `text`, `hex`, `time` or `fault` and its space
abbrev pub datagram_line : List ℕ → Option EventLine
datagram_line text = do
  a ← split_at_byte 32 text
  b ← split_at_byte 32 a.1
  head ← head_of a.0 b.0 b.1
  Some (Head head)

-- a head, and what stands behind it
abbrev pub head_parts : List ℕ → Option (DatagramHead × List ℕ)
head_parts text = do
  a ← split_at_byte 32 text
  b ← split_at_byte 32 a.1
  c ← split_at_byte 32 b.1
  head ← head_of a.0 b.0 c.0
  Some (head, c.1)

abbrev pub text_line : List ℕ → Option EventLine
text_line text = do
  parts ← head_parts text
  bytes ← text_bytes_of parts.1
  Some (Whole (datagram_at parts.0 bytes))

abbrev pub hex_line : List ℕ → Option EventLine
hex_line text = do
  parts ← head_parts text
  bytes ← hex_bytes_of parts.1
  Some (Whole (datagram_at parts.0 bytes))

abbrev pub time_line : List ℕ → Option EventLine
time_line text = do
  moment ← at_of text
  Some (Whole (Time moment))

abbrev pub fault_line : List ℕ → Option EventLine
fault_line text = do
  a ← split_at_byte 32 text
  moment ← at_of a.0
  ticket ← ticket_of a.1
  Some (Whole (Fault moment ticket))

abbrev pub line_of_kind : List ℕ → List ℕ → Option EventLine
line_of_kind kind rest =
    if bytes_eq kind (codes "datagram") then datagram_line rest
    else if bytes_eq kind (codes "text") then text_line rest
    else if bytes_eq kind (codes "hex") then hex_line rest
    else if bytes_eq kind (codes "time") then time_line rest
    else if bytes_eq kind (codes "fault") then fault_line rest
    else None

-- an event's first line: `datagram AT IP:PORT WORD`, `text AT IP:PORT WORD TEXT`, `hex AT IP:PORT WORD DIGITS`, `time AT` or
-- `fault AT D/K` (this project's profile)
abbrev pub line_of : List ℕ → Option EventLine
line_of text = do
  parts ← split_at_byte 32 text
  line_of_kind parts.0 parts.1

-- a line of a datagram: one `.` is dropped from one that begins with it
abbrev pub unstuffed : List ℕ → List ℕ
unstuffed line = if nat_lt 0 (length line) && slice_index line 0 == 46 then drop 1 line else line

-- ---- what is read at places of a line

-- a number in decimal stands from a place on, up to another
pub record IsNumberAt (text : List ℕ) (from number end : ℕ) : Type 0 where
  pub digits : drop from text ≡ decimal number ++ drop end text
  pub small : number < 2 ^ 64
  pub within : end ≤ length text

-- and a byte behind it
pub record IsNumberBefore (text : List ℕ) (from mark number next : ℕ) : Type 0 where
  pub digits : drop from text ≡ decimal number ++ mark ∷ drop next text
  pub within : next ≤ length text

-- an address that a datagram may come from, and a space behind it
pub record IsSourceBefore (text : List ℕ) (from : ℕ) (source : Addr) (next : ℕ) : Type 0 where
  pub digits : drop from text ≡ addr_text source ++ 32 ∷ drop next text
  pub within : next ≤ length text
  pub four : length source.ip ≡ 4
  pub octets : list_all (λ n. nat_le n 255) source.ip ≡ true
  pub some : 0 < source.port
  pub small : source.port < 65536

-- a word, and LF behind it at that place
pub record IsWordBefore (text : List ℕ) (from word count : ℕ) : Type 0 where
  pub says : word_of (take 32 (drop from text)) ≡ Some word
  pub rest : List ℕ
  pub digits : drop from text ≡ take 32 (drop from text) ++ 10 ∷ rest
  pub place : count ≡ from + 32

-- a text begins with a line of so many bytes, and that is what it says
pub record SaysAtOnce (text : List ℕ) (said : EventLine) (count : ℕ) : Type 0 where
  pub line : List ℕ
  pub begins : BeginsWith text line
  pub says : line_of line ≡ Some said
  pub size : length line ≡ count
