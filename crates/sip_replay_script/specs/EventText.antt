-- What is written of an event: text of a script that says it.
use Rattle.std.specs.Prelude.{◌≡◌, ◌<◌, ◌^◌, ℕ, Bool, nat_lt, nat_le, not, ◌&&◌, ◌==◌, List, [], ◌∷◌, ◌++◌, length, decimal, codes}
use Rattle.hex.specs.Hex.{encode_lower, IsBytes}
use Rattle.sip_digest.specs.NonceText.{nonce_text}
use Rattle.sip_event.specs.declared.event.Event.{Event}
use Rattle.sip_event.specs.declared.event.Event.TheVariants.{Datagram, Time, Fault}
use Rattle.sip_uri.specs.declared.addr.Addr.{Addr}
use Rattle.sip_uri.specs.Addresses.{addr_text}
use Rattle.sip_replay_script.specs.Escaped.{escaped}

-- AT IP:PORT WORD, and what stands behind it
abbrev pub head_before : ℕ → ℕ → Addr → List ℕ → List ℕ
head_before moment word source rest = decimal moment ++ 32 ∷ (addr_text source ++ 32 ∷ (nonce_text word ++ rest))

-- `text AT IP:PORT WORD TEXT`; of a datagram without bytes `datagram AT IP:PORT WORD`, and a line `.`
abbrev pub datagram_text : ℕ → ℕ → Addr → List ℕ → List ℕ
datagram_text moment word source [] = codes "datagram " ++ head_before moment word source (10 ∷ 46 ∷ 10 ∷ [])
datagram_text moment word source (b ∷ bytes) = codes "text " ++ head_before moment word source (32 ∷ (escaped (b ∷ bytes) ++ 10 ∷ []))

-- what an older record has of a datagram with bytes: `hex AT IP:PORT WORD DIGITS`
abbrev pub older_text : ℕ → ℕ → Addr → List ℕ → List ℕ
older_text moment word source bytes = codes "hex " ++ head_before moment word source (32 ∷ (encode_lower bytes ++ 10 ∷ []))

-- an event's text, each line with its LF: of a moment `time AT`, of a fault `fault AT D/K`
abbrev pub event_text : Event → List ℕ
event_text (Datagram moment word source bytes) = datagram_text moment word source bytes
event_text (Time moment) = codes "time " ++ (decimal moment ++ 10 ∷ [])
event_text (Fault moment t) = codes "fault " ++ (decimal moment ++ 32 ∷ (decimal t.datagram ++ 47 ∷ (decimal t.branch ++ 10 ∷ [])))

-- a moment that a server takes
abbrev pub is_moment : ℕ → Bool
is_moment moment = nat_lt moment (2 ^ 62)

-- a script says such an event: no other moment, no datagram from the port 0, and none of more than 65,508 bytes
abbrev pub is_sayable : Event → Bool
is_sayable (Datagram moment word source bytes) = is_moment moment && (not (source.port == 0) && nat_le (length bytes) 65508)
is_sayable (Time moment) = is_moment moment
is_sayable (Fault moment t) = is_moment moment

-- an IPv4 address and a port, as its numbers go
pub record IsAddr (a : Addr) : Type 0 where
  pub four : length a.ip ≡ 4
  pub octets : IsBytes a.ip
  pub port : a.port < 2 ^ 16

-- the numbers of an event, as their types go: a word of 128 bits, bytes, and so on
abbrev pub HasTypes : Event → Type 0
HasTypes (Datagram moment word source bytes) = (word < 2 ^ 128) × IsAddr source × IsBytes bytes
HasTypes (Time moment) = Unit {0}
HasTypes (Fault moment t) = (t.datagram < 2 ^ 64) × (t.branch < 2 ^ 32)
