-- A capture's headers: of its file and its packets (libpcap, link type 101: raw IP), and those of IP (RFC 791) and UDP (RFC 768).
use Rattle.std.specs.Prelude.{ℕ, ◌+◌, ◌-◌, ◌*◌, ◌/◌, ◌%◌, List, [], ◌∷◌, ◌++◌, length, slice_index}
use Rattle.sip_uri.specs.declared.addr.Addr.{Addr}

-- ---- numbers

-- the lowest byte of a number
abbrev pub low_byte : ℕ → ℕ
low_byte n = n % 256

-- in two bytes, the higher one first
abbrev pub high_first : ℕ → List ℕ
high_first n = low_byte (n / 256) ∷ low_byte n ∷ []

-- in two and in four bytes, the lowest one first
abbrev pub two_bytes : ℕ → List ℕ
two_bytes n = low_byte n ∷ low_byte (n / 256) ∷ []

abbrev pub four_bytes : ℕ → List ℕ
four_bytes n = low_byte n ∷ low_byte (n / 256) ∷ low_byte (n / 65536) ∷ low_byte (n / 16777216) ∷ []

-- ---- the file

-- 0xa1b2c3d4 tells the order of the bytes; version 2.4; UTC; packets of at most 262,144 bytes, each an IP packet
abbrev pub file_head : List ℕ
file_head =
    four_bytes 2712847316 ++ two_bytes 2 ++ two_bytes 4 ++ (four_bytes 0 ++ four_bytes 0) ++ (four_bytes 262144 ++ four_bytes 101)

-- the moment in seconds and microseconds, and twice the length
abbrev pub packet_head : ℕ → ℕ → List ℕ
packet_head at length =
    (four_bytes (at / 1000) ++ four_bytes (at % 1000 * 1000)) ++ (four_bytes length ++ four_bytes length)

-- ---- IP

abbrev pub pair : ℕ → ℕ → ℕ
pair high low = 256 * high + low

-- the sum of both halves of an address
abbrev pub halves : List ℕ → ℕ
halves ip = pair (slice_index ip 0) (slice_index ip 1) + pair (slice_index ip 2) (slice_index ip 3)

-- what is above two bytes is added to them (RFC 1071)
abbrev pub folded : ℕ → ℕ
folded n = n % 65536 + n / 65536

-- The checksum of the header below: the complement of the sum of its numbers of two bytes. 0x4500 is version 4, five words and no service;
-- 0x4000 that it isn't cut; 0x4011 64 hops and UDP.
abbrev pub checksum : ℕ → List ℕ → List ℕ → ℕ
checksum length from to = 65535 - folded (folded (17664 + length % 65536 + 16384 + 16401 + halves from + halves to))

abbrev pub ip_head : ℕ → List ℕ → List ℕ → List ℕ
ip_head length from to =
    high_first 17664 ++ high_first length ++ (0 ∷ 0 ∷ 64 ∷ 0 ∷ 64 ∷ 17 ∷ []) ++ high_first (checksum length from to) ++ from ++ to

-- ---- UDP

-- without a checksum, as 0 says (RFC 768)
abbrev pub udp_head : ℕ → ℕ → ℕ → List ℕ
udp_head from to length = high_first from ++ high_first to ++ high_first length ++ (0 ∷ 0 ∷ [])

-- a datagram, with all that stands in front of it
abbrev pub frame : ℕ → Addr → Addr → List ℕ → List ℕ
frame at from to bytes =
    packet_head at (length bytes + 28) ++ ip_head (length bytes + 28) from.ip to.ip ++ udp_head from.port to.port (length bytes + 8) ++ bytes
