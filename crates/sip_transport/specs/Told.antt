-- What a link and a clock count, and what they tell, where they tell it.
use Rattle.std.specs.Prelude.{◌≡◌, ◌≢◌, ◌≤◌, ⊤, ℕ, ◌+◌, ◌-◌, ◌^◌, nat_lt, List, [], ◌∷◌, ◌++◌, length, Option, None, Some, if◌then◌else◌}
use Rattle.sip_transport.specs.declared.datagram.Instead.{Instead}
use Rattle.sip_transport.specs.declared.datagram.Instead.TheVariants.{AskedAgain, HeardNothing}
use Rattle.sip_transport.specs.declared.datagram.HeardDatagram.{HeardDatagram}
use Rattle.sip_uri.specs.declared.addr.Addr.{Addr}

-- the greatest count
abbrev pub most : ℕ
most = 2 ^ 64 - 1

-- one more, up to the greatest count
abbrev pub counted : ℕ → ℕ
counted n = if nat_lt n most then n + 1 else most

-- the most bytes of a datagram that a line of a record says: one more than the longest one over IPv4 has
abbrev pub most_bytes : ℕ
most_bytes = 65508

-- a datagram that a record can hold: its source can be answered, since its port isn't 0 (RFC 768), and it isn't longer than a line says
abbrev pub IsWritable : Addr → List ℕ → Type 0
IsWritable from bytes = (from.port ≢ 0) × (length bytes ≤ most_bytes)

-- what a `receive` heard that answered this source, with the bytes that are held then
abbrev pub heard_of : Option Addr → List ℕ → Option HeardDatagram
heard_of None bytes = None
heard_of (Some from) bytes = Some (record { from = from; bytes = bytes })

-- a list that is told grows by one at its end
abbrev pub and_then : {A : Type 0} → Option (List A) → A → Option (List A)
and_then None last = None
and_then (Some list) last = Some (list ++ last ∷ [])

-- the same, where a list with the greatest count is told no more
abbrev pub and_counted : {A : Type 0} → Option (List A) → A → Option (List A)
and_counted None last = None
and_counted (Some list) last = if nat_lt (length list) most then Some (list ++ last ∷ []) else None

-- a list that may be told has grown by one at its end, where it is told still
abbrev pub GrewBy : {A : Type 0} → A → Option (List A) → Option (List A) → Type 0
GrewBy last old None = ⊤
GrewBy last None (Some all) = ⊥
GrewBy last (Some list) (Some all) = all ≡ list ++ last ∷ []

-- what is heard of a datagram that is set aside: what was heard before, where the link is asked again for it, or that nothing was
abbrev pub left_of : Instead → Option (List (Option HeardDatagram)) → Option (List (Option HeardDatagram))
left_of AskedAgain before = before
left_of HeardNothing before = and_then before None

-- A link heard a datagram last, and set it aside: that counts as if it had heard nothing, or not at all, where it is asked again for it;
-- and it has set aside one more.
abbrev pub SetsAside : HeardDatagram → Instead → Option (List (Option HeardDatagram)) → Option (List (Option HeardDatagram)) → Option (List HeardDatagram)
    → Option (List HeardDatagram) → Type 0
SetsAside datagram instead heard_old heard_new aside_old aside_new =
    (before : Option (List (Option HeardDatagram))) → heard_old ≡ and_then before (Some datagram)
    → (heard_new ≡ left_of instead before) × (aside_new ≡ and_then aside_old datagram)
