-- A table of sources over time.
use Rattle.std.specs.Prelude.{◌≡◌, ℕ, ◌≤◌, true, false, List, [], ◌∷◌, if◌then◌else◌}
use Rattle.sip_guard.specs.Allowance.{moment_of, admits}
use Rattle.sip_guard.specs.Sources.{SourceTable, same_ip, used_of, finds_room, IsCharged}
use Rattle.sip_guard.specs.declared.limit.Limit.{Limit}

-- of datagrams, each with the IP address that it came from and its moment, the newest first, the moments of one address
abbrev pub moments_of : List ℕ → List (List ℕ × ℕ) → List ℕ
moments_of ip [] = []
moments_of ip (datagram ∷ before) = if same_ip datagram.0 ip then datagram.1 ∷ moments_of ip before else moments_of ip before

-- a table takes a datagram of a source that finds room: it is charged if it is handed on
pub record Takes (limit : Limit) (ip : List ℕ) (now : ℕ) (old new : SourceTable) : Type 0 where
  pub room : finds_room (moment_of limit now) ip old ≡ true
  pub charged : admits limit (used_of ip old) now ≡ true → IsCharged limit now ip old new
  pub beyond : admits limit (used_of ip old) now ≡ false → new ≡ old

-- an empty table took these datagrams one after the other, none of them at a later moment than this
abbrev pub ComesFrom : Limit → List (List ℕ × ℕ) → ℕ → SourceTable → Type 0
ComesFrom limit [] latest table = (ip : List ℕ) → used_of ip table ≡ 0
ComesFrom limit (datagram ∷ before) latest table =
    (datagram.1 ≤ latest) × ((old : SourceTable) × (ComesFrom limit before datagram.1 old × Takes limit datagram.0 datagram.1 old table))
