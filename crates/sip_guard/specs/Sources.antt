-- The numbers of the sources that are kept.
use Rattle.std.specs.Prelude.{◌≡◌, ℕ, ◌+◌, ◌-◌, ◌≤◌, Bool, false, ◌||◌, List, [], length, max, nat_eq, nat_lt, nat_le, is_some, unwrap_or, if◌then◌else◌}
use Rattle.std.specs.Cmp.Lexicographic.{pointwise}
use Rattle.std.specs.Map.{lookup}
use Rattle.sip_base.specs.declared.word_hasher.WordHasher.{WordHasher}
use Rattle.sip_guard.specs.Allowance.{moment_of, behind}
use Rattle.sip_guard.specs.declared.limit.Limit.{Limit}

-- IP addresses with their numbers, in two tables: those of late, and those from before, when the table of late was full.
-- Of each the greatest number that it ever had is known. Both are hashed under one secret.
pub record SourceTable : Type 0 where
  pub secret : WordHasher
  pub recent : List (List ℕ × ℕ)
  pub earlier : List (List ℕ × ℕ)
  pub recent_until : ℕ
  pub earlier_until : ℕ

-- no source, under a secret
abbrev pub no_sources : WordHasher → SourceTable
no_sources secret = record { secret = secret; recent = []; earlier = []; recent_until = 0; earlier_until = 0 }

-- how many sources each of the two has room for
abbrev pub half : ℕ
half = 2048

-- each of the two has no more sources than it has room for
abbrev pub AreFew : SourceTable → Type 0
AreFew sources = (length sources.recent ≤ half) × (length sources.earlier ≤ half)

-- whether two IP addresses are the same
abbrev pub same_ip : List ℕ → List ℕ → Bool
same_ip = pointwise nat_eq

-- the number of a source in a table, and 0 where it isn't there
abbrev pub number_in : List ℕ → List (List ℕ × ℕ) → ℕ
number_in ip table = unwrap_or (lookup (same_ip ip) table) 0

-- the number of a source
abbrev pub used_of : List ℕ → SourceTable → ℕ
used_of ip sources = max (number_in ip sources.recent) (number_in ip sources.earlier)

-- whether a source is in a table, or the table has room for it
abbrev pub fits_in : List ℕ → List (List ℕ × ℕ) → Bool
fits_in ip table = is_some (lookup (same_ip ip) table) || nat_lt (length table) half

-- whether a source finds room: among those of late, in place of the earlier ones, where none of them is past the moment, or among these
abbrev pub finds_room : ℕ → List ℕ → SourceTable → Bool
finds_room moment ip sources = fits_in ip sources.recent || nat_le sources.earlier_until moment || fits_in ip sources.earlier

-- a source has this number from now on, if it finds room, and no other one is past the moment by more or less than it was. It takes
-- one place at most, where it had none, and no number is greater than this one and those that there were; the secret stays
pub record IsPut (moment : ℕ) (ip : List ℕ) (number : ℕ) (old new : SourceTable) : Type 0 where
  pub own : used_of ip new ≡ (if finds_room moment ip old then number else used_of ip old)
  pub others : (other : List ℕ) → same_ip ip other ≡ false → used_of other new - moment ≡ used_of other old - moment
  pub few : length new.recent ≤ (if is_some (lookup (same_ip ip) old.recent) then length old.recent else length old.recent + 1)
  pub latest : max new.recent_until new.earlier_until ≤ max number (max old.recent_until old.earlier_until)
  pub under : new.secret ≡ old.secret

-- a datagram of a source was handed on at a moment
abbrev pub IsCharged : Limit → ℕ → List ℕ → SourceTable → SourceTable → Type 0
IsCharged limit now ip old new = IsPut (moment_of limit now) ip (behind limit (used_of ip old) now) old new
