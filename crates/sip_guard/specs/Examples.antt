-- What the worked examples are about.
use Rattle.std.specs.Prelude.{ℕ, List, [], ◌∷◌, replicate}
use Rattle.sip_base.specs.WordHasher.{initial}
use Rattle.sip_guard.specs.Guard.{AllowanceState, allowances_of}
use Rattle.sip_guard.specs.Sources.{SourceTable, half}
use Rattle.sip_guard.specs.declared.limit.Limit.{Limit}

-- one datagram a second, and two at once
abbrev pub one_a_second : Limit
one_a_second = record { per_second = 1; burst = 2 }

-- three datagrams at once, one a second later, one half a second behind that, one another half later; the newest first
abbrev pub six_moments : List ℕ
six_moments = 2000 ∷ 1500 ∷ 1000 ∷ 0 ∷ 0 ∷ 0 ∷ []

-- two IP addresses
abbrev pub desk : List ℕ
desk = 192 ∷ 0 ∷ 2 ∷ 1 ∷ []

abbrev pub scanner : List ℕ
scanner = 198 ∷ 51 ∷ 100 ∷ 7 ∷ []

-- two tables, of which no number of those of late is past 7, and none of the earlier ones past 5
abbrev pub tables : List (List ℕ × ℕ) → List (List ℕ × ℕ) → SourceTable
tables recent earlier = record { secret = initial; recent = recent; earlier = earlier; recent_until = 7; earlier_until = 5 }

-- two full tables, of which no number is past 7
abbrev pub full : SourceTable
full = record (tables (replicate half (desk, 7)) (replicate half (desk, 7))) { earlier_until = 7 }

-- two sources that used up their allowance, of which one is heard always
abbrev pub desk_always : AllowanceState
desk_always = record (allowances_of 0 (desk ∷ []) one_a_second) {
  sources = record { secret = initial; recent = (desk, 2000) ∷ (scanner, 2000) ∷ []; earlier = []; recent_until = 2000; earlier_until = 0 };
}
