-- The order in which addresses are shown.
use Rattle.std.specs.Prelude.{ℕ, ◌+◌, ◌-◌, ◌*◌, ◌^◌, List, [], ◌∷◌}
use Rattle.std.specs.Ordering.{nat_cmp}
use Rattle.std.specs.BTreeMap.{insert_entry}
use Rattle.sipd_sources.specs.declared.source.Source.{Source}

-- the place of an address of a number: the more wrong credentials it gave, the earlier it comes; of two with as many, that of the lower number
abbrev pub rank : ℕ → Source → ℕ
rank number source = (2 ^ 64 - 1 - source.wrong) * 4294967296 + number

-- rows put among others, each at its place
abbrev pub ranked_among : List (ℕ × Source) → List (ℕ × Source) → List (ℕ × Source)
ranked_among done [] = done
ranked_among done (row ∷ rows) = ranked_among (insert_entry nat_cmp done (rank row.0 row.1) row.1) rows

-- addresses in the order in which they are shown, each behind its place
abbrev pub ranked_of : List (ℕ × Source) → List (ℕ × Source)
ranked_of rows = ranked_among [] rows
