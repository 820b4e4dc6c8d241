use Rattle.std.proofs.Common.{◌≡◌, drop}
use Rattle.sip_matrix.specs.Column.{is_same_column}
use Rattle.sip_matrix.specs.Kinds.{kinds_of, with_kinds}
use Rattle.sip_matrix.proofs.listing.columns_among.Given as goal

-- the columns so far, and the others, are all
abbrev pub invariant-loop-column : goal.invariant-loop-column
invariant-loop-column l = with_kinds is_same_column l.columns (drop l.column-index l.all) ≡ kinds_of is_same_column l.all
