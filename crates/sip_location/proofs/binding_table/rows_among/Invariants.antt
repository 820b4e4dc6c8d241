use Rattle.std.proofs.Common.{◌≡◌, filter, drop}
use Rattle.sip_location.specs.AorBindings.{is_filed_of, first_rows}
use Rattle.sip_location.proofs.binding_table.rows_among.Given as goal

-- the rest has the rows of all
abbrev pub invariant-loop-filed : goal.invariant-loop-filed
invariant-loop-filed l = first_rows (filter (is_filed_of l.aor) (drop l.filed-index l.crowd)) ≡ first_rows (filter (is_filed_of l.aor) l.crowd)
