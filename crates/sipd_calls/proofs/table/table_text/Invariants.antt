use Rattle.std.proofs.Common.{◌≡◌, ◌++◌, drop}
use Rattle.sipd_calls.specs.Table.{no_rows, rest_of}
use Rattle.sipd_calls.proofs.table.table_text.Given as goal

-- what was made, in front of what the calls that are left give, is the table
abbrev pub invariant-loop-call : goal.invariant-loop-call
invariant-loop-call l = l.out ++ rest_of l.choice l.rows (drop l.call-index l.calls) ≡ rest_of l.choice no_rows l.calls
