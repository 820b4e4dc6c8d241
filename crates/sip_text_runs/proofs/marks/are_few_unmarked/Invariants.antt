use Rattle.std.proofs.Common.{◌≡◌, drop}
use Rattle.std.specs.List.{list_all}
use Rattle.sip_text_runs.specs.Marks.{is_unmarked}
use Rattle.sip_text_runs.proofs.marks.are_few_unmarked.Given as goal

-- the rest decides
abbrev pub invariant-loop-byte : goal.invariant-loop-byte
invariant-loop-byte l = list_all is_unmarked (drop l.byte-index l.bytes) ≡ list_all is_unmarked l.bytes
