use Rattle.std.proofs.Common.{map, take}
use Rattle.std.specs.Prelude.{string_bytes}
use Rattle.sipd_record_files.specs.Named.{AreNamed}
use Rattle.sipd_record_files.proofs.named_records.record_files.Given as goal

-- what the paths so far name
abbrev pub invariant-loop-path : goal.invariant-loop-path
invariant-loop-path g l = AreNamed (map string_bytes (take l.path-index l.paths)) (map string_bytes l.files.items)
