use Rattle.std.proofs.Common.{◌≡◌, ◌++◌, codes, map, take}
use Rattle.std.specs.Prelude.{string_bytes}
use Rattle.sipd_record_files.specs.RecordNames.{name_of}
use Rattle.sipd_record_files.proofs.named_records.push_names.Given as goal

-- the names so far are added
abbrev pub invariant-loop-number : goal.invariant-loop-number
invariant-loop-number g l =
    map string_bytes l.files.items ≡ map string_bytes l.initial.files.items ++ map (λ n. name_of l.folder n (codes "record")) (take l.number-index l.numbers)
