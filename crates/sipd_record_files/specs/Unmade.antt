-- How a start ends that can't make a file of its record.
use Rattle.std.specs.Prelude.{◌≡◌, ◌⊎◌}
use Rattle.sipd_exit.specs.declared.exit.Exit.{Exit}
use Rattle.sipd_exit.specs.declared.exit.Exit.TheVariants.{Memory, NewRecord, Recording}

-- it makes no record: memory ran out, or a file of the record can't be made, or can't be written
abbrev pub IsUnmade : Exit → Type 0
IsUnmade exit = (exit ≡ Memory) ⊎ (exit ≡ NewRecord) ⊎ (exit ≡ Recording)
