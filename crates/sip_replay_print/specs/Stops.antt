-- What printing stops for.
use Rattle.std.specs.Prelude.{⊤}
use Rattle.sip_replay_script.specs.declared.print_stop.PrintStop.{PrintStop}
use Rattle.sip_replay_script.specs.declared.print_stop.PrintStop.TheVariants.{NoMemory, Write}

-- printing stops for want of memory, or because the writer gave up
abbrev pub PrintStops : Type 0 → PrintStop → Type 0
PrintStops gave_up NoMemory = ⊤
PrintStops gave_up Write = gave_up
