-- Looks of the worked examples.
use Rattle.std.specs.Prelude.{ℕ, List, None, Ok, Err, codes}
use Rattle.sipd_reload.specs.Courses.{Turn}
use Rattle.sipd_reload.specs.Watch.{WatchState}
use Rattle.sipd_reload.specs.declared.file_fault.FileFault.{FileFault}
use Rattle.sipd_reload.specs.declared.seen.Seen.TheVariants as seens
use Rattle.sipd_reload.specs.declared.stamp.Stamp.{Stamp}

-- the stamp of the first file, changed at this second
abbrev pub stamp : ℕ → Stamp
stamp seconds = record { inode = 1; seconds = seconds; nanoseconds = 0; length = 3 }

-- a look at a file that was changed at this second and holds these bytes
abbrev pub holds : ℕ → ℕ → List ℕ → Turn
holds at seconds bytes = record { at = at; answers = record { stamp = Ok (stamp seconds); bytes = Ok bytes } }

-- a look at another file, which was changed at the same second
abbrev pub other_holds : ℕ → ℕ → List ℕ → Turn
other_holds at seconds bytes = record { at = at; answers = record { stamp = Ok (record (stamp seconds) { inode = 2 }); bytes = Ok bytes } }

-- a look at a file that can't be looked at
abbrev pub fails : ℕ → FileFault → Turn
fails at fault = record { at = at; answers = record { stamp = Err fault; bytes = Err fault } }

-- a look at a file that can't be read
abbrev pub holds_back : ℕ → ℕ → FileFault → Turn
holds_back at seconds fault = record { at = at; answers = record { stamp = Ok (stamp seconds); bytes = Err fault } }

-- a watch at its start, at moment 0
abbrev pub at_first : WatchState
at_first = record { in_force = codes "old"; refused = None; looked = 0; seen = seens.Nothing; fault = None; told = None }
