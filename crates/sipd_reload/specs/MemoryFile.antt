-- A file over memory: what it shows, and what it tells of that.
use Rattle.std.specs.Prelude.{ℕ, ◌+◌, zero, suc, min, List, [], ◌∷◌, length, Option, Result, Err}
use Rattle.sipd_reload.specs.File.{short_stamp, short_bytes}
use Rattle.sipd_reload.specs.declared.file_fault.FileFault.{FileFault}
use Rattle.sipd_reload.specs.declared.file_fault.FileFault.TheVariants.{Gone}
use Rattle.sipd_reload.specs.declared.file_state.FileState.{FileState}
use Rattle.sipd_reload.specs.declared.stamp.Stamp.{Stamp}
use Rattle.sipd_reload.specs.declared.file_answer.FileAnswer.{FileAnswer}

-- what a file over memory is seen as: what it shows, state by state; how many of these it has shown; and what it answered, where there was
-- memory to tell it
pub record MemoryFileState : Type 0 where
  pub states : List FileState
  pub shown : ℕ
  pub told : Option (List FileAnswer)

-- there is no file
abbrev pub gone : FileState
gone = record { stamp = Err Gone; bytes = Err Gone }

-- the last of so many states, or this one before the first
abbrev pub last_of : ℕ → FileState → List FileState → FileState
last_of zero before states = before
last_of (suc n) before [] = before
last_of (suc n) before (state ∷ rest) = last_of n state rest

-- how many it has shown once it shows the next one, where there is one
abbrev pub next_shown : MemoryFileState → ℕ
next_shown file = min (file.shown + 1) (length file.states)

-- the stamp that it shows when so many states are shown
abbrev pub stamp_at : List FileState → ℕ → Result Stamp FileFault
stamp_at states shown = short_stamp (last_of shown gone states).stamp

-- and the bytes
abbrev pub bytes_at : List FileState → ℕ → Result (List ℕ) FileFault
bytes_at states shown = short_bytes (last_of shown gone states).bytes
