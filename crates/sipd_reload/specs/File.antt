-- What a watched file answers, and what it tells of that.
use Rattle.std.specs.Prelude.{◌≡◌, ◌≤◌, ◌<◌, ◌+◌, ⊤, ℕ, nat_eq, nat_le, Bool, ◌&&◌, List, [], ◌∷◌, ◌++◌, length, Option, None, Some, Result, Ok, Err, if◌then◌else◌}
use Rattle.std.specs.Io.KnownBytes.{Consumes, IsAtEnd}
use Rattle.std.specs.declared.io.ErrorKind.{ErrorKind}
use Rattle.std.specs.declared.io.ErrorKind.TheVariants.{NotFound, OutOfMemory}
use Rattle.sipd_reload.specs.declared.file_fault.FileFault.{FileFault}
use Rattle.sipd_reload.specs.declared.file_fault.FileFault.TheVariants.{NoMemory, Gone, TooLong, Device}
use Rattle.sipd_reload.specs.declared.stamp.Stamp.{Stamp}
use Rattle.sipd_reload.specs.declared.file_answer.FileAnswer.{FileAnswer}

-- the most bytes that are read of a configuration
abbrev pub most_bytes : ℕ
most_bytes = 16777216

-- which fault an error of the system is
abbrev pub fault_of : ErrorKind → FileFault
fault_of OutOfMemory = NoMemory
fault_of NotFound = Gone
fault_of kind = Device

-- whether two stamps are the same: of one file, of one moment, and as long
abbrev pub same_stamp : Stamp → Stamp → Bool
same_stamp left right =
    nat_eq left.inode right.inode && nat_eq left.seconds right.seconds && nat_eq left.nanoseconds right.nanoseconds && nat_eq left.length right.length

-- what a file told has grown by this answer, where it is told still
abbrev pub GrewBy : FileAnswer → Option (List FileAnswer) → Option (List FileAnswer) → Type 0
GrewBy last old None = ⊤
GrewBy last None (Some all) = ⊥
GrewBy last (Some list) (Some all) = all ≡ list ++ last ∷ []

-- what a file told has grown by these answers, one after the other, and by no other
abbrev pub GrewByAll : List FileAnswer → Option (List FileAnswer) → Option (List FileAnswer) → Type 0
GrewByAll [] old new = new ≡ old
GrewByAll (first ∷ rest) old new = (between : Option (List FileAnswer)) × GrewBy first old between × GrewByAll rest between new

-- ---- reading

-- all that a reader had yet to give are these bytes, no more than are read
pub record IsAll (before after : Option (List ℕ)) (bytes : List ℕ) : Type 0 where
  pub given : Consumes before after bytes
  pub over : IsAtEnd after
  pub short : length bytes ≤ most_bytes

-- it gave some bytes, at least one, which stand behind others now, and are one byte more than are read at the most
pub record Grows (before after : Option (List ℕ)) (old new : List ℕ) : Type 0 where
  pub part : List ℕ
  pub given : Consumes before after part
  pub grown : new ≡ old ++ part
  pub more : length old < length new
  pub few : length new ≤ most_bytes + 1

-- it had yet to give more bytes than are read, of which it gave one too many and no more
pub record IsLonger (before after : Option (List ℕ)) : Type 0 where
  pub bytes : List ℕ
  pub given : Consumes before after bytes
  pub long : length bytes ≡ most_bytes + 1

-- ---- limits

-- a stamp of a file that is no longer than is read
abbrev pub short_stamp : Result Stamp FileFault → Result Stamp FileFault
short_stamp (Ok stamp) = if nat_le stamp.length most_bytes then Ok stamp else Err TooLong
short_stamp (Err fault) = Err fault

-- bytes that are no more than are read
abbrev pub short_bytes : Result (List ℕ) FileFault → Result (List ℕ) FileFault
short_bytes (Ok bytes) = if nat_le (length bytes) most_bytes then Ok bytes else Err TooLong
short_bytes (Err fault) = Err fault
