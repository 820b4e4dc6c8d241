-- A password that is read, byte by byte.
use Rattle.std.specs.Prelude.{◌≡◌, ℕ, List, [], ◌∷◌, ◌++◌, take, Option, Some, None, ⊤}
use Rattle.std.specs.Io.KnownBytes.{Consumes, IsAtEnd, Keeps}
use Rattle.sipd_ask.specs.Fronts.{front_before}
use Rattle.sipd_ask.specs.User.{without_cr}

-- a byte was read, or the input is at its end and stays so
abbrev pub ReadsByte : Option (List ℕ) → Option (List ℕ) → Option ℕ → Type 0
ReadsByte old new None = Keeps old new × IsAtEnd new
ReadsByte old new (Some byte) = Consumes old new (byte ∷ [])

-- where it is known what an input holds: what was read is the front of its first line, and the rest is still there
abbrev pub HasRead : Option (List ℕ) → Option (List ℕ) → List ℕ → Type 0
HasRead None now line = ⊤
HasRead (Some text) None line = ⊥
HasRead (Some text) (Some rest) line = front_before 10 text ≡ line ++ front_before 10 rest

-- where it is known what an input holds: what stands before its first LF, or the first 1,026 bytes of that
abbrev pub ReadsLine : Option (List ℕ) → List ℕ → Type 0
ReadsLine None line = ⊤
ReadsLine (Some text) line = line ≡ take 1026 (front_before 10 text)

-- the same without a CR at the end
abbrev pub ReadsPassword : Option (List ℕ) → List ℕ → Type 0
ReadsPassword None password = ⊤
ReadsPassword (Some text) password = password ≡ without_cr (take 1026 (front_before 10 text))
