-- What is printed of decisions.
use Rattle.std.specs.Prelude.{⊤, ℕ, List, ◌++◌, codes, Option, Some, None}
use Rattle.std.specs.List.{flat_map}
use Rattle.std.specs.Io.KnownBytes.{Appends}
use Rattle.sip_audit.specs.declared.record.Record.{Record}
use Rattle.sip_audit.specs.Lines as Audit

-- a record's line, and LF
abbrev pub record_text : Record → List ℕ
record_text r = Audit.line_of r ++ codes "\n"

-- the lines of records
abbrev pub lines_of : List Record → List ℕ
lines_of records = flat_map record_text records

-- the bytes grew by these lines, where they are told, unless what they are printed on has failed; what has failed stays so
abbrev pub Prints : Option (Option (List ℕ)) → Option (Option (List ℕ)) → List Record → Type 0
Prints old None records = ⊤
Prints None (Some new) records = ⊥
Prints (Some old) (Some new) records = Appends old new (lines_of records)
