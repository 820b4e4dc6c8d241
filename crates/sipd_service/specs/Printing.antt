-- What is printed of a server.
use Rattle.std.specs.Prelude.{ℕ, List, ◌++◌, decimal, codes, Option}
use Rattle.std.specs.Io.KnownBytes.{Appends}
use Rattle.sip_audit.specs.declared.record.Record.{Record}
use Rattle.sip_loop.specs.Printing.{lines_of}
use Rattle.sip_uri.specs.declared.addr.Addr.{Addr}
use Rattle.sip_uri.specs.Addresses.{addr_text}

-- `sipd: serving IP:PORT`, and LF (this project's profile)
abbrev pub serving_text : Addr → List ℕ
serving_text address = codes "sipd: serving " ++ addr_text address ++ codes "\n"

-- `sipd: N turns`, and LF (this project's profile)
abbrev pub turns_text : ℕ → List ℕ
turns_text turns = codes "sipd: " ++ decimal turns ++ codes " turns\n"

-- what was written before the first turn: where a server is, then the lines of what was decided before it began
abbrev pub start_text : Addr → List Record → List ℕ
start_text address decided = serving_text address ++ lines_of decided

-- What was written is where a server is and the lines of what was decided before it began; then the lines of some records; then the
-- number of its turns; and no more.
pub record PrintsServed (address : Addr) (decided : List Record) (turns : ℕ) (old new : Option (List ℕ)) : Type 0 where
  pub records : List Record
  pub written : Appends old new (start_text address decided ++ lines_of records ++ turns_text turns)
