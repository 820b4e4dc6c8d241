-- With which numbers a server starts that goes on.
use Rattle.std.specs.Prelude.{ℕ}
use Rattle.sip_event.specs.declared.event.Boot.{Boot}
use Rattle.sip_journal.specs.declared.record_head.RecordHead.{RecordHead}

-- a start that goes on from a record: word and first number are those of its first line, under a secret of its own
abbrev pub boot_again : RecordHead → ℕ → Boot
boot_again head keys = record { word = head.word; first = head.first; keys = keys }
