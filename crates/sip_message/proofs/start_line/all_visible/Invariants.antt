use Rattle.std.proofs.Common.{◌≡◌, drop}
use Rattle.std.specs.List.{list_all}
use Rattle.sip_text_runs.specs.TextRun.{is_visible}
use Rattle.sip_message.proofs.start_line.all_visible.Given as goal

-- the rest decides
abbrev pub invariant-loop-byte : goal.invariant-loop-byte
invariant-loop-byte l = list_all is_visible (drop l.byte-index l.bytes) ≡ list_all is_visible l.bytes
