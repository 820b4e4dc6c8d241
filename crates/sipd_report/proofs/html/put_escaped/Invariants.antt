use Rattle.std.proofs.Common.{◌≡◌, ◌++◌, take}
use Rattle.std.specs.List.{flat_map}
use Rattle.sipd_report.specs.Html.{escaped_byte}
use Rattle.sipd_report.proofs.html.put_escaped.Given as goal

-- what is written so far
abbrev pub invariant-loop-byte : goal.invariant-loop-byte
invariant-loop-byte l = l.text ≡ l.fn.text ++ flat_map (escaped_byte) (take l.byte-index l.more)
