use Rattle.std.proofs.Common.{◌≡◌, length}
use Rattle.sip_uri.specs.Reading.{headers_of}
use Rattle.sip_uri.proofs.Collecting.{behind}
use Rattle.sip_uri.proofs.headers.list_headers.Given as goal

-- the headers so far, in front of those of the rest, are those of the whole
abbrev pub invariant-loop-part : goal.invariant-loop-part
invariant-loop-part l = behind l.headers (headers_of l.rest) ≡ headers_of l.fn.text

abbrev pub decreases-loop-part : goal.decreases-loop-part
decreases-loop-part l = length l.rest
