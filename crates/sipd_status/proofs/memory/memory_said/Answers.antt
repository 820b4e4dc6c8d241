use Rattle.std.proofs.Common.{◌∙◌}
use Rattle.sip_text.proofs.TextLines.{less_behind}
use Rattle.sipd_status.proofs.MemoryLines.{said_behind, said_found}
use Rattle.sipd_status.proofs.memory.memory_said.Goals as goal

pub returns-in-Some-bytes_of : goal.returns-in-Some-bytes_of
returns-in-Some-bytes_of c =
    said_found c.loop-line.rest.now c.in-Some.line.now c.in-Some.rest_behind.now c.in-Some-bytes_of.bytes c.in-Some.ensures c.in-Some-bytes_of.ensures
    ∙ c.loop-line.invariant

pub loop-line-smaller : goal.loop-line-smaller
loop-line-smaller c = less_behind c.loop-line.rest.now c.in-Some.line.now c.in-Some.rest_behind.now c.in-Some.ensures

pub loop-line-preserved : goal.loop-line-preserved
loop-line-preserved c =
    said_behind c.loop-line.rest.now c.in-Some.line.now c.in-Some.rest_behind.now c.in-Some.ensures c.in-None.ensures ∙ c.loop-line.invariant
