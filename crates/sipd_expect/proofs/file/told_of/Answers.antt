use Rattle.sip_text.proofs.TextLines.{less_behind}
use Rattle.sipd_expect.proofs.Files.{leads_first, refused_here}
use Rattle.sipd_expect.proofs.file.told_of.Goals as goal

pub loop-line-init : goal.loop-line-init
loop-line-init c = leads_first _ _

pub loop-line-smaller : goal.loop-line-smaller
loop-line-smaller c = less_behind c.loop-line.rest.now c.in-Some.line.now c.in-Some.behind.now c.in-Some.ensures

pub returns-in-Err-clause-refused : goal.returns-in-Err-clause-refused
returns-in-Err-clause-refused c =
    refused_here c.args.config.now c.args.file.now c.loop-line.rest.now c.in-Some.line.now c.in-Some.behind.now c.loop-line.holds c.in-Err.why c.in-Some.ensures
    c.in-Err.ensures.refused c.loop-line.invariant
