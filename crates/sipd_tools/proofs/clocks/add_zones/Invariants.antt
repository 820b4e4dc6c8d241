use Rattle.sip_replay_script.specs.Lines.{left, pending}
use Rattle.sipd_tools.specs.Clocks.{IsSoFar}
use Rattle.sipd_tools.proofs.clocks.add_zones.Given as goal

-- the parts so far, and what is known of the clock by them
abbrev pub invariant-parts : goal.invariant-parts
invariant-parts g l =
    IsSoFar (g.I.TellingReader.remaining l.fn.events) l.fn.zones.items l.zones.items l.set (pending l.lines (g.I.TellingReader.remaining l.events))

abbrev pub decreases-parts : goal.decreases-parts
decreases-parts g l = left l.lines
