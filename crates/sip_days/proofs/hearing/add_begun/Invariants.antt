use Rattle.std.proofs.Common.{◌≡◌, ◌++◌, take}
use Rattle.std.specs.List.{flat_map}
use Rattle.sip_days.specs.Begun.{begun_if}
use Rattle.sip_days.specs.Changing.{is_open, places_from}
use Rattle.sip_days.proofs.hearing.add_begun.Given as goal

-- those of the records so far are added, and the places of those that may change
abbrev pub invariant-loop-decision : goal.invariant-loop-decision
invariant-loop-decision l =
    (l.calls ≡ l.fn.calls ++ flat_map (begun_if l.config.offset l.event l.out) (take l.decision-index l.decisions))
    × (l.places ≡ places_from is_open 0 l.calls)
