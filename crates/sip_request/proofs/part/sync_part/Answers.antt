use Rattle.sip_request.proofs.Moving.{held_call, held_second, held_first, Moves-three_back}
use Rattle.sip_request.proofs.Setting.{part_synced}
use Rattle.sip_request.proofs.part.sync_part.Goals as goal

pub sync_slot-call-requires-clause-held : goal.sync_slot-call-requires-clause-held
sync_slot-call-requires-clause-held g c = held_call _ c.args.keys c.args.was.now c.requires.held

pub sync_slot-last-requires-clause-held : goal.sync_slot-last-requires-clause-held
sync_slot-last-requires-clause-held g c = held_second _ _ _ _ _ _ c.requires.held c.sync_slot-call.ensures.moves

pub sync_slot-again-requires-clause-held : goal.sync_slot-again-requires-clause-held
sync_slot-again-requires-clause-held g c = held_first _ _ _ _ _ _ _ _ c.requires.held c.sync_slot-call.ensures.moves c.sync_slot-last.ensures.moves

pub returns-clause-moves : goal.returns-clause-moves
returns-clause-moves g c = Moves-three_back _ _ _ _ _ _ _ _ _ _ c.sync_slot-call.ensures.moves c.sync_slot-last.ensures.moves c.sync_slot-again.ensures.moves

pub returns-clause-sets : goal.returns-clause-sets
returns-clause-sets g c = λ slots next_slots.
    part_synced _ _ _ _ c.args.keys (record { again = c.sync_slot-again.result; last = c.sync_slot-last.result; call = c.sync_slot-call.result }) c.args.was.now
    c.args.next.now slots next_slots
    c.sync_slot-call.ensures.sets c.sync_slot-last.ensures.sets c.sync_slot-again.ensures.sets
