use Rattle.std.proofs.Common.{◌∙◌}
use Rattle.sip_timers_wheel.specs.Threads.{list_of}
use Rattle.sip_timers_wheel.proofs.Holding.{row_stands, previous_stands, next_still_stands, held_taken, others_taken}
use Rattle.sip_timers_wheel.proofs.head.ListHead.take_out.Goals as goal

pub index-row-requires : goal.index-row-requires
index-row-requires c = row_stands c.args.rows.now _ (list_of c.args.rows.now c.args.self.now) _ c.args.number.0 c.requires.held.thread c.requires.present

pub set_next-requires : goal.set_next-requires
set_next-requires c = previous_stands c.args.rows.now (list_of c.args.rows.now c.args.self.now) c.args.number.0 c.index-row.result.now c.requires.held.thread
    c.requires.differ c.requires.present c.index-row.ensures

pub set_previous-requires : goal.set_previous-requires
set_previous-requires c = next_still_stands c.args.rows.now c.set_next.new.rows (list_of c.args.rows.now c.args.self.now) c.args.number.0 c.index-row.result.now
    c.requires.held.thread c.requires.differ c.requires.present c.index-row.ensures c.set_next.ensures.next

pub returns-clause-taken : goal.returns-clause-taken
returns-clause-taken c = held_taken c.args.rows.now c.set_next.new.rows c.set_previous.new.rows c.args.self.now _ (list_of c.args.rows.now c.args.self.now)
    c.args.number.0 c.index-row.result.now c.requires.held c.requires.differ c.requires.present c.index-row.ensures c.set_next.ensures.next
    c.set_previous.ensures.previous (c.set_previous.ensures.size.len ∙ c.set_next.ensures.size.len) (c.forget.ensures.ends.0 ∙ c.end_without-self.ensures)
    (c.forget.ensures.ends.1 ∙ c.end_without-self-2.ensures) c.forget.ensures.rising c.forget.ensures.least c.forget.ensures.second

pub returns-clause-others : goal.returns-clause-others
returns-clause-others c = others_taken c.args.rows.now c.set_next.new.rows c.set_previous.new.rows (list_of c.args.rows.now c.args.self.now) c.args.number.0
    c.index-row.result.now c.requires.held.thread c.requires.differ c.requires.present c.index-row.ensures c.set_next.ensures.next c.set_previous.ensures.previous
