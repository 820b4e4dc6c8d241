use Rattle.std.proofs.Common.{ap, sym, ◌∙◌, arith, eqb}
use Rattle.std.specs.Prelude.{not, ◌&&◌, count_by}
use Rattle.sip_timers.specs.Timers.{keys_with}
use Rattle.sip_timers_wheel.specs.Lists.{concat}
use Rattle.sip_timers_wheel.specs.Threads.{lists_of}
use Rattle.sip_timers_wheel.proofs.Whole.{row_of_key, due_in_all}
use Rattle.sip_timers_wheel.proofs.slots.Slots.due_of.Goals as goal

pub index-requires : goal.index-requires
index-requires c = row_of_key 0 (c.self.inside).rows (c.self.inside.heads).items (lists_of (c.self.inside).rows (c.self.inside.heads).items) c.args.key c.self.invariant
    (omega (arith, c.requires, ap (λ v. keys_with c.args.key (concat v.lists)) c.self.view_is))

pub returns : goal.returns
returns c = sym (ap (λ v. count_by (λ t. eqb t.key c.args.key && not (eqb t.due (c.index.result.now).due)) (concat v.lists)) c.self.view_is)
    ∙ due_in_all 0 (c.self.inside).rows (c.self.inside.heads).items (lists_of (c.self.inside).rows (c.self.inside.heads).items) c.args.key c.index.result.now
    c.self.invariant c.index.ensures
