use Rattle.std.proofs.Common.{ap, ◌∙◌, length, arith, ◌<◌}
use Rattle.sip_timers_wheel.specs.Lists.{list_at, least}
use Rattle.sip_timers_wheel.proofs.Whole.{held_at, list_of_head}
use Rattle.sip_timers_wheel.proofs.slots.Slots.least.Goals as goal

pub least_of-requires : goal.least_of-requires
least_of-requires c =
    let within : c.args.slot < length (c.self.inside.heads).items = omega (arith, c.requires, c.self.invariant.slots, ap (λ v. length v.lists) c.self.view_is) in
    held_at 0 (c.self.inside).rows (c.self.inside.heads).items c.args.slot c.index.result.now c.self.invariant within c.index.ensures

pub returns : goal.returns
returns c =
    let within : c.args.slot < length (c.self.inside.heads).items = omega (arith, c.requires, c.self.invariant.slots, ap (λ v. length v.lists) c.self.view_is) in
    c.least_of.ensures ∙ ap least (list_of_head (c.self.inside).rows (c.self.inside.heads).items c.args.slot c.index.result.now within c.index.ensures
    ∙ ap (λ v. list_at v.lists c.args.slot) c.self.view_is)
