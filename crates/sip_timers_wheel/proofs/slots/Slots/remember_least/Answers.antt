use Rattle.std.proofs.Common.{◌≡◌, ◌<◌, List, length, ap, sym, subst, ◌∙◌, arith}
use Rattle.std.specs.Prelude.{slice_set}
use Rattle.sip_timers.specs.declared.timer.Timer.{Timer}
use Rattle.sip_timers_wheel.specs.Threads.{list_of, lists_of, KnowsLeast, AreHeld}
use Rattle.sip_timers_wheel.proofs.Whole.{remembered, held_again, lists_are, list_of_head}
use Rattle.sip_timers_wheel.proofs.slots.Slots.remember_least.Goals as goal

held : (c : goal.After-self-1) → AreHeld 0 (c.self.inside).rows (slice_set (c.self.inside.heads).items c.args.slot
    (record c.index_mut.result.now { least = c.least_number-least.result })) (lists_of (c.self.inside).rows (c.self.inside.heads).items)
held c =
    let rows = (c.self.inside).rows in
    let items = (c.self.inside.heads).items in
    let within : c.args.slot < length items = omega (arith, c.requires, c.self.invariant.slots, ap (λ v. length v.lists) c.self.view_is) in
    let same : list_of rows c.index-2.result.now ≡ list_of rows c.index_mut.result.now = list_of_head rows items c.args.slot c.index-2.result.now within c.index-2.ensures
    ∙ sym (list_of_head rows items c.args.slot c.index_mut.result.now within c.index_mut.ensures.value) in
    let P : List Timer → Type 0 = λ ts. KnowsLeast c.least_number-least.result ts in
    remembered rows items c.args.slot c.index_mut.result.now c.least_number-least.result c.self.invariant within c.index_mut.ensures.value
    (subst P same c.least_number-least.ensures)

pub invariant_of-self : goal.invariant_of-self
invariant_of-self c = held_again 0 _ _ _ (held c)

pub returns-clause-same : goal.returns-clause-same
returns-clause-same c = lists_are 0 _ _ _ (held c) ∙ ap (λ v. v.lists) c.self.view_is
