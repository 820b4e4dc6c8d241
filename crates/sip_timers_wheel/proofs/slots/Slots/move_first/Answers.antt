use Rattle.std.proofs.Common.{◌≡◌, ◌<◌, arith, None, [], ◌∷◌, ◌++◌, Some, take, drop, length, get_or, ap, sym, ◌∙◌}
use Rattle.std.specs.Prelude.{slice_set}
use Rattle.slab.specs.Slab.{get}
use Rattle.sip_timers.specs.Timers.{without}
use Rattle.sip_timers_wheel.specs.Threads.{number_of, timer_of, row_of, first_or, lists_of}
use Rattle.sip_timers_wheel.proofs.Threads.{number_is}
use Rattle.sip_timers_wheel.proofs.Whole.{heads_are, head_is, keys_differ_in, first_is, moved}
use Rattle.sip_timers_wheel.proofs.slots.Slots.move_first.Goals as goal

heads_taken : (c : goal.After-self-in-Some-1) → take (c.self.inside.heads).len (c.take_from.new.heads ++ drop (length c.take_from.new.heads) (c.self.inside.heads).items)
    ≡ c.take_from.new.heads
heads_taken c = heads_are (c.self.inside.heads).len (c.self.inside.heads).items c.deref_mut.result.now c.take_from.new.heads c.deref_mut.ensures.value
    c.deref_mut.ensures.len c.take_from.auto.heads

heads_put : (c : goal.After-self-in-Some-1) → take (c.self.inside.heads).len (c.put_into.new.heads
    ++ drop (length c.put_into.new.heads) (take (c.self.inside.heads).len (c.take_from.new.heads ++ drop (length c.take_from.new.heads) (c.self.inside.heads).items)))
    ≡ c.put_into.new.heads
heads_put c = heads_are (c.self.inside.heads).len _ c.deref_mut-in-Some.result.now c.put_into.new.heads c.deref_mut-in-Some.ensures.value c.deref_mut-in-Some.ensures.len
    c.put_into.auto.heads

pub returns-in-Some-clause-moved : goal.returns-in-Some-clause-moved
returns-in-Some-clause-moved c = λ first rest begins.
    let rows = (c.self.inside).rows in
    let items = (c.self.inside.heads).items in
    let was : lists_of rows items ≡ c.args.self.now.lists = ap (λ v. v.lists) c.self.view_is in
    let within : c.args.from < length items = omega (arith, c.requires.from_within, ap length was, c.self.invariant.slots) in
    let held = head_is 0 rows items (lists_of rows items) c.args.from c.index.result.now c.self.invariant within c.index.ensures in
    let here = first_is rows c.index.result.now (get_or (lists_of rows items) c.args.from []) first rest held
    (keys_differ_in 0 rows items (lists_of rows items) c.args.from c.self.invariant) (ap (λ ls. get_or ls c.args.from []) was ∙ begins) in
    let keyed : first.key ≡ (c.in-Some.number).0 = number_is (number_of first) c.in-Some.number (sym here.numbered ∙ c.in-Some.is) in
    let row = row_of None first (first_or rest None) in
    let found : get c.take_from.new.rows (c.in-Some.number).0 ≡ Some row = c.take_from.ensures.row ∙ ap (get rows) (sym keyed) ∙ here.found in
    let middle = lists_of c.take_from.new.rows c.deref_mut-in-Some.result.now in
    let taken : middle ≡ slice_set c.args.self.now.lists c.args.from (without (c.in-Some.number).0 (get_or c.args.self.now.lists c.args.from [])) =
    ap (λ hs. lists_of c.take_from.new.rows hs) (c.deref_mut-in-Some.ensures.value ∙ heads_taken c) ∙ c.take_from.ensures.taken
    ∙ ap (λ ls. slice_set ls c.args.from (without (c.in-Some.number).0 (get_or ls c.args.from []))) (ap (λ hs. lists_of rows hs) c.deref_mut.ensures.value ∙ was) in
    let put : lists_of c.put_into.new.rows c.put_into.new.heads ≡ slice_set middle c.args.to (get_or middle c.args.to [] ++ first ∷ []) = c.put_into.ensures.put row found
    ∙ ap (λ k. slice_set middle c.args.to (get_or middle c.args.to [] ++ timer_of k row ∷ [])) (sym keyed) in
    ap (λ hs. lists_of c.put_into.new.rows hs) (heads_put c) ∙ moved c.args.self.now.lists middle _ c.args.from c.args.to (c.in-Some.number).0 first rest
    c.requires.differ begins here.left keyed taken put
