use Rattle.std.proofs.Common.{arith, leb, eqb}
use Rattle.std.specs.Prelude.{not, ◌&&◌}
use Rattle.std.proofs.lemmas.Bool.Decides.{nat_tests}
use Rattle.sip_timers.proofs.Placing.{count-without}
use Rattle.sip_timers.proofs.Counting.{count_le}
use Rattle.sip_timers.proofs.list_timers.ListTimersTimers.cancel.Goals as goal

pub invariant_of-self : goal.invariant_of-self
invariant_of-self c =
    let k = c.self.inside.next_key in
    let rows = c.self.inside.rows.items in
    let e = count-without (λ t. leb k t.key) c.args.key rows in
    let le = count_le (λ t. not (eqb t.key c.args.key) && leb k t.key) (λ t. leb k t.key) rows (λ t h. grind (arith, nat_tests)) in
    rw c.remove_key.ensures.gone (omega (arith, e, le, c.self.invariant))
