use Rattle.std.proofs.Common.{◌≤◌, length, refl, arith}
use Rattle.sip_text.proofs.Alike.{alike_read, alike_all}
use Rattle.sip_fork.proofs.contexts.Contexts.has_requests_of.Goals as goal

pub get-mine-requires : goal.get-mine-requires
get-mine-requires g c = omega (arith, c.len-count.ensures.value, c.loop-place-test.true)

pub get-theirs-requires : goal.get-theirs-requires
get-theirs-requires g c = omega (arith, c.len-other_count.ensures.value, c.if-count-other_count.false, c.loop-place-test.true)

pub loop-place-preserved : goal.loop-place-preserved
loop-place-preserved g c =
    alike_read c.args.self.now.requests c.args.other.now.requests c.loop-place.place c.get-mine.result.now c.get-theirs.result.now c.get-mine.ensures
    c.get-theirs.ensures (c.if-not-is_same.ensures refl) c.loop-place.invariant

pub returns : goal.returns
returns g c = λ _.
    let in_mine : length c.args.self.now.requests ≤ c.loop-place.place = omega (arith, c.len-count.ensures.value, c.loop-place-test.false) in
    let in_theirs : length c.args.other.now.requests ≤ c.loop-place.place = omega (
      arith,
      c.len-other_count.ensures.value,
      c.if-count-other_count.false,
      c.loop-place-test.false,
    ) in
    alike_all c.args.self.now.requests c.args.other.now.requests c.loop-place.place in_mine in_theirs c.loop-place.invariant
