use Rattle.std.proofs.Common.{◌≤◌, ◌/◌, ◌++◌, length, decimal, drop, refl, ap, ◌∙◌, arith}
use Rattle.sip_replay_script.proofs.HeadLines.{pair_more, pair_only, pair_less, digit_only, few_digits, some_digit, two_digits}
use Rattle.sip_replay_script.proofs.front.put_number.Goals as goal

pub loop-left-init : goal.loop-left-init
loop-left-init c =
    let few : length (decimal c.args.number) ≤ 20 = few_digits c.args.number (omega arith) in (omega arith, refl, refl, omega (arith, few))

pub put_pair-start-requires-clause-place : goal.put_pair-start-requires-clause-place
put_pair-start-requires-clause-place c =
    let l = c.loop-left in
    let some : 2 ≤ length (decimal l.left) = two_digits l.left (omega arith) (omega arith) in
    (omega (arith, some, l.invariant, c.requires), omega (arith, l.invariant, c.requires))

pub loop-left-preserved : goal.loop-left-preserved
loop-left-preserved c =
    let l = c.loop-left in
    let less = pair_less l.left (omega arith) (omega arith) in (
      omega (arith, l.invariant, c.put_pair-start.ensures.place),
      c.put_pair-start.ensures.len ∙ l.invariant.1,
      ap (λ digits. decimal (l.left / 100) ++ digits) c.put_pair-start.ensures.text
          ∙ pair_more l.left (drop l.start l.room) (decimal c.args.number ++ drop c.args.end c.args.room.now) (omega arith) (omega arith) l.invariant.2,
      omega (arith, less, l.invariant, c.put_pair-start.ensures.place),
    )

pub put_pair-requires-clause-place : goal.put_pair-requires-clause-place
put_pair-requires-clause-place c =
    let l = c.loop-left in
    let some : 2 ≤ length (decimal l.left) = two_digits l.left (omega arith) (omega arith) in
    (omega (arith, some, l.invariant, c.requires), omega (arith, l.invariant, c.requires))

pub returns-then-left-ge10-clause-text : goal.returns-then-left-ge10-clause-text
returns-then-left-ge10-clause-text c =
    let l = c.loop-left in
    c.put_pair.ensures.text ∙ pair_only l.left (drop l.start l.room) (decimal c.args.number ++ drop c.args.end c.args.room.now) (omega arith) (omega arith) l.invariant.2

pub returns-then-left-ge10-clause-within : goal.returns-then-left-ge10-clause-within
returns-then-left-ge10-clause-within c =
    let l = c.loop-left in
    let some : 2 ≤ length (decimal l.left) = two_digits l.left (omega arith) (omega arith) in
    (omega (arith, l.invariant, c.put_pair.ensures.place), omega (arith, some, l.invariant, c.put_pair.ensures.place))

pub put_byte-requires : goal.put_byte-requires
put_byte-requires c =
    let l = c.loop-left in
    let some : 1 ≤ length (decimal l.left) = some_digit l.left (omega arith) in (omega (arith, some, l.invariant, c.requires), omega (arith, l.invariant, c.requires))

pub returns-clause-text : goal.returns-clause-text
returns-clause-text c =
    let l = c.loop-left in
    c.put_byte.ensures.text ∙ digit_only l.left (drop l.start l.room) (decimal c.args.number ++ drop c.args.end c.args.room.now) (omega arith) l.invariant.2

pub returns-clause-within : goal.returns-clause-within
returns-clause-within c =
    let l = c.loop-left in
    let some : 1 ≤ length (decimal l.left) = some_digit l.left (omega arith) in
    (omega (arith, l.invariant, c.put_byte.ensures.place), omega (arith, some, l.invariant, c.put_byte.ensures.place))
