use Rattle.std.proofs.Common.{◌≡◌, ◌+◌, ◌*◌, ◌∙◌, ◌<◌, true, sym, subst, arith}
use Rattle.std.specs.Prelude.{slice_index}
use Rattle.std.specs.Char.{is_ascii_digit}
use Rattle.sip_replay_script.proofs.HeadAtOnce.{AreDigits, is_digit, one_more, one_more_fits}
use Rattle.sip_replay_script.proofs.script.number_before.Goals as goal

pub overflow_mul-number : goal.overflow_mul-number
overflow_mul-number c =
    let l = c.loop-count in
    let lt : l.count < c.args.most = omega (arith, l.invariant.1, c.if-count-most.false) in
    record { fits = omega (arith, one_more_fits l.number l.count c.args.most 0 l.invariant.0.small lt c.requires.1 (omega arith)) }

pub overflow_add-number : goal.overflow_add-number
overflow_add-number c =
    let l = c.loop-count in
    let lt : l.count < c.args.most = omega (arith, l.invariant.1, c.if-count-most.false) in
    let is : is_ascii_digit (slice_index c.args.text.now (c.args.from + l.count)) ≡ true = sym c.is_ascii_digit.ensures.value ∙ c.if-not-is_ascii_digit.false in
    let digit = is_digit (slice_index c.args.text.now (c.args.from + l.count)) is in
    record { fits = one_more_fits l.number l.count c.args.most c.from.result l.invariant.0.small lt c.requires.1 (omega (arith, c.from.ensures, digit.1)) }

pub loop-count-preserved : goal.loop-count-preserved
loop-count-preserved c =
    let l = c.loop-count in
    let lt : l.count < c.args.most = omega (arith, l.invariant.1, c.if-count-most.false) in
    let is : is_ascii_digit (slice_index c.args.text.now (c.args.from + l.count)) ≡ true = sym c.is_ascii_digit.ensures.value ∙ c.if-not-is_ascii_digit.false in (
      subst (λ n. AreDigits c.args.text.now c.args.from (l.count + 1) (l.number * 10 + n)) (sym c.from.ensures)
          (one_more c.args.text.now c.args.from l.count l.number l.invariant.0 (omega (arith, c.requires.0, lt)) is),
      omega (arith, lt),
    )
