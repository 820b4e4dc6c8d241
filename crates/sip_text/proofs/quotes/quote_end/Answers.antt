use Rattle.std.proofs.Common.{◌≤◌, length, get_or, arith, ne_eqb}
use Rattle.sip_text.proofs.QuoteEnds.{pair_passed}
use Rattle.sip_text.proofs.quotes.quote_end.Goals as goal

pub loop-at-preserved : goal.loop-at-preserved
loop-at-preserved c =
    let stop = c.split_at.result.1.now in
    let behind = c.split_at-in-Some.result.1.now in
    let two : 2 ≤ length stop = omega arith in
    record {
      within = omega (arith, c.loop-at.invariant.within, c.split_at.ensures.back_len, c.split_at-in-Some.ensures.back_len);
      so_far = pair_passed c.args.inside.now c.loop-at.rest.now stop behind c.in-Some.at c.loop-at.invariant.within c.loop-at.invariant.so_far c.in-Some.ensures
          c.split_at.ensures.back (ne_eqb (get_or stop 0 0) 34 c.if-stop-eq34.false) two c.split_at-in-Some.ensures.back;
    }
