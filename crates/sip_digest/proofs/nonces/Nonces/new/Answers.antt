use Rattle.std.proofs.Common.{List, subst, sym, arith}
use Rattle.sip_digest.specs.declared.nonces.NonceRow.{NonceRow}
use Rattle.sip_digest.specs.Rows.{nonces_in, buckets_of, gaps_in, AreKept}
use Rattle.sip_digest.proofs.Rows.{kept_none}
use Rattle.sip_digest.proofs.nonces.Nonces.new.Goals as goal

pub invariant_of-result : goal.invariant_of-result
invariant_of-result c = (
  omega (arith, c.in_ok-rows.ensures.exact),
  subst (λ (rows : List NonceRow). AreKept (buckets_of (nonces_in rows)) (gaps_in rows) 0 c.in_ok-marks.marks.items) (sym c.in_ok-rows.ensures.items)
      (kept_none 0 c.in_ok-marks.marks.items c.in_ok-marks.ensures),
)
