use Rattle.sip_digest.specs.Rows.{nonces_in}
use Rattle.sip_digest.proofs.Lookups.{Seeks}
use Rattle.sip_digest.proofs.nonces.place_among.Given as goal

abbrev pub invariant-loop-front : goal.invariant-loop-front
invariant-loop-front l = Seeks (nonces_in l.rows.items) l.word l.now l.front l.place

abbrev pub decreases-loop-front : goal.decreases-loop-front
decreases-loop-front l = l.front
