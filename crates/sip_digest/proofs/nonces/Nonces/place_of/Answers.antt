use Rattle.std.proofs.Common.{arith}
use Rattle.sip_digest.proofs.Lookups.{newest_at}
use Rattle.sip_digest.proofs.nonces.Nonces.place_of.Goals as goal

pub place_among-requires : goal.place_among-requires
place_among-requires c = record {
  linked = c.self.invariant.1.linked;
  newest = newest_at c.self.inside.rows.items c.self.inside.turn c.self.inside.marks.items c.args.word _ c.index.result.now _ c.self.invariant.1 c.bucket_of.ensures
      c.index.ensures (omega (arith, c.len.ensures, c.self.inside.rows.ok, c.from.ensures));
}
