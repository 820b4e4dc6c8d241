use Rattle.std.proofs.Common.{◌≡◌, ℕ, get_or, ap, arith}
use Rattle.std.proofs.lemmas.List.{get_or_read}
use Rattle.sip_digest.specs.Rows.{passed_since}
use Rattle.sip_digest.proofs.Rows.{kept_behind, nonces_behind}
use Rattle.sip_digest.proofs.nonces.Nonces.push.Goals as goal

pub invariant_of-self : goal.invariant_of-self
invariant_of-self c =
    let read : c.index.result.now ≡ get_or c.self.inside.marks.items c.bucket_of-bucket.result 0 =
    get_or_read c.self.inside.marks.items c.bucket_of-bucket.result c.index.result.now (omega (arith, c.self.invariant.1.sized, c.bucket_of-bucket.ensures))
    c.index.ensures 0 in (
      omega (arith, c.self.invariant.0, c.put_behind.ensures.room),
      kept_behind c.self.inside.rows.items c.put_behind.new.rows.items _ c.bucket_of-bucket.result c.self.inside.turn c.self.inside.marks.items c.put_behind.ensures.items
          c.bucket_of-bucket.ensures
          (ap (λ (m : ℕ). passed_since m c.self.inside.turn) read) c.self.invariant.1,
    )

pub returns : goal.returns
returns c = nonces_behind c.self.inside.rows.items c.put_behind.new.rows.items _ c.args.self.now c.put_behind.ensures.items c.self.view_is
