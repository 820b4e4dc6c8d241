use Rattle.std.proofs.Common.{refl, sym}
use Rattle.std.proofs.lemmas.Option.{slice_get_read}
use Rattle.sip_digest.proofs.Rows.{nonce_at}
use Rattle.sip_digest.proofs.Lasting.{none_at}
use Rattle.sip_digest.proofs.nonces.nonce_at.Goals as goal

pub returns-in-Some : goal.returns-in-Some
returns-in-Some c =
    sym (nonce_at c.args.rows.now.items c.args.place c.in-Some.row.now
    (slice_get_read c.args.rows.now.items _ _ _ refl c.in-Some.ensures.item.3.0 c.in-Some.ensures.lookup))

pub returns-in-None : goal.returns-in-None
returns-in-None c = sym (none_at c.args.rows.now.items c.args.place c.in-None.ensures.item.3)
