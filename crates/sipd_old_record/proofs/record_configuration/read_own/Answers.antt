use Rattle.std.proofs.Common.{inr}
use Rattle.std.proofs.lemmas.Result.{err_from_is_err_and}
use Rattle.sip_replay_script.specs.Lines.{IsSpent, pending}
use Rattle.sipd_old_record.proofs.Owned.{other_stops}
use Rattle.sipd_old_record.proofs.record_configuration.read_own.Goals as goal

pub returns-in_err-held-clause-refused : goal.returns-in_err-held-clause-refused
returns-in_err-held-clause-refused g c =
    let p = err_from_is_err_and c.from_residual.result c.from_residual.ensures.1 in
    rw (p.1, p.2) (inr (inr c.in_err-held.ensures.refused))

pub returns-in_err-check_digest-clause-refused : goal.returns-in_err-check_digest-clause-refused
returns-in_err-check_digest-clause-refused g c =
    let p = err_from_is_err_and c.from_residual-in_err-check_digest.result c.from_residual-in_err-check_digest.ensures.1 in
    rw (p.1, p.2) (other_stops c.args.head.now.digest (IsSpent (g.I.TellingReader.has_failed c.read_configuration.new.reader) c.read_configuration.new.lines.asks)
    (pending c.args.lines.now (g.I.TellingReader.remaining c.args.reader.now)) c.args.lines.now.number c.in-Some.held.text c.in_err-check_digest.field-0.0
    (rw c.in-Some.is at c.in_ok-held.ensures.next) (rw c.as_slice.ensures at c.in_err-check_digest.ensures.other))
