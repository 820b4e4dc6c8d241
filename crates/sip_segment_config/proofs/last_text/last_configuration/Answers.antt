use Rattle.std.proofs.lemmas.Result.{err_from_is_err_and}
use Rattle.sip_replay_script.specs.Lines.{IsSpent, pending}
use Rattle.sip_segment_config.proofs.SoFar.{last_unstated}
use Rattle.sip_segment_config.proofs.last_text.last_configuration.Goals as goal

pub returns-in_err-config-clause-refused : goal.returns-in_err-config-clause-refused
returns-in_err-config-clause-refused g c =
    let p = err_from_is_err_and c.from_residual-in_err-config.result c.from_residual-in_err-config.ensures.1 in
    rw (p.1, p.2) (last_unstated c.args.longest c.args.lines.now.number (IsSpent (g.I.TellingReader.has_failed c.last_text.new.reader) c.last_text.new.lines.asks)
    (pending c.args.lines.now (g.I.TellingReader.remaining c.args.reader.now)) c.in_ok-last.field-0 c.in-Some.last
    c.as_slice.result.now c.in_err-config.field-0.0 c.in-Some.is c.in_ok-last.ensures.found c.as_slice.ensures c.in_err-config.ensures.refused)
