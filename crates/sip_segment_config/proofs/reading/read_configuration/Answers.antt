use Rattle.std.proofs.Common.{◌≡◌, ◌+◌, Some, ap, arith}
use Rattle.std.proofs.lemmas.Result.{err_from_is_err_and}
use Rattle.sip_replay_script.specs.Lines.{IsSpent}
use Rattle.sip_segment_config.proofs.Stopping.{is_next, unstated_next}
use Rattle.sip_segment_config.proofs.reading.read_configuration.Goals as goal

pub returns-in_err-config-clause-refused : goal.returns-in_err-config-clause-refused
returns-in_err-config-clause-refused g c =
    let there : c.in-Ok-Some.field-0 ≡ Some c.in-Ok-Some.text = grind (arith, c.in-Ok-Some.is, c.in-Ok-Some.field-0-is) in
    let p = err_from_is_err_and c.from_residual.result c.from_residual.ensures.1 in
    rw (p.1, p.2) (unstated_next c.args.longest (IsSpent (g.I.TellingReader.has_failed c.next_configuration.new.reader) c.next_configuration.new.lines.asks)
    c.args.lines.now c.next_configuration.new.lines
    (g.I.TellingReader.remaining c.args.reader.now) (g.I.TellingReader.remaining c.next_configuration.new.reader) c.args.lines.now.number (c.number-first.result + 1)
    c.as_slice.result.now c.in-Ok-Some.text c.in_err-config.field-0.0
    (ap (λ n. n + 1) c.number-first.ensures.value) c.as_slice.ensures (rw there at c.in-Ok-Some.ensures.given) c.in_err-config.ensures.refused)

pub returns-clause-next : goal.returns-clause-next
returns-clause-next g c =
    let there : c.in-Ok-Some.field-0 ≡ Some c.in-Ok-Some.text = grind (arith, c.in-Ok-Some.is, c.in-Ok-Some.field-0-is) in
    is_next c.args.lines.now c.next_configuration.new.lines (g.I.TellingReader.remaining c.args.reader.now) (g.I.TellingReader.remaining c.next_configuration.new.reader)
    c.in-Ok-Some.text (rw there at c.in-Ok-Some.ensures.given)
