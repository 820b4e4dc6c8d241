use Rattle.std.proofs.Common.{sym, ◌∙◌}
use Rattle.sip_journal.proofs.Configuring.{front_of_last, ok_is, writes_configuration}
use Rattle.sip_journal.proofs.configuration_lines.write_configuration.Goals as goal

pub returns-clause-written : goal.returns-clause-written
returns-clause-written g c = λ ok.
    writes_configuration (g.W.TellingWriter.contents c.args.writer.now) (g.W.TellingWriter.contents c.write_text.new.writer)
    (g.W.TellingWriter.contents c.write.new.writer) (g.W.TellingWriter.is_flushed c.write.new.writer)
    c.args.configuration.now c.plain.result.now c.configuration_line.result (c.write_text.ensures.written c.if-not-write_text.false) c.configuration_line.ensures
    c.plain.ensures
    (ok_is c.write.result (sym c.is_ok.ensures.value ∙ ok) c.write.ensures.text) (ok_is c.write.result (sym c.is_ok.ensures.value ∙ ok) c.write.ensures.handed_on)

pub returns-clause-part : goal.returns-clause-part
returns-clause-part g c =
    front_of_last (g.W.TellingWriter.contents c.args.writer.now) (g.W.TellingWriter.contents c.write_text.new.writer) (g.W.TellingWriter.contents c.write.new.writer)
    c.args.configuration.now c.plain.result.now
    c.configuration_line.result (c.write_text.ensures.written c.if-not-write_text.false) c.configuration_line.ensures c.plain.ensures c.write.ensures.part
