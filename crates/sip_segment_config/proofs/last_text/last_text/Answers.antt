use Rattle.std.proofs.Common.{◌∙◌}
use Rattle.std.proofs.lemmas.Result.{err_from_is_err_and}
use Rattle.sip_replay_script.specs.Lines.{IsSpent, pending}
use Rattle.sip_segment_config.proofs.SoFar.{fewer_asks, so_far_more, stops_so}
use Rattle.sip_segment_config.proofs.last_text.last_text.Goals as goal

pub returns-in_err-part-clause-refused : goal.returns-in_err-part-clause-refused
returns-in_err-part-clause-refused g c =
    let p = err_from_is_err_and c.from_residual.result c.from_residual.ensures.1 in
    rw (p.1, p.2) (stops_so c.segments_join.ensures.both c.args.longest c.args.lines.now.number c.parts.lines.number
    (IsSpent (g.I.TellingReader.has_failed c.next_part.new.reader) c.next_part.new.lines.asks)
    (pending c.args.lines.now (g.I.TellingReader.remaining c.args.reader.now)) (pending c.parts.lines (g.I.TellingReader.remaining c.parts.reader)) c.parts.last
    c.in_err-part.field-0.0 c.parts.invariant.0 c.in_err-part.ensures.refused)

pub parts-preserved : goal.parts-preserved
parts-preserved g c = (
  so_far_more c.segments_join.ensures.both c.segments_join.ensures.one c.segments_join.ensures.further c.args.longest c.args.lines.now.number c.in-Some.part c.parts.lines
      c.next_part.new.lines
      (pending c.args.lines.now (g.I.TellingReader.remaining c.args.reader.now)) (g.I.TellingReader.remaining c.parts.reader)
      (g.I.TellingReader.remaining c.next_part.new.reader) c.parts.last c.behind-last.result c.behind-last.ensures c.parts.invariant.0
      (rw c.in-Some.is at c.in_ok-part.ensures.given),
  c.next_part.ensures.asked ∙ c.parts.invariant.1,
  fewer_asks c.next_part.new.lines.asks c.parts.lines.asks c.args.lines.now.asks c.next_part.ensures.less c.parts.invariant.2,
)
