use Rattle.std.proofs.Common.{ap, ◌∙◌, arith}
use Rattle.std.specs.List.{list_all}
use Rattle.sip_text_runs.specs.TextRun.{is_text}
use Rattle.sip_message.proofs.TextRuns.{text_whole, text_found}
use Rattle.sip_message.proofs.lines.text_line.Goals as goal

pub returns-clause-line : goal.returns-clause-line
returns-clause-line c =
    text_found c.args.bytes.now c.slice_before.result.now c.slice_from.result.now (ap (list_all is_text) c.slice_before.ensures.value ∙ c.text_length-end.ensures.text)
    (text_whole c.args.bytes.now c.slice_before.result.now c.slice_from.result.now c.text_length-end.result c.slice_before.ensures.value c.slice_from.ensures.value
    (omega (arith, c.if-bytes-end-lt2.false, c.text_length-end.ensures.within)) c.if-bytes-end-ne13.false c.if-bytes-end-ne10.false)

pub returns-clause-whole : goal.returns-clause-whole
returns-clause-whole c =
    text_whole c.args.bytes.now c.slice_before.result.now c.slice_from.result.now c.text_length-end.result c.slice_before.ensures.value c.slice_from.ensures.value
    (omega (arith, c.if-bytes-end-lt2.false, c.text_length-end.ensures.within)) c.if-bytes-end-ne13.false c.if-bytes-end-ne10.false
