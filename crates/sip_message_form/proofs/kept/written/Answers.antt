use Rattle.sip_message_form.specs.declared.message.Message.{Message}
use Rattle.sip_message_form.specs.ViewStart.{start_seen}
use Rattle.sip_message_form.proofs.StoredText.{IsWritten, kept_is, kept_within}
use Rattle.sip_message_form.proofs.kept.written.Goals as goal

pub invariant_of-result : goal.invariant_of-result
invariant_of-result c =
    let m : Message = record { start = start_seen c.args.start.now; fields = c.args.fields.now; body = c.args.body.now } in
    let written : IsWritten m c.in_ok-store.store c.put_start_line.new.store c.put_lines.new.out c.put_body_text.new.store
    = record { none = c.in_ok-store.ensures; first = c.in_ok-first_line.ensures.text; fields = c.in_ok-put_lines.ensures; rest = c.in_ok-span.ensures.text } in
    kept_within m c.in_ok-store.store c.put_start_line.new.store c.put_lines.new.out c.put_body_text.new.store c.in_ok-first_line.first_line
    c.in_ok-lines.lines.list.items _ c.in_ok-lines.lines.end c.in_ok-span.span written
    c.in_ok-first_line.ensures.put c.in_ok-first_line_length.ensures c.in_ok-lines.ensures c.in_ok-span.ensures.put

pub returns : goal.returns
returns c =
    let m : Message = record { start = start_seen c.args.start.now; fields = c.args.fields.now; body = c.args.body.now } in
    let written : IsWritten m c.in_ok-store.store c.put_start_line.new.store c.put_lines.new.out c.put_body_text.new.store
    = record { none = c.in_ok-store.ensures; first = c.in_ok-first_line.ensures.text; fields = c.in_ok-put_lines.ensures; rest = c.in_ok-span.ensures.text } in
    kept_is m c.in_ok-store.store c.put_start_line.new.store c.put_lines.new.out c.put_body_text.new.store c.in_ok-first_line.first_line c.in_ok-lines.lines.list.items _
    c.in_ok-lines.lines.end c.in_ok-span.span written
    c.in_ok-first_line.ensures.put c.in_ok-first_line_length.ensures c.in_ok-lines.ensures c.in_ok-span.ensures.put
