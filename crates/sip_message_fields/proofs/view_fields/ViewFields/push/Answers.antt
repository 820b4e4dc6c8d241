use Rattle.std.proofs.Common.{sym, arith}
use Rattle.sip_message_fields.specs.NameEnds.{AreEnds}
use Rattle.sip_message_fields.proofs.NameEnds.{pushed}
use Rattle.sip_message_fields.proofs.view_fields.ViewFields.push.Goals as goal
use Rattle.sip_message_fields.proofs.view_fields.ViewFields.push.Goals.{then-len-capacity+in_ok-reserve, else-len-capacity}

pub invariant_of-self-2 : goal.invariant_of-self-2
invariant_of-self-2 c =
    let stands : AreEnds c.if-len-capacity.self-inside.ends c.if-len-capacity.self-inside.list.items = elim c.if-len-capacity.branch [
      | then-len-capacity+in_ok-reserve w ↦ rw (w.self-inside-is, w.reserve.ensures.items) c.self.invariant
      | else-len-capacity w ↦ rw w.self-inside-is c.self.invariant
    ] in
    pushed c.if-len-capacity.self-inside.ends c.note.new.ends c.if-len-capacity.self-inside.list.items c.push_reserved.new.self.items c.args.field c.name.result.now
    c.len-count.result stands c.push_reserved.ensures.items c.note.ensures (sym c.name.ensures)
    (omega (arith, c.len-count.ensures, c.if-len-capacity.self-inside.list.ok))
