use Rattle.std.proofs.Common.{[], refl}
use Rattle.sip_event.specs.declared.event.Event.TheVariants.{Datagram}
use Rattle.sip_replay_script.proofs.Fronts.{front_none}
use Rattle.sip_journal.proofs.Recording.{front_datagram, not_sayable, few_bytes, no_bytes, writes_datagram}
use Rattle.sip_journal.proofs.writing.write_datagram.Goals as goal

pub returns-then-not-is_sayable-clause-why : goal.returns-then-not-is_sayable-clause-why
returns-then-not-is_sayable-clause-why g c = λ _.
    not_sayable _ (Datagram c.args.at c.args.word c.args.from c.args.bytes.now) c.is_sayable.result (c.is_sayable.ensures c.args.word) c.if-not-is_sayable.true

pub returns-then-is_empty-clause-written : goal.returns-then-is_empty-clause-written
returns-then-is_empty-clause-written g c =
    writes_datagram _ _ _ c.args.at c.args.word c.args.from c.args.bytes.now [] c.is_sayable.result c.write_empty.result (c.is_sayable.ensures c.args.word)
    c.if-not-is_sayable.false (no_bytes c.args.bytes.now c.if-is_empty.ensures)
    c.write_empty.ensures.text c.write_empty.ensures.handed_on

pub write_bytes-requires-clause-few : goal.write_bytes-requires-clause-few
write_bytes-requires-clause-few g c = few_bytes c.args.at c.args.word c.args.from c.args.bytes.now c.is_sayable.result (c.is_sayable.ensures c.args.word)
    c.if-not-is_sayable.false

pub returns-clause-written : goal.returns-clause-written
returns-clause-written g c =
    writes_datagram _ _ _ c.args.at c.args.word c.args.from c.args.bytes.now c.args.bytes.now c.is_sayable.result c.write_bytes.result (c.is_sayable.ensures c.args.word)
    c.if-not-is_sayable.false refl
    c.write_bytes.ensures.text c.write_bytes.ensures.handed_on

pub returns-then-is_empty-clause-part : goal.returns-then-is_empty-clause-part
returns-then-is_empty-clause-part g c = front_datagram _ _ c.args.at c.args.word c.args.from c.args.bytes.now [] (no_bytes c.args.bytes.now c.if-is_empty.ensures)
    c.write_empty.ensures.part

pub returns-then-not-is_sayable-clause-part : goal.returns-then-not-is_sayable-clause-part
returns-then-not-is_sayable-clause-part g c = front_none _ _
