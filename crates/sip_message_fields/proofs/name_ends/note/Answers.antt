use Rattle.sip_message_fields.proofs.NameEnds.{noted_known, noted_other}
use Rattle.sip_message_fields.proofs.name_ends.note.Goals as goal

pub returns-in-Some : goal.returns-in-Some
returns-in-Some c = λ fields field named counted are.
    noted_known c.args.ends.now c.in-Some.known c.args.name.now c.place_of.result c.end_behind.result c.args.count fields field c.place_of.ensures.place
    c.end_behind.ensures c.in-Some.ensures named counted are

pub returns-else-may_be_known : goal.returns-else-may_be_known
returns-else-may_be_known c = λ fields field named counted are.
    noted_other c.args.ends.now c.args.name.now fields field (λ k. c.may_be_known.ensures k c.if-may_be_known.false) named are
