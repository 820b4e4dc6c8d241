use Rattle.std.proofs.Common.{◌≡◌, Option, true, ap, is_some}
use Rattle.sip_message_fields.specs.declared.known_names.KnownName.{KnownName}
use Rattle.sip_message_fields.proofs.ToldNames.{told_apart}
use Rattle.sip_message_fields.proofs.view_name.ViewName.is_named.Goals as goal

pub returns-then-self : goal.returns-then-self
returns-then-self c =
    let some : is_some c.args.known ≡ true = ap (λ (o : Option KnownName). is_some o) c.in-None-Some.is-1 in
    told_apart c.args.self.now c.args.name.now c.self.inside.known c.args.known c.self.inside.spelling.now c.self.inside.is_told c.self.invariant c.if-self.true
    c.in-None-Some.is-0 c.self.view_is some c.requires
