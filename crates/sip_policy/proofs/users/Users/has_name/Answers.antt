use Rattle.std.proofs.Common.{◌∙◌, ap, is_some, Option}
use Rattle.sip_policy.specs.declared.user.User.{User}
use Rattle.sip_policy.specs.User.{is_named}
use Rattle.sip_policy.proofs.Names.{lent_some, found_some}
use Rattle.sip_policy.proofs.users.Users.has_name.Goals as goal

pub returns : goal.returns
returns c =
    c.is_some.ensures ∙ lent_some c.find.result ∙ ap (λ (u : Option User). is_some u) c.find.ensures.value ∙ found_some (is_named c.args.name.now) c.args.self.now
