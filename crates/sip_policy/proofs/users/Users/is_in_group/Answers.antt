use Rattle.std.proofs.Common.{◌≡◌, ◌∙◌, ap, sym, Some, None, find}
use Rattle.std.specs.Option.{option_copied}
use Rattle.std.specs.List.{list_any}
use Rattle.std.specs.Str.{bytes_eq}
use Rattle.sip_policy.specs.declared.user.User.{User}
use Rattle.sip_policy.specs.User.{is_named}
use Rattle.sip_policy.proofs.Names.{found_passes, passes_of}
use Rattle.sip_policy.proofs.users.Users.is_in_group.Goals as goal

pub returns-in-Some : goal.returns-in-Some
returns-in-Some c =
    let test = λ (u : User). list_any (bytes_eq c.args.group.now) u.groups in
    let found : find (is_named c.args.name.now) c.args.self.now ≡ Some c.in-Some.user.now = sym c.find.ensures.value ∙ ap option_copied c.in-Some.is in
    c.is_in.ensures ∙ ap (passes_of test) (sym found) ∙ found_passes c.args.name.now test c.args.self.now c.find.ensures.distinct

pub returns-in-None : goal.returns-in-None
returns-in-None c =
    let test = λ (u : User). list_any (bytes_eq c.args.group.now) u.groups in
    let none : find (is_named c.args.name.now) c.args.self.now ≡ None = sym c.find.ensures.value ∙ ap option_copied c.in-None.is in
    ap (passes_of test) (sym none) ∙ found_passes c.args.name.now test c.args.self.now c.find.ensures.distinct
