use Rattle.std.proofs.Common.{◌≡◌, ◌∙◌, ap, sym, Some, None, find}
use Rattle.std.specs.Option.{option_copied}
use Rattle.std.specs.List.{list_any}
use Rattle.std.specs.Str.{bytes_eq}
use Rattle.sip_policy.specs.declared.user.User.{User}
use Rattle.sip_policy.specs.User.{is_named}
use Rattle.sip_policy.proofs.Names.{found_passes, passes_of}
use Rattle.sip_policy_index.proofs.indexed_rules.groups_of_user.Goals as goal

pub returns-in-Some : goal.returns-in-Some
returns-in-Some c =
    let found : find (is_named c.args.name.now) c.args.users.now ≡ Some c.in-Some.user.now = sym c.find.ensures.value ∙ ap option_copied c.in-Some.is in
    record {
      are = λ group.
          let test = λ (u : User). list_any (bytes_eq group) u.groups in
          sym (found_passes c.args.name.now test c.args.users.now c.find.ensures.distinct) ∙ ap (passes_of test) found
          ∙ ap (list_any (bytes_eq group)) (sym c.as_slice.ensures);
    }

pub returns-in-None : goal.returns-in-None
returns-in-None c =
    let none : find (is_named c.args.name.now) c.args.users.now ≡ None = sym c.find.ensures.value ∙ ap option_copied c.in-None.is in
    record {
      are = λ group.
          let test = λ (u : User). list_any (bytes_eq group) u.groups in
          sym (found_passes c.args.name.now test c.args.users.now c.find.ensures.distinct) ∙ ap (passes_of test) none;
    }
