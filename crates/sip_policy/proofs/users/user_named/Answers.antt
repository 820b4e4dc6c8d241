use Rattle.std.proofs.Common.{arith, ◌≡◌, sym, ◌∙◌, ap, slice_get, Some, None, position}
use Rattle.std.specs.Option.{option_copied}
use Rattle.sip_policy.specs.User.{is_named}
use Rattle.sip_policy.proofs.Names.{found_at_place, user_at_place}
use Rattle.std.proofs.lemmas.Option.{gets}
use Rattle.sip_policy.proofs.users.user_named.Goals as goal

pub returns-in_err-place : goal.returns-in_err-place
returns-in_err-place c =
    let none : position (is_named c.args.name.now) c.args.users.now ≡ None =
    sym (c.requires.placed c.args.name.now) ∙ sym c.get.ensures.value ∙ ap option_copied c.in_err-place.was in
    rw c.from_residual.ensures (sym (found_at_place c.args.name.now c.args.users.now ∙ ap (user_at_place c.args.users.now) none))

pub returns : goal.returns
returns c =
    let some : position (is_named c.args.name.now) c.args.users.now ≡ Some c.in_ok-place.place.now = sym (c.requires.placed c.args.name.now)
    ∙ sym c.in_ok-place.ensures.value in
    let at : option_copied c.get-2.result ≡ slice_get c.args.users.now c.in_ok-place.place.now = grind (arith, gets, c.get-2.ensures.lookup) in
    at ∙ sym (found_at_place c.args.name.now c.args.users.now ∙ ap (user_at_place c.args.users.now) some)
