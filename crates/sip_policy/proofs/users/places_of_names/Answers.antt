use Rattle.std.proofs.Common.{inl, inr}
use Rattle.std.proofs.lemmas.Result.{err_from_is_err_and}
use Rattle.sip_policy.specs.Users.{place_of}
use Rattle.sip_policy.proofs.Names.{named_more, named_twice}
use Rattle.sip_policy.proofs.users.places_of_names.Goals as goal

pub returns-in_err-add_name-clause-refused : goal.returns-in_err-add_name-clause-refused
returns-in_err-add_name-clause-refused c =
    let p = err_from_is_err_and c.from_residual-in_err-add_name.result c.from_residual-in_err-add_name.ensures.1 in
    rw (p.1, p.2) (elim c.in_err-add_name.ensures.refused [
      | inl e ↦ inl e
      | inr e ↦ inr (
        e.0,
        named_twice (place_of c.loop-at.places) c.as_slice.result.now c.args.users.now c.loop-at.at c.index-users-at.result c.loop-at.invariant
            c.loop-at-test.true c.index-users-at.is c.as_slice.ensures e.1,
      )
    ])

pub loop-at-preserved : goal.loop-at-preserved
loop-at-preserved c =
    named_more (place_of c.loop-at.places) (place_of c.add_name.new.places) c.as_slice.result.now c.args.users.now c.loop-at.at c.index-users-at.result
    c.loop-at.invariant c.loop-at-test.true c.index-users-at.is c.as_slice.ensures
    c.in_ok-add_name.ensures.ok c.in_ok-add_name.ensures.new
