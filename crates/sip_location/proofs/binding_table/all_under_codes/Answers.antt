use Rattle.std.proofs.Common.{◌≡◌, ◌∷◌, [], List, refl, sym, subst, rules}
use Rattle.std.specs.HashMap.{values}
use Rattle.std.specs.List.{AllByRecursion}
use Rattle.std.specs.Map.Iter.{deref}
use Rattle.std.proofs.lemmas.Map.Iter.{rest_all, rest_more}
use Rattle.sip_location.specs.declared.aor_bindings.AorBindings.{AorBindings}
use Rattle.sip_location.specs.Alive.{LivesAlike}
use Rattle.sip_location.proofs.binding_table.all_under_codes.Goals as goal

pub loop-filed-init : goal.loop-filed-init
loop-filed-init c =
    let all : c.into_iter-filed-iterator.result ≡ values c.args.by_code.now = search rules in
    subst (λ (fs : List AorBindings). AllByRecursion (LivesAlike c.args.other.now.rows c.args.now) fs) all

pub loop-filed-preserved : goal.loop-filed-preserved
loop-filed-preserved c = λ rest.
    let took : c.loop-filed.filed-iterator ≡ c.in-Some.filed.now ∷ c.next.new.self =
    rest_more deref c.loop-filed.filed-iterator c.next.new.self c.next.result c.in-Some.filed c.in-Some.is c.next.ensures.steps in
    c.loop-filed.invariant (subst (λ (fs : List AorBindings). AllByRecursion (LivesAlike c.args.other.now.rows c.args.now) fs) (sym took)
    (c.if-not-lives_alike.ensures refl, rest))

pub returns : goal.returns
returns c = λ _.
    let none : c.loop-filed.filed-iterator ≡ [] = rest_all deref c.loop-filed.filed-iterator c.next.new.self c.next.result c.in-None.is c.next.ensures.steps in
    c.loop-filed.invariant (subst (λ (fs : List AorBindings). AllByRecursion (LivesAlike c.args.other.now.rows c.args.now) fs) (sym none) tt)
