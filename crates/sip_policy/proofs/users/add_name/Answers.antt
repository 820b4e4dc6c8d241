use Rattle.std.proofs.Common.{ℕ, List, Option, is_some, ◌∙◌, sym, ap, inr, refl}
use Rattle.sip_policy.specs.Users.{place_of}
use Rattle.sip_policy.proofs.Names.{place_more}
use Rattle.sip_policy.proofs.users.add_name.Goals as goal

pub returns-then-is_none-clause-ok : goal.returns-then-is_none-clause-ok
returns-then-is_none-clause-ok c =
    place_more c.args.places.now c.insert.new.self c.in_ok-copy.copy c.args.name.now c.args.at c.in_ok-copy.ensures.items c.in_ok-insert.ensures.updates

pub returns-else-is_none-clause-refused : goal.returns-else-is_none-clause-refused
returns-else-is_none-clause-refused c =
    inr (
      refl,
      ap (λ (text : List ℕ). is_some (place_of c.args.places.now text)) (sym c.in_ok-copy.ensures.items)
          ∙ ap (λ (o : Option ℕ). is_some o) (sym c.in_ok-insert.ensures.old) ∙ c.if-is_none.ensures,
    )
