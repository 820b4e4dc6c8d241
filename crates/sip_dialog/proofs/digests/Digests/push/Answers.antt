use Rattle.std.proofs.Common.{rules, ◌≡◌, ℕ, refl, Option, Some, None, true, false, cond, is_some, nat_eq, length, ap, sym, ◌∙◌}
use Rattle.std.specs.HashMap.{get}
use Rattle.sip_dialog.proofs.Finding.{pushed}
use Rattle.sip_dialog.proofs.digests.Digests.push.Goals as goal
use Rattle.sip_dialog.proofs.digests.Digests.push.Goals.{then-self, else-self}

none_there : (o : Option ℕ) → is_some o ≡ false → o ≡ None
none_there None e = refl
none_there (Some n) e = absurd (cc)

pub invariant_of-self-2 : goal.invariant_of-self-2
invariant_of-self-2 c = λ own.
    let long : c.len.result ≡ length c.self.inside.list.items = search rules in
    elim c.if-self.branch [
      | then-self w ↦ absurd (both (sym own ∙ w.self-is ∙ w.if-self.true))
      | else-self w ↦
          let none = none_there c.in_ok-before.before (sym w.is_some-self-inside.ensures ∙ sym w.self-is ∙ own) in
          rw (c.push_reserved.ensures.items, c.reserve.ensures.items)
          (pushed c.self.inside.list.items c.args.digest (λ q. get nat_eq c.self.inside.places q) _ (c.self.invariant w.if-self.false)
          (sym c.in_ok-before.ensures.old ∙ none)
          (λ q. c.in_ok-before.ensures.updates.0 q ∙ ap (λ (n : ℕ). cond (nat_eq c.args.digest q) (Some n) (get nat_eq c.self.inside.places q)) long))
    ]
  where
    both : false ≡ true → ⊥
    both e = cc
