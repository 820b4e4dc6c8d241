use Rattle.std.proofs.Common.{rules, ◌≡◌, ◌<◌, ◌+◌, ◌-◌, ℕ, List, ap, arith, length, get_or, ◌∙◌}
use Rattle.sip_dialog.specs.Digests.{DigestList}
use Rattle.sip_dialog.proofs.Finding.{removed, removed_last}
use Rattle.sip_dialog.proofs.digests.Digests.swap_remove.Goals as goal

pub invariant_of-self : goal.invariant_of-self
invariant_of-self c = λ own.
    let inside : c.args.at < length c.self.inside.list.items = omega (arith, c.requires, ap (λ (v : DigestList). length v.list) c.self.view_is) in
    let before_last : c.args.at < length c.self.inside.list.items - 1 = search rules in
    rw c.swap_remove-digest.ensures.items
    (removed c.self.inside.list.items c.args.at c.swap_remove-digest.result c.swap_remove-digest.result inside c.swap_remove-digest.ensures.value c.index.result.now
    before_last
    (c.index.ensures ∙ ap (λ (l : List ℕ). get_or l c.args.at c.index.result.now) c.swap_remove-digest.ensures.items) _ _ _ (c.self.invariant own)
    c.remove-place.ensures.updates.0 c.move_to.ensures.places)

pub invariant_of-self-else-at-len : goal.invariant_of-self-else-at-len
invariant_of-self-else-at-len c = λ own.
    let inside : c.args.at < length c.self.inside.list.items = omega (arith, c.requires, ap (λ (v : DigestList). length v.list) c.self.view_is) in
    let last : length c.self.inside.list.items ≡ c.args.at + 1 = search rules in
    rw c.swap_remove-digest.ensures.items
    (removed_last c.self.inside.list.items c.args.at c.swap_remove-digest.result c.swap_remove-digest.result inside c.swap_remove-digest.ensures.value _ _ last
    (c.self.invariant own) c.remove-place.ensures.updates.0)
