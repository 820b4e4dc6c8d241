use Rattle.std.proofs.Common.{◌≡◌, [], ◌∷◌, Some, length}
use Rattle.sip_text.specs.Lists.{between_cuts}
use Rattle.sip_text.specs.declared.lists.ListState.TheVariants.{Outside}
use Rattle.sip_text.proofs.one_item.has_no_cut.Given as goal

-- if the rest is one item, so is the whole
abbrev pub invariant-loop-at : goal.invariant-loop-at
invariant-loop-at l = between_cuts Outside l.rest ≡ Some (l.rest ∷ []) → between_cuts Outside l.fn.text ≡ Some (l.fn.text ∷ [])

abbrev pub decreases-loop-at : goal.decreases-loop-at
decreases-loop-at l = length l.rest
