use Rattle.std.proofs.Common.{◌≡◌, drop}
use Rattle.std.specs.Prelude.{fold}
use Rattle.sipd_page_sections.specs.Picture.{most_of, with_most}
use Rattle.sipd_page_sections.proofs.picture.most_of.Given as goal

-- what the numbers that are left make of it is what all make
abbrev pub invariant-loop-value : goal.invariant-loop-value
invariant-loop-value l = fold with_most l.most (drop l.value-index l.live) ≡ most_of l.live
