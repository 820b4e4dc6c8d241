use Rattle.std.proofs.Common.{◌≡◌, ◌++◌, drop}
use Rattle.sipd_page_sections.specs.Picture.{points}
use Rattle.sipd_page_sections.proofs.picture.put_points.Given as goal

-- what was made, in front of what the numbers that are left give, is the text of all
abbrev pub invariant-loop-place : goal.invariant-loop-place
invariant-loop-place l = l.out ++ points l.place l.count l.most (drop l.place l.live) ≡ l.fn.out ++ points 0 l.count l.most l.live
