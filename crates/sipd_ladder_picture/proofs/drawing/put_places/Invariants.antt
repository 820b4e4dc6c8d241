use Rattle.std.proofs.Common.{◌≡◌, ◌++◌, take}
use Rattle.sipd_ladder_picture.specs.Picture.{places_from}
use Rattle.sipd_ladder_picture.proofs.drawing.put_places.Given as goal

-- the lines so far are drawn
abbrev pub invariant-loop-place : goal.invariant-loop-place
invariant-loop-place l = l.out ≡ l.fn.out ++ places_from l.names l.rows 0 (take l.place l.places)
