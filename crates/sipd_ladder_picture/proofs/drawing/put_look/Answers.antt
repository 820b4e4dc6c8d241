use Rattle.sipd_ladder_picture.specs.Picture.{look}
use Rattle.sipd_ladder_picture.proofs.drawing.put_look.Goals as goal

pub returns : goal.returns
unfolding look
returns c = c.extend.ensures.ok
