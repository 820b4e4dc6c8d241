use Rattle.std.proofs.Common.{refl}
use Rattle.sip_location.proofs.Sameness.{same_at_once}
use Rattle.sip_location.proofs.Alive.{either_way}
use Rattle.sip_location.proofs.locations.Locations.is_same.Goals as goal

pub returns : goal.returns
returns c = λ is. rw (← c.self.view_is, ← c.other.view_is)
    (same_at_once c.args.now c.self.inside.filing.rows c.other.inside.filing.rows
    (either_way c.args.now c.self.inside.filing.rows c.other.inside.filing.rows (c.if-not-lives_in.ensures refl) (c.lives_in-2.ensures is)))
