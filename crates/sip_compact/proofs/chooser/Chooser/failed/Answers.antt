use Rattle.std.proofs.Common.{subst, List, [], ◌∷◌, ◌++◌}
use Rattle.sip_compact.specs.declared.row.Place.{Place}
use Rattle.sip_compact.specs.Parts.{IsPart}
use Rattle.sip_compact.proofs.Parting.{pushed_part}
use Rattle.sip_compact.proofs.chooser.Chooser.failed.Goals as goal

pub returns : goal.returns
returns c =
    subst (λ (rows : List Place). IsPart c.push.new.self (rows ++ c.args.place ∷ [])) c.self.view_is
    (pushed_part c.push.result c.self.inside.rows c.push.new.self c.args.place c.push.ensures.added c.push.ensures.same)
