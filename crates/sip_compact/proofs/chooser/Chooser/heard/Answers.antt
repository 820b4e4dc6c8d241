use Rattle.std.proofs.Common.{◌∙◌}
use Rattle.sip_compact.proofs.Parting.{part_itself, part_kept}
use Rattle.sip_compact.proofs.chooser.Chooser.heard.Goals as goal

pub returns-in_err-note : goal.returns-in_err-note
returns-in_err-note c = part_kept c.args.self.now _ c.args.place (part_itself c.args.self.now c.self.inside.rows c.self.view_is)

pub returns-in_err-challenge : goal.returns-in_err-challenge
returns-in_err-challenge c = part_kept c.args.self.now _ c.args.place (part_itself c.args.self.now c.learn.new.self (c.learn.ensures ∙ c.self.view_is))

pub returns-in_err-push : goal.returns-in_err-push
returns-in_err-push c =
    part_kept c.args.self.now _ c.args.place
    (part_itself c.args.self.now c.push.new.self (c.in_err-push.ensures.same ∙ c.self-2.view_is ∙ c.learn.ensures ∙ c.self.view_is))
