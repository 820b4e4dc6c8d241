use Rattle.std.proofs.Common.{ℕ, List, ◌++◌, ◌∙◌, ap}
use Rattle.std.specs.List.{flat_map}
use Rattle.sipd_standing.specs.Standing.{head_in, if_standing}
use Rattle.sipd_standing.proofs.table.standing_text.Goals as goal

pub returns : goal.returns
returns c =
    c.in_ok-push_all.ensures
    ∙ ap (λ (text : List ℕ). text ++ flat_map (if_standing c.args.form c.args.at) c.args.calls.now)
    (c.in_ok-push_head.ensures ∙ ap (λ (text : List ℕ). text ++ head_in c.args.form c.args.config.now.offset c.args.at) c.new-out.ensures)
