use Rattle.std.proofs.Common.{ℕ, List, ◌++◌, ◌∙◌, ap}
use Rattle.std.specs.List.{flat_map}
use Rattle.sipd_sources.specs.declared.source.Source.{Source}
use Rattle.sipd_sources.specs.Ranking.{ranked_of}
use Rattle.sipd_sources.specs.Table.{entry_in, head_in}
use Rattle.sipd_sources.proofs.table.sources_text.Goals as goal

pub returns : goal.returns
returns c =
    c.in_ok-push_ranked.ensures
    ∙ ap (λ (rows : List (ℕ × Source)). c.push_head.new.out ++ flat_map (entry_in c.args.form) rows)
    (c.in_ok-rows.ensures ∙ ap ranked_of c.into_rows.ensures)
    ∙ ap (λ (text : List ℕ). text ++ flat_map (entry_in c.args.form) (ranked_of c.args.sources.rows))
    (c.in_ok-push_head.ensures ∙ ap (λ (text : List ℕ). text ++ head_in c.args.form c.args.config.now.offset c.args.at) c.new-out.ensures)
