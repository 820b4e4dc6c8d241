use Rattle.std.proofs.Common.{ℕ, List, ◌++◌, ◌∙◌, ap}
use Rattle.std.specs.List.{flat_map}
use Rattle.sip_config_types.specs.declared.config.Config.{Config}
use Rattle.sipd_standing.specs.PhoneTable.{head_in, rows_of}
use Rattle.sipd_standing.proofs.phone_table.phones_text.Goals as goal

pub returns : goal.returns
returns g c =
    c.in_ok-push_rows.ensures
    ∙ ap (λ (text : List ℕ). text ++ flat_map (rows_of c.args.form c.args.engine.now.state c.args.at) c.args.rows.now)
    (c.in_ok-push_head.ensures
    ∙ ap (λ (config : Config). c.new-out.result ++ head_in c.args.form config.offset c.args.at) c.config.ensures
    ∙ ap (λ (text : List ℕ). text ++ head_in c.args.form c.args.engine.now.server.config.offset c.args.at) c.new-out.ensures)
