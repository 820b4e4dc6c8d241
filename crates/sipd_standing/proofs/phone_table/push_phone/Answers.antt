use Rattle.std.proofs.Common.{List, ◌++◌, ◌∙◌, ap}
use Rattle.std.specs.List.{flat_map}
use Rattle.std.proofs.lemmas.Result.{on_ok_weaker}
use Rattle.sip_location.specs.declared.binding.Binding.{Binding}
use Rattle.sipd_standing.specs.PhoneTable.{if_live}
use Rattle.sipd_standing.proofs.phone_table.push_phone.Goals as goal

pub returns : goal.returns
returns g c =
    on_ok_weaker c.push_bindings.result
    (λ h. h ∙ ap (λ (bindings : List Binding). c.args.out.now ++ flat_map (if_live c.args.form c.args.at c.args.row.now) bindings) c.bindings.ensures)
    c.push_bindings.ensures
