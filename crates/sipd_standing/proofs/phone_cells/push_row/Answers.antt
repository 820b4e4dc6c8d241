use Rattle.std.proofs.Common.{ℕ, List, ◌-◌, ◌/◌, ◌++◌, ◌∙◌, ap}
use Rattle.std.proofs.lemmas.Result.{on_ok_weaker}
use Rattle.sip_uri.specs.Uri.{text_of}
use Rattle.sipd_calls.specs.Cells.{cell}
use Rattle.sipd_calls.proofs.Parts.{five_parts}
use Rattle.sipd_standing.specs.PhoneCells.{left_cell, since_cell, source_cell, user_cell}
use Rattle.sipd_standing.proofs.phone_cells.push_row.Goals as goal

pub returns : goal.returns
returns c =
    let row = c.args.row.now in
    let binding = c.args.binding.now in
    on_ok_weaker c.push_source.result
    (λ h. five_parts c.args.out.now (user_cell row) (cell 27 (text_of binding.uri)) (left_cell ((binding.expires_at - c.args.at) / 1000)) (since_cell row)
    (source_cell row.source) c.push_address.new.out c.push_cell.new.out c.push_left.new.out c.push_since.new.out c.push_source.new.out
    c.in_ok-push_address.ensures (c.in_ok-push_cell.ensures ∙ ap (λ (text : List ℕ). c.push_address.new.out ++ cell 27 text) c.uri_text.ensures.says)
    c.in_ok-push_left.ensures c.in_ok-push_since.ensures h) c.push_source.ensures
