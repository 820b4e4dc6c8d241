use Rattle.std.proofs.Common.{ℕ, ◌-◌, ◌/◌, ◌++◌, ◌∙◌, ap}
use Rattle.std.proofs.lemmas.Result.{on_ok_weaker}
use Rattle.sipd_calls.specs.Moments.{length_text}
use Rattle.sipd_calls.proofs.Parts.{in_cell}
use Rattle.sipd_standing.proofs.phone_cells.push_left.Goals as goal

pub returns : goal.returns
returns c =
    on_ok_weaker c.push_cell.result
    (λ h. in_cell 7 c.args.out.now c.new-cell.result c.push_length.new.text c.as_slice.result.now c.push_cell.new.out
    (length_text ((c.args.binding.now.expires_at - c.args.at) / 1000)) c.new-cell.ensures
    (c.in_ok-push_length.ensures ∙ ap (λ (n : ℕ). c.new-cell.result ++ length_text n) c.seconds_left-seconds.ensures) c.as_slice.ensures h)
    c.push_cell.ensures
