use Rattle.std.proofs.Common.{◌∙◌, ap, sym, Some, List, ℕ}
use Rattle.std.proofs.lemmas.List.{drop-drop}
use Rattle.sip_message.proofs.Cuts.{line_found, no_line}
use Rattle.sip_message.proofs.lines.first_line.Goals as goal

pub returns-in_err-at-clause-line : goal.returns-in_err-at-clause-line
returns-in_err-at-clause-line c = rw c.from_residual.ensures (no_line c.args.bytes.now c.in_err-at.ensures)

pub returns-clause-line : goal.returns-clause-line
returns-clause-line c =
    ap (λ (w : List ℕ). Some (w, c.slice_from.result.now)) c.slice_before.ensures.value
    ∙ line_found c.args.bytes.now c.slice_from.result.now c.in_ok-at.at c.in_ok-at.ensures (c.slice_from.ensures.value ∙ sym (drop-drop 2 c.in_ok-at.at c.args.bytes.now))
