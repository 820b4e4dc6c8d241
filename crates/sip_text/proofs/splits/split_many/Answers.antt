use Rattle.std.proofs.Common.{sym, ◌∙◌, ap, Some, List, ℕ}
use Rattle.sip_text.proofs.Splitting.{split_found, split_none}
use Rattle.sip_text.proofs.splits.split_many.Goals as goal

pub returns-in_err-at : goal.returns-in_err-at
returns-in_err-at c = rw c.from_residual.ensures (split_none c.args.mark c.args.bytes.now c.in_err-at.ensures)

pub returns : goal.returns
returns c =
    ap (λ (w : List ℕ). Some (w, c.in_ok-rest.rest.now)) c.split_at.ensures.front
    ∙ split_found c.args.mark c.in_ok-at.at c.args.bytes.now c.in_ok-rest.rest.now c.in_ok-rest.field-0-0.now c.in_ok-at.ensures
    (sym c.split_at.ensures.back ∙ c.in_ok-rest.ensures.cases.0)
