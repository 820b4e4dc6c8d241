use Rattle.std.proofs.Common.{sym, ◌∙◌, ap, Some, List, ℕ}
use Rattle.sip_text.proofs.Splitting.{split_found, split_none}
use Rattle.sip_replay_script.proofs.script.split_at_space.Goals as goal

pub returns-in_err-place : goal.returns-in_err-place
returns-in_err-place c = rw c.from_residual.ensures (split_none 32 c.args.text.now c.in_err-place.ensures)

pub returns : goal.returns
returns c =
    ap (λ (w : List ℕ). Some (w, c.in_ok-rest.rest.now)) c.split_at.ensures.front
    ∙ split_found 32 c.in_ok-place.place c.args.text.now c.in_ok-rest.rest.now c.in_ok-rest.field-0-0.now c.in_ok-place.ensures
    (sym c.split_at.ensures.back ∙ c.in_ok-rest.ensures.cases.0)
