use Rattle.std.proofs.Common.{ℕ, take, ap, ◌∙◌}
use Rattle.sip_message.proofs.Halves.{trimmed_is}
use Rattle.sip_message.proofs.entries.trimmed_slice.Goals as goal

pub returns-clause-value : goal.returns-clause-value
returns-clause-value c =
    trimmed_is c.args.bytes.now c.without_front_blanks.result.now c.without_end_blanks-end.result.now c.slice_from.result.now c.slice_before.result.now
    c.without_front_blanks.ensures c.without_end_blanks-end.ensures c.slice_from.ensures.value
    (c.slice_before.ensures.value ∙ ap (λ (n : ℕ). take n c.slice_from.result.now) c.saturating_sub.ensures)
