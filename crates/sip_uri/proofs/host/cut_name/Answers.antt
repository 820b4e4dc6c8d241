use Rattle.std.proofs.Common.{ℕ, take, drop, sym, ap, ◌∙◌}
use Rattle.sip_uri.proofs.Places.{name_here}
use Rattle.sip_uri.proofs.host.cut_name.Goals as goal

pub returns : goal.returns
returns c =
    name_here c.args.text.now c.split_at.result.0.now c.split_at.result.1.now c.requires
    (c.split_at.ensures.front ∙ ap (λ (n : ℕ). take n c.args.text.now) c.name_length.ensures.value)
    (c.split_at.ensures.back ∙ ap (λ (n : ℕ). drop n c.args.text.now) c.name_length.ensures.value)
    (sym c.is_empty.ensures ∙ c.if-is_empty.false)
