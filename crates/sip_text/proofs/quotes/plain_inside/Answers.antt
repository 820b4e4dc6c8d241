use Rattle.std.proofs.Common.{◌≡◌, ℕ, [], ◌∷◌, take, drop, ap, ◌∙◌, rules}
use Rattle.sip_text.proofs.QuotedLaws.{plain_ends}
use Rattle.sip_text.proofs.quotes.plain_inside.Goals as goal

pub returns-then-eq : goal.returns-then-eq
returns-then-eq c =
    let last : c.split_at.result.1.now ≡ 34 ∷ [] = search rules in
    plain_ends c.args.inside.now c.split_at.result.0.now c.split_at.result.1.now
    (c.split_at.ensures.front ∙ ap (λ (n : ℕ). take n c.args.inside.now) c.plain_length.ensures)
    (c.split_at.ensures.back ∙ ap (λ (n : ℕ). drop n c.args.inside.now) c.plain_length.ensures)
    last
