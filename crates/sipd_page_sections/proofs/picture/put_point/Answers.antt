use Rattle.std.proofs.Common.{ℕ, ◌++◌, ◌∙◌, ap, codes, decimal}
use Rattle.std.proofs.lemmas.Result.{on_ok_weaker}
use Rattle.sipd_page_sections.specs.Picture.{right, up}
use Rattle.sipd_calls.proofs.Parts.{four_parts}
use Rattle.sipd_page_sections.proofs.picture.put_point.Goals as goal

pub returns : goal.returns
returns c =
    on_ok_weaker c.push_decimal-2.result
    (λ h. four_parts c.args.out.now (codes "H") (decimal (right c.args.place c.args.count)) (codes "V") (decimal (up c.args.value c.args.most))
    c.extend.new.self c.push_decimal.new.self c.extend-2.new.self c.push_decimal-2.new.self c.in_ok-extend.ensures.ok
    (c.in_ok-push_decimal.ensures.ok ∙ ap (λ (n : ℕ). c.extend.new.self ++ decimal n) c.right.ensures) c.in_ok-extend-2.ensures.ok
    (h ∙ ap (λ (n : ℕ). c.extend-2.new.self ++ decimal n) c.up.ensures)) c.push_decimal-2.ensures.ok
