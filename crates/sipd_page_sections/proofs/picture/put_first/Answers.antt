use Rattle.std.proofs.Common.{◌≡◌, ◌++◌, ◌∙◌, ap, codes, ℤ, w16, to_z, of_z, to_z-of_z}
use Rattle.std.proofs.lemmas.Result.{on_ok_weaker}
use Rattle.sipd_calls.specs.Moments.{start_text}
use Rattle.sipd_calls.proofs.Parts.{three_parts}
use Rattle.sipd_page_sections.proofs.picture.put_first.Goals as goal

pub returns : goal.returns
returns c =
    let back : to_z w16 (of_z w16 c.args.offset) ≡ c.args.offset = to_z-of_z c.ranges.offset in
    on_ok_weaker c.extend-2.result
    (λ h. three_parts c.args.out.now (codes "<text x=\"40\" y=\"204\">") (start_text c.args.offset c.args.at) (codes "</text>\n") c.extend.new.self
    c.push_start_at.new.text c.extend-2.new.self
    c.in_ok-extend.ensures.ok (c.in_ok-push_start_at.ensures ∙ ap (λ (z : ℤ). c.extend.new.self ++ start_text z c.args.at) back) h) c.extend-2.ensures.ok
