use Rattle.std.proofs.Common.{◌≡◌, ℕ, ◌++◌, ◌-◌, ◌∙◌, ap, ap₂, length, ℤ, w16, to_z, of_z, to_z-of_z}
use Rattle.std.proofs.lemmas.Result.{on_ok_weaker}
use Rattle.sipd_page_sections.specs.Picture.{first_text, last_text, line_by, looked_at, picture_begin, scale_text}
use Rattle.sipd_calls.proofs.Parts.{five_parts}
use Rattle.sipd_page_sections.proofs.picture.put_drawn.Goals as goal

pub returns : goal.returns
returns c =
    let live = c.args.live.now in
    let back : to_z w16 (of_z w16 c.args.offset) ≡ c.args.offset = to_z-of_z c.ranges.offset in
    on_ok_weaker c.put_last.result
    (λ h. five_parts c.args.out.now picture_begin (line_by c.args.most live) (scale_text c.args.most)
    (first_text c.args.offset (looked_at c.args.at (length live - 1))) (last_text c.args.offset (looked_at c.args.at 0))
    c.put_axes.new.out c.put_line.new.out c.put_scale.new.out c.put_first.new.out c.put_last.new.out
    c.in_ok-put_axes.ensures c.in_ok-put_line.ensures c.in_ok-put_scale.ensures
    (c.in_ok-put_first.ensures ∙ ap₂ (λ (z : ℤ) (n : ℕ). c.put_scale.new.out ++ first_text z n) back
    (c.looked_at.ensures ∙ ap (looked_at c.args.at) c.saturating_sub-before.ensures))
    (h ∙ ap₂ (λ (z : ℤ) (n : ℕ). c.put_first.new.out ++ last_text z n) back c.looked_at-2.ensures)) c.put_last.ensures
