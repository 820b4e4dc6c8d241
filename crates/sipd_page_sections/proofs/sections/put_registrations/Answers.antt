use Rattle.std.proofs.Common.{◌≡◌, ℕ, ◌++◌, ◌∙◌, ap₂, codes, ℤ, w16, to_z, of_z, to_z-of_z}
use Rattle.std.proofs.lemmas.Result.{on_ok_weaker}
use Rattle.std.specs.Prelude.{unwrap_or}
use Rattle.sipd_page_sections.specs.Picture.{picture_text}
use Rattle.sipd_calls.proofs.Parts.{two_parts}
use Rattle.sipd_page_sections.proofs.sections.put_registrations.Goals as goal

pub returns : goal.returns
returns c =
    let live = c.args.live.now in
    let back : to_z w16 (of_z w16 c.args.offset) ≡ c.args.offset = to_z-of_z c.ranges.offset in
    on_ok_weaker c.put_picture.result
    (λ h. two_parts c.args.out.now (codes "<h3>Addresses of record with a live binding</h3>\n") (picture_text c.args.offset (unwrap_or c.args.at 0) live)
    c.extend.new.self c.put_picture.new.out c.in_ok-extend.ensures.ok
    (h ∙ ap₂ (λ (z : ℤ) (n : ℕ). c.extend.new.self ++ picture_text z n live) back c.unwrap_or.ensures)) c.put_picture.ensures
