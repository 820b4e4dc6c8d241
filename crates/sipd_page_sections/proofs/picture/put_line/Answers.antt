use Rattle.std.proofs.Common.{codes, length}
use Rattle.std.proofs.lemmas.Result.{on_ok_weaker}
use Rattle.sipd_page_sections.specs.Picture.{points}
use Rattle.sipd_calls.proofs.Parts.{three_parts}
use Rattle.sipd_page_sections.proofs.picture.put_line.Goals as goal

pub returns : goal.returns
returns c =
    on_ok_weaker c.extend-2.result
    (λ h. three_parts c.args.out.now (codes "<path class=\"live\" d=\"M40 180") (points 0 (length c.args.live.now) c.args.most c.args.live.now) (codes "H940\"/>\n")
    c.extend.new.self c.put_points.new.out c.extend-2.new.self
    c.in_ok-extend.ensures.ok c.in_ok-put_points.ensures h) c.extend-2.ensures.ok
