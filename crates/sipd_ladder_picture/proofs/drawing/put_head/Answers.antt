use Rattle.std.proofs.Common.{◌++◌, ◌∙◌, List, ℕ, ap, codes, decimal}
use Rattle.sipd_ladder_picture.specs.Parts.{row_at}
use Rattle.sipd_ladder_picture.specs.Picture.{look, width_of}
use Rattle.sipd_ladder_picture.proofs.Adding.{more, more_ok}
use Rattle.sipd_ladder_picture.proofs.drawing.put_head.Goals as goal

pub returns : goal.returns
returns c =
    let out : List ℕ = c.args.out.now in
    let begun : List ℕ = codes "<svg xmlns=\"http://www.w3.org/2000/svg\" width=\"" in
    let width : List ℕ = decimal (width_of c.args.places) in
    let between : List ℕ = codes "\" height=\"" in
    let height : List ℕ = decimal (row_at c.args.rows) in
    more_ok c.put_look.result out c.put_number-2.new.out c.put_look.new.out (begun ++ width ++ between ++ height) look
    (more out c.extend-2.new.self c.put_number-2.new.out (begun ++ width ++ between) height
    (more out c.put_number.new.out c.extend-2.new.self (begun ++ width) between
    (more out c.extend.new.self c.put_number.new.out begun width c.in_ok-extend.ensures.ok
    (c.in_ok-put_number.ensures ∙ ap (λ (n : ℕ). c.extend.new.self ++ decimal n) c.width_of.ensures))
    c.in_ok-extend-2.ensures.ok)
    (c.in_ok-put_number-2.ensures ∙ ap (λ (n : ℕ). c.extend-2.new.self ++ decimal n) c.row_at.ensures))
    c.put_look.ensures
