use Rattle.std.proofs.Common.{◌++◌, ◌∙◌, List, ℕ, ap, codes, take}
use Rattle.sipd_ladder_picture.specs.Parts.{text_at}
use Rattle.sipd_ladder_picture.specs.Picture.{stroke}
use Rattle.sipd_ladder_picture.proofs.Adding.{more, more_ok}
use Rattle.sipd_ladder_picture.proofs.drawing.put_line.Goals as goal

pub returns : goal.returns
returns c =
    let out : List ℕ = c.args.out.now in
    let high : List ℕ = codes "\" y=\"50\" class=\"name\">" in
    let low : List ℕ = codes "\" y=\"66\" class=\"place\">" in
    let name : List ℕ = text_at c.args.at high (take 28 c.args.name.now) in
    let place : List ℕ = text_at c.args.at low c.args.addr.now in
    more_ok c.put_stroke.result out c.put_text-2.new.out c.put_stroke.new.out (name ++ place) (stroke c.args.at c.args.rows)
    (more out c.put_text.new.out c.put_text-2.new.out name place
    (c.in_ok-put_text.ensures ∙ ap (λ (l : List ℕ). out ++ text_at c.args.at high l) c.cut.ensures) c.in_ok-put_text-2.ensures)
    c.put_stroke.ensures
