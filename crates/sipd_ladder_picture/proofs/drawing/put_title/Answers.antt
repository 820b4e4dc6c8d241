use Rattle.std.proofs.Common.{◌++◌, ◌∙◌, [], ◌∷◌, List, ℕ, ap, codes}
use Rattle.sipd_ladder_picture.specs.Parts.{text_at}
use Rattle.sipd_ladder_picture.specs.Picture.{title_of}
use Rattle.sipd_ladder_picture.proofs.Adding.{more_ok}
use Rattle.sipd_ladder_picture.proofs.drawing.put_title.Goals as goal

pub returns : goal.returns
returns c =
    let out : List ℕ = c.args.out.now in
    let words : List ℕ = codes "\" y=\"20\" class=\"title\">" in
    more_ok c.push.result out c.put_text.new.out c.push.new.self (text_at 8 words (title_of c.args.call_id.now c.args.first.now)) (10 ∷ [])
    (c.in_ok-put_text.ensures ∙ ap (λ (l : List ℕ). out ++ text_at 8 words l) (c.as_slice.ensures ∙ c.in_ok-title.ensures))
    c.push.ensures.ok
