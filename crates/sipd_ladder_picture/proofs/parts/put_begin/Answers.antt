use Rattle.std.proofs.Common.{◌++◌, ◌∙◌, List, ℕ, ap, codes, decimal}
use Rattle.sipd_ladder_picture.specs.Parts.{row_at}
use Rattle.sipd_ladder_picture.proofs.Adding.{more, more_ok}
use Rattle.sipd_ladder_picture.proofs.parts.put_begin.Goals as goal

pub returns : goal.returns
returns c =
    let out : List ℕ = c.args.out.now in
    let kind : List ℕ = codes "<g class=\"" ++ c.args.kind.now in
    let words : List ℕ = codes "\" transform=\"translate(0 " in
    let at : List ℕ = decimal (row_at c.args.row) in
    more_ok c.extend-4.result out c.put_number.new.out c.extend-4.new.self (kind ++ words ++ at) (codes ")\">")
    (more out c.extend-3.new.self c.put_number.new.out (kind ++ words) at
    (more out c.extend-2.new.self c.extend-3.new.self kind words
    (more out c.extend.new.self c.extend-2.new.self (codes "<g class=\"") c.args.kind.now c.in_ok-extend.ensures.ok c.in_ok-extend-2.ensures.ok)
    c.in_ok-extend-3.ensures.ok)
    (c.in_ok-put_number.ensures ∙ ap (λ (n : ℕ). c.extend-3.new.self ++ decimal n) c.row_at.ensures))
    c.extend-4.ensures.ok
