use Rattle.std.proofs.Common.{◌++◌, ◌∙◌, List, ℕ, ap, codes}
use Rattle.sipd_ladder.specs.Table.{label}
use Rattle.sipd_ladder_picture.specs.Kinds.{kind_of}
use Rattle.sipd_ladder_picture.specs.Parts.{arrow_text, begin, time_text}
use Rattle.sipd_ladder_picture.proofs.Adding.{more, more_ok}
use Rattle.sipd_ladder_picture.proofs.rows.put_message.Goals as goal

pub returns : goal.returns
returns c =
    let out : List ℕ = c.args.out.now in
    let begun : List ℕ = begin (kind_of c.args.word.now) c.args.row in
    let time : List ℕ = time_text c.args.since in
    let arrow : List ℕ = arrow_text c.args.arrow (label c.args.again c.args.word.now) in
    more_ok c.extend.result out c.put_arrow.new.out c.extend.new.self (begun ++ time ++ arrow) (codes "</g>\n")
    (more out c.put_time.new.out c.put_arrow.new.out (begun ++ time) arrow
    (more out c.put_begin.new.out c.put_time.new.out begun time
    (c.in_ok-put_begin.ensures ∙ ap (λ (kind : List ℕ). out ++ begin kind c.args.row) c.kind_of.ensures) c.in_ok-put_time.ensures)
    (c.in_ok-put_arrow.ensures ∙ ap (λ (l : List ℕ). c.put_time.new.out ++ arrow_text c.args.arrow l) (c.as_slice.ensures ∙ c.in_ok-text.ensures)))
    c.extend.ensures.ok
