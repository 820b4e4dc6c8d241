use Rattle.std.proofs.Common.{◌++◌, ◌∙◌, List, ℕ, ap, codes}
use Rattle.sipd_ladder_picture.specs.Kinds.{note_kind}
use Rattle.sipd_ladder_picture.specs.Parts.{begin, text_at}
use Rattle.sipd_ladder_picture.specs.Rows.{note, note_words}
use Rattle.sipd_ladder_picture.proofs.Adding.{more, more_ok}
use Rattle.sipd_ladder_picture.proofs.rows.put_note.Goals as goal

pub returns : goal.returns
returns c =
    let out : List ℕ = c.args.out.now in
    let begun : List ℕ = begin (note_kind c.args.text.now) c.args.row in
    let high : List ℕ = codes "\" y=\"0\">" in
    let text : List ℕ = text_at 360 high (note_words c.args.who.now c.args.text.now) in
    more_ok c.extend-2.result out c.put_text.new.out c.extend-2.new.self (begun ++ note ++ text) (codes "</g>\n")
    (more out c.extend.new.self c.put_text.new.out (begun ++ note) text
    (more out c.put_begin.new.out c.extend.new.self begun note
    (c.in_ok-put_begin.ensures ∙ ap (λ (kind : List ℕ). out ++ begin kind c.args.row) c.note_kind.ensures) c.in_ok-extend.ensures.ok)
    (c.in_ok-put_text.ensures ∙ ap (λ (l : List ℕ). c.extend.new.self ++ text_at 360 high l) (c.as_slice.ensures ∙ c.in_ok-words.ensures)))
    c.extend-2.ensures.ok
