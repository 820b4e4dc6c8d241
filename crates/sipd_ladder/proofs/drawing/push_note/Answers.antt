use Rattle.std.proofs.Common.{◌++◌, ◌-◌, [], ◌∷◌, List, ℕ, ◌∙◌, ap, replicate}
use Rattle.sipd_ladder.specs.Drawing.{bar, left_note, right_note}
use Rattle.sipd_ladder.proofs.Adding.{more, more_ok}
use Rattle.sipd_ladder.proofs.drawing.push_note.Goals as goal

pub returns : goal.returns
returns c =
    let out : List ℕ = c.args.out.now in
    let margin : List ℕ = replicate 12 32 in
    let left : List ℕ = left_note c.args.who.now in
    let right : List ℕ = right_note (c.args.places - 1) c.args.text.now in
    more_ok c.push.result out c.push_right_note.new.out c.push.new.self (margin ++ bar ++ left ++ bar ++ right) (10 ∷ [])
    (more out c.extend-2.new.self c.push_right_note.new.out (margin ++ bar ++ left ++ bar) right
    (more out c.push_left_note.new.out c.extend-2.new.self (margin ++ bar ++ left) bar
    (more out c.extend.new.self c.push_left_note.new.out (margin ++ bar) left
    (more out c.push_spaces.new.out c.extend.new.self margin bar c.in_ok-push_spaces.ensures c.in_ok-extend.ensures.ok)
    c.in_ok-push_left_note.ensures)
    c.in_ok-extend-2.ensures.ok)
    (c.in_ok-push_right_note.ensures ∙ ap (λ (n : ℕ). c.extend-2.new.self ++ right_note n c.args.text.now) c.saturating_sub.ensures))
    c.push.ensures.ok
