use Rattle.std.proofs.Common.{◌≡◌, true, refl, sym, ◌∙◌, rules, arith}
use Rattle.std.specs.Str.{bytes_eq}
use Rattle.std.specs.Cmp.Lexicographic.{bytes_decides}
use Rattle.std.proofs.lemmas.List.{drop_all}
use Rattle.sip_text.proofs.words.same_bytes.Goals as goal

pub returns-clause-equal : goal.returns-clause-equal
returns-clause-equal c =
    let left = c.args.left.now in
    let right = c.args.right.now in
    let same : bytes_eq left right ≡ true = sym c.loop-at.invariant ∙ rw (drop_all c.loop-at.at left (omega arith), drop_all c.loop-at.at right (omega arith)) refl in
    (λ _. (bytes_decides left right).0 same, λ _. search rules)
