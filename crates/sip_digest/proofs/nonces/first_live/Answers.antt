use Rattle.std.proofs.Common.{◌<◌, ◌≤◌, ◌∙◌, sym, ap, length, arith}
use Rattle.std.proofs.lemmas.List.{drop_all}
use Rattle.sip_digest.specs.Nonces.{lasting}
use Rattle.sip_digest.specs.Rows.{nonces_in}
use Rattle.sip_digest.proofs.Lasting.{as_many, lasts_behind, lasts_here, none_lasts}
use Rattle.sip_digest.proofs.nonces.first_live.Goals as goal

pub returns-then-lives_at : goal.returns-then-lives_at
returns-then-lives_at c =
    let ns = nonces_in c.args.rows.now.items in
    let lt : c.loop-place.place < length ns = omega (arith, as_many c.args.rows.now.items, c.loop-place-test.true, c.len-place-end.ensures, c.args.rows.now.ok) in
    lasts_here c.args.now ns c.loop-place.place lt (sym c.lives_at.ensures ∙ c.if-lives_at.true) ∙ c.loop-place.invariant

pub loop-place-preserved : goal.loop-place-preserved
loop-place-preserved c =
    let ns = nonces_in c.args.rows.now.items in
    let lt : c.loop-place.place < length ns = omega (arith, as_many c.args.rows.now.items, c.loop-place-test.true, c.len-place-end.ensures, c.args.rows.now.ok) in
    lasts_behind c.args.now ns c.loop-place.place lt (sym c.lives_at.ensures ∙ c.if-lives_at.false) ∙ c.loop-place.invariant

pub returns : goal.returns
returns c =
    let ns = nonces_in c.args.rows.now.items in
    let past : length ns ≤ c.loop-place.place = omega (arith, as_many c.args.rows.now.items, c.loop-place-test.false, c.len-place-end.ensures, c.args.rows.now.ok) in
    let all : length ns ≤ c.len.result = omega (arith, as_many c.args.rows.now.items, c.len.ensures, c.args.rows.now.ok) in
    none_lasts c.args.now ns c.len.result all ∙ ap (lasting c.args.now) (drop_all c.len.result ns all ∙ sym (drop_all c.loop-place.place ns past))
    ∙ c.loop-place.invariant
