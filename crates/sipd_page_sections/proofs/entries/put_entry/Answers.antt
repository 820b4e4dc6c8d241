use Rattle.std.proofs.Common.{length, sym, ◌∙◌}
use Rattle.std.proofs.lemmas.Bool.{ltb-false, ltb-true}
use Rattle.std.proofs.lemmas.Result.{on_ok_weaker}
use Rattle.sipd_page_sections.proofs.Places.{put_behind, put_over}
use Rattle.sipd_page_sections.proofs.entries.put_entry.Goals as goal

pub put_over-requires : goal.put_over-requires
put_over-requires c = ltb-true c.place_in-place.result (length c.args.rows.now) (sym c.is_within-within.ensures ∙ c.if-within.true)

pub returns-then-within : goal.returns-then-within
returns-then-within c =
    put_over c.args.row c.args.rows.now c.put_over.new.rows c.place_in-place.result c.place_in-place.ensures
    (ltb-true c.place_in-place.result (length c.args.rows.now) (sym c.is_within-within.ensures ∙ c.if-within.true)) c.put_over.ensures

pub returns : goal.returns
returns c =
    on_ok_weaker c.push.result
    (λ h. put_behind c.args.row c.args.rows.now c.push.new.self c.place_in-place.result c.place_in-place.ensures
    (ltb-false c.place_in-place.result (length c.args.rows.now) (sym c.is_within-within.ensures ∙ c.if-within.false)) h) c.push.ensures.ok
