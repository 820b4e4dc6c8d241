use Rattle.std.proofs.Common.{◌++◌, ◌%◌, [], ◌∷◌, List, ℕ}
use Rattle.sipd_ladder.specs.Drawing.{three_digits}
use Rattle.sipd_ladder.specs.Table.{zone_text}
use Rattle.sipd_report.specs.Times.{dated_text, shown_seconds}
use Rattle.sipd_ladder.proofs.Adding.{more, more_ok}
use Rattle.sipd_ladder.proofs.table.push_moment.Goals as goal

pub returns : goal.returns
returns c =
    let out : List ℕ = c.args.out.now in
    let clock : List ℕ = dated_text 32 (shown_seconds c.args.first.now.at c.args.first.now.place.offset) in
    let milliseconds : List ℕ = three_digits (c.args.first.now.at % 1000) in
    more_ok c.push_zone.result out c.push_three_digits.new.out c.push_zone.new.out (clock ++ (46 ∷ []) ++ milliseconds) (zone_text c.args.first.now.place.offset)
    (more out c.push.new.self c.push_three_digits.new.out (clock ++ 46 ∷ []) milliseconds
    (more out c.push_clock.new.out c.push.new.self clock (46 ∷ []) c.in_ok-push_clock.ensures c.in_ok-push.ensures.ok) c.in_ok-push_three_digits.ensures)
    c.push_zone.ensures
