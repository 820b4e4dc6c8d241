use Rattle.std.proofs.Common.{◌++◌, [], ◌∷◌, List, ℕ}
use Rattle.sipd_ladder.specs.Table.{call_text, moment_text}
use Rattle.sipd_ladder.proofs.Adding.{more, more_ok}
use Rattle.sipd_ladder.proofs.table.push_title.Goals as goal

pub returns : goal.returns
returns c =
    let out : List ℕ = c.args.out.now in
    let call : List ℕ = call_text c.args.call_id.now in
    let moment : List ℕ = moment_text c.args.first.now.place.offset c.args.first.now.at in
    more_ok c.extend.result out c.push_moment.new.out c.extend.new.self (call ++ moment) (10 ∷ 10 ∷ [])
    (more out c.push_call.new.out c.push_moment.new.out call moment c.in_ok-push_call.ensures c.in_ok-push_moment.ensures) c.extend.ensures.ok
