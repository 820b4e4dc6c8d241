use Rattle.std.proofs.Common.{ℕ, Option, ◌++◌, ◌∙◌, ap}
use Rattle.std.proofs.lemmas.Result.{on_ok_weaker}
use Rattle.sip_days.specs.Results.{ring_of, talk_of}
use Rattle.sipd_calls.specs.Cells.{result_cell, ring_cell, rule_cell, talk_cell}
use Rattle.sipd_calls.proofs.Parts.{four_parts}
use Rattle.sipd_calls.proofs.cells.push_decided.Goals as goal

pub returns : goal.returns
returns c =
    let call = c.args.call.now in
    on_ok_weaker c.push_talked.result
    (λ h. four_parts c.args.out.now (rule_cell call) (result_cell call) (ring_cell (ring_of call)) (talk_cell (talk_of call)) c.push_ruled.new.out
    c.push_came.new.out c.push_rang.new.out c.push_talked.new.out c.in_ok-push_ruled.ensures c.in_ok-push_came.ensures
    (c.in_ok-push_rang.ensures ∙ ap (λ (ring : Option ℕ). c.push_came.new.out ++ ring_cell ring) c.ring.ensures)
    (h ∙ ap (λ (talk : Option ℕ). c.push_rang.new.out ++ talk_cell talk) c.talk.ensures)) c.push_talked.ensures
