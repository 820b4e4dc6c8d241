use Rattle.std.proofs.Common.{ap, ◌∙◌, Some, None}
use Rattle.sip_uri.specs.Reading.{AreTexts}
use Rattle.sip_uri.proofs.Rests.{nothing_behind, headers_behind_it, parameters_behind_it}
use Rattle.sip_uri.proofs.parts.cut_texts.Goals as goal

at_end : (c : goal.In_default) → AreTexts c.args.text.now c.split_at.result.0.now None None
at_end c = nothing_behind c.place_length.result c.args.text.now c.split_at.result.0.now c.split_at.result.1.now c.place_length.ensures.value c.split_at.ensures.front
    c.split_at.ensures.back c.in_default.ensures.cases

pub returns-in_default-clause-place : goal.returns-in_default-clause-place
returns-in_default-clause-place c = (at_end c).0

pub returns-in_default-clause-parameters : goal.returns-in_default-clause-parameters
returns-in_default-clause-parameters c = (at_end c).1

pub returns-in_default-clause-headers : goal.returns-in_default-clause-headers
returns-in_default-clause-headers c = (at_end c).2

at_headers : (c : goal.Then-mark-eq63) → AreTexts c.args.text.now c.split_at.result.0.now None (Some c.in-Some.behind.now)
at_headers c =
    headers_behind_it c.place_length.result c.args.text.now c.split_at.result.0.now c.split_at.result.1.now c.in-Some.behind.now c.in-Some.mark.now
    c.place_length.ensures.value c.split_at.ensures.front c.split_at.ensures.back c.in-Some.ensures.cases.0
    c.if-mark-eq63.true

pub returns-then-mark-eq63-clause-place : goal.returns-then-mark-eq63-clause-place
returns-then-mark-eq63-clause-place c = (at_headers c).0

pub returns-then-mark-eq63-clause-parameters : goal.returns-then-mark-eq63-clause-parameters
returns-then-mark-eq63-clause-parameters c = (at_headers c).1

pub returns-then-mark-eq63-clause-headers : goal.returns-then-mark-eq63-clause-headers
returns-then-mark-eq63-clause-headers c = (at_headers c).2

pub returns-clause-place : goal.returns-clause-place
returns-clause-place c =
    (parameters_behind_it c.place_length.result c.args.text.now c.split_at.result.0.now c.split_at.result.1.now c.in-Some.behind.now c.in-Some.mark.now
    c.place_length.ensures.value c.split_at.ensures.front c.split_at.ensures.back
    c.in-Some.ensures.cases.0 c.if-mark-eq63.false).0

pub returns-clause-parameters : goal.returns-clause-parameters
returns-clause-parameters c =
    ap (λ w. Some w) c.part_before.ensures.front
    ∙ (parameters_behind_it c.place_length.result c.args.text.now c.split_at.result.0.now c.split_at.result.1.now c.in-Some.behind.now c.in-Some.mark.now
    c.place_length.ensures.value c.split_at.ensures.front c.split_at.ensures.back
    c.in-Some.ensures.cases.0 c.if-mark-eq63.false).1

pub returns-clause-headers : goal.returns-clause-headers
returns-clause-headers c =
    c.part_before.ensures.behind
    ∙ (parameters_behind_it c.place_length.result c.args.text.now c.split_at.result.0.now c.split_at.result.1.now c.in-Some.behind.now c.in-Some.mark.now
    c.place_length.ensures.value c.split_at.ensures.front c.split_at.ensures.back
    c.in-Some.ensures.cases.0 c.if-mark-eq63.false).2
