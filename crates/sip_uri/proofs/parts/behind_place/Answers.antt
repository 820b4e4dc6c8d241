use Rattle.std.specs.Prelude.{option_map}
use Rattle.sip_uri.proofs.Rests.{at_last, headers_next, parameters_next}
use Rattle.sip_uri.proofs.parts.behind_place.Goals as goal

pub returns-in_default : goal.returns-in_default
returns-in_default c = λ front plain. at_last front c.args.rest.now c.in_default.ensures.cases plain

pub returns-then-mark-eq63 : goal.returns-then-mark-eq63
returns-then-mark-eq63 c = λ front plain. headers_next front c.args.rest.now c.in-Some.behind.now c.in-Some.mark.now c.in-Some.ensures.cases.0 c.if-mark-eq63.true plain

pub returns-then-mark-eq59 : goal.returns-then-mark-eq59
returns-then-mark-eq59 c =
    λ front plain. parameters_next front c.args.rest.now c.in-Some.behind.now c.part_before.result.0.now (option_map (λ y. y.now) c.part_before.result.1)
    c.in-Some.mark.now c.in-Some.ensures.cases.0 c.if-mark-eq59.true c.part_before.ensures.front
    c.part_before.ensures.behind plain
