use Rattle.sip_verdict.specs.declared.verdict.PolicyOutcome.TheVariants.{Challenge, Deny, Send, Register}
use Rattle.sip_uas.proofs.Serving.{serves, opens, serves_challenge, serves_denial, serves_nobody, serves_registering, opens_at_once, opens_registering}
use Rattle.sip_uas.proofs.judging.judged.Goals as goal

pub returns-in-Challenge-clause-does : goal.returns-in-Challenge-clause-does
returns-in-Challenge-clause-does c =
    serves c.challenged.result c.args.server.now c.args.request.arrival c.args.request.request.message c.args.request.key c.args.judged.now c.args.is_full Challenge
    c.in-Challenge.is
    (serves_challenge c.args.server.now c.args.request.arrival c.args.request.request.message c.args.request.key c.args.judged.now.question c.args.judged.now.minute
    c.args.is_full c.challenged.result
    c.challenged.ensures.does)

pub returns-in-Challenge-clause-opens : goal.returns-in-Challenge-clause-opens
returns-in-Challenge-clause-opens c =
    opens c.challenged.result c.args.server.now c.args.request.arrival c.args.request.request.message c.args.request.key c.args.judged.now c.args.is_full Challenge
    c.in-Challenge.is
    (opens_at_once c.args.server.now c.args.request.arrival c.args.request.request.message c.args.request.key c.args.judged.now.question c.args.judged.now.minute
    c.args.is_full c.challenged.result
    Challenge c.challenged.ensures.opens)

pub returns-in-Deny-clause-does : goal.returns-in-Deny-clause-does
returns-in-Deny-clause-does c =
    serves c.denied.result c.args.server.now c.args.request.arrival c.args.request.request.message c.args.request.key c.args.judged.now c.args.is_full
    (Deny c.in-Deny.rule) c.in-Deny.is
    (serves_denial c.args.server.now c.args.request.arrival c.args.request.request.message c.args.request.key c.args.judged.now.question c.args.judged.now.minute
    c.args.is_full c.denied.result
    c.in-Deny.rule c.denied.ensures.does)

pub returns-in-Deny-clause-opens : goal.returns-in-Deny-clause-opens
returns-in-Deny-clause-opens c =
    opens c.denied.result c.args.server.now c.args.request.arrival c.args.request.request.message c.args.request.key c.args.judged.now c.args.is_full
    (Deny c.in-Deny.rule) c.in-Deny.is
    (opens_at_once c.args.server.now c.args.request.arrival c.args.request.request.message c.args.request.key c.args.judged.now.question c.args.judged.now.minute
    c.args.is_full c.denied.result
    (Deny c.in-Deny.rule) c.denied.ensures.opens)

pub returns-in-Send-clause-does : goal.returns-in-Send-clause-does
returns-in-Send-clause-does c =
    serves c.unsent.result c.args.server.now c.args.request.arrival c.args.request.request.message c.args.request.key c.args.judged.now c.args.is_full
    (Send c.in-Send.rule c.in-Send.targets)
    c.in-Send.is
    (serves_nobody c.args.server.now c.args.request.arrival c.args.request.request.message c.args.request.key c.args.judged.now.question c.args.judged.now.minute
    c.args.is_full c.unsent.result
    c.in-Send.rule c.in-Send.targets c.unsent.ensures.does)

pub returns-in-Send-clause-opens : goal.returns-in-Send-clause-opens
returns-in-Send-clause-opens c =
    opens c.unsent.result c.args.server.now c.args.request.arrival c.args.request.request.message c.args.request.key c.args.judged.now c.args.is_full
    (Send c.in-Send.rule c.in-Send.targets) c.in-Send.is
    (opens_at_once c.args.server.now c.args.request.arrival c.args.request.request.message c.args.request.key c.args.judged.now.question c.args.judged.now.minute
    c.args.is_full c.unsent.result
    (Send c.in-Send.rule c.in-Send.targets) c.unsent.ensures.opens)

pub returns-in-Register-clause-does : goal.returns-in-Register-clause-does
returns-in-Register-clause-does c =
    serves c.registering.result c.args.server.now c.args.request.arrival c.args.request.request.message c.args.request.key c.args.judged.now c.args.is_full
    (Register c.in-Register.rule c.in-Register.outcome) c.in-Register.is
    (serves_registering c.args.server.now c.args.request.arrival c.args.request.request.message c.args.request.key c.args.judged.now.question c.args.judged.now.minute
    c.args.is_full c.registering.result
    c.in-Register.rule c.in-Register.outcome c.registering.ensures.does)

pub returns-in-Register-clause-opens : goal.returns-in-Register-clause-opens
returns-in-Register-clause-opens c =
    opens c.registering.result c.args.server.now c.args.request.arrival c.args.request.request.message c.args.request.key c.args.judged.now c.args.is_full
    (Register c.in-Register.rule c.in-Register.outcome) c.in-Register.is
    (opens_registering c.args.server.now c.args.request.arrival c.args.request.request.message c.args.request.key c.args.judged.now.question c.args.judged.now.minute
    c.args.is_full c.registering.result
    c.in-Register.rule c.in-Register.outcome c.registering.ensures.opens)
