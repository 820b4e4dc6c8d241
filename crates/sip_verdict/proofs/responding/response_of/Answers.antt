use Rattle.sip_verdict.proofs.DecidingKeys.{own_top, only_method, found_none, found_some, short_body, no_branch, no_cseq, responds}
use Rattle.sip_verdict.proofs.responding.response_of.Goals as goal

pub returns-then-short : goal.returns-then-short
returns-then-short c =
    λ reason start. short_body c.args.own_vias.now c.args.response.now c.args.short c.args.status reason start c.if-short.true

pub returns-in_default : goal.returns-in_default
returns-in_default c =
    λ reason start.
    no_branch c.args.own_vias.now c.args.response.now c.args.short c.args.status reason start c.if-short.false
    (found_none c.in_ok-branch.field-0 (own_top c.args.own_vias.now c.args.response.now.fields) c.in_default.is c.in_ok-branch.ensures)

pub returns-in_default-cseq_method : goal.returns-in_default-cseq_method
returns-in_default-cseq_method c =
    λ reason start.
    no_cseq c.args.own_vias.now c.args.response.now c.args.short c.args.status reason start c.if-short.false
    (found_none c.cseq_method.result (only_method c.args.response.now.fields) c.in_default-cseq_method.is c.cseq_method.ensures)

pub returns : goal.returns
returns c =
    λ reason start.
    responds c.args.own_vias.now c.args.response.now c.args.short c.args.status reason c.in-Some.branch.now c.in-Some-cseq_method.method.now c.has_more_vias.result start
    c.if-short.false
    (found_some c.in_ok-branch.field-0 c.in-Some.branch (own_top c.args.own_vias.now c.args.response.now.fields) c.in-Some.is c.in_ok-branch.ensures)
    (found_some c.cseq_method.result c.in-Some-cseq_method.method (only_method c.args.response.now.fields) c.in-Some-cseq_method.is c.cseq_method.ensures)
    c.has_more_vias.ensures
