use Rattle.std.proofs.Common.{sym, ◌∙◌}
use Rattle.sip_message.specs.declared.line.WholeLine.TheVariants.{Part}
use Rattle.sip_message.proofs.Rows.{shorter}
use Rattle.sip_message.proofs.Wholes.{begun, fold_more, no_more_folds, never_ends}
use Rattle.sip_message.proofs.lines.whole_line.Goals as goal

pub loop-alloc-init : goal.loop-alloc-init
loop-alloc-init c = begun (Part c.args.line) c.args.after

pub returns-in_default : goal.returns-in_default
returns-in_default c = never_ends c.args.line c.args.after c.loop-alloc.rest.bytes c.loop-alloc.whole c.loop-alloc.invariant c.in_default.ensures.line

pub loop-alloc-smaller : goal.loop-alloc-smaller
loop-alloc-smaller c = shorter c.loop-alloc.rest.bytes.now c.in-Some.fold.now c.in-Some.next.now c.in-Some.ensures.line

pub loop-alloc-preserved : goal.loop-alloc-preserved
loop-alloc-preserved c =
    fold_more (Part c.args.line) c.args.after c.loop-alloc.rest.bytes c.in-Some.fold c.in-Some.next c.loop-alloc.whole c.in_ok-whole.whole c.loop-alloc.invariant
    (sym c.is_fold_line.ensures ∙ c.loop-alloc-test.true) c.in-Some.ensures.line c.in-Some.ensures.cut.1
    c.in_ok-whole.ensures.bytes c.in_ok-whole.ensures.fold

pub returns : goal.returns
returns c = no_more_folds c.args.line c.args.after c.loop-alloc.rest.bytes c.loop-alloc.whole c.loop-alloc.invariant
    (sym c.is_fold_line.ensures ∙ c.loop-alloc-test.false)
