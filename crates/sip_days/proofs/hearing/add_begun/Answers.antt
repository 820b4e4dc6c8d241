use Rattle.std.proofs.Common.{List, ◌++◌, ◌∙◌, ap}
use Rattle.std.specs.List.{flat_map}
use Rattle.std.proofs.lemmas.List.{take_all}
use Rattle.sip_audit.specs.declared.record.Record.{Record}
use Rattle.sip_days.specs.Begun.{begun_if}
use Rattle.sip_days.specs.declared.call.Call.{Call}
use Rattle.sip_days.proofs.Told.{added, all_begun}
use Rattle.sip_days.proofs.hearing.add_begun.Goals as goal

pub loop-decision-preserved : goal.loop-decision-preserved
loop-decision-preserved c = (
  added (begun_if c.args.config.now.offset c.args.event.now c.args.out.now) c.args.decisions.now c.loop-decision.decision-index c.decision-item.result
      c.args.calls.now c.loop-decision.calls c.add_if_begun.new.calls c.loop-decision-test.true c.decision-item.is c.loop-decision.invariant.0
      c.in_ok-add_if_begun.ensures.added,
  c.in_ok-add_if_begun.ensures.places,
)

pub returns-clause-added : goal.returns-clause-added
returns-clause-added c =
    c.loop-decision.invariant.0
    ∙ ap (λ (rs : List Record). c.args.calls.now ++ flat_map (begun_if c.args.config.now.offset c.args.event.now c.args.out.now) rs)
    (take_all c.loop-decision.decision-index c.args.decisions.now c.loop-decision-test.false)
    ∙ ap (λ (l : List Call). c.args.calls.now ++ l) (all_begun c.args.config.now.offset c.args.event.now c.args.out.now c.args.decisions.now)
