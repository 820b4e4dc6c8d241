use Rattle.std.proofs.Common.{◌≡◌, ◌-◌, ◌<◌, ◌∙◌, ap, sym, subst, arith, length}
use Rattle.sip_dialog.specs.Rows.{Entries}
use Rattle.sip_dialog.proofs.Leaving.{lapses, Leaves, row_stays, row_left, expired}
use Rattle.sip_dialog.proofs.Tables.{read_at}
use Rattle.sip_dialog.proofs.rows.DialogRows.expire.Goals as goal

pub loop-at-preserved-then-is_unconfirmed : goal.loop-at-preserved-then-is_unconfirmed
loop-at-preserved-then-is_unconfirmed c =
    let lt : c.loop-at.at - 1 < length c.loop-at.self.entries = omega (arith, c.loop-at-test.true, c.loop-at.invariant.within) in
    let there = read_at c.self-in-loop-at.inside.rows.items c.loop-at.self.entries (c.loop-at.at - 1) c.index.result.now
    (ap (λ (v : Entries). v.entries) c.self-in-loop-at.view_is) lt c.index.ensures in
    row_left (lapses c.args.number) c.loop-at.at c.args.self.now c.loop-at.self c.index.result.now c.loop-at-test.true c.loop-at.invariant there c.take_out.new.self
    (sym (c.is_unconfirmed.ensures c.index.result.now.0) ∙ c.if-is_unconfirmed.true) c.take_out.ensures.taken c.take_out.ensures.behind c.take_out.ensures.len
    c.take_out.ensures.room c.take_out.ensures.secret

pub loop-at-preserved : goal.loop-at-preserved
loop-at-preserved c =
    let lt : c.loop-at.at - 1 < length c.loop-at.self.entries = omega (arith, c.loop-at-test.true, c.loop-at.invariant.within) in
    let there = read_at c.self-in-loop-at.inside.rows.items c.loop-at.self.entries (c.loop-at.at - 1) c.index.result.now
    (ap (λ (v : Entries). v.entries) c.self-in-loop-at.view_is) lt c.index.ensures in
    row_stays (lapses c.args.number) c.loop-at.at c.args.self.now c.loop-at.self c.index.result.now c.loop-at-test.true c.loop-at.invariant there
    (sym (c.is_unconfirmed.ensures c.index.result.now.0) ∙ c.if-is_unconfirmed.false)

pub returns-clause-left : goal.returns-clause-left
returns-clause-left c =
    let done : c.loop-at.at ≡ 0 = omega (arith, c.loop-at-test.false) in
    expired c.args.now c.args.number c.args.self.now c.loop-at.self (subst (λ n. Leaves (lapses c.args.number) n c.args.self.now c.loop-at.self) done c.loop-at.invariant)
