use Rattle.std.proofs.Common.{◌≡◌, ◌-◌, ◌<◌, ◌∙◌, ap, sym, subst, arith, length, not}
use Rattle.sip_dialog.specs.Rows.{Entries}
use Rattle.sip_dialog.proofs.Leaving.{is_old, Leaves, row_left, forgotten, nowhere_left}
use Rattle.sip_dialog.proofs.Tables.{read_at}
use Rattle.sip_dialog.proofs.rows.DialogRows.forget.Goals as goal

pub loop-place-preserved-then-not-is_recent : goal.loop-place-preserved-then-not-is_recent
loop-place-preserved-then-not-is_recent c =
    let lt : c.loop-place.place - 1 < length c.loop-place.self.entries = omega (arith, c.loop-place-test.true, c.loop-place.invariant.within) in
    let there = read_at c.self-in-loop-place.inside.rows.items c.loop-place.self.entries (c.loop-place.place - 1) c.index.result.now
    (ap (λ (v : Entries). v.entries) c.self-in-loop-place.view_is) lt c.index.ensures in
    row_left (is_old c.args.now) c.loop-place.place c.args.self.now c.loop-place.self c.index.result.now c.loop-place-test.true c.loop-place.invariant there
    c.take_out.new.self
    (ap not (sym c.is_recent.ensures ∙ c.if-not-is_recent.true)) c.take_out.ensures.taken c.take_out.ensures.behind c.take_out.ensures.len c.take_out.ensures.room
    c.take_out.ensures.secret

pub returns-clause-known : goal.returns-clause-known
returns-clause-known c =
    let done : c.loop-place.place ≡ 0 = omega (arith, c.loop-place-test.false) in
    forgotten c.args.now c.args.self.now c.loop-place.self (subst (λ n. Leaves (is_old c.args.now) n c.args.self.now c.loop-place.self) done c.loop-place.invariant)

pub returns-clause-absent : goal.returns-clause-absent
returns-clause-absent c =
    let done : c.loop-place.place ≡ 0 = omega (arith, c.loop-place-test.false) in
    nowhere_left c.args.now c.args.self.now c.loop-place.self (subst (λ n. Leaves (is_old c.args.now) n c.args.self.now c.loop-place.self) done c.loop-place.invariant)
