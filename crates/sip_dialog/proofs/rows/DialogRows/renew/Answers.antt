use Rattle.std.proofs.Common.{◌<◌, ◌∙◌, set, ap, refl, sym, subst, arith, length}
use Rattle.sip_dialog.specs.Dialogs.{told, renewed}
use Rattle.sip_dialog.specs.Rows.{Entries, dialogs_in}
use Rattle.sip_dialog.specs.Sameness.{SameDialogs}
use Rattle.sip_dialog.specs.declared.dialog.Dialog.{Dialog}
use Rattle.sip_dialog.proofs.Ending.{known_set}
use Rattle.sip_dialog.proofs.Named.{named_set}
use Rattle.sip_dialog.proofs.Places.{front_set}
use Rattle.sip_dialog.proofs.Tables.{edit_met, edit_missed, read_at}
use Rattle.sip_dialog.proofs.rows.DialogRows.renew.Goals as goal

pub invariant_of-self : goal.invariant_of-self
invariant_of-self c =
    let inside : c.in-Some.at < length c.self.inside.rows.items = omega (arith, c.in-Some.ensures.within, ap (λ (v : Entries). length v.entries) c.self.view_is) in
    let there = read_at c.self.inside.rows.items _ c.in-Some.at c.index_mut.result.now refl inside c.index_mut.ensures.value in (
      named_set c.self.inside.keyed c.self.inside.digests.list c.self.inside.rows.items c.self.invariant.0 c.in-Some.at c.index_mut.result.now
          (c.index_mut.result.now.0, c.renew.new.self) there refl,
      front_set c.self.inside.early c.self.inside.rows.items c.in-Some.at c.index_mut.result.now (c.index_mut.result.now.0, c.renew.new.self) c.self.invariant.1 there
          (λ e. ap (λ (d : Dialog). d.has_success) (c.renew.ensures c.args.id.now) ∙ e),
      known_set c.self.inside.until c.self.inside.rows.items c.self.invariant.2 c.in-Some.at c.index_mut.result.now (c.index_mut.result.now.0, c.renew.new.self)
          c.earlier_end-until.result there c.earlier_end-until.ensures.until
          (omega (arith, c.earlier_end-until.ensures.since, ap (λ (d : Dialog). d.since) (c.renew.ensures c.args.id.now))),
    )

pub returns-in-Some-clause-renewed : goal.returns-in-Some-clause-renewed
returns-in-Some-clause-renewed c =
    let there = read_at c.self.inside.rows.items c.meet.new.self.entries c.in-Some.at c.index_mut.result.now (ap (λ (v : Entries). v.entries) c.self.view_is)
    c.in-Some.ensures.within c.index_mut.ensures.value in
    subst (λ (v : Entries). SameDialogs c.args.now (dialogs_in (set v.entries c.in-Some.at (c.index_mut.result.now.0, c.renew.new.self)))
    (renewed c.args.now c.args.id.now c.args.addresses.now (dialogs_in c.args.self.now.entries))) (sym c.self.view_is)
    (edit_met c.args.now c.args.id.now (λ d. record (told c.args.addresses.now d) { since = c.args.now }) c.args.self.now.entries c.meet.new.self.entries c.in-Some.at
    c.index_mut.result.now c.renew.new.self
    c.in-Some.ensures.same c.in-Some.ensures.met there c.renew.ensures)

pub returns-in_default-clause-renewed : goal.returns-in_default-clause-renewed
returns-in_default-clause-renewed c = edit_missed c.args.now c.args.id.now (λ d. record (told c.args.addresses.now d) { since = c.args.now }) c.args.self.now.entries
    c.meet.new.self.entries c.in_default.ensures.same c.in_default.ensures.known
