use Rattle.std.proofs.Common.{◌≡◌, ◌<◌, ◌∙◌, Bool, true, false, ◌||◌, ap, sym, subst, set, arith, length, refl}
use Rattle.sip_dialog.specs.declared.dialog.Dialog.{Dialog}
use Rattle.sip_dialog.specs.Dialogs.{answered_again, learnt}
use Rattle.sip_dialog.specs.Rows.{Entries, dialogs_in}
use Rattle.sip_dialog.specs.Sameness.{SameDialogs}
use Rattle.sip_dialog.proofs.Ending.{known_kept}
use Rattle.sip_dialog.proofs.Named.{named_set}
use Rattle.sip_dialog.proofs.Places.{front_set}
use Rattle.sip_dialog.proofs.Sameness.{dialogs_joined}
use Rattle.sip_dialog.proofs.Tables.{same_counts, edit_met, met_again, full_is, learnt_from_begin, full_from_begin, read_at}
use Rattle.sip_dialog.proofs.rows.DialogRows.learn.Goals as goal

either_true : (a b : Bool) → a ≡ true → (a || b) ≡ true
either_true true b e = refl
either_true false b e = absurd (cc)

pub invariant_of-self : goal.invariant_of-self
invariant_of-self c =
    let inside : c.in-Some.at < length c.self.inside.rows.items = omega (arith, c.in-Some.ensures.within, ap (λ (v : Entries). length v.entries) c.self.view_is) in
    let there = read_at c.self.inside.rows.items _ c.in-Some.at c.index_mut.result.now refl inside c.index_mut.ensures.value in (
      named_set c.self.inside.keyed c.self.inside.digests.list c.self.inside.rows.items c.self.invariant.0 c.in-Some.at c.index_mut.result.now
          (c.index_mut.result.now.0, c.answer_again.new.self) there refl,
      front_set c.self.inside.early c.self.inside.rows.items c.in-Some.at c.index_mut.result.now (c.index_mut.result.now.0, c.answer_again.new.self) c.self.invariant.1
          there
          (λ e. ap (λ (d : Dialog). d.has_success) (c.answer_again.ensures c.args.answer.id)
          ∙ either_true c.index_mut.result.now.1.has_success c.args.answer.is_success e),
      known_kept c.self.inside.until c.self.inside.rows.items c.self.invariant.2 c.in-Some.at c.index_mut.result.now
          (c.index_mut.result.now.0, c.answer_again.new.self) there
          (ap (λ (d : Dialog). d.since) (c.answer_again.ensures c.args.answer.id)),
    )

pub returns-in-Some-clause-ok : goal.returns-in-Some-clause-ok
returns-in-Some-clause-ok c =
    let there = read_at c.self.inside.rows.items c.meet.new.self.entries c.in-Some.at c.index_mut.result.now (ap (λ (v : Entries). v.entries) c.self.view_is)
    c.in-Some.ensures.within c.index_mut.ensures.value in
    let met = met_again c.args.now c.args.answer _ _ c.in-Some.ensures.known
    (edit_met c.args.now c.args.answer.id (answered_again c.args.answer) c.args.self.now.entries c.meet.new.self.entries c.in-Some.at c.index_mut.result.now
    c.answer_again.new.self
    c.in-Some.ensures.same c.in-Some.ensures.met there c.answer_again.ensures) in
    dialogs_joined c.args.now _ _ _
    (same_counts c.args.now (dialogs_in c.settle.new.self.entries) (dialogs_in (set c.self.inside.rows.items c.in-Some.at
    (c.index_mut.result.now.0, c.answer_again.new.self))) c.settle.ensures.same)
    (subst (λ (v : Entries). SameDialogs c.args.now (dialogs_in (set v.entries c.in-Some.at (c.index_mut.result.now.0, c.answer_again.new.self)))
    (learnt c.args.now c.args.answer (dialogs_in c.args.self.now.entries))) (sym c.self.view_is) met)

pub returns-then-not-has_place-clause-full : goal.returns-then-not-has_place-clause-full
returns-then-not-has_place-clause-full c =
    let full = full_is c.args.now c.args.answer.id (dialogs_in c.args.self.now.entries) (dialogs_in c.meet.new.self.entries) _ c.in_default.ensures.same
    c.in_default.ensures.known c.if-not-has_place.ensures.place in
    (λ _. full, λ _. refl)

pub returns-clause-ok : goal.returns-clause-ok
returns-clause-ok c =
    learnt_from_begin c.args.now c.args.answer c.args.self.now.entries c.meet.new.self.entries c.has_place.new.self.entries c.begin.new.self.entries c.begin.result
    c.in_default.ensures.same c.if-not-has_place.ensures.same c.in_default.ensures.known c.if-not-has_place.ensures.place c.begin.ensures.ok

pub returns-clause-full : goal.returns-clause-full
returns-clause-full c =
    full_from_begin c.begin.result _
    (full_is c.args.now c.args.answer.id (dialogs_in c.args.self.now.entries) (dialogs_in c.meet.new.self.entries) _ c.in_default.ensures.same c.in_default.ensures.known
    c.if-not-has_place.ensures.place)
    c.begin.ensures.memory
