use Rattle.std.proofs.Common.{refl, sym}
use Rattle.std.proofs.lemmas.Option.{slice_get_past, slice_get_read}
use Rattle.sip_digest.proofs.Counting.{uncounted}
use Rattle.sip_digest.proofs.Rows.{counted_with, found_row, kept_with}
use Rattle.sip_digest.proofs.nonces.Nonces.accept.Goals as goal

pub returns-in-Some-get_mut : goal.returns-in-Some-get_mut
returns-in-Some-get_mut c =
    counted_with c.self.inside.rows.items c.args.self.now c.args.word c.args.now c.args.count c.in-Some.place c.in-Some-get_mut.row.now c.self.view_is
    (sym c.in-Some.ensures) (slice_get_read c.self.inside.rows.items _ _ _ refl c.in-Some-get_mut.ensures.item.3.0 c.in-Some-get_mut.ensures.value)

pub returns-in_default-get_mut : goal.returns-in_default-get_mut
returns-in_default-get_mut c =
    absurd (found_row c.self.inside.rows.items c.args.self.now c.args.word c.args.now c.in-Some.place c.self.view_is (sym c.in-Some.ensures)
    (slice_get_past c.self.inside.rows.items _ c.in_default-get_mut.ensures.item.3))

pub returns-in_default : goal.returns-in_default
returns-in_default c = uncounted c.args.word c.args.now c.args.count c.args.self.now (sym c.in_default.ensures)

pub invariant_of-self : goal.invariant_of-self
invariant_of-self c = (
  c.self.invariant.0,
  kept_with c.self.inside.rows.items c.self.inside.turn c.self.inside.marks.items c.in-Some.place c.args.count c.in-Some-get_mut.row.now
      (slice_get_read c.self.inside.rows.items _ _ _ refl c.in-Some-get_mut.ensures.item.3.0 c.in-Some-get_mut.ensures.value) c.self.invariant.1,
)
