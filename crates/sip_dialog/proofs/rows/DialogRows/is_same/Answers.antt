use Rattle.std.proofs.Common.{◌≤◌, ◌∙◌, List, ap, subst, sym}
use Rattle.std.specs.Prelude.{count_by}
use Rattle.std.specs.List.{AllByRecursion}
use Rattle.sip_dialog.specs.declared.dialog.DialogId.{DialogId}
use Rattle.sip_dialog.specs.Rows.{Entries, names}
use Rattle.sip_dialog.specs.Met.{IsMet}
use Rattle.sip_dialog.proofs.Alone.{Row}
use Rattle.sip_dialog.proofs.Seen.{seen_same}
use Rattle.sip_dialog.proofs.rows.DialogRows.is_same.Goals as goal

pub returns : goal.returns
returns c = λ is.
    seen_same c.args.now c.args.self.now.entries c.args.other.now.entries
    (subst (λ (v : Entries). (id : DialogId) → count_by (λ (r : Row). names id r.0) v.entries ≤ 1) c.self.view_is c.self.invariant.0.alone)
    (sym c.recent_count-count.ensures ∙ c.if-count-other_count.false ∙ c.recent_count-other_count.ensures)
    (subst (λ (rows : List Row). AllByRecursion (IsMet c.args.now c.args.other.now.entries) rows)
    (c.as_slice.ensures.value ∙ ap (λ (v : Entries). v.entries) c.self.view_is) (c.are_met.ensures is))
