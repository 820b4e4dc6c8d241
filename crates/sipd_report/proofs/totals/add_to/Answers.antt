use Rattle.std.proofs.Common.{◌∙◌, ap, sym, map}
use Rattle.std.proofs.lemmas.Result.{on_ok_weaker}
use Rattle.sipd_report.specs.Totals.{shown_total, place_of}
use Rattle.sipd_report.proofs.Additions.{first_counted, found, not_found}
use Rattle.sipd_report.proofs.totals.add_to.Goals as goal

pub returns-in-Some-clause-first : goal.returns-in-Some-clause-first
returns-in-Some-clause-first c =
    rw c.count_at.ensures (first_counted (place_of c.args.places.now) c.args.list.now.items c.in-Some.place.now c.requires)

pub returns-in-Some-clause-added : goal.returns-in-Some-clause-added
returns-in-Some-clause-added c =
    rw c.count_at.ensures (found c.args.list.now.items c.args.text.now c.in-Some.place.now
    (sym (c.requires.first c.args.text.now) ∙ sym c.in-Some.ensures.value))

pub returns-in-None-clause-added : goal.returns-in-None-clause-added
returns-in-None-clause-added c =
    on_ok_weaker c.push_first.result (λ h. ap (map shown_total) h ∙ not_found c.args.list.now.items c.args.text.now
    (sym (c.requires.first c.args.text.now) ∙ sym c.in-None.ensures.value)) c.push_first.ensures.pushed
