use Rattle.std.proofs.Common.{◌∙◌, ap, subst, length, take, List, ℕ, ◌≡◌}
use Rattle.std.specs.Prelude.{◌&&◌, not}
use Rattle.sip_record_omitted.specs.Fronts.{IsPart}
use Rattle.sip_record_omitted.specs.Holding.{Holding}
use Rattle.sip_record_omitted.proofs.Ahead.{read_on}
use Rattle.sip_record_omitted.proofs.held.Held.give_read.Goals as goal

pub returns-clause-given : goal.returns-clause-given
returns-clause-given c =
    λ rest. let part = c.part_of_line-part.result in
    read_on _ _ part.ends c.goes_on-inside.result _ part.count c.put_front.new.room rest c.requires.0 c.requires.1
    (subst (λ (bytes : List ℕ). IsPart bytes (length c.args.room.now) part) c.unread-unread.ensures c.part_of_line-part.ensures)
    (c.goes_on-inside.ensures ∙ ap (λ (h : Holding). h.inside && not part.ends) c.self.view_is) c.pass_read.ensures
    (subst (λ (bytes : List ℕ). take (length (take part.count bytes)) c.put_front.new.room ≡ take part.count bytes) c.unread-unread.ensures c.put_front.ensures.put)
