use Rattle.std.proofs.Common.{◌∙◌, ap, sym, arith, length}
use Rattle.sip_dialog.specs.Rows.{Entries}
use Rattle.sip_dialog.proofs.Alone.{within}
use Rattle.sip_dialog.proofs.Tables.{knows_at, knows_none, forgotten_same, forgotten_there, recent_there, read_there}
use Rattle.sip_dialog.proofs.rows.DialogRows.meet.Goals as goal

pub returns-in-None-clause-known : goal.returns-in-None-clause-known
returns-in-None-clause-known c = knows_none _ _ _ c.in-None.ensures

pub index-requires : goal.index-requires
index-requires c = omega (arith, within c.in-Some.ensures, c.self.inside.rows.ok.0, ap (λ (v : Entries). length v.entries) c.self.view_is)

pub returns-then-is_recent-clause-known : goal.returns-then-is_recent-clause-known
returns-then-is_recent-clause-known c =
    let there = read_there c.self.inside.rows.items c.index.result.now c.in-Some.ensures (ap (λ (v : Entries). v.entries) c.self.view_is) c.index.ensures in
    sym c.if-is_recent.true ∙ c.is_recent.ensures ∙ knows_at _ _ _ c.in-Some.at c.index.result.now c.in-Some.ensures there

pub returns-then-is_recent-clause-met : goal.returns-then-is_recent-clause-met
returns-then-is_recent-clause-met c =
    let there = read_there c.self.inside.rows.items c.index.result.now c.in-Some.ensures (ap (λ (v : Entries). v.entries) c.self.view_is) c.index.ensures in
    recent_there _ _ _ c.in-Some.at c.index.result.now c.in-Some.ensures there (sym c.is_recent.ensures ∙ c.if-is_recent.true)

pub returns-then-is_recent-clause-within : goal.returns-then-is_recent-clause-within
returns-then-is_recent-clause-within c = within c.in-Some.ensures

pub take_out-requires : goal.take_out-requires
take_out-requires c = within c.in-Some.ensures

pub returns-clause-known : goal.returns-clause-known
returns-clause-known c =
    let there = read_there c.self.inside.rows.items c.index.result.now c.in-Some.ensures (ap (λ (v : Entries). v.entries) c.self.view_is) c.index.ensures in
    sym c.if-is_recent.false ∙ c.is_recent.ensures ∙ knows_at _ _ _ c.in-Some.at c.index.result.now c.in-Some.ensures there

pub returns-clause-same : goal.returns-clause-same
returns-clause-same c =
    let there = read_there c.self.inside.rows.items c.index.result.now c.in-Some.ensures (ap (λ (v : Entries). v.entries) c.self.view_is) c.index.ensures in
    forgotten_same _ _ _ _ c.in-Some.at c.index.result.now c.in-Some.ensures there (sym c.is_recent.ensures ∙ c.if-is_recent.false) c.take_out.ensures.taken

pub returns-clause-unmet : goal.returns-clause-unmet
returns-clause-unmet c = forgotten_there _ _ _ c.in-Some.at c.in-Some.ensures c.take_out.ensures.taken
