use Rattle.std.proofs.Common.{◌<◌, ◌∙◌, refl, sym, ap, arith, length}
use Rattle.sip_dialog.specs.Naming.{digest_of}
use Rattle.sip_dialog.specs.Rows.{Entries}
use Rattle.sip_dialog.proofs.Alone.{searched, digest_nowhere, digest_within, digest_there, digest_of_another}
use Rattle.sip_dialog.proofs.Tables.{read_at}
use Rattle.sip_dialog.proofs.rows.DialogRows.find.Goals as goal

pub returns-then-is_shared : goal.returns-then-is_shared
returns-then-is_shared c = rw (← c.self.view_is, c.search.ensures, c.as_slice.ensures.value)
    (searched c.args.id.now c.self.inside.rows.items (c.self.invariant.0.alone c.args.id.now))

pub returns-in_err-at : goal.returns-in_err-at
returns-in_err-at c =
    rw (← c.self.view_is, c.from_residual.ensures)
    (digest_nowhere c.self.inside.keyed c.args.id.now c.self.inside.rows.items c.self.inside.digests.list c.args.digest c.self.invariant.0
    (c.requires ∙ ap (λ (v : Entries). digest_of v.secret c.args.id.now) (sym c.self.view_is)) c.in_err-at.ensures)

pub index-requires : goal.index-requires
index-requires c =
    let lt : c.in_ok-at.at < length c.self.inside.rows.items =
    digest_within c.self.inside.keyed c.args.id.now c.self.inside.rows.items c.self.inside.digests.list c.args.digest c.self.invariant.0
    (c.requires ∙ ap (λ (v : Entries). digest_of v.secret c.args.id.now) (sym c.self.view_is)) c.in_ok-at.at c.in_ok-at.ensures in
    omega (arith, lt, c.self.inside.rows.ok.0)

pub returns-then-is_same_dialog : goal.returns-then-is_same_dialog
returns-then-is_same_dialog c =
    let lt : c.in_ok-at.at < length c.self.inside.rows.items =
    digest_within c.self.inside.keyed c.args.id.now c.self.inside.rows.items c.self.inside.digests.list c.args.digest c.self.invariant.0
    (c.requires ∙ ap (λ (v : Entries). digest_of v.secret c.args.id.now) (sym c.self.view_is)) c.in_ok-at.at c.in_ok-at.ensures in
    rw (← c.self.view_is)
    (digest_there c.self.inside.keyed c.args.id.now c.self.inside.rows.items c.self.inside.digests.list c.args.digest c.self.invariant.0
    (c.requires ∙ ap (λ (v : Entries). digest_of v.secret c.args.id.now) (sym c.self.view_is)) c.in_ok-at.at c.in_ok-at.ensures c.index.result.now
    (read_at c.self.inside.rows.items _ c.in_ok-at.at c.index.result.now refl lt c.index.ensures) (sym c.is_same_dialog.ensures ∙ c.if-is_same_dialog.true))

pub returns-else-is_same_dialog : goal.returns-else-is_same_dialog
returns-else-is_same_dialog c =
    let lt : c.in_ok-at.at < length c.self.inside.rows.items =
    digest_within c.self.inside.keyed c.args.id.now c.self.inside.rows.items c.self.inside.digests.list c.args.digest c.self.invariant.0
    (c.requires ∙ ap (λ (v : Entries). digest_of v.secret c.args.id.now) (sym c.self.view_is)) c.in_ok-at.at c.in_ok-at.ensures in
    rw (← c.self.view_is)
    (digest_of_another c.self.inside.keyed c.args.id.now c.self.inside.rows.items c.self.inside.digests.list c.args.digest c.self.invariant.0
    (c.requires ∙ ap (λ (v : Entries). digest_of v.secret c.args.id.now) (sym c.self.view_is)) c.in_ok-at.at c.in_ok-at.ensures c.index.result.now
    (read_at c.self.inside.rows.items _ c.in_ok-at.at c.index.result.now refl lt c.index.ensures) (sym c.is_same_dialog.ensures ∙ c.if-is_same_dialog.false))
