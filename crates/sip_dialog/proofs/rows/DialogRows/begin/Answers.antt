use Rattle.std.proofs.Common.{◌≡◌, List, [], ◌∷◌, ◌++◌, ◌∙◌, ap, sym, subst, arith, length, swap, count_by}
use Rattle.sip_dialog.specs.declared.dialog.Dialog.{Dialog}
use Rattle.sip_dialog.specs.Dialogs.{begun}
use Rattle.sip_dialog.specs.Naming.{digest_of}
use Rattle.sip_dialog.specs.Rows.{Entries, dialogs_in, StandsNowhere}
use Rattle.sip_dialog.proofs.Alone.{Row}
use Rattle.sip_dialog.proofs.Ending.{known_more, known_swapped}
use Rattle.sip_dialog.proofs.Named.{named_begun, named_swapped}
use Rattle.sip_dialog.proofs.Places.{front_more, front_one_more}
use Rattle.sip_dialog.proofs.Tables.{row_added, added_len, swapped_same}
use Rattle.sip_dialog.proofs.rows.DialogRows.begin.Goals as goal

-- ---- one with a 2xx

pub invariant_of-self-else-not-is_success : goal.invariant_of-self-else-not-is_success
invariant_of-self-else-not-is_success c =
    let pushed = c.push_reserved.ensures.items ∙ ap (λ (l : List Row). l ++ c.begin.result ∷ []) c.reserve.ensures.items in
    let nowhere = subst (λ (v : Entries). StandsNowhere c.args.answer.id v.entries) (sym c.self.view_is) c.requires.new in (
      named_begun c.self.inside.keyed c.self.inside.digests.list c.self.inside.rows.items c.self.invariant.0 c.begin.result c.args.answer.id c.args.digest
          c.push.new.self.list c.push_reserved.new.self.items
          c.begin.ensures.id (c.requires.digest ∙ ap (λ (v : Entries). digest_of v.secret c.args.answer.id) (sym c.self.view_is)) c.in_ok-push.ensures.ok pushed nowhere,
      front_more c.self.inside.early c.self.inside.rows.items c.self.invariant.1 c.begin.result c.push_reserved.new.self.items pushed
          (ap (λ (d : Dialog). d.has_success) c.begin.ensures.begun ∙ c.if-not-is_success.false),
      known_more c.self.inside.until c.self.inside.rows.items c.self.invariant.2 c.begin.result c.earlier_end-until.result c.push_reserved.new.self.items pushed
          c.earlier_end-until.ensures.until (omega (arith, c.earlier_end-until.ensures.since, ap (λ (d : Dialog). d.since) c.begin.ensures.begun)),
    )

-- ---- one without

pub invariant_of-self-then-not-is_success : goal.invariant_of-self-then-not-is_success
invariant_of-self-then-not-is_success c =
    let pushed = c.push_reserved.ensures.items ∙ ap (λ (l : List Row). l ++ c.begin.result ∷ []) c.reserve.ensures.items in
    let last : c.len-last.result ≡ length c.self.inside.rows.items = omega (
      arith,
      c.len-last.ensures,
      c.reserve.new.self.ok.0,
      ap (λ (l : List Row). length l) c.reserve.ensures.items,
    ) in
    let long = added_len c.self.inside.rows.items c.push_reserved.new.self.items c.begin.result pushed in
    let nowhere = subst (λ (v : Entries). StandsNowhere c.args.answer.id v.entries) (sym c.self.view_is) c.requires.new in
    let named = named_begun c.self.inside.keyed c.self.inside.digests.list c.self.inside.rows.items c.self.invariant.0 c.begin.result c.args.answer.id c.args.digest
    c.push.new.self.list
    c.push_reserved.new.self.items c.begin.ensures.id (c.requires.digest ∙ ap (λ (v : Entries). digest_of v.secret c.args.answer.id) (sym c.self.view_is))
    c.in_ok-push.ensures.ok pushed nowhere in
    let known = known_more c.self.inside.until c.self.inside.rows.items c.self.invariant.2 c.begin.result c.earlier_end-until.result c.push_reserved.new.self.items pushed
    c.earlier_end-until.ensures.until (omega (arith, c.earlier_end-until.ensures.since, ap (λ (d : Dialog). d.since) c.begin.ensures.begun)) in (
      rw (c.swap.ensures.items, c.swap-then-not-is_success.ensures.list)
          (named_swapped c.self.inside.keyed c.push.new.self.list c.push_reserved.new.self.items named c.self.inside.early c.len-last.result
          (omega (arith, c.self.invariant.1.within, long)) (omega (arith, last, long))),
      front_one_more c.self.inside.early c.self.inside.rows.items c.self.invariant.1 c.begin.result c.push_reserved.new.self.items c.swap.new.self.items pushed
          (c.swap.ensures.items ∙ ap (swap c.push_reserved.new.self.items c.self.inside.early) last),
      rw c.swap.ensures.items
          (known_swapped c.earlier_end-until.result c.push_reserved.new.self.items known c.self.inside.early c.len-last.result
          (omega (arith, c.self.invariant.1.within, long)) (omega (arith, last, long))),
    )

pub returns-then-not-is_success-clause-ok : goal.returns-then-not-is_success-clause-ok
returns-then-not-is_success-clause-ok c = λ p.
    let pushed = c.push_reserved.ensures.items ∙ ap (λ (l : List Row). l ++ c.begin.result ∷ []) c.reserve.ensures.items in
    let last : c.len-last.result ≡ length c.self.inside.rows.items = omega (
      arith,
      c.len-last.ensures,
      c.reserve.new.self.ok.0,
      ap (λ (l : List Row). length l) c.reserve.ensures.items,
    ) in
    let long = added_len c.self.inside.rows.items c.push_reserved.new.self.items c.begin.result pushed in
    ap (λ (l : List Row). count_by p (dialogs_in l)) c.swap.ensures.items
    ∙ swapped_same c.push_reserved.new.self.items c.self.inside.early c.len-last.result (omega (arith, c.self.invariant.1.within, long)) (omega (arith, last, long)) p
    ∙ ap (λ (l : List Row). count_by p (dialogs_in l)) pushed
    ∙ ap (λ (ds : List Dialog). count_by p ds) (row_added c.self.inside.rows.items c.begin.result)
    ∙ ap (λ (d : Dialog). count_by p (dialogs_in c.self.inside.rows.items ++ d ∷ [])) c.begin.ensures.begun
    ∙ ap (λ (v : Entries). count_by p (dialogs_in v.entries ++ begun c.args.answer ∷ [])) c.self.view_is
